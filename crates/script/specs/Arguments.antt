-- The arguments of a step: the words after its name, taken one after another as what they must be.
use Rattle.std.specs.Prelude.{ℕ, List, [], ◌∷◌, Some, None, Ok, Err, vec_items, Option, Result, Vec}
use Rattle.std.specs.declared.alloc.Global.{Global}
use Rattle.script.specs.declared.misread.Misread.{Misread}
use Rattle.script.specs.declared.misread.Misread.TheVariants.{MissingWord, ExtraWord}
use Rattle.script.specs.Text.{first_of}

abbrev pub read_by : {X : Type 0} → (List ℕ → Result X Misread) → Option (List ℕ) → Result X Misread
read_by f (Some w) = f w
read_by f None = Err MissingWord

-- the first of the words, read so
abbrev pub argument : {X : Type 0} → (List ℕ → Result X Misread) → List (List ℕ) → Result X Misread
argument f ws = read_by f (first_of ws)

abbrev pub read_or : {X : Type 0} → (List ℕ → Result X Misread) → X → Option (List ℕ) → Result X Misread
read_or f x (Some w) = f w
read_or f x None = Ok x

-- the first of the words, read so, or this where there is none
abbrev pub optional : {X : Type 0} → (List ℕ → Result X Misread) → X → List (List ℕ) → Result X Misread
optional f x ws = read_or f x (first_of ws)

abbrev pub no_more : List (List ℕ) → Result (Unit {0}) Misread
no_more [] = Ok tt
no_more (w ∷ ws) = Err ExtraWord

-- one thing after another, until the first that is not understood
abbrev pub and_then : {X Y : Type 0} → Result X Misread → (X → Result Y Misread) → Result Y Misread
and_then (Ok x) f = f x
and_then (Err why) f = Err why

-- what is read, as the value of an option
abbrev pub some_of : {X : Type 0} → Result X Misread → Result (Option X) Misread
some_of (Ok x) = Ok (Some x)
some_of (Err why) = Err why

abbrev pub put_before : {X : Type 0} → Result X Misread → Result (List X) Misread → Result (List X) Misread
put_before (Ok b) (Ok bs) = Ok (b ∷ bs)
put_before (Ok b) (Err why) = Err why
put_before (Err why) bs = Err why

-- all the words, each read so
abbrev pub all_read : {X : Type 0} → (List ℕ → Result X Misread) → List (List ℕ) → Result (List X) Misread
all_read f [] = Ok []
all_read f (w ∷ ws) = put_before (f w) (all_read f ws)

-- a list as the code answers it
abbrev pub list_seen : {X : Type 0} → Result (Vec X Global) Misread → Result (List X) Misread
list_seen (Ok v) = Ok (vec_items v)
list_seen (Err why) = Err why
