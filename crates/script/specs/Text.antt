-- The lines of a script and the words of a line, as lists of bytes.
use Rattle.std.specs.Prelude.{ℕ, Bool, false, cond, not, ◌||◌, List, [], ◌∷◌, Some, None, Option, ◌==◌}
use Rattle.script.specs.declared.text.Words.{Words}
use Rattle.script.specs.declared.text.Lines.{Lines}

abbrev pub first_of : {X : Type 0} → List X → Option X
first_of [] = None
first_of (x ∷ xs) = Some x

abbrev pub rest_of : {X : Type 0} → List X → List X
rest_of [] = []
rest_of (x ∷ xs) = xs

-- a blank is a space, a tab or a carriage return
abbrev pub blank : ℕ → Bool
blank b = b == 32 || (b == 9 || b == 13)

abbrev pub solid : ℕ → Bool
solid b = not (blank b)

-- whether a word stands right in front
abbrev pub starts_solid : List ℕ → Bool
starts_solid [] = false
starts_solid (b ∷ bs) = solid b

-- one byte more at the front of the first of the pieces
abbrev pub onto_first : ℕ → List (List ℕ) → List (List ℕ)
onto_first b [] = (b ∷ []) ∷ []
onto_first b (w ∷ ws) = (b ∷ w) ∷ ws

-- the words between blanks
unfoldable pub words : List ℕ → List (List ℕ)
words [] = []
words (b ∷ bs) = cond (blank b) (words bs) (cond (starts_solid bs) (onto_first b (words bs)) ((b ∷ []) ∷ words bs))

-- a byte that ends no line
abbrev pub inner : ℕ → Bool
inner b = not (b == 10)

-- the lines before each end of a line, and what follows the last if anything does
unfoldable pub lines : List ℕ → List (List ℕ)
lines [] = []
lines (b ∷ bs) = cond (inner b) (onto_first b (lines bs)) ([] ∷ lines bs)

abbrev pub words_left : Words → List (List ℕ)
words_left w = words w.rest.now

abbrev pub lines_left : Lines → List (List ℕ)
lines_left l = lines l.rest.now
