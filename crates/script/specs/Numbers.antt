-- Numbers written in decimal digits.
use Rattle.std.specs.Prelude.{ℕ, ◌+◌, ◌-◌, ◌*◌, ◌%◌, min, Bool, cond, ◌&&◌, List, [], ◌∷◌, Ok, Err, Result, nat_le}
use Rattle.script.specs.declared.misread.Misread.{Misread}
use Rattle.script.specs.declared.misread.Misread.TheVariants.{NotANumber}

abbrev pub digit : ℕ → Bool
digit c = nat_le 48 c && nat_le c 57

-- the number that digits write after those that wrote n, or the limit if that is less
abbrev pub number_after : ℕ → ℕ → List ℕ → Result ℕ Misread
number_after limit n [] = Ok (min n limit)
number_after limit n (c ∷ cs) = cond (digit c) (number_after limit (n * 10 + (c - 48)) cs) (Err NotANumber)

abbrev pub number_read : ℕ → List ℕ → Result ℕ Misread
number_read limit [] = Err NotANumber
number_read limit (c ∷ cs) = number_after limit 0 (c ∷ cs)

-- a memory and a buffer of a script have at most 64 MiB
abbrev pub most_bytes : ℕ
most_bytes = 67108864

-- the seed of a pattern counts modulo 256
abbrev pub seed_of : Result ℕ Misread → Result ℕ Misread
seed_of (Ok n) = Ok (n % 256)
seed_of (Err why) = Err why

abbrev pub seed_read : List ℕ → Result ℕ Misread
seed_read w = seed_of (number_read 18446744073709551615 w)
