-- Bytes as text, and words as bytes.
use Rattle.std.specs.Prelude.{◌≡◌, ℕ, ◌+◌, ◌-◌, ◌*◌, ◌/◌, ◌%◌, ◌<◌, cond, ◌&&◌, List, [], ◌∷◌, ◌++◌, Some, None, Ok, Err, codes, Option, Result, nat_le, nat_lt}
use Rattle.std.specs.List.{AllByRecursion}
use Rattle.script.specs.declared.misread.Misread.{Misread}
use Rattle.script.specs.declared.misread.Misread.TheVariants.{NotAByte}
use Rattle.script.specs.Arguments.{all_read}
use Rattle.script.specs.Text.{words}

abbrev pub hex_digit : ℕ → ℕ
hex_digit n = cond (nat_lt n 10) (48 + n) (87 + n)

abbrev pub hex_byte : ℕ → List ℕ
hex_byte b = hex_digit (b / 16) ∷ hex_digit (b % 16) ∷ []

-- each byte after a blank
abbrev pub after_blanks : List ℕ → List ℕ
after_blanks [] = []
after_blanks (b ∷ bs) = 32 ∷ (hex_byte b ++ after_blanks bs)

-- the bytes with one blank between; no bytes are a word of their own
abbrev pub hex_bytes : List ℕ → List ℕ
hex_bytes [] = codes "nothing"
hex_bytes (b ∷ bs) = hex_byte b ++ after_blanks bs

-- what a digit stands for
abbrev pub hex_value : ℕ → Option ℕ
hex_value c = cond (nat_le 48 c && nat_le c 57) (Some (c - 48)) (cond (nat_le 97 c && nat_le c 102) (Some (c - 87)) None)

-- the byte that two digits write
abbrev pub two_digits : Option ℕ → Option ℕ → Result ℕ Misread
two_digits (Some high) (Some low) = Ok (high * 16 + low)
two_digits (Some high) None = Err NotAByte
two_digits None low = Err NotAByte

abbrev pub byte_read : List ℕ → Result ℕ Misread
byte_read (high ∷ low ∷ []) = two_digits (hex_value high) (hex_value low)
byte_read [] = Err NotAByte
byte_read (high ∷ []) = Err NotAByte
byte_read (high ∷ low ∷ more ∷ rest) = Err NotAByte

-- the bytes that words write
abbrev pub bytes_read : List (List ℕ) → Result (List ℕ) Misread
bytes_read ws = all_read byte_read ws

-- bytes that are shown are read back as they were
abbrev pub ShownBytesAreReadBack : Type 0
ShownBytesAreReadBack = (b : ℕ) (bs : List ℕ) → AllByRecursion (λ n. n < 256) (b ∷ bs) → bytes_read (words (hex_bytes (b ∷ bs))) ≡ Ok (b ∷ bs)
