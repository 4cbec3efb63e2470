-- Bytes that are shown are read back as they were.
use Rattle.std.proofs.Common.{◌≡◌, ℕ, ◌+◌, ◌*◌, ◌/◌, ◌%◌, ◌<◌, false, List, [], ◌∷◌, Some, Ok, refl, ap, ◌∙◌, arith}
use Rattle.std.proofs.lemmas.Bool.Decides.{nat_tests}
use Rattle.script.specs.Arguments.{put_before}
use Rattle.script.specs.Hex.{hex_digit, hex_value, hex_byte, after_blanks, hex_bytes, two_digits, byte_read, bytes_read, ShownBytesAreReadBack}
use Rattle.script.specs.Text.{blank, words}

digit_solid : (n : ℕ) → n < 16 → blank (hex_digit n) ≡ false
digit_solid n small = grind (arith, nat_tests)

digit_value : (n : ℕ) → n < 16 → hex_value (hex_digit n) ≡ Some n
digit_value n small = grind (arith, nat_tests)

-- two digits, and then a blank or the end, are a word
word_shown : (d e : ℕ) (bs : List ℕ) → blank d ≡ false → blank e ≡ false → words (d ∷ e ∷ after_blanks bs) ≡ (d ∷ e ∷ []) ∷ words (after_blanks bs)
unfolding words
word_shown d e [] solid-d solid-e = simp (solid-d, solid-e)
word_shown d e (b ∷ bs) solid-d solid-e = simp (solid-d, solid-e)

-- a blank in front adds no word
words_after : (b : ℕ) (bs : List ℕ) → words (after_blanks (b ∷ bs)) ≡ words (hex_bytes (b ∷ bs))
unfolding words
words_after b bs = refl

byte_back : (b : ℕ) → b < 256 → byte_read (hex_byte b) ≡ Ok b
byte_back b small =
    let high : b / 16 < 16 = omega arith in
    let low : b % 16 < 16 = omega arith in
    let whole : b / 16 * 16 + b % 16 ≡ b = omega arith in
    ap (λ n. two_digits n (hex_value (hex_digit (b % 16)))) (digit_value (b / 16) high) ∙ ap (two_digits (Some (b / 16))) (digit_value (b % 16) low) ∙ ap Ok whole

-- the first of the bytes, read before what follows it
first_back : (b : ℕ) (bs : List ℕ) → b < 256 → bytes_read (words (hex_bytes (b ∷ bs))) ≡ put_before (Ok b) (bytes_read (words (after_blanks bs)))
first_back b bs small =
    let high : b / 16 < 16 = omega arith in
    let low : b % 16 < 16 = omega arith in
    ap bytes_read (word_shown (hex_digit (b / 16)) (hex_digit (b % 16)) bs (digit_solid _ high) (digit_solid _ low)) ∙ ap (λ r. put_before r (bytes_read (words (after_blanks bs)))) (byte_back b small)

pub read_back : ShownBytesAreReadBack
unfolding words
read_back b [] small = first_back b [] small.0
read_back b (c ∷ cs) small = first_back b (c ∷ cs) small.0 ∙ ap (put_before (Ok b)) (ap bytes_read (words_after c cs) ∙ read_back c cs small.1)
