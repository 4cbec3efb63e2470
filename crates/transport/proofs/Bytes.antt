-- Numbers and their bytes, lists by the elements at their front, and tests of them.
use Rattle.std.proofs.Common.{◌≡◌, ℕ, zero, suc, ◌+◌, ◌*◌, ◌/◌, ◌%◌, ◌^◌, ◌<◌, ◌≤◌, Bool, true, false, cond, List, [], ◌∷◌, ◌++◌, length, get_or, take, drop, Ok, Err, Result, refl, ap, ◌∙◌, arith}
use Rattle.std.proofs.lemmas.List.{drop_more, take_at}
use Rattle.transport.specs.Numbers.{low_first, low_first_at, high_first, high_first_at, two_high_first, two_high_first_at, field_at}
use Rattle.transport.specs.Promises.{Bytes}

byte_at : (bs : List ℕ) → Bytes bs → (i : ℕ) → get_or bs i 0 < 256
byte_at [] all i = omega arith
byte_at (b ∷ bs) all zero = all.0
byte_at (b ∷ bs) all (suc i) = byte_at bs all.1 i

-- a number is had back from its bytes: a, b and c are what is left of it above the first, second and third byte
bytes_back : (n a b c : ℕ) → a ≡ n / 256 → b ≡ a / 256 → c ≡ b / 256 → c < 256 → n % 256 + a % 256 * 256 + b % 256 * 65536 + c % 256 * 16777216 ≡ n
bytes_back n a b c p q r top =
    let one : a * 256 + n % 256 ≡ n = omega arith in
    let two : b * 256 + a % 256 ≡ a = omega arith in
    let three : c * 256 + b % 256 ≡ b = omega arith in
    let last : c % 256 ≡ c = omega arith in
    rw last (omega arith)

pub low_first_back : (n : ℕ) → n < 2 ^ 32 → low_first_at (low_first n) 0 ≡ n
low_first_back n h = bytes_back n (n / 256) (n / 65536) (n / 16777216) refl (omega arith) (omega arith) (omega arith)

pub high_first_back : (n : ℕ) → n < 2 ^ 32 → high_first_at (high_first n) 0 ≡ n
high_first_back n h = omega (arith, low_first_back n h)

pub two_high_first_back : (n : ℕ) → n < 2 ^ 16 → two_high_first_at (two_high_first n) 0 ≡ n
two_high_first_back n h = omega arith

-- four bytes make a number below 2 ^ 32, and are had back from it
below_32_bits : (a b c d : ℕ) → a < 256 → b < 256 → c < 256 → d < 256 → a + b * 256 + c * 65536 + d * 16777216 < 2 ^ 32
below_32_bits a b c d p q r s = omega arith

four_back : (a b c d : ℕ) → a < 256 → b < 256 → c < 256 → d < 256 → a ∷ b ∷ c ∷ d ∷ [] ≡ low_first (a + b * 256 + c * 65536 + d * 16777216)
four_back a b c d p q r s =
    let over_one : (a + b * 256 + c * 65536 + d * 16777216) / 256 ≡ b + c * 256 + d * 65536 = omega arith in
    let over_two : (a + b * 256 + c * 65536 + d * 16777216) / 65536 ≡ c + d * 256 = omega arith in
    let over_three : (a + b * 256 + c * 65536 + d * 16777216) / 16777216 ≡ d = omega arith in
    let first : a ≡ (a + b * 256 + c * 65536 + d * 16777216) % 256 = omega arith in
    let second : b ≡ (a + b * 256 + c * 65536 + d * 16777216) / 256 % 256 = rw over_one (omega arith) in
    let third : c ≡ (a + b * 256 + c * 65536 + d * 16777216) / 65536 % 256 = rw over_two (omega arith) in
    let fourth : d ≡ (a + b * 256 + c * 65536 + d * 16777216) / 16777216 % 256 = rw over_three (omega arith) in
    λ i. first i ∷ second i ∷ third i ∷ fourth i ∷ []

-- the four bytes from a place on, in a list of bytes
module _ (bs : List ℕ) (all : Bytes bs) where
  pub four_at : (i : ℕ) → get_or bs i 0 ∷ get_or bs (i + 1) 0 ∷ get_or bs (i + 2) 0 ∷ get_or bs (i + 3) 0 ∷ [] ≡ low_first (low_first_at bs i)
  four_at i = four_back _ _ _ _ (byte_at bs all i) (byte_at bs all (i + 1)) (byte_at bs all (i + 2)) (byte_at bs all (i + 3))

  pub narrow_at : (i : ℕ) → low_first_at bs i < 2 ^ 32
  narrow_at i = below_32_bits _ _ _ _ (byte_at bs all i) (byte_at bs all (i + 1)) (byte_at bs all (i + 2)) (byte_at bs all (i + 3))

-- a list is a field of it and what is around it
pub split_off : (n i : ℕ) (bs : List ℕ) → i + n ≤ length bs → drop i bs ≡ field_at n i bs ++ drop (i + n) bs
split_off zero i bs h = ap (λ k. drop k bs) (omega arith)
split_off (suc n) i bs h =
    let on : i + 1 + n ≡ i + suc n = omega arith in
    drop_more bs i 0 (omega arith) ∙ ap (λ l. get_or bs i 0 ∷ l) (split_off n (i + 1) bs (omega arith) ∙ ap (λ k. field_at n (i + 1) bs ++ drop k bs) on)

length_field : (n i : ℕ) (bs : List ℕ) → length (field_at n i bs) ≡ n
length_field zero i bs = refl
length_field (suc n) i bs = ap suc (length_field n (i + 1) bs)

pub taken : (n i : ℕ) (bs : List ℕ) → i + n ≤ length bs → take n (drop i bs) ≡ field_at n i bs
taken n i bs h = ap (take n) (split_off n i bs h) ∙ take_at (field_at n i bs) (drop (i + n) bs) n (length_field n i bs)

-- where something came out of a test, it has passed
pub passed : {X E : Type 0} (t : Bool) (r : Result X E) (why : E) (x : X) → cond t r (Err why) ≡ Ok x → (t ≡ true) × (r ≡ Ok x)
passed true r why x e = (refl, e)
passed false r why x e = let no : ◌≡◌ {A = ℕ} 0 1 = cc in absurd (omega arith)
