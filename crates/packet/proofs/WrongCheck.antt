-- One changed bit, covered or of the check, gives a wrong check, for every register that keeps the law.
use Rattle.std.proofs.Common.{◌≡◌, ℕ, zero, suc, ◌+◌, ◌*◌, ◌/◌, ◌%◌, ◌^◌, ◌<◌, Bool, true, false, cond, not, ◌⊎◌, List, [], ◌∷◌, ◌++◌, length, take, drop, sym, refl, ap, ◌∙◌, subst, inl, inr, mod-lt, pow-suc, arith, length-append, pow_pos}
use lib.Arith.{digits_div, digits_mod}
use lib.Bits.{bit_xor, xor_lt}
use lib.Pow.{ones_lt}
use Rattle.std.proofs.lemmas.Bool.{true≢false, false≢true}
use Rattle.std.proofs.lemmas.List.{take_at, drop_at}
use Rattle.packet.specs.Bits.{bits, odd}
use Rattle.packet.specs.Lawful.{Sized, Lawful}
use Rattle.packet.specs.Promises.{OneBit, OneChangedBitGivesAWrongCheck}
use Rattle.packet.specs.Registers.{taken, fed, mirrored, moved_up, top, differs, all_ones, finished, check}
use Rattle.packet.proofs.Mirrored.{mirrored_below}
use Rattle.packet.specs.OddGenerator.{xor_back, same_digit}

-- lists of bits ---------------------------------------------------------------------------------------------------

pub length_bits : (k n : ℕ) → length (bits k n) ≡ k
unfolding bits
length_bits zero n = refl
length_bits (suc k) n = ap suc (length_bits k (n / 2))

same_odd : (m n : ℕ) → odd m ≡ odd n → m % 2 ≡ n % 2
same_odd m n e =
    let m_low : m % 2 % 2 ≡ m % 2 = omega arith in
    let n_low : n % 2 % 2 ≡ n % 2 = omega arith in
    same_digit (m % 2) (n % 2) (omega arith) (omega arith) (rw (m_low, n_low) e)

-- a number is had back from its bits
pub bits_apart : (k m n : ℕ) → m < 2 ^ k → n < 2 ^ k → bits k m ≡ bits k n → m ≡ n
unfolding bits
bits_apart zero m n h g e = omega arith
bits_apart (suc k) m n h g e =
    let head : odd m ≡ odd n = cc in
    let tail : bits k (m / 2) ≡ bits k (n / 2) = cc in
    let low : m % 2 ≡ n % 2 = same_odd m n head in
    let high : m / 2 ≡ n / 2 = bits_apart k (m / 2) (n / 2) (omega (arith, pow-suc 2 k)) (omega (arith, pow-suc 2 k)) tail in
    omega arith

one_bit_length : (xs ys : List Bool) → OneBit xs ys → length xs ≡ length ys
one_bit_length [] ys d = absurd d
one_bit_length (x ∷ xs) [] d = absurd d
one_bit_length (x ∷ xs) (y ∷ ys) (inl d) = ap (λ l. suc (length l)) d.1
one_bit_length (x ∷ xs) (y ∷ ys) (inr d) = ap suc (one_bit_length xs ys d.1)

not_itself : (b : Bool) → b ≡ not b → ⊥
not_itself true e = true≢false e
not_itself false e = false≢true e

one_bit_differs : (xs : List Bool) → OneBit xs xs → ⊥
one_bit_differs [] d = d
one_bit_differs (x ∷ xs) (inl d) = not_itself x d.0
one_bit_differs (x ∷ xs) (inr d) = one_bit_differs xs d.1

same_parts_of : (xs us ys vs : List Bool) → length xs ≡ length us → xs ++ ys ≡ us ++ vs → (xs ≡ us) × (ys ≡ vs)
same_parts_of xs us ys vs n e = (
  sym (take_at xs ys (length xs) refl) ∙ ap (take (length xs)) e ∙ take_at us vs (length xs) (sym n),
  sym (drop_at xs ys (length xs) refl) ∙ ap (drop (length xs)) e ∙ drop_at us vs (length xs) (sym n),
)

-- the changed bit lies in the front or in the back
one_bit_split : (xs us ys vs : List Bool) → length xs ≡ length us → OneBit (xs ++ ys) (us ++ vs) → (OneBit xs us × (ys ≡ vs)) ⊎ ((xs ≡ us) × OneBit ys vs)
one_bit_split [] [] ys vs n d = inr (refl, d)
one_bit_split [] (u ∷ us) ys vs n d = absurd (omega arith)
one_bit_split (x ∷ xs) [] ys vs n d = absurd (omega arith)
one_bit_split (x ∷ xs) (u ∷ us) ys vs n (inl d) =
    let same = same_parts_of xs us ys vs (omega arith) d.1 in
    inl (inl (d.0, same.0), same.1)
one_bit_split (x ∷ xs) (u ∷ us) ys vs n (inr d) =
    elim (one_bit_split xs us ys vs (omega arith) d.1) [
      | inl front ↦ inl (inr (d.0, front.0), front.1)
      | inr back ↦ inr (λ i. d.0 i ∷ back.0 i, back.1)
    ]

-- what different contents and different bits come to --------------------------------------------------------------

-- a content is had back from its mirror
mirrored_apart : (k m n : ℕ) → m < 2 ^ k → n < 2 ^ k → mirrored k m ≡ mirrored k n → m ≡ n
unfolding mirrored
mirrored_apart zero m n h g e = omega arith
mirrored_apart (suc k) m n h g e =
    let low : m % 2 ≡ n % 2 = sym (digits_div (m % 2) (mirrored_below k (m / 2))) ∙ ap (λ z. z / 2 ^ k) e ∙ digits_div (n % 2) (mirrored_below k (n / 2)) in
    let rest : mirrored k (m / 2) ≡ mirrored k (n / 2) = sym (digits_mod (m % 2) (mirrored_below k (m / 2))) ∙ ap (λ z. z % 2 ^ k) e ∙ digits_mod (n % 2) (mirrored_below k (n / 2)) in
    let high : m / 2 ≡ n / 2 = mirrored_apart k (m / 2) (n / 2) (omega (arith, pow-suc 2 k)) (omega (arith, pow-suc 2 k)) rest in
    omega arith

module _ (w g : ℕ) (sized : Sized w g) (lawful : Lawful w g) where
  taken_below : (c : ℕ) (b : Bool) → taken w g c b < 2 ^ w
  unfolding taken
  taken_below c b =
      elim (differs (top w c) b) as (λ x. cond x (bit_xor (moved_up w c) g) (moved_up w c) < 2 ^ w) [
        | true ↦ xor_lt w _ _ (mod-lt (c * 2) (pow_pos w)) sized.generator_fits
        | false ↦ mod-lt (c * 2) (pow_pos w)
      ]

  fed_below : (c : ℕ) (bs : List Bool) → c < 2 ^ w → fed w g c bs < 2 ^ w
  unfolding fed
  fed_below c [] h = h
  fed_below c (b ∷ bs) h = fed_below (taken w g c b) bs (taken_below c b)

  -- different contents stay different under the same bits
  fed_apart : (c d : ℕ) (bs : List Bool) → c < 2 ^ w → d < 2 ^ w → fed w g c bs ≡ fed w g d bs → c ≡ d
  unfolding fed
  fed_apart c d [] hc hd e = e
  fed_apart c d (b ∷ bs) hc hd e = lawful.contents c d b hc hd (fed_apart (taken w g c b) (taken w g d b) bs (taken_below c b) (taken_below d b) e)

  -- one content under bits that differ in one place goes to different contents
  fed_one_bit : (c : ℕ) (xs ys : List Bool) → c < 2 ^ w → OneBit xs ys → fed w g c xs ≡ fed w g c ys → ⊥
  unfolding fed
  fed_one_bit c [] ys h d e = d
  fed_one_bit c (x ∷ xs) [] h d e = d
  fed_one_bit c (x ∷ xs) (y ∷ ys) h (inl d) e =
      not_itself x
      (lawful.bits c x y h (fed_apart (taken w g c x) (taken w g c y) xs (taken_below c x) (taken_below c y) (e ∙ ap (fed w g (taken w g c y)) (sym d.1))) ∙ d.0)
  fed_one_bit c (x ∷ xs) (y ∷ ys) h (inr d) e =
      fed_one_bit (taken w g c x) xs ys (taken_below c x) d.1 (e ∙ ap (λ b. fed w g (taken w g c b) ys) (sym d.0))

  finished_apart : (c d : ℕ) → c < 2 ^ w → d < 2 ^ w → finished w c ≡ finished w d → c ≡ d
  finished_apart c d hc hd e =
      let same = mirrored_apart w _ _ (xor_lt w c _ hc (ones_lt w)) (xor_lt w d _ hd (ones_lt w)) e in
      sym (xor_back c (all_ones w)) ∙ ap (λ z. bit_xor z (all_ones w)) same ∙ xor_back d (all_ones w)

  pub one_changed_bit_gives_a_wrong_check : OneChangedBitGivesAWrongCheck w g
  one_changed_bit_gives_a_wrong_check covered front field d right =
      let total : length (covered ++ bits w (check w g covered)) ≡ length (front ++ bits w field) = one_bit_length _ _ d in
      let whole : length (covered ++ bits w (check w g covered)) ≡ length covered + w = length-append covered _ ∙ ap (λ n. length covered + n) (length_bits w _) in
      let heard : length (front ++ bits w field) ≡ length front + w = length-append front _ ∙ ap (λ n. length front + n) (length_bits w _) in
      elim (one_bit_split covered front (bits w (check w g covered)) (bits w field) (omega arith) d) [
        | inl changed ↦
            let same : check w g covered ≡ check w g front = bits_apart w _ _ (mirrored_below w _) (mirrored_below w _) (changed.1 ∙ ap (bits w) right) in
            fed_one_bit (all_ones w) covered front (ones_lt w) changed.0
            (finished_apart _ _ (fed_below (all_ones w) covered (ones_lt w)) (fed_below (all_ones w) front (ones_lt w)) same)
        | inr changed ↦ one_bit_differs (bits w field) (subst (λ l. OneBit l (bits w field)) (ap (λ l. bits w (check w g l)) changed.0 ∙ ap (bits w) (sym right)) changed.1)
      ]
