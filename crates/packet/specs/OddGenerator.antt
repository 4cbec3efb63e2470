-- A register whose generator is odd keeps the law of a register: the lowest bit that is left tells whether the
-- generator was XORed in, and all the rest of the content can be had back.
use Rattle.std.specs.Prelude.{◌≡◌, ℕ, zero, suc, ◌-◌, ◌*◌, ◌/◌, ◌%◌, ◌^◌, ◌<◌, Bool, true, false, cond, bit_xor}
use Rattle.std.proofs.Math.Path.{refl, sym, ap}
use Rattle.std.proofs.Common.{subst, ◌∙◌, pow-suc, div-add-mod', pow_pos}
use Rattle.std.proofs.Math.Nat.{mul-mod_left}
use native.Mathlib.Omega.{arith}
use Rattle.std.proofs.Math.Arith.{mod-mul}
use Rattle.std.specs.Int.Bits.{xor_mod, xor_assoc, xor_self, xor_zero_r}
use Rattle.std.proofs.lemmas.Nat.{div_below}
use Rattle.std.proofs.lemmas.Bool.{true≢false, false≢true}
use Rattle.packet.specs.Bits.{odd}
use Rattle.packet.specs.Lawful.{Lawful}
use Rattle.packet.specs.Registers.{taken, differs, top, moved_up}

told_apart : (x y : Bool) → cond {A = ℕ} x 1 0 ≡ cond y 1 0 → x ≡ y
told_apart true true e = refl
told_apart true false e = absurd (omega arith)
told_apart false true e = absurd (omega arith)
told_apart false false e = refl

same_bit : (t a b : Bool) → differs t a ≡ differs t b → a ≡ b
same_bit true true true e = refl
same_bit true true false e = sym e
same_bit true false true e = sym e
same_bit true false false e = refl
same_bit false a b e = e

same_top : (s t b : Bool) → differs s b ≡ differs t b → s ≡ t
same_top true true b e = refl
same_top true false true e = sym e
same_top true false false e = e
same_top false true true e = sym e
same_top false true false e = e
same_top false false b e = refl

pub xor_back : (a g : ℕ) → bit_xor (bit_xor a g) g ≡ a
xor_back a g = xor_assoc a g g ∙ ap (bit_xor a) (xor_self g) ∙ xor_zero_r a

same_before : (x : Bool) (m n g : ℕ) → cond x (bit_xor m g) m ≡ cond x (bit_xor n g) n → m ≡ n
same_before true m n g e = sym (xor_back m g) ∙ ap (λ y. bit_xor y g) e ∙ xor_back n g
same_before false m n g e = e

-- two numbers below 2 that are odd alike
pub same_digit : (m n : ℕ) → m < 2 → n < 2 → odd m ≡ odd n → m ≡ n
same_digit zero zero h k e = refl
same_digit zero (suc zero) h k e = absurd (false≢true e)
same_digit zero (suc (suc n)) h k e = absurd (omega arith)
same_digit (suc zero) zero h k e = absurd (true≢false e)
same_digit (suc zero) (suc zero) h k e = refl
same_digit (suc zero) (suc (suc n)) h k e = absurd (omega arith)
same_digit (suc (suc m)) n h k e = absurd (omega arith)

module _ (v g : ℕ) (odd-g : g % 2 ≡ 1) where
  up : (c : ℕ) → moved_up (suc v) c ≡ c % 2 ^ v * 2
  up c =
      let whole : c * 2 / 2 ≡ c = omega arith in
      rw (pow-suc 2 v) (mod-mul (c * 2) (pow_pos v) (omega arith) ∙ rw (whole, mul-mod_left) (omega arith))

  -- the lowest bit tells whether the generator was XORed in
  parity : (c : ℕ) (b : Bool) → taken (suc v) g c b % 2 ≡ cond (differs (top (suc v) c) b) 1 0
  unfolding taken
  parity c b =
      elim (differs (top (suc v) c) b) as (λ x. cond x (bit_xor (moved_up (suc v) c) g) (moved_up (suc v) c) % 2 ≡ cond x 1 0) [
        | true ↦ xor_mod (moved_up (suc v) c) g 1 ∙ rw (up c, mul-mod_left, odd-g) refl
        | false ↦ ap (λ y. y % 2) (up c) ∙ mul-mod_left (c % 2 ^ v) 2
      ]

  same_flag : (c d : ℕ) (a b : Bool) → taken (suc v) g c a ≡ taken (suc v) g d b → differs (top (suc v) c) a ≡ differs (top (suc v) d) b
  same_flag c d a b e = told_apart _ _ (sym (parity c a) ∙ ap (λ y. y % 2) e ∙ parity d b)

  high_digit : (c : ℕ) → c < 2 ^ suc v → c / 2 ^ v < 2
  high_digit c h = div_below c (2 ^ v) 2 (pow_pos v) (omega (arith, pow-suc 2 v))

  top_is : (c : ℕ) → top (suc v) c ≡ odd (c / 2 ^ v)
  top_is c =
      let back : suc v - 1 ≡ v = omega arith in
      rw back refl

  same_contents : (c d : ℕ) (b : Bool) → c < 2 ^ suc v → d < 2 ^ suc v → taken (suc v) g c b ≡ taken (suc v) g d b → c ≡ d
  unfolding taken
  same_contents c d b hc hd e =
      let flag = same_flag c d b b e in
      let high : c / 2 ^ v ≡ d / 2 ^ v = same_digit _ _ (high_digit c hc) (high_digit d hd) (sym (top_is c) ∙ same_top _ _ b flag ∙ top_is d) in
      let low : c % 2 ^ v * 2 ≡ d % 2 ^ v * 2 = sym (up c) ∙ same_before (differs (top (suc v) d) b) _ _ g (subst (λ x. cond x (bit_xor (moved_up (suc v) c) g) (moved_up (suc v) c) ≡ taken (suc v) g d b) flag e) ∙ up d in
      let low_half : c % 2 ^ v ≡ d % 2 ^ v = omega arith in
      sym (div-add-mod' c (2 ^ v)) ∙ rw (high, low_half) (div-add-mod' d (2 ^ v))

  pub odd_generator_is_lawful : Lawful (suc v) g
  odd_generator_is_lawful = record {
    contents = same_contents;
    bits = λ c a b h e. same_bit (top (suc v) c) a b (same_flag c c a b e);
  }
