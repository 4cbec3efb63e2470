use Rattle.std.proofs.Common.{◌≡◌, ℕ, ◌+◌, ◌-◌, ◌*◌, ◌/◌, ◌%◌, ◌^◌, ◌≤◌, Bool, true, false, not, sym, refl, ap, ◌∙◌, arith}
use mathlib.Core.Bool.{beq}
use lib.Bits.{bit_and, bit_xor, and_mask}
use lib.Pow.{mod-mod-pow}
use Rattle.std.proofs.lemmas.Bool.{cond-true, cond-false}
use Rattle.packet.specs.Bits.{odd}
use Rattle.packet.specs.Registers.{taken, differs, all_ones}
use Rattle.packet.proofs.register.Register.take_bit.Goals as goal
use Rattle.packet.proofs.register.Register.take_bit.Goals.{then-top-bit, else-top-bit}

differs_is : (x y : Bool) → not (beq x y) ≡ differs x y
differs_is true true = refl
differs_is true false = refl
differs_is false true = refl
differs_is false false = refl

-- the low bits of what sixteen bits hold
masked : (n w o : ℕ) → w ≤ 16 → o ≡ all_ones w → bit_and (n % 65536) o ≡ n % 2 ^ w
masked n w o h e =
    let whole : 16 - w + w ≡ 16 = omega arith in
    rw e (and_mask (n % 65536) w ∙ ap (λ k. n % 2 ^ k % 2 ^ w) (sym whole) ∙ mod-mod-pow n (16 - w) w)

module _ (w wide g o content : ℕ) (b : Bool) (most : w ≤ 16) (is_IsWide : wide ≡ w) (is-ones : o ≡ all_ones w) where
  flag_is : (x : Bool) → not (beq (odd (content / 2 ^ (wide - 1))) b) ≡ x → differs (odd (content / 2 ^ (w - 1))) b ≡ x
  flag_is x e = sym (differs_is _ b) ∙ (rw is_IsWide at e)

  xored : (g' : ℕ) → g' ≡ g → not (beq (odd (content / 2 ^ (wide - 1))) b) ≡ true → bit_xor (bit_and (content * 2 % 65536) o) g' ≡ taken w g content b
  unfolding taken
  xored g' e t = rw (masked (content * 2) w o most is-ones, e) (sym (cond-true _ _ _ (flag_is true t)))

  moved : not (beq (odd (content / 2 ^ (wide - 1))) b) ≡ false → bit_and (content * 2 % 65536) o ≡ taken w g content b
  unfolding taken
  moved t = masked (content * 2) w o most is-ones ∙ sym (cond-false _ _ _ (flag_is false t))

pub returns : goal.returns
returns g c =
    let most = g.R.Check.sized.most in
    let wide = c.WIDTH.ensures in
    let is-ones = c.ones.ensures in
    elim c.if-top-bit.branch [
      | then-top-bit w ↦ w.self-is ∙ xored _ _ _ _ _ _ most wide is-ones _ w.GENERATOR.ensures w.if-top-bit.true
      | else-top-bit w ↦ w.self-is ∙ moved _ _ _ _ _ _ most wide is-ones w.if-top-bit.false
    ]
