use Rattle.std.proofs.Common.{◌≡◌, ℕ, ◌+◌, ◌-◌, ◌/◌, ◌^◌, sym, ap, ◌∙◌, arith}
use lib.Pow.{high, ones_lt, ones_split}
use Rattle.packet.proofs.register.ones.Goals as goal

-- of sixteen ones, those at the top
top_ones : (w k : ℕ) → w + k ≡ 16 → 65535 / 2 ^ k ≡ 2 ^ w - 1
top_ones w k e = ap (λ n. (2 ^ n - 1) / 2 ^ k) (sym e) ∙ ap (λ n. n / 2 ^ k) (ones_split w k) ∙ high (2 ^ w - 1) k (ones_lt k)

pub returns : goal.returns
returns g c =
    let most = g.R.Check.sized.most in
    rw c.WIDTH.ensures (top_ones _ _ (omega (arith, most)))
