use Rattle.std.proofs.Common.{◌≡◌, ℕ, ◌-◌, ◌≤◌, min, List, ◌++◌, length, take, drop, replicate, ap, ◌∙◌, arith}
use Rattle.std.proofs.lemmas.List.{take_at, drop_at, take_min, length-take-le, drop-replicate}
use Rattle.packet.proofs.body.Body.of.Goals as goal

module _ (bytes copied : List ℕ) (n : ℕ) (is : n ≡ min (length bytes) 64) (same : copied ≡ take n bytes) where
  copied_long : length copied ≡ n
  copied_long = ap length same ∙ length-take-le n bytes (omega arith)

  -- what is copied is in front
  first_64 : (rest : List ℕ) → take n (copied ++ rest) ≡ take 64 bytes
  first_64 rest =
      let cut : n ≡ min 64 (length bytes) = omega arith in
      take_at copied rest n copied_long ∙ same ∙ ap (λ k. take k bytes) cut ∙ take_min 64 bytes

  fits_64 : n ≤ 64
  fits_64 = omega arith

  -- and zeros are behind it
  zeros_behind : drop n (copied ++ drop n (replicate 64 0)) ≡ replicate (64 - n) 0
  zeros_behind = drop_at copied _ n copied_long ∙ drop-replicate n 64 0

pub invariant_of-result : goal.invariant_of-result
invariant_of-result c = record {
  fits = fits_64 c.args.bytes.now _ c.min-length.result c.min-length.ensures c.copy_from_slice.ensures.after;
  zeros = zeros_behind c.args.bytes.now _ c.min-length.result c.min-length.ensures c.copy_from_slice.ensures.after;
}

pub returns : goal.returns
returns c = first_64 c.args.bytes.now _ c.min-length.result c.min-length.ensures c.copy_from_slice.ensures.after _
