use Rattle.std.proofs.Common.{◌≡◌, ℕ, ◌-◌, min, List, length, take, drop, ap, ◌∙◌, inl, inr, arith, length-take, length-drop}
use Rattle.std.proofs.lemmas.List.{take_all, take_min, drop_min, take-take}
use Rattle.std.proofs.lemmas.Bool.{cases_lt}
use Rattle.reader.proofs.sending.body_from.Goals as goal

-- a part cut twice
cut_twice : (a b : ℕ) (l : List ℕ) → take a (take b l) ≡ take (min a b) l
cut_twice a b l =
    elim (cases_lt a b) [
      | inl few ↦ let less : min a b ≡ a = omega arith in rw less (take-take a b l (omega arith))
      | inr many ↦ let less : min a b ≡ b = omega arith in rw less (take_all a (take b l) (omega (arith, length-take b l)))
    ]

cut_from : (bytes : List ℕ) (place most start count : ℕ) → start ≡ min place (length bytes) → count ≡ min most (length (take (length bytes - start) (drop start bytes)))
    → take 64 (take count (take (length bytes - start) (drop start bytes))) ≡ take (min 64 most) (drop place bytes)
cut_from bytes place most start count s n =
    let rest : take (length bytes - start) (drop start bytes) ≡ drop place bytes =
    take_all (length bytes - start) (drop start bytes) (omega (arith, length-drop start bytes)) ∙ ap (λ k. drop k bytes) s ∙ drop_min place bytes in
    rw n (ap (take 64) (take_min most _) ∙ cut_twice 64 most _ ∙ ap (take (min 64 most)) rest)

pub returns : goal.returns
returns c = c.of.ensures ∙ cut_from c.args.bytes.now c.args.place c.args.most c.min.result c.min-2.result c.min.ensures c.min-2.ensures
