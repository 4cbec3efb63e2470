use Rattle.std.proofs.Common.{◌≡◌, ℕ, ◌+◌, ◌-◌, ◌<◌, ◌≤◌, List, length, take, drop, vec_items, sym, ap, ◌∙◌, subst, arith}
use Rattle.std.proofs.lemmas.Bool.{ltb-false}
use Rattle.store.specs.Plain.{plain_size}
use Rattle.store.proofs.Accesses.{allowed_access}
use Rattle.store.proofs.PlainLaws.{sector_read}
use Rattle.store.proofs.plain.PlainDiskStore.read_sector.Goals as goal

-- the part of a memory from this place on that is one sector long
one_sector : (memory lent : List ℕ) (start : ℕ) → lent ≡ memory → take (start + 512 - start) (drop start lent) ≡ take 512 (drop start memory)
one_sector memory lent start same =
    let n : start + 512 - start ≡ 512 = omega arith in
    ap (λ l. take (start + 512 - start) (drop start l)) same ∙ ap (λ k. take k (drop start memory)) n

pub returns-clause-memory : goal.returns-clause-memory
returns-clause-memory c =
    let m : List ℕ = vec_items c.args.self.now.memory in
    let sector : ℕ = c.args.sector in
    let big : 512 ≤ length m = ltb-false (length m) 512 (sym c.is_blank.ensures ∙ c.if-is_blank.false) in
    let there : sector < plain_size m = subst (λ n. sector < n) c.sector_count.ensures (allowed_access _ _ _ _ _ c.in_ok-allowed.ensures).0 in
    c.copy_from_slice.ensures.after
    ∙ one_sector m _ c.start_of-start.result c.deref.ensures.value
    ∙ ap (λ n. take 512 (drop n m)) c.start_of-start.ensures
    ∙ sym (sector_read m big sector there)
