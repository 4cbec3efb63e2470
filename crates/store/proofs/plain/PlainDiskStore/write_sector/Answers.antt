use Rattle.std.proofs.Common.{◌≡◌, ℕ, ◌+◌, ◌*◌, ◌<◌, ◌≤◌, List, length, vec_items, sym, ap, ◌∙◌, subst, arith}
use Rattle.std.specs.Vec.{with_items}
use Rattle.std.proofs.lemmas.List.{with_items_is}
use Rattle.std.proofs.lemmas.Bool.{ltb-false}
use Rattle.store.specs.Plain.{plain_size, plain_sectors, overlaid}
use Rattle.store.proofs.Accesses.{allowed_access}
use Rattle.store.proofs.Sectors.{length_overlaid}
use Rattle.store.proofs.PlainLaws.{sector_fits, sector_replaced}
use Rattle.store.proofs.plain.PlainDiskStore.write_sector.Goals as goal

pub returns-clause-sectors : goal.returns-clause-sectors
returns-clause-sectors c =
    let v = c.args.self.now.memory in
    let m : List ℕ = vec_items v in
    let bytes : List ℕ = c.args.from.now in
    let sector : ℕ = c.args.sector in
    let big : 512 ≤ length m = ltb-false (length m) 512 (sym c.is_blank.ensures ∙ c.if-is_blank.false) in
    let parts = allowed_access _ _ _ _ _ c.in_ok-allowed.ensures in
    let there : sector < plain_size m = subst (λ n. sector < n) c.sector_count.ensures parts.0 in
    let fits : sector * 512 + length bytes ≤ length m = omega (arith, parts.1, sector_fits m big sector there) in
    let laid : c.lay_over.new.memory ≡ overlaid m (sector * 512) bytes =
    c.lay_over.ensures ∙ ap (λ l. overlaid l c.start_of.result bytes) c.as_mut_slice.ensures.value ∙ ap (λ n. overlaid m n bytes) c.start_of.ensures in
    let as_long : length c.lay_over.new.memory ≡ v.len = ap length laid ∙ length_overlaid m bytes (sector * 512) fits ∙ sym v.ok.0 in
    let after : (with_items v c.lay_over.new.memory).items ≡ overlaid m (sector * 512) bytes = with_items_is v c.lay_over.new.memory as_long ∙ laid in
    ap plain_sectors after ∙ sector_replaced m bytes sector big there parts.1
