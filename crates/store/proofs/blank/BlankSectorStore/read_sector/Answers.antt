use Rattle.std.proofs.Common.{ℕ, ◌<◌, sym, ◌∙◌, subst}
use Rattle.store.specs.Plain.{blank}
use Rattle.store.proofs.Accesses.{allowed_access}
use Rattle.store.specs.Sectors.{first_of_one}
use Rattle.store.proofs.blank.BlankSectorStore.read_sector.Goals as goal

pub returns-clause-memory : goal.returns-clause-memory
unfolding blank
returns-clause-memory c =
    let sector : ℕ = c.args.sector in
    let there : sector < 1 = subst (λ n. sector < n) c.sector_count.ensures (allowed_access _ _ _ _ _ c.in_ok-allowed.ensures).0 in
    c.copy_from_slice.ensures.after ∙ sym (first_of_one sector there)
