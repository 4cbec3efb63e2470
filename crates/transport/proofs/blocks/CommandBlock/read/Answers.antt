use Rattle.std.proofs.Common.{◌≡◌, ℕ, List, Err, Result, slice_index, ap, ◌∙◌, arith, rules}
use Rattle.std.proofs.lemmas.Bool.Decides.{nat_tests}
use Rattle.transport.specs.declared.blocks.CommandBlock.{CommandBlock}
use Rattle.transport.specs.declared.blocks.DataDirection.{DataDirection}
use Rattle.transport.specs.declared.refusals.TransportRefusal.{TransportRefusal}
use Rattle.transport.specs.Blocks.{block_read, direction_said}
use Rattle.transport.proofs.blocks.CommandBlock.read.Goals as goal

-- what says no direction is no block
no_direction : (bs : List ℕ) (e : TransportRefusal) → ◌≡◌ {A = Result DataDirection TransportRefusal} (Err e) (direction_said (slice_index bs 12)) → ◌≡◌ {A = Result CommandBlock TransportRefusal} (Err e) (block_read bs)
unfolding block_read
no_direction bs e none = grind (arith, nat_tests)

pub returns-in_err-try_from : goal.returns-in_err-try_from
returns-in_err-try_from c =
    let none = no_direction c.args.bytes.now _ (c.in_err-try_from.ensures ∙ ap (λ l. direction_said (slice_index l 12)) c.in-Ok.ensures.1.same) in
    search rules
