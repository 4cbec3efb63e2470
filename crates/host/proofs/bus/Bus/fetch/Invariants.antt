use Rattle.std.proofs.Common.{ℕ, ◌-◌, List}
use Rattle.host.specs.declared.bus.Bus.{Bus as Ends}
use Rattle.host.specs.declared.fault.Cause.TheVariants.{Nothing}
use Rattle.host.specs.Buses.{PerformsOver}
use Rattle.host.specs.Pipes.{in_token}
use Rattle.host.specs.Transactions.{Ending}
use Rattle.host.specs.Tries.{fetches}
use Rattle.host.proofs.bus.Bus.fetch.Given as goal

-- whatever the tries that are left lead to, all three lead to
abbrev pub invariant-loop : goal.invariant-loop
invariant-loop g l =
    (e : Ending (List ℕ)) (b : Ends g.row.W.Denot g.row.S.Denot) → PerformsOver g.W.Wire g.S.Store (fetches (3 - l.counter) (in_token l.pipe) l.awaited.toggle l.awaited.length l.cause) l.self e b
    → PerformsOver g.W.Wire g.S.Store (fetches 3 (in_token l.pipe) l.awaited.toggle l.awaited.length Nothing) l.initial.self e b
