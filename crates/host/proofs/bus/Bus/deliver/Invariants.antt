use Rattle.std.proofs.Common.{◌-◌}
use Rattle.packet.specs.Bodies.{held}
use Rattle.packet.specs.Parts.{data_packet}
use Rattle.host.specs.declared.bus.Bus.{Bus as Ends}
use Rattle.host.specs.declared.fault.Cause.TheVariants.{Nothing}
use Rattle.host.specs.Buses.{PerformsOver}
use Rattle.host.specs.Pipes.{out_token}
use Rattle.host.specs.Transactions.{Ending}
use Rattle.host.specs.Tries.{delivers}
use Rattle.host.proofs.bus.Bus.deliver.Given as goal

-- whatever the tries that are left lead to, all three lead to
abbrev pub invariant-loop : goal.invariant-loop
invariant-loop g l =
    (e : Ending (Unit {0})) (b : Ends g.row.W.Denot g.row.S.Denot) → PerformsOver g.W.Wire g.S.Store (delivers (3 - l.counter) (out_token l.pipe) (data_packet l.kind (held l.body)) l.cause) l.self e b
    → PerformsOver g.W.Wire g.S.Store (delivers 3 (out_token l.pipe) (data_packet l.kind (held l.body)) Nothing) l.initial.self e b
