use Rattle.std.proofs.Common.{rules}
use Rattle.wire.proofs.Hubs.{by_port_other}
use Rattle.wire.proofs.hub.HubWire.carry.Goals as goal

pub returns-then-damaged-clause-carries : goal.returns-then-damaged-clause-carries
returns-then-damaged-clause-carries g c = by_port_other _ _ _ _ _ _ _ _ _ _ _ c.through_port-count.ensures.ways _ _ (search rules) (search rules)
