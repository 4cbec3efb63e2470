use Rattle.std.proofs.Common.{arith}
use Rattle.wire.proofs.Laid.{carries_nothing}
use Rattle.wire.proofs.perfect.PerfectWireWire.carry.Goals as goal

pub returns-then-too_long-clause-carries : goal.returns-then-too_long-clause-carries
returns-then-too_long-clause-carries c = carries_nothing _ _ _ _ _ (omega arith) c.lay.ensures.count c.lay.ensures.memory c.grown-self.ensures
