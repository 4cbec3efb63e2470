use Rattle.std.proofs.Common.{arith, rules}
use Rattle.wire.proofs.Entries.{carries_flipped}
use Rattle.wire.proofs.Laid.{carries_nothing}
use Rattle.wire.proofs.scripted.ScriptedWireWire.carry.Goals as goal

pub returns-then-sent-gt67-clause-carries : goal.returns-then-sent-gt67-clause-carries
returns-then-sent-gt67-clause-carries c = carries_nothing _ _ _ _ _ (omega arith) c.lay-then-sent-gt67.ensures.count c.lay-then-sent-gt67.ensures.memory (search rules)

pub returns-in-Lose-clause-carries : goal.returns-in-Lose-clause-carries
returns-in-Lose-clause-carries c = carries_nothing _ _ _ _ _ (search rules) c.lay-in-Lose.ensures.count c.lay-in-Lose.ensures.memory (search rules)

pub returns-in-Flip-clause-carries : goal.returns-in-Flip-clause-carries
returns-in-Flip-clause-carries c = carries_flipped _ _ _ _ _ _ (search rules) (omega arith) c.flip.ensures.count c.flip.ensures.memory (search rules)
