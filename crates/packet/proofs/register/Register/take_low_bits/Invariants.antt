use Rattle.std.proofs.Common.{◌≡◌, ◌-◌}
use Rattle.packet.specs.Bits.{bits}
use Rattle.packet.specs.Registers.{fed}
use Rattle.packet.proofs.register.Register.take_low_bits.Given as goal

-- what is left to take leads to the same end
abbrev pub invariant-loop-i : goal.invariant-loop-i
invariant-loop-i g l =
    fed g.R.Check.WIDTH g.R.Check.GENERATOR l.self.content (bits (l.count - l._i) l.rest)
    ≡ fed g.R.Check.WIDTH g.R.Check.GENERATOR l.initial.self.content (bits l.count l.number)
