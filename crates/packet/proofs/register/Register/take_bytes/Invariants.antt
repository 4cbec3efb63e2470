use Rattle.std.proofs.Common.{◌≡◌, drop}
use Rattle.packet.specs.Bits.{bits_of}
use Rattle.packet.specs.Registers.{fed}
use Rattle.packet.proofs.register.Register.take_bytes.Given as goal

-- what is left to take leads to the same end
abbrev pub invariant-loop-byte : goal.invariant-loop-byte
invariant-loop-byte g l =
    fed g.R.Check.WIDTH g.R.Check.GENERATOR l.self.content (bits_of (drop l.byte-index l.bytes))
    ≡ fed g.R.Check.WIDTH g.R.Check.GENERATOR l.initial.self.content (bits_of l.bytes)
