use Rattle.std.proofs.Common.{take}
use Rattle.std.specs.Fmt.{HasWritten, IsPlainFormatter}
use Rattle.script.specs.Hex.{after_blanks}
use Rattle.script.proofs.hex.HexDisplay.fmt.Given as goal

-- the bytes that were written since the loop began
abbrev pub invariant-loop-byte : goal.invariant-loop-byte
invariant-loop-byte g l =
    IsPlainFormatter l.initial.f → HasWritten g.W.Write.write_str_gives l.initial.f (after_blanks (take l.byte-index l.rest)) l.f
