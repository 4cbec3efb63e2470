use Rattle.std.proofs.Common.{sym, ap, ◌∙◌}
use Rattle.packet.specs.Bits.{bits}
use Rattle.packet.specs.Registers.{finished}
use Rattle.packet.proofs.Feeding.{fed_append}
use Rattle.packet.proofs.check.token_check.Goals as goal

pub returns-clause-check : goal.returns-clause-check
returns-clause-check c =
    c.check.ensures.check
    ∙ ap (finished 5) (rw (c.take_low_bits-2.ensures, c.take_low_bits.ensures, c.new-register.ensures) (sym (fed_append 5 0x05 31 (bits 7 c.args.address) (bits 4 c.args.endpoint))))
