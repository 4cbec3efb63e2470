-- Reading a built command returns it, and every command fits a block.
use Rattle.std.proofs.Common.{◌≡◌, true, ◌&&◌, nat_le, length, Some, refl}
use Rattle.transport.specs.declared.commands.Command.{Command}
use Rattle.transport.specs.declared.commands.Command.TheVariants.{Test, Capacity, Read, Write}
use Rattle.transport.specs.Commands.{command_bytes, command_of, command_size}
use Rattle.transport.specs.Promises.{ReadingABuiltCommandReturnsIt, EveryCommandFitsABlock}
use Rattle.transport.proofs.Bytes.{high_first_back, two_high_first_back}

pub reading_a_built_command_returns_it : ReadingABuiltCommandReturnsIt
unfolding command_bytes command_of
reading_a_built_command_returns_it Test fits = refl
reading_a_built_command_returns_it Capacity fits = refl
reading_a_built_command_returns_it (Read place many) fits = λ i. Some (Read (high_first_back place fits.0 i) (two_high_first_back many fits.1 i))
reading_a_built_command_returns_it (Write place many) fits = λ i. Some (Write (high_first_back place fits.0 i) (two_high_first_back many fits.1 i))

sixteen : (k : Command) → length (command_bytes k) ≡ 16
unfolding command_bytes
sixteen Test = refl
sixteen Capacity = refl
sixteen (Read place many) = refl
sixteen (Write place many) = refl

sizes : (k : Command) → (nat_le 1 (command_size k) && nat_le (command_size k) 16) ≡ true
sizes Test = refl
sizes Capacity = refl
sizes (Read place many) = refl
sizes (Write place many) = refl

pub every_command_fits_a_block : EveryCommandFitsABlock
every_command_fits_a_block number moves way k tag long = record { narrow_tag = tag; narrow_length = long; sendable = sizes k; whole_command = sixteen k }
