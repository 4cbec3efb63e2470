-- The tokens of the pipes that the host uses.
use Rattle.std.specs.Prelude.{ℕ}
use Rattle.packet.specs.declared.kind.TokenKind.TheVariants.{Out, In, Setup}
use Rattle.packet.specs.Parts.{Parts, token}
use Rattle.host.specs.declared.pipe.Address.{Address}
use Rattle.host.specs.declared.pipe.Address.TheVariants.{Default, Assigned}
use Rattle.host.specs.declared.pipe.Pipe.{Pipe}
use Rattle.host.specs.declared.pipe.Pipe.TheVariants.{Control, Bulk}

abbrev pub address_number : Address → ℕ
address_number Default = 0
address_number Assigned = 1

abbrev pub out_token : Pipe → Parts
out_token (Control a) = token Setup (address_number a) 0
out_token Bulk = token Out 1 2

abbrev pub in_token : Pipe → Parts
in_token (Control a) = token In (address_number a) 0
in_token Bulk = token In 1 1
