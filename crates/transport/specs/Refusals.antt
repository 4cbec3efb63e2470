-- The refusals of blocks, each with its number and its text.
use Rattle.std.specs.Prelude.{ℕ, List, ◌++◌, codes, decimal}
use Rattle.transport.specs.declared.refusals.TransportRefusal.{TransportRefusal}
use Rattle.transport.specs.declared.refusals.TransportRefusal.TheVariants.{BadCommandBlock, BadStatusBlock, WrongTag, BadStatus}

abbrev pub refusal_number : TransportRefusal → ℕ
refusal_number BadCommandBlock = 30
refusal_number BadStatusBlock = 33
refusal_number WrongTag = 34
refusal_number BadStatus = 35

abbrev pub refusal_text : TransportRefusal → List ℕ
refusal_text why = codes "refused " ++ decimal (refusal_number why)
