-- The refusals of reading and building, each with its number.
use Rattle.std.specs.Prelude.{ℕ, List, ◌++◌, codes, decimal}
use Rattle.packet.specs.declared.refusal.Refusal.{Refusal}
use Rattle.packet.specs.declared.refusal.Refusal.TheVariants.{NoBytes, WrongComplement, UnknownKind, WrongLength, TooWide, WrongCheck}

abbrev pub refusal_number : Refusal → ℕ
refusal_number NoBytes = 20
refusal_number WrongComplement = 21
refusal_number UnknownKind = 22
refusal_number WrongLength = 23
refusal_number TooWide = 23
refusal_number WrongCheck = 24

-- the text of a refusal with this number
abbrev pub refused_text : ℕ → List ℕ
refused_text n = codes "refused " ++ decimal n
