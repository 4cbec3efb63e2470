-- The refusals of a store, each with its number, and the texts of refusals and verdicts.
use Rattle.std.specs.Prelude.{ℕ, List, ◌++◌, codes, decimal}
use Rattle.store.specs.declared.answers.StoreRefusal.{StoreRefusal}
use Rattle.store.specs.declared.answers.StoreRefusal.TheVariants.{PastTheEnd, WrongBuffer}
use Rattle.store.specs.declared.answers.Verdict.{Verdict}
use Rattle.store.specs.declared.answers.Verdict.TheVariants.{Taken, Locked, Full}

abbrev pub refusal_number : StoreRefusal → ℕ
refusal_number PastTheEnd = 11
refusal_number WrongBuffer = 12

abbrev pub refusal_text : StoreRefusal → List ℕ
refusal_text why = codes "refused " ++ decimal (refusal_number why)

abbrev pub verdict_text : Verdict → List ℕ
verdict_text Taken = codes "taken"
verdict_text Locked = codes "locked"
verdict_text Full = codes "full"
