use Rattle.std.proofs.Common.{◌≡◌, drop}
use Rattle.script.specs.Names.{named_among}
use Rattle.script.proofs.name.named.Given as goal

abbrev pub invariant-loop-name : goal.invariant-loop-name
invariant-loop-name g l = named_among l.word (drop l.name-index l.table) l.otherwise ≡ named_among l.fn.word l.fn.table l.otherwise
