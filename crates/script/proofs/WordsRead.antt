-- Words read as values, one more at a time.
use Rattle.std.proofs.Common.{List, ◌++◌, Ok, Err, Result}
use Rattle.script.specs.declared.misread.Misread.{Misread}

-- values that were read, before those that will be
abbrev pub before : {X : Type 0} → List X → Result (List X) Misread → Result (List X) Misread
before read (Ok bs) = Ok (read ++ bs)
before read (Err why) = Err why
