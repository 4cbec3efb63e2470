-- Why a line is not understood, in words.
use Rattle.std.specs.Prelude.{ℕ, List, Ok, Err, codes, Result}
use Rattle.script.specs.declared.misread.Misread.{Misread}
use Rattle.script.specs.declared.misread.ReadError.{ReadError}
use Rattle.script.specs.declared.misread.ReadError.TheVariants.{Misread as NotUnderstood, Memory}
use Rattle.script.specs.declared.misread.Misread.TheVariants.{UnknownStep, UnknownKind, NotACable, NotAPort, NotADirection, NotAByte, NotANumber, MissingWord, ExtraWord}

abbrev pub misread_text : Misread → List ℕ
misread_text UnknownStep = codes "no step has this name"
misread_text UnknownKind = codes "no packet of this sort has this kind"
misread_text NotACable = codes "a cable is 1 or 2"
misread_text NotAPort = codes "a port is open or closed"
misread_text NotADirection = codes "bytes go outward or homeward"
misread_text NotAByte = codes "a byte is two hexadecimal digits in lower case"
misread_text NotANumber = codes "a number is decimal digits"
misread_text MissingWord = codes "a word is missing"
misread_text ExtraWord = codes "a word too many"

-- this holds of what is read or not understood; want of memory claims nothing
abbrev pub IfRead : {X : Type 0} → Result X ReadError → (Result X Misread → Type 0) → Type 0
IfRead (Ok x) P = P (Ok x)
IfRead (Err (NotUnderstood why)) P = P (Err why)
IfRead (Err (Memory error)) P = Unit {0}
