use Rattle.std.proofs.Common.{◌≡◌, ◌++◌, drop, string_bytes}
use Rattle.script.specs.Hex.{after_blanks}
use Rattle.script.proofs.hex.show_bytes.Given as goal

-- the text so far, and what is still to come
abbrev pub invariant-loop-byte : goal.invariant-loop-byte
invariant-loop-byte l = string_bytes l.text ++ after_blanks (drop l.byte-index l.rest) ≡ string_bytes l.initial.text ++ after_blanks l.rest
