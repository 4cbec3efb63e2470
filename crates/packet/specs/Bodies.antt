-- A body that is held by itself, as the bytes in front of its memory.
use Rattle.std.specs.Prelude.{ℕ, List, take}
use Rattle.packet.specs.declared.body.Body.{Body}

abbrev pub held : Body → List ℕ
held b = take b.length b.bytes
