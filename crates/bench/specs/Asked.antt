-- What the arguments ask for.
use Rattle.std.specs.Prelude.{Bool, List, string_bytes, codes, String}
use Rattle.std.specs.declared.alloc.Global.{Global}
use Rattle.std.specs.List.{list_any}
use Rattle.std.specs.Str.{bytes_eq}

abbrev pub help_asked : List (String Global) → Bool
help_asked words = list_any (λ word. bytes_eq (string_bytes word) (codes "--help")) words
