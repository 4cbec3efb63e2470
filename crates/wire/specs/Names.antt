-- The port by its two names.
use Rattle.std.specs.Prelude.{ℕ, List, codes}
use Rattle.wire.specs.declared.hub.Port.{Port}
use Rattle.wire.specs.declared.hub.Port.TheVariants.{Open, Closed}

abbrev pub port_name : Port → List ℕ
port_name Open = codes "open"
port_name Closed = codes "closed"
