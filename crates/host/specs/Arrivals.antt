-- What an IN is answered, as the code holds it.
use Rattle.host.specs.declared.judging.Arrival.{Arrival}
use Rattle.host.specs.declared.judging.Arrival.TheVariants.{New, Repeat, Stalled, Failed}
use Rattle.packet.specs.Bodies.{held}
use Rattle.host.specs.Tries.{Fetch, new, repeated, stall, failed}

abbrev pub arrival_seen : Arrival → Fetch
arrival_seen (New body) = new (held body)
arrival_seen Repeat = repeated
arrival_seen Stalled = stall
arrival_seen (Failed cause) = failed cause
