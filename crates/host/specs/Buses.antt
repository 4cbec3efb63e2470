-- What the host's bus stands for.
use Rattle.std.specs.Prelude.{◌≡◌}
use Rattle.store.specs.declared.interface.Store as store
use Rattle.wire.specs.declared.interface.Wire as wire
use Rattle.host.specs.declared.bus.Bus.{Bus as Ends}
use Rattle.host.specs.Process.{Process, Performs, Bus, bus_of}

abbrev pub bus_seen : {W S : Type 0} → wire.Ghosts W → store.Ghosts S → Ends W S → Bus
bus_seen w s b = bus_of w s b.wire.now b.reader.now

-- code that performs a tree over a bus, whose wire and reader stay the ones that they were
abbrev pub PerformsOver : {A W S : Type 0} → wire.Ghosts W → store.Ghosts S → Process A → Ends W S → A → Ends W S → Type 0
PerformsOver w s tree before a after =
    (before.wire.ghost_name ≡ after.wire.ghost_name) × (before.reader.ghost_name ≡ after.reader.ghost_name)
    × Performs tree (bus_seen w s before) a (bus_seen w s after)
