-- What a hub does: bytes pass its two wires in turn, behind a port.
use Rattle.std.specs.Prelude.{◌≡◌, ℕ, List, []}
use Rattle.wire.specs.declared.hub.Hub.{Hub}
use Rattle.wire.specs.declared.hub.Port.{Port}
use Rattle.wire.specs.declared.hub.Port.TheVariants.{Open, Closed}
use Rattle.wire.specs.declared.interface.Direction.{Direction}
use Rattle.wire.specs.declared.interface.Direction.TheVariants.{Outward, Homeward}
use Rattle.wire.specs.Carrying.{Carried, Carries, laid}

-- bytes pass the nearer wire, and what arrives there the farther one; each wire's tally is told before and after
abbrev pub Through : List ℕ → ℕ → ℕ → ℕ → ℕ → ℕ → List ℕ → Type 0
Through sent near near' far far' count memory = (middle : List ℕ) × Carried sent near middle near' × Carries middle far count memory far'

-- outward the first wire is the nearer, homeward the second
abbrev pub Passes : Direction → List ℕ → (first first' second second' : ℕ) → ℕ → List ℕ → Type 0
Passes Outward sent first first' second second' count memory = Through sent first first' second second' count memory
Passes Homeward sent first first' second second' count memory = Through sent second second' first first' count memory

-- a closed port lets nothing arrive and uses neither wire
abbrev pub ByPort : {F S : Type 0} → (F → ℕ) → (S → ℕ) → Port → Direction → List ℕ → F → F → S → S → ℕ → List ℕ → Type 0
ByPort f s Open direction sent first first' second second' count memory = Passes direction sent (f first) (f first') (s second) (s second') count memory
ByPort f s Closed direction sent first first' second second' count memory = (first' ≡ first) × (second' ≡ second) × (count ≡ 0) × (memory ≡ laid [])

-- a hub with one of its parts replaced
abbrev pub with_first : {F S : Type 0} → F → Hub F S → Hub F S
with_first first hub = record { first = first; second = hub.second; port = hub.port; tally = hub.tally }

abbrev pub with_second : {F S : Type 0} → S → Hub F S → Hub F S
with_second second hub = record { first = hub.first; second = second; port = hub.port; tally = hub.tally }

abbrev pub with_port : {F S : Type 0} → Port → Hub F S → Hub F S
with_port port hub = record { first = hub.first; second = hub.second; port = port; tally = hub.tally }

abbrev pub with_tally : {F S : Type 0} → ℕ → Hub F S → Hub F S
with_tally tally hub = record { first = hub.first; second = hub.second; port = hub.port; tally = tally }
