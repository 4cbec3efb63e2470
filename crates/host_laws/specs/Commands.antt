-- A command over ends that are in step, whatever is spoiled: passed, failed or given up. If it passed or failed the ends
-- are in step again; if it was given up, three packets at least were spoiled.
use Rattle.std.specs.Prelude.{◌≡◌, ℕ, zero, suc, ◌+◌, ◌*◌, ◌^◌, ◌<◌, ◌≤◌, List, [], ◌∷◌, length, take, drop, Ok, Err, Result, ◌≢◌, slice_set}
use Rattle.reader.specs.Disk.{Disk, all_bytes}
use Rattle.reader.specs.State.{State}
use Rattle.store.specs.declared.answers.Verdict.TheVariants.{Taken}
use Rattle.host.specs.declared.fault.Fault.{Fault}
use Rattle.transport.specs.declared.toggles.Toggles.{Toggles}
use Rattle.host.specs.Commands.{Outcome, command_failed, Concluded, ConductedIn, tests, asks_capacity, reads, writes}
use Rattle.host.specs.Process.{World, Runs}
use Rattle.host_laws.specs.Deliveries.{world}
use Rattle.host_laws.specs.InStep.{Attached, InStep, Sound}

-- a test passes, and leaves the disk alone
pub data Tested (d : Disk) (from : ℕ) : Concluded → World → Type 0 where
  passed : (n : ℕ) (s : State) (t : Toggles) → from ≤ n → InStep t s → Tested d from (Ok (Ok tt), t) (world n s d)
  given_up : (n : ℕ) (s : State) (fault : Fault) (t : Toggles) → Attached s → from + 3 ≤ n → Tested d from (Err fault, t) (world n s d)

abbrev pub ATestPassesOrIsPaidFor : Type 0
ATestPassesOrIsPaidFor =
    (tag : ℕ) (t : Toggles) (s : State) (d : Disk) (from : ℕ) → tag < 2 ^ 32 → Sound d → InStep t s
    → (r : Concluded) (w' : World) → Runs (tests tag t) (world from s d) r w' → Tested d from r w'

-- a capacity passes with the disk's size
pub data Sized (d : Disk) (from : ℕ) : Result (Outcome ℕ) Fault × Toggles → World → Type 0 where
  passed : (n : ℕ) (s : State) (t : Toggles) → from ≤ n → InStep t s → Sized d from (Ok (Ok d.size), t) (world n s d)
  given_up : (n : ℕ) (s : State) (fault : Fault) (t : Toggles) → Attached s → from + 3 ≤ n → Sized d from (Err fault, t) (world n s d)

abbrev pub ACapacityIsTheSizeOrIsPaidFor : Type 0
ACapacityIsTheSizeOrIsPaidFor =
    (tag : ℕ) (t : Toggles) (s : State) (d : Disk) (from : ℕ) → tag < 2 ^ 32 → Sound d → InStep t s
    → (r : Result (Outcome ℕ) Fault × Toggles) (w' : World) → Runs (asks_capacity tag t) (world from s d) r w' → Sized d from r w'

-- a read passes with the bytes of its sectors, or fails because it reaches past the size
pub data HasRead (sector count : ℕ) (d : Disk) (from : ℕ) : ConductedIn → World → Type 0 where
  passed : (n : ℕ) (s : State) (t : Toggles) → from ≤ n → InStep t s → sector + count ≤ d.size
      → HasRead sector count d from (Ok (Ok tt), t, all_bytes (take count (drop sector d.sectors))) (world n s d)
  failed : (n : ℕ) (s : State) (t : Toggles) (buffer : List ℕ) → from ≤ n → InStep t s → d.size < sector + count
      → HasRead sector count d from (Ok (Err (command_failed (count * 512))), t, buffer) (world n s d)
  given_up : (n : ℕ) (s : State) (fault : Fault) (t : Toggles) (buffer : List ℕ) → length buffer ≡ count * 512 → Attached s → from + 3 ≤ n → HasRead sector count d from (Err fault, t, buffer) (world n s d)

abbrev pub AReadHasTheSectorsOrIsPaidFor : Type 0
AReadHasTheSectorsOrIsPaidFor =
    (tag sector count : ℕ) (t : Toggles) (buffer : List ℕ) (s : State) (d : Disk) (from : ℕ) → tag < 2 ^ 32 → sector < 2 ^ 32 → 1 ≤ count → count ≤ 128 → length buffer ≡ count * 512 → Sound d → InStep t s
    → (r : ConductedIn) (w' : World) → Runs (reads tag sector count t buffer) (world from s d) r w' → HasRead sector count d from r w'

-- the first so many sectors in a list of bytes
abbrev pub sectors_in : ℕ → List ℕ → List (List ℕ)
sectors_in zero bytes = []
sectors_in (suc k) bytes = take 512 bytes ∷ sectors_in k (drop 512 bytes)

-- sectors with others put over them from a place on
abbrev pub put_over : ℕ → List (List ℕ) → List (List ℕ) → List (List ℕ)
put_over place [] sectors = sectors
put_over place (x ∷ xs) sectors = put_over (place + 1) xs (slice_set sectors place x)

-- the disk with the first so many sectors of the bytes put there
pub record Put (k sector : ℕ) (bytes : List ℕ) (d d' : Disk) : Type 0 where
  pub size : d'.size ≡ d.size
  pub sectors : d'.sectors ≡ put_over sector (sectors_in k bytes) d.sectors

-- why a write failed after so many sectors: it reaches past the size, or the store would not take the next sector
pub data WhyFailed (k sector count : ℕ) (bytes : List ℕ) (d d' : Disk) : Type 0 where
  past_the_size : k ≡ 0 → d.size < sector + count → WhyFailed k sector count bytes d d'
  not_taken : k < count → sector + count ≤ d.size → (d'.verdict (sector + k) (take 512 (drop (k * 512) bytes)) ≢ Taken) → WhyFailed k sector count bytes d d'

-- a write passes with all its sectors put, fails with so many of the first, or is given up with a leading run of them
pub data HasWritten (sector count : ℕ) (bytes : List ℕ) (d : Disk) (from : ℕ) : Concluded → World → Type 0 where
  passed : (n : ℕ) (s : State) (t : Toggles) (d' : Disk) → from ≤ n → InStep t s → sector + count ≤ d.size → Put count sector bytes d d'
      → HasWritten sector count bytes d from (Ok (Ok tt), t) (world n s d')
  failed : (n : ℕ) (s : State) (t : Toggles) (d' : Disk) (k residue : ℕ) → from ≤ n → InStep t s → residue + k * 512 ≡ count * 512 → Put k sector bytes d d' → WhyFailed k sector count bytes d d'
      → HasWritten sector count bytes d from (Ok (Err (command_failed residue)), t) (world n s d')
  given_up : (n : ℕ) (s : State) (fault : Fault) (t : Toggles) (d' : Disk) (k : ℕ) → k ≤ count → Put k sector bytes d d' → Attached s → from + 3 ≤ n
      → HasWritten sector count bytes d from (Err fault, t) (world n s d')

abbrev pub AWritePutsItsSectorsOrIsPaidFor : Type 0
AWritePutsItsSectorsOrIsPaidFor =
    (tag sector count : ℕ) (bytes : List ℕ) (t : Toggles) (s : State) (d : Disk) (from : ℕ) → tag < 2 ^ 32 → sector < 2 ^ 32 → 1 ≤ count → count ≤ 128 → length bytes ≡ count * 512 → Sound d → InStep t s
    → (r : Concluded) (w' : World) → Runs (writes tag sector count bytes t) (world from s d) r w' → HasWritten sector count bytes d from r w'
