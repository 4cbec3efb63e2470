-- The meaning of a store, as the reader's definition takes it, and how an arrival leaves it.
use Rattle.std.specs.Prelude.{◌≡◌, ℕ, List, [], ◌∷◌, ◌++◌, Some, None, Option, slice_set}
use Rattle.store.specs.declared.answers.Verdict.{Verdict}
use Rattle.store.specs.declared.interface.Store.{Ghosts}

pub record Disk : Type 0 where
  pub size : ℕ
  pub sectors : List (List ℕ)
  pub verdict : ℕ → List ℕ → Verdict

-- a store by its ghost members
abbrev pub disk_of : {S : Type 0} → Ghosts S → S → Disk
disk_of g s = record { size = g.size s; sectors = g.sectors s; verdict = g.verdict s }

-- the bytes of sectors, one after another
unfoldable pub all_bytes : List (List ℕ) → List ℕ
all_bytes [] = []
all_bytes (s ∷ ss) = s ++ all_bytes ss

-- a sector and the bytes that were put there
abbrev pub Written : Type 0
Written = Option (ℕ × List ℕ)

-- one sector is written, or the disk keeps its meaning
abbrev pub Left : Written → Disk → Disk → Type 0
Left None before after = (after.size ≡ before.size) × (after.sectors ≡ before.sectors) × ((i : ℕ) (bytes : List ℕ) → after.verdict i bytes ≡ before.verdict i bytes)
Left (Some w) before after = (after.size ≡ before.size) × (after.sectors ≡ slice_set before.sectors w.0 w.1)
