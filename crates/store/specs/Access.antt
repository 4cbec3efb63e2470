-- What reading and writing a sector answer, and what they leave behind.
use Rattle.std.specs.Prelude.{◌≡◌, ℕ, cond, List, [], Ok, Err, Result, ◌==◌, nat_lt, slice_index_or, slice_set}
use Rattle.store.specs.declared.answers.StoreRefusal.{StoreRefusal}
use Rattle.store.specs.declared.answers.StoreRefusal.TheVariants.{PastTheEnd, WrongBuffer}
use Rattle.store.specs.declared.answers.Verdict.{Verdict}
use Rattle.store.specs.declared.answers.Verdict.TheVariants.{Taken, Locked, Full}

-- an access to a sector with a buffer of this length: refused for a sector at or past the size, then for a buffer that
-- is not 512 bytes
abbrev pub access : {X : Type 0} → (size sector buffer : ℕ) → X → Result X StoreRefusal
access size sector buffer x = cond (nat_lt sector size) (cond (buffer == 512) (Ok x) (Err WrongBuffer)) (Err PastTheEnd)

abbrev pub read_answer : (size sector buffer : ℕ) → Result (Unit {0}) StoreRefusal
read_answer size sector buffer = access size sector buffer tt

abbrev pub write_answer : (size sector buffer : ℕ) → Verdict → Result Verdict StoreRefusal
write_answer size sector buffer verdict = access size sector buffer verdict

-- the memory after a read that is answered so: the sector's bytes, or what it held
abbrev pub read_memory : Result (Unit {0}) StoreRefusal → List (List ℕ) → ℕ → List ℕ → List ℕ
read_memory (Ok done) sectors sector before = slice_index_or sectors sector []
read_memory (Err e) sectors sector before = before

-- the sectors after a write that is answered so
abbrev pub write_sectors : Result Verdict StoreRefusal → List (List ℕ) → ℕ → List ℕ → List (List ℕ)
write_sectors (Ok Taken) before sector bytes = slice_set before sector bytes
write_sectors (Ok Locked) before sector bytes = before
write_sectors (Ok Full) before sector bytes = before
write_sectors (Err e) before sector bytes = before

abbrev pub SameVerdicts : (before after : ℕ → List ℕ → Verdict) → Type 0
SameVerdicts before after = (i : ℕ) (bytes : List ℕ) → after i bytes ≡ before i bytes

-- a write that is answered so keeps the verdicts on later writes, but for one that is taken: what a store says then is
-- its own affair
abbrev pub VerdictsKept : Result Verdict StoreRefusal → (before after : ℕ → List ℕ → Verdict) → Type 0
VerdictsKept (Ok Taken) before after = Unit {0}
VerdictsKept (Ok Locked) before after = SameVerdicts before after
VerdictsKept (Ok Full) before after = SameVerdicts before after
VerdictsKept (Err e) before after = SameVerdicts before after
