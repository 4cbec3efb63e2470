-- A plain disk: the sectors that its memory holds, and the memory after a write.
use Rattle.std.specs.Prelude.{ℕ, zero, suc, ◌+◌, ◌*◌, ◌/◌, min, cond, List, [], ◌∷◌, ◌++◌, length, take, drop, replicate, Ok, Err, Result, nat_lt}
use Rattle.store.specs.declared.answers.StoreRefusal.{StoreRefusal}
use Rattle.store.specs.declared.answers.Verdict.{Verdict}
use Rattle.store.specs.declared.answers.Verdict.TheVariants.{Taken, Locked, Full}

-- a blank sector: 512 zeros
unfoldable pub blank : List ℕ
blank = replicate 512 0

-- so many sectors of 512 bytes from the front of a memory
unfoldable pub whole : ℕ → List ℕ → List (List ℕ)
whole zero memory = []
whole (suc n) memory = take 512 memory ∷ whole n (drop 512 memory)

-- the whole sectors of a memory, at most 65,536; a memory below one sector stands for a blank one
abbrev pub plain_size : List ℕ → ℕ
plain_size memory = cond (nat_lt (length memory) 512) 1 (min (length memory / 512) 65536)

abbrev pub plain_sectors : List ℕ → List (List ℕ)
plain_sectors memory = cond (nat_lt (length memory) 512) (blank ∷ []) (whole (min (length memory / 512) 65536) memory)

-- a blank sector is locked, and everything else is taken
abbrev pub plain_verdict : List ℕ → Verdict
plain_verdict memory = cond (nat_lt (length memory) 512) Locked Taken

-- a memory with these bytes in place of its own, from this place on
unfoldable pub overlaid : List ℕ → ℕ → List ℕ → List ℕ
overlaid memory start bytes = take start memory ++ (bytes ++ drop (start + length bytes) memory)

-- the memory after a write that is answered so: every byte outside the sector stays, spare ones too
abbrev pub plain_memory : Result Verdict StoreRefusal → List ℕ → ℕ → List ℕ → List ℕ
plain_memory (Ok Taken) before sector bytes = overlaid before (sector * 512) bytes
plain_memory (Ok Locked) before sector bytes = before
plain_memory (Ok Full) before sector bytes = before
plain_memory (Err e) before sector bytes = before
