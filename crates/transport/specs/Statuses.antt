-- Status blocks: their 13 bytes, and what bytes are read as against an expected tag and length.
use Rattle.std.specs.Prelude.{ℕ, Bool, cond, ◌&&◌, List, [], ◌∷◌, ◌++◌, length, Ok, Err, Result, ◌==◌, nat_le, slice_index}
use Rattle.transport.specs.declared.refusals.TransportRefusal.{TransportRefusal}
use Rattle.transport.specs.declared.refusals.TransportRefusal.TheVariants.{BadStatusBlock, WrongTag, BadStatus}
use Rattle.transport.specs.declared.statuses.Status.{Status}
use Rattle.transport.specs.declared.statuses.Status.TheVariants.{Passed, Failed, PhaseError}
use Rattle.transport.specs.declared.statuses.StatusBlock.{StatusBlock}
use Rattle.transport.specs.Numbers.{low_first, low_first_at}

-- what a status block begins with, low byte first: the letters USBS
abbrev pub status_signature : ℕ
status_signature = 0x53425355

abbrev pub status_number : Status → ℕ
status_number Passed = 0
status_number Failed = 1
status_number PhaseError = 2

-- the status with a number up to 2
abbrev pub status_of : ℕ → Status
status_of n = cond (n == 0) Passed (cond (n == 1) Failed PhaseError)

-- the status that a byte says, if it says one
abbrev pub status_said : ℕ → Result Status TransportRefusal
status_said n = cond (nat_le n 2) (Ok (status_of n)) (Err BadStatus)

-- the bytes of a block
unfoldable pub status_bytes : StatusBlock → List ℕ
status_bytes s = low_first status_signature ++ (low_first s.tag ++ (low_first s.residue ++ (status_number s.status ∷ [])))

-- the block in bytes that are one
abbrev pub status_in : List ℕ → StatusBlock
status_in bs = record { tag = low_first_at bs 4; residue = low_first_at bs 8; status = status_of (slice_index bs 12) }

-- bytes are a status block by their number and signature
abbrev pub is_status : List ℕ → Bool
is_status bs = length bs == 13 && low_first_at bs 0 == status_signature

-- no more bytes are left over than were to move, and the status is known
abbrev pub is_sound : List ℕ → ℕ → Bool
is_sound bs most = nat_le (low_first_at bs 8) most && nat_le (slice_index bs 12) 2

-- what the bytes are, for a command with this tag that was to move so many bytes
unfoldable pub status_read : List ℕ → ℕ → ℕ → Result StatusBlock TransportRefusal
status_read bs expected most =
    cond (is_status bs)
    (cond (low_first_at bs 4 == expected) (cond (is_sound bs most) (Ok (status_in bs)) (Err BadStatus)) (Err WrongTag))
    (Err BadStatusBlock)
