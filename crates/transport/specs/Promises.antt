-- What is promised of the formats as a whole, over the definitions that the contracts of building and reading cite.
use Rattle.std.specs.Prelude.{◌≡◌, ℕ, ◌^◌, ◌<◌, ◌≤◌, true, List, [], ◌∷◌, length, replicate, Some, Ok, Err, Result, slice_set}
use Rattle.transport.specs.declared.blocks.CommandBlock.{CommandBlock}
use Rattle.transport.specs.declared.blocks.DataDirection.{DataDirection}
use Rattle.transport.specs.declared.blocks.DataDirection.TheVariants.{In, Out}
use Rattle.transport.specs.declared.commands.Command.{Command}
use Rattle.transport.specs.declared.commands.Command.TheVariants.{Test, Capacity, Read, Write}
use Rattle.transport.specs.declared.refusals.TransportRefusal.{TransportRefusal}
use Rattle.transport.specs.declared.statuses.Status.TheVariants.{Passed}
use Rattle.transport.specs.declared.statuses.StatusBlock.{StatusBlock}
use Rattle.transport.specs.Blocks.{block_bytes, block_read, can_be_sent}
use Rattle.transport.specs.Capacity.{capacity_bytes, capacity_of}
use Rattle.transport.specs.Commands.{command_bytes, command_of, command_size}
use Rattle.transport.specs.Refusals.{refusal_number}
use Rattle.transport.specs.Statuses.{status_bytes, status_read}

-- each number of the list is a byte
abbrev pub Bytes : List ℕ → Type 0
Bytes [] = Unit {0}
Bytes (b ∷ bs) = (b < 256) × Bytes bs

-- every part of a command block fits its field
pub record BlockFits (b : CommandBlock) : Type 0 where
  pub narrow_tag : b.tag < 2 ^ 32
  pub narrow_length : b.length < 2 ^ 32
  pub sendable : can_be_sent b ≡ true
  pub whole_command : length b.command ≡ 16

-- every part of a status block fits its field, and no more is left over than was to move
pub record StatusFits (s : StatusBlock) (most : ℕ) : Type 0 where
  pub narrow_tag : s.tag < 2 ^ 32
  pub narrow_residue : s.residue < 2 ^ 32
  pub small_residue : s.residue ≤ most

abbrev pub CommandFits : Command → Type 0
CommandFits Test = Unit {0}
CommandFits Capacity = Unit {0}
CommandFits (Read place many) = (place < 2 ^ 32) × (many < 2 ^ 16)
CommandFits (Write place many) = (place < 2 ^ 32) × (many < 2 ^ 16)

abbrev pub ReadingABuiltCommandBlockReturnsIt : Type 0
ReadingABuiltCommandBlockReturnsIt = (b : CommandBlock) → BlockFits b → block_read (block_bytes b) ≡ Ok b

abbrev pub OnlyBuiltCommandBlocksAreAccepted : Type 0
OnlyBuiltCommandBlocksAreAccepted = (bytes : List ℕ) (b : CommandBlock) → Bytes bytes → block_read bytes ≡ Ok b → BlockFits b × (bytes ≡ block_bytes b)

abbrev pub ReadingABuiltStatusBlockReturnsIt : Type 0
ReadingABuiltStatusBlockReturnsIt = (s : StatusBlock) (most : ℕ) → StatusFits s most → status_read (status_bytes s) s.tag most ≡ Ok s

abbrev pub OnlyBuiltStatusBlocksAreAccepted : Type 0
OnlyBuiltStatusBlocksAreAccepted =
    (bytes : List ℕ) (expected most : ℕ) (s : StatusBlock) → Bytes bytes → status_read bytes expected most ≡ Ok s → StatusFits s most × (s.tag ≡ expected) × (bytes ≡ status_bytes s)

abbrev pub ReadingABuiltCommandReturnsIt : Type 0
ReadingABuiltCommandReturnsIt = (k : Command) → CommandFits k → command_of (command_bytes k) ≡ Some k

-- the block by which a command is sent
abbrev pub sent : ℕ → ℕ → DataDirection → Command → CommandBlock
sent number moves way k = record { tag = number; length = moves; direction = way; command_length = command_size k; command = command_bytes k }

abbrev pub EveryCommandFitsABlock : Type 0
EveryCommandFitsABlock = (number moves : ℕ) (way : DataDirection) (k : Command) → number < 2 ^ 32 → moves < 2 ^ 32 → BlockFits (sent number moves way k)

abbrev pub ReadingABuiltCapacityReturnsTheSize : Type 0
ReadingABuiltCapacityReturnsTheSize = (n : ℕ) → 1 ≤ n → n ≤ 65536 → capacity_of (capacity_bytes n) ≡ Some n

-- the bytes of the block that is read, or the refusal's number
abbrev pub shown_block : Result CommandBlock TransportRefusal → List ℕ
shown_block (Ok b) = block_bytes b
shown_block (Err why) = refusal_number why ∷ []

abbrev pub shown_status : Result StatusBlock TransportRefusal → List ℕ
shown_status (Ok s) = status_bytes s
shown_status (Err why) = refusal_number why ∷ []

-- the end of the command with this tag, all of its data moved
abbrev pub passed : ℕ → StatusBlock
passed number = record { tag = number; residue = 0; status = Passed }

abbrev pub worked : List (List ℕ)
worked =
    block_bytes (sent 1 0 Out Test)
    ∷ block_bytes (sent 2 8 In Capacity)
    ∷ block_bytes (sent 3 1024 In (Read 5 2))
    ∷ status_bytes (passed 1)
    ∷ capacity_bytes 100
    ∷ shown_block (block_read (slice_set (block_bytes (sent 1 0 Out Test)) 13 1))
    ∷ shown_status (status_read (replicate 12 0) 1 0)
    ∷ shown_status (status_read (status_bytes (passed 2)) 1 0)
    ∷ shown_status (status_read (slice_set (status_bytes (passed 1)) 12 3) 1 0)
    ∷ []

abbrev pub given : List (List ℕ)
given =
    (0x55 ∷ 0x53 ∷ 0x42 ∷ 0x43 ∷ 0x01 ∷ 0x00 ∷ 0x00 ∷ 0x00 ∷ 0x00 ∷ 0x00 ∷ 0x00 ∷ 0x00 ∷ 0x00 ∷ 0x00 ∷ 0x06 ∷ replicate 16 0x00)
    ∷ (0x55 ∷ 0x53 ∷ 0x42 ∷ 0x43 ∷ 0x02 ∷ 0x00 ∷ 0x00 ∷ 0x00 ∷ 0x08 ∷ 0x00 ∷ 0x00 ∷ 0x00 ∷ 0x80 ∷ 0x00 ∷ 0x0a ∷ 0x25 ∷ replicate 15 0x00)
    ∷ (0x55 ∷ 0x53 ∷ 0x42 ∷ 0x43 ∷ 0x03 ∷ 0x00 ∷ 0x00 ∷ 0x00 ∷ 0x00 ∷ 0x04 ∷ 0x00 ∷ 0x00 ∷ 0x80 ∷ 0x00 ∷ 0x0a ∷ 0x28 ∷ 0x00 ∷ 0x00 ∷ 0x00 ∷ 0x00 ∷ 0x05 ∷ 0x00 ∷ 0x00 ∷ 0x02 ∷ replicate 7 0x00)
    ∷ (0x55 ∷ 0x53 ∷ 0x42 ∷ 0x53 ∷ 0x01 ∷ 0x00 ∷ 0x00 ∷ 0x00 ∷ 0x00 ∷ 0x00 ∷ 0x00 ∷ 0x00 ∷ 0x00 ∷ [])
    ∷ (0x00 ∷ 0x00 ∷ 0x00 ∷ 0x63 ∷ 0x00 ∷ 0x00 ∷ 0x02 ∷ 0x00 ∷ [])
    ∷ (30 ∷ [])
    ∷ (33 ∷ [])
    ∷ (34 ∷ [])
    ∷ (35 ∷ [])
    ∷ []

abbrev pub TheWorkedCasesComeOut : Type 0
TheWorkedCasesComeOut = worked ≡ given
