-- Command blocks: their 31 bytes, and what bytes are read as.
use Rattle.std.specs.Prelude.{ℕ, Bool, cond, ◌&&◌, ◌||◌, List, ◌∷◌, ◌++◌, length, take, drop, Ok, Err, Result, ◌==◌, nat_le, slice_index}
use Rattle.transport.specs.declared.blocks.CommandBlock.{CommandBlock}
use Rattle.transport.specs.declared.blocks.DataDirection.{DataDirection}
use Rattle.transport.specs.declared.blocks.DataDirection.TheVariants.{In, Out}
use Rattle.transport.specs.declared.refusals.TransportRefusal.{TransportRefusal}
use Rattle.transport.specs.declared.refusals.TransportRefusal.TheVariants.{BadCommandBlock}
use Rattle.transport.specs.Numbers.{low_first, low_first_at}

-- what a command block begins with, low byte first: the letters USBC
abbrev pub block_signature : ℕ
block_signature = 0x43425355

-- the byte that says which way the data go
abbrev pub flags : DataDirection → ℕ
flags In = 0x80
flags Out = 0x00

abbrev pub direction_of : ℕ → DataDirection
direction_of f = cond (f == 0x80) In Out

-- the direction that a byte says, if it is one of those two
abbrev pub direction_said : ℕ → Result DataDirection TransportRefusal
direction_said f = cond (f == 0x80 || f == 0x00) (Ok (direction_of f)) (Err BadCommandBlock)

-- the bytes of a block; the 0 after the flags is the unit
unfoldable pub block_bytes : CommandBlock → List ℕ
block_bytes b =
    low_first block_signature ++ (low_first b.tag ++ (low_first b.length ++ (flags b.direction ∷ 0 ∷ b.command_length ∷ b.command)))

-- a command has 1 to 16 bytes
abbrev pub can_be_sent : CommandBlock → Bool
can_be_sent b = nat_le 1 b.command_length && nat_le b.command_length 16

-- what building answers
abbrev pub block_answer : CommandBlock → Result (Unit {0}) TransportRefusal
block_answer b = cond (can_be_sent b) (Ok tt) (Err BadCommandBlock)

-- what the 31 bytes of memory hold then: the block, or what they held before
abbrev pub block_memory : CommandBlock → List ℕ → List ℕ
block_memory b before = cond (can_be_sent b) (block_bytes b) before

-- bytes are a block by their number, signature, flags, unit and command length
abbrev pub is_block : List ℕ → Bool
is_block bs =
    (length bs == 31)
    && low_first_at bs 0 == block_signature
    && (slice_index bs 12 == 0x80 || slice_index bs 12 == 0x00)
    && slice_index bs 13 == 0
    && nat_le 1 (slice_index bs 14)
    && nat_le (slice_index bs 14) 16

-- the block in bytes that are one
abbrev pub block_in : List ℕ → CommandBlock
block_in bs = record {
  tag = low_first_at bs 4;
  length = low_first_at bs 8;
  direction = direction_of (slice_index bs 12);
  command_length = slice_index bs 14;
  command = take 16 (drop 15 bs);
}

unfoldable pub block_read : List ℕ → Result CommandBlock TransportRefusal
block_read bs = cond (is_block bs) (Ok (block_in bs)) (Err BadCommandBlock)
