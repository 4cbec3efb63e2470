-- The last command that was taken, kept beside the reader's state, and what it is for a status to answer it.
use Rattle.std.specs.Prelude.{◌≡◌, ℕ, ◌+◌, ◌-◌, min, cond, List, [], ◌∷◌, ◌++◌, length, Some, None, Ok, Err, Option, Result, ◌==◌, ◌≢◌}
use Rattle.packet.specs.declared.kind.Handshake.TheVariants.{Ack, Nak, Stall}
use Rattle.packet.specs.Parts.{token, data_packet, handshake}
use Rattle.packet.specs.Reading.{Reading, packet, refused}
use Rattle.reader.specs.Disk.{Disk, Written}
use Rattle.reader.specs.Hears.{hears}
use Rattle.reader.specs.Reaching.{takes, counts_for_bulk}
use Rattle.reader.specs.Stages.{Plan, passes, fails, sends, receives, plan_of}
use Rattle.reader.specs.State.{State, Phase, command, data_in, data_out, status}
use Rattle.transport.specs.Blocks.{block_read}
use Rattle.transport.specs.Commands.{command_of}
use Rattle.transport.specs.declared.blocks.CommandBlock.{CommandBlock}
use Rattle.transport.specs.declared.refusals.TransportRefusal.{TransportRefusal}
use Rattle.transport.specs.declared.statuses.Status.TheVariants.{Passed}
use Rattle.transport.specs.declared.statuses.StatusBlock.{StatusBlock}

-- the last valid block that was taken, what its command comes to, and how many bytes have moved
pub record Task : Type 0 where
  pub block : CommandBlock
  pub plan : Plan
  pub moved : ℕ

-- how many bytes a command is to move
abbrev pub needed : Plan → ℕ
needed passes = 0
needed fails = 0
needed (sends source n) = n
needed (receives sector n) = n

abbrev pub with_moved : ℕ → Task → Task
with_moved n t = record { block = t.block; plan = t.plan; moved = n }

-- a task begins with a valid block
abbrev pub begun_task : Result CommandBlock TransportRefusal → (size : ℕ) → Option Task → Option Task
begun_task (Ok b) size before = Some (record { block = b; plan = plan_of (command_of b.command) size; moved = 0 })
begun_task (Err e) size before = before

-- the bytes of a whole sector count if it is written
abbrev pub counted : Written → ℕ → ℕ
counted None n = n - 512
counted (Some w) n = n

-- the bytes that have moved with one more packet for a sector of which some have come, where so many are left to move; a
-- packet of the wrong length moves none
abbrev pub moved_with : (left : ℕ) → (come body : List ℕ) → Written → ℕ → ℕ
moved_with left come body written moved =
    cond (length body == min 64 left)
    (cond (length (come ++ body) == 512) (counted written (moved + length body)) (moved + length body))
    moved

-- the task after data that are taken
abbrev pub after_data : Phase → (size : ℕ) → List ℕ → Written → Option Task → Option Task
after_data command size body written o = begun_task (block_read body) size o
after_data (status block sent) size body written o = begun_task (block_read body) size o
after_data (data_in tag due left moved source) size body written o = o
after_data (data_out tag due left sector come) size body written None = None
after_data (data_out tag due left sector come) size body written (Some t) = Some (with_moved (moved_with (needed t.plan - t.moved) come body written t.moved) t)

-- the task after an ACK that counts for what a bulk endpoint sent
abbrev pub after_ack : Phase → Option Task → Option Task
after_ack command o = o
after_ack (status block sent) o = o
after_ack (data_in tag due left moved source) None = None
after_ack (data_in tag due left moved source) (Some t) = Some (with_moved (t.moved + min 64 (needed t.plan - t.moved)) t)
after_ack (data_out tag due left sector come) o = o

-- the task after an arrival
abbrev pub task_after : State → Disk → Reading → Option Task → Option Task
task_after s d (packet (token k a e)) o = o
task_after s d (packet (data_packet k body)) o = cond (takes s.expects s k) (after_data s.bulk.phase d.size body (hears s d (packet (data_packet k body))).written o) o
task_after s d (packet (handshake Ack)) o = cond (counts_for_bulk s.expects) (after_ack s.bulk.phase o) o
task_after s d (packet (handshake Nak)) o = o
task_after s d (packet (handshake Stall)) o = o
task_after s d (refused n) o = o

-- the state and the task after arrivals, each with the disk as it is then
abbrev pub run : State → Option Task → List (Disk × Reading) → State × Option Task
run s o [] = (s, o)
run s o (x ∷ xs) = run (hears s x.0 x.1).state (task_after s x.0 x.1 o) xs

-- a status answers a task: it has the block's tag, what was to move and has not, and is Passed only if the command does
-- not fail and all that it is to move has moved
pub record AnswersTask (b : StatusBlock) (t : Task) : Type 0 where
  pub tag : b.tag ≡ t.block.tag
  pub residue : b.residue + t.moved ≡ t.block.length
  pub sound : b.status ≡ Passed → t.plan ≢ fails
  pub passed : b.status ≡ Passed → t.moved ≡ needed t.plan
