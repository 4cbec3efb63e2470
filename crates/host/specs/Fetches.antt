-- A packet fetched from the reader's bulk endpoint: what is known of the reader between two tries, and what a run of tries
-- comes to.
use Rattle.std.specs.Prelude.{◌≡◌, ℕ, ◌+◌, ◌≤◌, Bool, true, false, List}
use Rattle.packet.specs.declared.kind.DataKind.{DataKind}
use Rattle.packet.specs.declared.kind.TokenKind.TheVariants.{In}
use Rattle.packet.specs.Parts.{token, data_packet}
use Rattle.reader.specs.declared.state.Expectation.{Expectation}
use Rattle.reader.specs.declared.state.Expectation.TheVariants.{BulkAck}
use Rattle.reader.specs.declared.state.Halts.TheVariants.{Each}
use Rattle.reader.specs.declared.state.Transfer.{Transfer}
use Rattle.reader.specs.Answers.{says}
use Rattle.reader.specs.BulkEnds.{turned, offered, bulk_acknowledged}
use Rattle.reader.specs.Disk.{Disk}
use Rattle.reader.specs.State.{State, Bulk, Phase}
use Rattle.host.specs.declared.fault.Cause.{Cause}
use Rattle.host.specs.Deliveries.{attached, bulk_at, world}
use Rattle.host.specs.Process.{World, Runs}
use Rattle.host.specs.Transactions.{Ending, passed, gave_up, fetches}

-- a packet that waits to be fetched: the phase that offers it, the phase once it has been sent, its body, and what the
-- bulk endpoints are when it is acknowledged
pub record Waiting (t : Transfer) (d : Disk) (toggle : DataKind) : Type 0 where
  pub receiving : DataKind
  pub receiving_halted : Bool
  pub phase : Phase
  pub sent : Phase
  pub body : List ℕ
  pub acknowledged : Bulk
  pub offers : (e : Expectation) → offered phase (attached t (bulk_at toggle receiving (Each false receiving_halted) phase) e) d ≡ (attached t (bulk_at toggle receiving (Each false receiving_halted) sent) BulkAck, says (data_packet toggle body))
  pub offers_again : (e : Expectation) → offered sent (attached t (bulk_at toggle receiving (Each false receiving_halted) sent) e) d ≡ (attached t (bulk_at toggle receiving (Each false receiving_halted) sent) BulkAck, says (data_packet toggle body))
  pub ends : bulk_acknowledged sent (bulk_at toggle receiving (Each false receiving_halted) sent) ≡ acknowledged

module _ {t : Transfer} {d : Disk} {toggle : DataKind} (k : Waiting t d toggle) where
  abbrev pub unsent : Expectation → State
  unsent e = attached t (bulk_at toggle k.receiving (Each false k.receiving_halted) k.phase) e

  abbrev pub sent_once : Expectation → State
  sent_once e = attached t (bulk_at toggle k.receiving (Each false k.receiving_halted) k.sent) e

-- the packet waits, and perhaps the one before it, whose ACK was spoiled, still does in its place
pub record Fetching (t : Transfer) (d : Disk) (toggle : DataKind) : Type 0 where
  pub now : Waiting t d toggle
  pub old : Waiting t d (turned toggle)
  pub follows : old.acknowledged ≡ bulk_at toggle now.receiving (Each false now.receiving_halted) now.phase

module _ {t : Transfer} {d : Disk} {toggle : DataKind} (k : Fetching t d toggle) where
  -- between two tries: the packet waits, sent or not, or the one before it still does, which counts one
  pub data Waits (n : ℕ) : ℕ → World → Type 0 where
    level : (e : Expectation) → Waits n 0 (world n (unsent k.now e) d)
    level_sent : (e : Expectation) → Waits n 0 (world n (sent_once k.now e) d)
    behind : (e : Expectation) → Waits n 1 (world n (sent_once k.old e) d)

  -- when it has been fetched: it is acknowledged, or its ACK was spoiled, which counts one
  pub data Fetched (n : ℕ) : ℕ → World → Type 0 where
    ended : (e : Expectation) → Fetched n 0 (world n (attached t k.now.acknowledged e) d)
    unended : (e : Expectation) → Fetched n 1 (world n (sent_once k.now e) d)

  -- failed tries, and what is unacknowledged afterwards, are paid for by spoiled packets and by what was unacknowledged
  -- before
  pub data Fetches (tries from pending : ℕ) : Ending (List ℕ) → World → Type 0 where
    fetched : (n later : ℕ) (w : World) → Fetched n later w → from + later ≤ n + pending → Fetches tries from pending (passed k.now.body) w
    given_up : (n later : ℕ) (cause : Cause) (w : World) → Waits n later w → from + tries + later ≤ n + pending → Fetches tries from pending (gave_up cause) w

abbrev pub FailedFetchesArePaidFor : Type 0
FailedFetchesArePaidFor =
    (t : Transfer) (d : Disk) (toggle : DataKind) (k : Fetching t d toggle) (fits : List ℕ → Bool) → fits k.now.body ≡ true
    → (tries : ℕ) (cause : Cause) (from pending : ℕ) (w : World) → Waits k from pending w
    → (e : Ending (List ℕ)) (w' : World) → Runs (fetches tries (token In 1 1) toggle fits cause) w e w' → Fetches k tries from pending e w'
