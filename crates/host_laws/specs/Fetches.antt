-- A packet fetched from the reader: what is known of the reader between two tries, and what a run of tries comes to.
use Rattle.std.specs.Prelude.{◌≡◌, ℕ, ◌+◌, ◌≤◌, true, List, Option}
use Rattle.packet.specs.declared.kind.DataKind.{DataKind}
use Rattle.packet.specs.declared.kind.Handshake.TheVariants.{Ack}
use Rattle.packet.specs.declared.kind.TokenKind.{TokenKind}
use Rattle.packet.specs.Parts.{Parts, token, data_packet, handshake}
use Rattle.packet.specs.Reading.{packet}
use Rattle.reader.specs.declared.state.Expectation.{Expectation}
use Rattle.reader.specs.declared.state.Expectation.TheVariants.{Nothing}
use Rattle.reader.specs.Answers.{quiet, says, stalls}
use Rattle.reader.specs.BulkEnds.{unwritten, turned}
use Rattle.reader.specs.Control.{expecting}
use Rattle.reader.specs.Disk.{Disk}
use Rattle.reader.specs.Hears.{hears}
use Rattle.reader.specs.State.{State}
use Rattle.host.specs.declared.fault.Cause.{Cause}
use Rattle.host.specs.Process.{World, Runs}
use Rattle.host.specs.Transactions.{Ending, passed, stalled, gave_up}
use Rattle.host.specs.Tries.{fits, fetches}
use Rattle.host_laws.specs.Deliveries.{world}

-- a packet that waits to be fetched: the reader's state before it was first sent, once it has been sent, and when it is
-- acknowledged
pub record Waiting (head : Parts) (toggle : DataKind) (d : Disk) : Type 0 where
  pub unsent : State
  pub sent : State
  pub acknowledged : State
  pub owed : Expectation
  pub body : List ℕ
  pub offers : (e : Expectation) → hears (expecting e unsent) d (packet head) ≡ unwritten (expecting owed sent, says (data_packet toggle body))
  pub offers_again : (e : Expectation) → hears (expecting e sent) d (packet head) ≡ unwritten (expecting owed sent, says (data_packet toggle body))
  pub ends : hears (expecting owed sent) d (packet (handshake Ack)) ≡ unwritten (expecting Nothing acknowledged, quiet)

module _ {head : Parts} {toggle : DataKind} {d : Disk} (k : Waiting head toggle d) where
  -- the packet before it, whose ACK was spoiled, still waits in its place
  pub record Behind : Type 0 where
    pub old : Waiting head (turned toggle) d
    pub follows : old.acknowledged ≡ k.unsent

  -- between two tries: the packet waits, sent or not, or the one before it still does, which counts one
  pub data Waits (n : ℕ) : ℕ → World → Type 0 where
    level : (e : Expectation) → Waits n 0 (world n (expecting e k.unsent) d)
    level_sent : (e : Expectation) → Waits n 0 (world n (expecting e k.sent) d)
    behind : (b : Behind) (e : Expectation) → Waits n 1 (world n (expecting e b.old.sent) d)

  -- when it has been fetched: it is acknowledged, or its ACK was spoiled, which counts one
  pub data Fetched (n : ℕ) : ℕ → World → Type 0 where
    ended : (e : Expectation) → Fetched n 0 (world n (expecting e k.acknowledged) d)
    unended : (e : Expectation) → Fetched n 1 (world n (expecting e k.sent) d)

  -- failed tries, and what is unacknowledged afterwards, are paid for by spoiled packets and by what was unacknowledged
  -- before
  pub data Fetches (tries from pending : ℕ) : Ending (List ℕ) → World → Type 0 where
    fetched : (n later : ℕ) (w : World) → Fetched n later w → from ≤ n → from + later ≤ n + pending → Fetches tries from pending (passed k.body) w
    given_up : (n later : ℕ) (cause : Cause) (w : World) → Waits n later w → from ≤ n → from + tries + later ≤ n + pending → Fetches tries from pending (gave_up cause) w

abbrev pub FailedFetchesArePaidFor : Type 0
FailedFetchesArePaidFor =
    (t : TokenKind) (address endpoint : ℕ) (toggle : DataKind) (d : Disk) (k : Waiting (token t address endpoint) toggle d) (fit : Option ℕ) → fits fit k.body ≡ true
    → (tries : ℕ) (cause : Cause) (from pending : ℕ) (w : World) → Waits k from pending w
    → (e : Ending (List ℕ)) (w' : World) → Runs (fetches tries (token t address endpoint) toggle fit cause) w e w' → Fetches k tries from pending e w'

-- an endpoint that answers an IN by STALL
pub record Halted (head : Parts) (d : Disk) : Type 0 where
  pub halted : State
  pub refuses : (e : Expectation) → hears (expecting e halted) d (packet head) ≡ unwritten (expecting Nothing halted, stalls)

module _ {head : Parts} {d : Disk} (k : Halted head d) where
  pub data Unfetched (tries from : ℕ) : Ending (List ℕ) → World → Type 0 where
    met_stall : (n : ℕ) (e : Expectation) → from ≤ n → Unfetched tries from stalled (world n (expecting e k.halted) d)
    given_up : (n : ℕ) (cause : Cause) (e : Expectation) → from + tries ≤ n → Unfetched tries from (gave_up cause) (world n (expecting e k.halted) d)

abbrev pub AHaltedEndpointSendsNothing : Type 0
AHaltedEndpointSendsNothing =
    (t : TokenKind) (address endpoint : ℕ) (toggle : DataKind) (d : Disk) (k : Halted (token t address endpoint) d) (fit : Option ℕ) (tries : ℕ) (cause : Cause) (from : ℕ) (x : Expectation)
    → (e : Ending (List ℕ)) (w' : World) → Runs (fetches tries (token t address endpoint) toggle fit cause) (world from (expecting x k.halted) d) e w' → Unfetched k tries from e w'
