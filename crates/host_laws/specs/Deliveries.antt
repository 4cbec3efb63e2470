-- A packet sent to the reader: what is known of the reader between two tries, and what a run of tries comes to.
use Rattle.std.specs.Prelude.{◌≡◌, ℕ, ◌+◌, ◌≤◌, List}
use Rattle.packet.specs.declared.kind.DataKind.{DataKind}
use Rattle.packet.specs.declared.kind.TokenKind.{TokenKind}
use Rattle.packet.specs.Parts.{Parts, token, data_packet}
use Rattle.packet.specs.Reading.{packet}
use Rattle.reader.specs.declared.state.Expectation.{Expectation}
use Rattle.reader.specs.declared.state.Expectation.TheVariants.{Nothing}
use Rattle.reader.specs.Answers.{acks, stalls}
use Rattle.reader.specs.BulkEnds.{unwritten}
use Rattle.reader.specs.Control.{expecting}
use Rattle.reader.specs.Disk.{Disk, Written}
use Rattle.reader.specs.Hears.{hears, awaits}
use Rattle.reader.specs.State.{State}
use Rattle.store.specs.declared.answers.Verdict.{Verdict}
use Rattle.host.specs.declared.fault.Cause.{Cause}
pub use Rattle.host.specs.Deliveries.{world}
use Rattle.host.specs.Process.{World, written_on, Runs}
use Rattle.host.specs.Transactions.{Ending, passed, stalled, gave_up}
use Rattle.host.specs.Tries.{delivers}

-- data that the reader takes once: its state before the token, after it, and after the data; once it has taken them, the
-- same data are a repeat
pub record Taking (head : Parts) (kind : DataKind) (bytes : List ℕ) : Type 0 where
  pub disk : Disk
  pub untaken : State
  pub begun : State
  pub taken : State
  pub due : Expectation
  pub written : Written
  pub token_heard : (e : Expectation) → hears (expecting e untaken) disk (packet head) ≡ awaits due begun
  pub token_again : (e : Expectation) → hears (expecting e begun) disk (packet head) ≡ awaits due begun
  pub takes : hears (expecting due begun) disk (packet (data_packet kind bytes)) ≡ record { state = expecting Nothing taken; answer = acks; written = written }
  pub token_after : (d : Disk) (e : Expectation) → hears (expecting e taken) d (packet head) ≡ awaits due taken
  pub repeats : (d : Disk) → hears (expecting due taken) d (packet (data_packet kind bytes)) ≡ unwritten (expecting Nothing taken, acks)

module _ {head : Parts} {kind : DataKind} {bytes : List ℕ} (k : Taking head kind bytes) where
  -- between two tries the reader has not taken the data, or has taken them once
  pub data Between (n : ℕ) : World → Type 0 where
    before : (e : Expectation) → Between n (world n (expecting e k.untaken) k.disk)
    begun_only : (e : Expectation) → Between n (world n (expecting e k.begun) k.disk)
    after : (e : Expectation) (v : ℕ → List ℕ → Verdict) → Between n (world n (expecting e k.taken) (written_on k.written v k.disk))

  -- a run of the tries that are left passes with the data taken once, or each of them had a spoiled packet
  pub data Delivered (tries from : ℕ) : Ending (Unit {0}) → World → Type 0 where
    taken_once : (n : ℕ) (e : Expectation) (v : ℕ → List ℕ → Verdict) → from ≤ n → Delivered tries from (passed tt) (world n (expecting e k.taken) (written_on k.written v k.disk))
    given_up : (n : ℕ) (cause : Cause) (w : World) → Between n w → from + tries ≤ n → Delivered tries from (gave_up cause) w

abbrev pub FailedDeliveriesArePaidFor : Type 0
FailedDeliveriesArePaidFor =
    (t : TokenKind) (address endpoint : ℕ) (kind : DataKind) (bytes : List ℕ) (k : Taking (token t address endpoint) kind bytes) (tries : ℕ) (cause : Cause) (from : ℕ) (w : World) → Between k from w
    → (e : Ending (Unit {0})) (w' : World) → Runs (delivers tries (token t address endpoint) (data_packet kind bytes) cause) w e w' → Delivered k tries from e w'

-- data that a halted endpoint answers by STALL
pub record Stalling (head : Parts) (kind : DataKind) (bytes : List ℕ) : Type 0 where
  pub disk : Disk
  pub halted : State
  pub due : Expectation
  pub token_heard : (e : Expectation) → hears (expecting e halted) disk (packet head) ≡ awaits due halted
  pub refuses : hears (expecting due halted) disk (packet (data_packet kind bytes)) ≡ unwritten (expecting Nothing halted, stalls)

module _ {head : Parts} {kind : DataKind} {bytes : List ℕ} (k : Stalling head kind bytes) where
  -- a run of the tries that are left meets STALL, or each of them had a spoiled packet; the reader stays as it was
  pub data Refused (tries from : ℕ) : Ending (Unit {0}) → World → Type 0 where
    met_stall : (n : ℕ) (e : Expectation) → from ≤ n → Refused tries from stalled (world n (expecting e k.halted) k.disk)
    given_up : (n : ℕ) (cause : Cause) (e : Expectation) → from + tries ≤ n → Refused tries from (gave_up cause) (world n (expecting e k.halted) k.disk)

abbrev pub AHaltedEndpointRefusesData : Type 0
AHaltedEndpointRefusesData =
    (t : TokenKind) (address endpoint : ℕ) (kind : DataKind) (bytes : List ℕ) (k : Stalling (token t address endpoint) kind bytes) (tries : ℕ) (cause : Cause) (from : ℕ) (x : Expectation)
    → (e : Ending (Unit {0})) (w' : World) → Runs (delivers tries (token t address endpoint) (data_packet kind bytes) cause) (world from (expecting x k.halted) k.disk) e w' → Refused k tries from e w'
