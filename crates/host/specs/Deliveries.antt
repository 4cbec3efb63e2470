-- A packet sent to the reader's bulk endpoint: what is known of the reader between two tries, and what a run of tries
-- comes to.
use Rattle.std.specs.Prelude.{◌≡◌, ℕ, ◌+◌, ◌≤◌, Bool, true, false, List}
use Rattle.packet.specs.declared.kind.DataKind.{DataKind}
use Rattle.packet.specs.declared.kind.TokenKind.TheVariants.{Out}
use Rattle.packet.specs.Parts.{token, data_packet}
use Rattle.reader.specs.declared.state.Addresses.TheVariants.{One}
use Rattle.reader.specs.declared.state.Expectation.{Expectation}
use Rattle.reader.specs.declared.state.Expectation.TheVariants.{Nothing, BulkData}
use Rattle.reader.specs.declared.state.Halts.{Halts}
use Rattle.reader.specs.declared.state.Halts.TheVariants.{Each}
use Rattle.reader.specs.declared.state.Transfer.{Transfer}
use Rattle.reader.specs.Answers.{acks}
use Rattle.reader.specs.BulkEnds.{turned, wanted}
use Rattle.reader.specs.Disk.{Disk, Written}
use Rattle.reader.specs.State.{State, Bulk, Phase}
use Rattle.store.specs.declared.answers.Verdict.{Verdict}
use Rattle.host.specs.declared.fault.Cause.{Cause}
use Rattle.host.specs.Process.{World, written_on, Runs}
use Rattle.host.specs.Transactions.{Ending, passed, gave_up, delivers}

-- a reader at address 1, hearing no other, configured
abbrev pub attached : Transfer → Bulk → Expectation → State
attached t b e = record { control = record { addresses = One 1; configured = true; transfer = t }; bulk = b; expects = e }

abbrev pub bulk_at : (sending receiving : DataKind) → Halts → Phase → Bulk
bulk_at sending receiving h p = record { toggles = record { data_in = sending; data_out = receiving }; halts = h; phase = p }

abbrev pub world : ℕ → State → Disk → World
world n s d = record { reader = s; disk = d; spoiled = n }

-- what the reader makes of the data: from a phase in which it wants them to what it is after taking them
pub record Taking (t : Transfer) (body : List ℕ) (toggle : DataKind) : Type 0 where
  pub sending : DataKind
  pub sending_halted : Bool
  pub phase : Phase
  pub disk : Disk
  pub sending_after : DataKind
  pub halts_after : Halts
  pub phase_after : Phase
  pub written : Written
  pub takes :
      wanted phase (attached t (bulk_at sending toggle (Each sending_halted false) phase) BulkData) disk body
      ≡ record { state = attached t (bulk_at sending_after (turned toggle) halts_after phase_after) Nothing; answer = acks; written = written }

module _ {t : Transfer} {body : List ℕ} {toggle : DataKind} (k : Taking t body toggle) where
  abbrev pub untaken : Expectation → State
  untaken e = attached t (bulk_at k.sending toggle (Each k.sending_halted false) k.phase) e

  abbrev pub taken : Expectation → State
  taken e = attached t (bulk_at k.sending_after (turned toggle) k.halts_after k.phase_after) e

  -- between two tries the reader has not taken the data, or has taken them once
  pub data Between (n : ℕ) : World → Type 0 where
    before : (e : Expectation) → Between n (world n (untaken e) k.disk)
    after : (e : Expectation) (v : ℕ → List ℕ → Verdict) → Between n (world n (taken e) (written_on k.written v k.disk))

  -- a run of the tries that are left passes with the data taken once, or each of them had a spoiled packet
  pub data Delivered (tries from : ℕ) : Ending (Unit {0}) → World → Type 0 where
    taken_once : (n : ℕ) (e : Expectation) (v : ℕ → List ℕ → Verdict) → from ≤ n → Delivered tries from (passed tt) (world n (taken e) (written_on k.written v k.disk))
    given_up : (n : ℕ) (cause : Cause) (w : World) → Between n w → from + tries ≤ n → Delivered tries from (gave_up cause) w

abbrev pub FailedDeliveriesArePaidFor : Type 0
FailedDeliveriesArePaidFor =
    (t : Transfer) (body : List ℕ) (toggle : DataKind) (k : Taking t body toggle) (tries : ℕ) (cause : Cause) (from : ℕ) (w : World) → Between k from w
    → (e : Ending (Unit {0})) (w' : World) → Runs (delivers tries (token Out 1 2) (data_packet toggle body) cause) w e w' → Delivered k tries from e w'
