-- A control transfer at any address: the states that the reader goes through, and what a run of the transfer comes to.
use Rattle.std.proofs.Common.{◌≡◌, ℕ, ◌+◌, ◌≤◌, Bool, true, false, cond, List, [], None, Ok, Err, refl, ap, arith}
use Rattle.packet.specs.declared.kind.DataKind.TheVariants.{Data0, Data1}
use Rattle.packet.specs.declared.kind.Handshake.TheVariants.{Ack}
use Rattle.packet.specs.declared.kind.TokenKind.TheVariants.{In, Setup}
use Rattle.packet.specs.Parts.{token, data_packet, handshake}
use Rattle.packet.specs.Reading.{packet}
use Rattle.reader.specs.declared.state.Expectation.{Expectation}
use Rattle.reader.specs.declared.state.Expectation.TheVariants.{Nothing, SetupData, ControlAck}
use Rattle.reader.specs.declared.state.Transfer.{Transfer}
use Rattle.reader.specs.declared.state.Transfer.TheVariants.{None as NoTransfer, Asked, Answered, Stalled}
use Rattle.reader.specs.Answers.{quiet, says, acks}
use Rattle.reader.specs.BulkEnds.{unwritten}
use Rattle.reader.specs.Control.{expecting, answers_in, empty_status, addressed, settled, with_control, with_addresses}
use Rattle.reader.specs.Disk.{Disk}
use Rattle.reader.specs.Hears.{hears, awaits, ignored}
use Rattle.reader.specs.State.{State}
use Rattle.host.specs.declared.fault.Cause.TheVariants.{Nothing as NoAnswer}
use Rattle.host.specs.declared.fault.TransportFault.{TransportFault}
use Rattle.host.specs.Process.{World, Runs}
use Rattle.host.specs.Transactions.{Ending}
use Rattle.host.specs.Tries.{delivers, fetches}
use Rattle.host.specs.Transfers.{Transferred, transfers, setup_ended, reply_ended}
use Rattle.host_laws.specs.Deliveries.{world, Taking, Between, before, begun_only, after, Delivered, taken_once, given_up as not_taken}
use Rattle.host_laws.specs.Fetches.{Waiting, Waits, level, level_sent, behind, ended, unended, Fetches, fetched, given_up as not-fetched}
use Rattle.host_laws.proofs.Chains.{halfway}
use Rattle.host_laws.proofs.Deliveries.{failed_deliveries_are_paid_for}
use Rattle.host_laws.proofs.Fetches.{failed_fetches_are_paid_for}

-- the reader before the SETUP, after its token, after its data, when the reply has been sent, and when that is
-- acknowledged
pub record Course (address : ℕ) (setup : List ℕ) : Type 0 where
  pub idle : State
  pub begun : State
  pub asked : State
  pub replied : State
  pub finished : State
  pub token_heard : (d : Disk) (e : Expectation) → hears (expecting e idle) d (packet (token Setup address 0)) ≡ awaits SetupData begun
  pub token_again : (d : Disk) (e : Expectation) → hears (expecting e begun) d (packet (token Setup address 0)) ≡ awaits SetupData begun
  pub takes : (d : Disk) → hears (expecting SetupData begun) d (packet (data_packet Data0 setup)) ≡ unwritten (expecting Nothing asked, acks)
  pub token_after : (d : Disk) (e : Expectation) → hears (expecting e asked) d (packet (token Setup address 0)) ≡ awaits SetupData asked
  pub repeats : (d : Disk) → hears (expecting SetupData asked) d (packet (data_packet Data0 setup)) ≡ unwritten (expecting Nothing asked, acks)
  pub offers : (d : Disk) (e : Expectation) → hears (expecting e asked) d (packet (token In address 0)) ≡ unwritten (expecting ControlAck replied, empty_status)
  pub offers_again : (d : Disk) (e : Expectation) → hears (expecting e replied) d (packet (token In address 0)) ≡ unwritten (expecting ControlAck replied, empty_status)
  pub ends : (d : Disk) → hears (expecting ControlAck replied) d (packet (handshake Ack)) ≡ unwritten (expecting Nothing finished, quiet)

-- the control endpoint never sends DATA0
replies_no_data0 : (x : Transfer) (s : State) (body : List ℕ) → (answers_in x s).1 ≡ says (data_packet Data0 body) → ◌≡◌ {A = ℕ} 0 1
replies_no_data0 NoTransfer s body h = cc
replies_no_data0 (Asked r) s body h = cc
replies_no_data0 Answered s body h = cc
replies_no_data0 Stalled s body h = cc

answers_no_data0 : (c : Bool) (x : Transfer) (s s' : State) (body : List ℕ) → (cond c (unwritten (answers_in x s)) (ignored s')).answer ≡ says (data_packet Data0 body) → ◌≡◌ {A = ℕ} 0 1
answers_no_data0 true x s s' body h = replies_no_data0 x s body h
answers_no_data0 false x s s' body h = cc

sends_no_data0 : (s : State) (d : Disk) (address : ℕ) (body : List ℕ) → (hears s d (packet (token In address 0))).answer ≡ says (data_packet Data0 body) → ◌≡◌ {A = ℕ} 0 1
sends_no_data0 s d address body h =
    answers_no_data0 (addressed s.control.addresses address) s.control.transfer (with_control (with_addresses (settled s.control.addresses In address) s.control) s) s body h

module _ {address : ℕ} {setup : List ℕ} (c : Course address setup) (d : Disk) where
  abbrev setting_up : Taking (token Setup address 0) Data0 setup
  setting_up = record {
    disk = d;
    untaken = c.idle;
    begun = c.begun;
    taken = c.asked;
    due = SetupData;
    written = None;
    token_heard = c.token_heard d;
    token_again = c.token_again d;
    takes = c.takes d;
    token_after = c.token_after;
    repeats = c.repeats;
  }

  abbrev replying : Waiting (token In address 0) Data1 d
  replying = record {
    unsent = c.asked;
    sent = c.replied;
    acknowledged = c.finished;
    owed = ControlAck;
    body = [];
    offers = c.offers d;
    offers_again = c.offers_again d;
    ends = c.ends d;
  }

  -- where the reader may stand when the transfer was given up
  pub data Somewhere (n : ℕ) : World → Type 0 where
    at_idle : (e : Expectation) → Somewhere n (world n (expecting e c.idle) d)
    at_begun : (e : Expectation) → Somewhere n (world n (expecting e c.begun) d)
    at_asked : (e : Expectation) → Somewhere n (world n (expecting e c.asked) d)
    at_replied : (e : Expectation) → Somewhere n (world n (expecting e c.replied) d)

  -- it is done, and the ACK of its reply arrived or was spoiled; or it was given up, with three spoiled packets at least
  pub data Through (from : ℕ) : Transferred → World → Type 0 where
    finished : (n : ℕ) (e : Expectation) → from ≤ n → Through from (Ok tt) (world n (expecting e c.finished) d)
    unacknowledged : (n : ℕ) (e : Expectation) → from ≤ n → Through from (Ok tt) (world n (expecting e c.replied) d)
    given_up : (n : ℕ) (fault : TransportFault) (w : World) → Somewhere n w → from + 3 ≤ n → Through from (Err fault) w

  waiting_somewhere : (n later : ℕ) (w : World) → Waits replying n later w → Somewhere n w
  waiting_somewhere n later w (level e) = at_asked e
  waiting_somewhere n later w (level_sent e) = at_replied e
  waiting_somewhere n later w (behind b e) =
      let z : ◌≡◌ {A = ℕ} 0 1 = sends_no_data0 b.old.sent d address b.old.body (ap (λ o. o.answer) (b.old.offers_again b.old.sent.expects)) in
      let never : ⊥ = omega arith in elim never [ ]

  setup_somewhere : (n : ℕ) (w : World) → Between setting_up n w → Somewhere n w
  setup_somewhere n w (before e) = at_idle e
  setup_somewhere n w (begun_only e) = at_begun e
  setup_somewhere n w (after e v) = at_asked e

  -- the reply has come, or has not; the tally was no higher where the transfer began
  reply_through : (start from : ℕ) → start ≤ from → (e : Ending (List ℕ)) (u : World) → Fetches replying 3 from 0 e u → (r : Transferred) (w : World) → Runs (reply_ended e) u r w → Through start r w
  reply_through start from h e u (fetched n later w' (ended x) l m) r w q = rw (← q.0, ← q.1) (finished n x (omega arith))
  reply_through start from h e u (fetched n later w' (unended x) l m) r w q = rw (← q.0, ← q.1) (unacknowledged n x (omega arith))
  reply_through start from h e u (not-fetched n later cause w' b l m) r w q = rw (← q.0, ← q.1) (given_up n _ _ (waiting_somewhere n later w' b) (omega arith))

  setup_through : (from : ℕ) (e : Ending (Unit {0})) (u : World) → Delivered setting_up 3 from e u → (r : Transferred) (w : World) → Runs (setup_ended address e) u r w → Through from r w
  setup_through from e u (taken_once n x v l) r w q =
      let h = halfway (fetches 3 (token In address 0) Data1 None NoAnswer) reply_ended _ r w q in
      reply_through from n l h.result h.between (failed_fetches_are_paid_for In address 0 Data1 d replying None refl 3 NoAnswer n 0 _ (level x) h.result h.between h.first) r w h.second
  setup_through from e u (not_taken n cause w' b l) r w q = rw (← q.0, ← q.1) (given_up n _ _ (setup_somewhere n w' b) l)

  pub through : (from : ℕ) (x : Expectation) (r : Transferred) (w : World) → Runs (transfers address setup) (world from (expecting x c.idle) d) r w → Through from r w
  through from x r w q =
      let h = halfway (delivers 3 (token Setup address 0) (data_packet Data0 setup) NoAnswer) (setup_ended address) _ r w q in
      setup_through from h.result h.between (failed_deliveries_are_paid_for Setup address 0 Data0 setup setting_up 3 NoAnswer from _ (before x) h.result h.between h.first) r w h.second
