-- Control transfers over a reader at address 1.
use Rattle.std.proofs.Common.{◌≡◌, ℕ, ◌+◌, ◌≤◌, true, cond, eqb, List, Err, sym, refl, ap, subst, inl, inr}
use Rattle.packet.specs.declared.kind.DataKind.TheVariants.{Data0}
use Rattle.packet.specs.Parts.{data_packet}
use Rattle.packet.specs.Reading.{packet}
use Rattle.reader.specs.declared.state.Expectation.TheVariants.{Nothing, SetupData, ControlAck}
use Rattle.reader.specs.declared.state.Transfer.{Transfer}
use Rattle.reader.specs.declared.state.Transfer.TheVariants.{Asked, Answered}
use Rattle.reader.specs.Answers.{acks, quiet}
use Rattle.reader.specs.BulkEnds.{unwritten}
use Rattle.reader.specs.Control.{expecting, begun, empty_status}
use Rattle.reader.specs.Disk.{Disk}
use Rattle.reader.specs.Hears.{hears}
use Rattle.reader.specs.State.{Bulk}
use Rattle.host.specs.declared.fault.TransportFault.{TransportFault}
use Rattle.host.specs.Process.{World}
use Rattle.host.specs.Transfers.{Transferred}
use Rattle.host_laws.specs.InStep.{attached}
use Rattle.host_laws.specs.Transfers.{Changing, Changed, changed, given_up, AControlTransferIsDoneOrPaidFor}
use Rattle.host_laws.proofs.Controls.{Course, Somewhere, at_idle, at_begun, at_asked, at_replied, Through, finished, unacknowledged, given_up as not-Through, through}

module _ {setup : List ℕ} {b b' : Bulk} (c : Changing setup b b') (x : Transfer) where
  -- the setup is taken, whatever transfer was before it
  asks_for_it : (y : Transfer) (d : Disk) → hears (attached y b SetupData) d (packet (data_packet Data0 setup)) ≡ unwritten (attached (Asked c.request) b Nothing, acks)
  asks_for_it y d =
      subst (λ n. unwritten (cond (eqb n 8) (attached (begun true setup) b Nothing, acks) (attached y b Nothing, quiet)) ≡ unwritten (attached (Asked c.request) b Nothing, acks)) (sym c.whole)
      (ap (λ t. unwritten (attached t b Nothing, acks)) c.asks)

  abbrev changing : Course 1 setup
  changing = record {
    idle = attached x b Nothing;
    begun = attached x b Nothing;
    asked = attached (Asked c.request) b Nothing;
    replied = attached Answered b' Nothing;
    finished = attached Answered b' Nothing;
    token_heard = λ d e. refl;
    token_again = λ d e. refl;
    takes = asks_for_it x;
    token_after = λ d e. refl;
    repeats = asks_for_it (Asked c.request);
    offers = λ d e. ap (λ s. unwritten (expecting ControlAck s, empty_status)) (c.changes e);
    offers_again = λ d e. refl;
    ends = λ d. refl;
  }

  given_up_somewhere : (d : Disk) (from n : ℕ) (fault : TransportFault) (w : World) → from + 3 ≤ n → Somewhere changing d n w → Changed b b' d from (Err fault) w
  given_up_somewhere d from n fault w h (at_idle e) = given_up n x e b fault (inl refl) h
  given_up_somewhere d from n fault w h (at_begun e) = given_up n x e b fault (inl refl) h
  given_up_somewhere d from n fault w h (at_asked e) = given_up n (Asked c.request) e b fault (inl refl) h
  given_up_somewhere d from n fault w h (at_replied e) = given_up n Answered e b' fault (inr refl) h

  through_changed : (d : Disk) (from : ℕ) (r : Transferred) (w : World) → Through changing d from r w → Changed b b' d from r w
  through_changed d from r w (finished n e h) = changed n Answered e h
  through_changed d from r w (unacknowledged n e h) = changed n Answered e h
  through_changed d from r w (not-Through n fault u s h) = given_up_somewhere d from n fault u h s

pub a_control_transfer_is_done_or_paid_for : AControlTransferIsDoneOrPaidFor
a_control_transfer_is_done_or_paid_for setup b b' c d from x e r w q = through_changed c x d from r w (through (changing c x) d from e r w q)
