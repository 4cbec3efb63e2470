-- Attaching: after a port reset, the transfer that gives the reader address 1, and the one that configures it.
use Rattle.std.proofs.Common.{◌≡◌, ℕ, ◌+◌, ◌≤◌, Bool, true, false, List, Err, Result, refl, arith}
use Rattle.packet.specs.declared.kind.TokenKind.TheVariants.{Setup}
use Rattle.packet.specs.Parts.{token}
use Rattle.packet.specs.Reading.{packet}
use Rattle.reader.specs.declared.state.Addresses.{Addresses}
use Rattle.reader.specs.declared.state.Addresses.TheVariants.{One, Two}
use Rattle.reader.specs.declared.state.Expectation.{Expectation}
use Rattle.reader.specs.declared.state.Expectation.TheVariants.{Nothing, SetupData}
use Rattle.reader.specs.declared.state.Request.TheVariants.{SetAddress, Configure}
use Rattle.reader.specs.declared.state.Transfer.{Transfer}
use Rattle.reader.specs.declared.state.Transfer.TheVariants.{None, Asked, Answered}
use Rattle.reader.specs.Control.{expecting}
use Rattle.reader.specs.Disk.{Disk}
use Rattle.reader.specs.Hears.{hears, awaits}
use Rattle.reader.specs.State.{State, fresh}
use Rattle.host.specs.declared.fault.Fault.{Fault}
use Rattle.transport.specs.declared.toggles.Toggles.{Toggles}
use Rattle.host.specs.Faults.{tagged}
use Rattle.host.specs.Process.{World, Process, done, bind, Runs}
use Rattle.host.specs.Transfers.{Transferred, transfers, address_setup, configure_setup, settled, after_transfer}
use Rattle.host_laws.specs.Deliveries.{world}
use Rattle.host_laws.specs.InStep.{awaiting}
use Rattle.host_laws.specs.Transfers.{Attaching, attached_now, given_up as not-attached, AttachingPutsTheEndsInStep}
use Rattle.host_laws.proofs.Chains.{halfway}
use Rattle.host_laws.proofs.Controls.{Course, Somewhere, at_idle, at_begun, at_asked, at_replied, Through, finished, unacknowledged, given_up as not-Through, through}

-- a reader with fresh bulk endpoints, by its addresses, whether it is configured, and the transfer
abbrev reset_at : Addresses → Bool → Transfer → State
reset_at a configured x = record { control = record { addresses = a; configured = configured; transfer = x }; bulk = fresh.bulk; expects = Nothing }

-- the new address is heard beside the old one until the reply is acknowledged
abbrev addressing : Course 0 address_setup
addressing = record {
  idle = reset_at (One 0) false None;
  begun = reset_at (One 0) false None;
  asked = reset_at (One 0) false (Asked (SetAddress 1));
  replied = reset_at (Two 0 1) false Answered;
  finished = reset_at (One 1) false Answered;
  token_heard = λ d e. refl;
  token_again = λ d e. refl;
  takes = λ d. refl;
  token_after = λ d e. refl;
  repeats = λ d. refl;
  offers = λ d e. refl;
  offers_again = λ d e. refl;
  ends = λ d. refl;
}

-- a SETUP for address 1 is heard, and leaves it the only address
abbrev HearsAddress1 : Addresses → Type 0
HearsAddress1 a = (d : Disk) (e : Expectation) → hears (expecting e (reset_at a false Answered)) d (packet (token Setup 1 0)) ≡ awaits SetupData (reset_at (One 1) false Answered)

-- configuring begins with a reader that hears address 1, perhaps beside its old one
abbrev configuring : (a : Addresses) → HearsAddress1 a → Course 1 configure_setup
configuring a heard = record {
  idle = reset_at a false Answered;
  begun = reset_at (One 1) false Answered;
  asked = reset_at (One 1) false (Asked (Configure true));
  replied = reset_at (One 1) true Answered;
  finished = reset_at (One 1) true Answered;
  token_heard = heard;
  token_again = λ d e. refl;
  takes = λ d. refl;
  token_after = λ d e. refl;
  repeats = λ d. refl;
  offers = λ d e. refl;
  offers_again = λ d e. refl;
  ends = λ d. refl;
}

abbrev AttachedOrNot : Type 0
AttachedOrNot = Result (Unit {0}) Fault × Toggles

-- what is left of attaching after its first transfer
abbrev Configures : Toggles → Process AttachedOrNot
Configures t = bind (transfers 1 configure_setup) (λ r. done (settled t r))

-- given up with the disk untouched, wherever the reader stands
stays : {address : ℕ} {setup : List ℕ} (k : Course address setup) (d : Disk) (start n : ℕ) (w : World) (fault : Fault) (t : Toggles) → start + 3 ≤ n → Somewhere k d n w → Attaching d start (Err fault, t) w
stays k d start n w fault t h (at_idle e) = not-attached n _ fault t h
stays k d start n w fault t h (at_begun e) = not-attached n _ fault t h
stays k d start n w fault t h (at_asked e) = not-attached n _ fault t h
stays k d start n w fault t h (at_replied e) = not-attached n _ fault t h

module _ (t : Toggles) (d : Disk) (start : ℕ) (c : AttachedOrNot) (w' : World) where
  configured : (a : Addresses) (heard : HearsAddress1 a) (from : ℕ) → start ≤ from → (r : Transferred) (w : World) → Through (configuring a heard) d from r w → Runs (done (settled t r)) w c w' → Attaching d start c w'
  configured a heard from l r w (finished n e h) q = rw (← q.0, ← q.1) (attached_now n _ (omega arith) (awaiting Answered e))
  configured a heard from l r w (unacknowledged n e h) q = rw (← q.0, ← q.1) (attached_now n _ (omega arith) (awaiting Answered e))
  configured a heard from l r w (not-Through n fault u s h) q = rw (← q.0, ← q.1) (stays (configuring a heard) d start n u (tagged fault 0) t (omega arith) s)

  configures : (a : Addresses) (heard : HearsAddress1 a) (n : ℕ) (e : Expectation) → start ≤ n → Runs (Configures t) (world n (expecting e (reset_at a false Answered)) d) c w' → Attaching d start c w'
  configures a heard n e l q =
      let h = halfway (transfers 1 configure_setup) (λ r. done (settled t r)) (world n (expecting e (reset_at a false Answered)) d) c w' q in
      configured a heard n l h.result h.between (through (configuring a heard) d n e h.result h.between h.first) h.second

  addressed : (r : Transferred) (w : World) → Through addressing d start r w → Runs (after_transfer (settled t) (Configures t) r) w c w' → Attaching d start c w'
  addressed r w (finished n e h) q = configures (One 1) (λ d e. refl) n e h q
  addressed r w (unacknowledged n e h) q = configures (Two 0 1) (λ d e. refl) n e h q
  addressed r w (not-Through n fault u s h) q = rw (← q.0, ← q.1) (stays addressing d start n u (tagged fault 0) t h s)

pub attaching_puts_the_ends_in_step : AttachingPutsTheEndsInStep
attaching_puts_the_ends_in_step t s d from c w' q =
    let h = halfway (transfers 0 address_setup) (after_transfer (settled t) (Configures t)) (world from fresh d) c w' q in
    addressed t d from c w' h.result h.between (through addressing d from Nothing h.result h.between h.first) h.second
