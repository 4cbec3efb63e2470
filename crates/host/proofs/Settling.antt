-- One control transfer after another, and a port reset before them.
use Rattle.std.proofs.Common.{◌≡◌, ℕ, Ok, Err, subst₂}
use Rattle.reader.specs.Disk.{Disk}
use Rattle.reader.specs.State.{State, fresh}
use Rattle.host.specs.declared.fault.TransportFault.{TransportFault}
use Rattle.host.specs.Process.{Process, done, reset, bind, Bus, Performs}
use Rattle.host.specs.Transfers.{Transferred, after_transfer}
use Rattle.host.proofs.Performing.{both, over}

module _ {A : Type 0} (p : Process Transferred) (given_up : Transferred → A) (next : Process A) (b m : Bus) where
  pub stops_here : (fault : TransportFault) → Performs p b (Err fault) m → Performs (bind p (after_transfer given_up next)) b (given_up (Err fault)) m
  stops_here fault first = both p (after_transfer given_up next) b m m (Err fault) (given_up (Err fault)) first (over (given_up (Err fault)) m)

  pub goes_on : (u : Unit {0}) (r : A) (a : Bus) → Performs p b (Ok u) m → Performs next m r a → Performs (bind p (after_transfer given_up next)) b r a
  goes_on u r a first rest = both p (after_transfer given_up next) b m a (Ok u) r first rest

-- the last one
pub ends_with : {A B : Type 0} (p : Process A) (f : A → B) (b m : Bus) (x : A) → Performs p b x m → Performs (bind p (λ r. done (f r))) b (f x) m
ends_with p f b m x first = both p (λ r. done (f r)) b m m x (f x) first (over (f x) m)

-- after a port reset
pub after_reset : {A : Type 0} (k : Process A) (t : ℕ) (s s' : State) (d : Disk) (r : A) (a : Bus) → s' ≡ fresh → Performs k (record { tally = t; reader = s'; disk = d }) r a → Performs (reset k) (record { tally = t; reader = s; disk = d }) r a
after_reset k t s s' d r a is rest w stands = rest (record { reader = fresh; disk = w.disk; spoiled = w.spoiled }) (record { tally = stands.tally; reader = is; disk = stands.disk })

-- the result is told, and the bus handed back
pub handed_back : {A : Type 0} (p : Process A) (b m n : Bus) (x y : A) → Performs p b x m → x ≡ y → m ≡ n → Performs p b y n
handed_back p b m n x y performed told same = subst₂ (λ z u. Performs p b z u) told same performed
