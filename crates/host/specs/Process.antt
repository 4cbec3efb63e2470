-- What a host says and hears, as a tree, and what running it over a wire with a reader at its end comes to.
use Rattle.std.specs.Prelude.{◌≡◌, ℕ, ◌+◌, min, List, Some, None, slice_set}
use Rattle.packet.specs.Parts.{Parts}
use Rattle.packet.specs.Reading.{Reading, refused}
use Rattle.reader.specs.Answers.{Answer, quiet, says}
use Rattle.reader.specs.BulkEnds.{Outcome}
use Rattle.reader.specs.declared.device.Reader.{Reader}
use Rattle.reader.specs.Disk.{Disk, Written, disk_of}
use Rattle.reader.specs.Hears.{hears}
use Rattle.reader.specs.State.{State, fresh, seen}
use Rattle.store.specs.declared.answers.Verdict.{Verdict}
use Rattle.store.specs.declared.interface.Store as store
use Rattle.wire.specs.declared.interface.Wire as wire
use Rattle.wire.specs.Delivery.{Delivery, delivered, spoiled, heard_of}

-- a tree of what is said: it is done with a result; it sends a packet, and goes on by what is heard; it resets the port;
-- it clears the tally
pub data Process (A : Type 0) : Type 0 where
  done : A → Process A
  send : Parts → (Reading → Process A) → Process A
  reset : Process A → Process A
  clear : Process A → Process A

-- one tree after another
abbrev pub bind : {A B : Type 0} → Process A → (A → Process B) → Process B
bind (done a) f = f a
bind (send p k) f = send p (λ r. bind (k r) f)
bind (reset k) f = reset (bind k f)
bind (clear k) f = clear (bind k f)

-- what is at the other end of the wire, and how many packets the wire has spoiled since the tally was last cleared
pub record World : Type 0 where
  pub reader : State
  pub disk : Disk
  pub spoiled : ℕ

abbrev pub counts : Delivery → ℕ → ℕ
counts delivered n = n
counts (spoiled k) n = n + 1

abbrev pub written_on : Written → (ℕ → List ℕ → Verdict) → Disk → Disk
written_on None v d = d
written_on (Some w) v d = record { size = d.size; sectors = slice_set d.sectors w.0 w.1; verdict = v }

-- what comes home of an answer
abbrev pub comes_home : Answer → Delivery → Reading
comes_home quiet g = refused 20
comes_home (says q) g = heard_of q g

abbrev pub counts_home : Answer → Delivery → ℕ → ℕ
counts_home quiet g n = n
counts_home (says q) g n = counts g n

-- a packet goes out, the reader hears what arrives, and its answer goes home. Left open are what the wire does with the
-- packet and with the answer, and what the store's verdicts are after a write that it took
abbrev pub answered : ℕ → Disk → Outcome → Delivery → (ℕ → List ℕ → Verdict) → Reading × World
answered n d o g v = (
  comes_home o.answer g,
  record { reader = o.state; disk = written_on o.written v d; spoiled = counts_home o.answer g n },
)

abbrev pub exchange : Parts → World → Delivery → Delivery → (ℕ → List ℕ → Verdict) → Reading × World
exchange p w f g v = answered (counts f w.spoiled) w.disk (hears w.reader w.disk (heard_of p f)) g v

-- a run of a tree from a world: by some choices at each exchange it ends with this result in that world
abbrev pub Runs : {A : Type 0} → Process A → World → A → World → Type 0
Runs (done a) w b w' = (a ≡ b) × (w ≡ w')
Runs (send p k) w b w' = (f : Delivery) × (g : Delivery) × (v : ℕ → List ℕ → Verdict) × Runs (k (exchange p w f g v).0) (exchange p w f g v).1 b w'
Runs (reset k) w b w' = Runs k (record { reader = fresh; disk = w.disk; spoiled = w.spoiled }) b w'
Runs (clear k) w b w' = Runs k (record { reader = w.reader; disk = w.disk; spoiled = 0 }) b w'

-- a packet is sent, and the result is what is heard
abbrev pub sends : Parts → Process Reading
sends p = send p done

-- what the code has of a world: the wire's tally, which stops at 255, and the reader with its store
pub record Bus : Type 0 where
  pub tally : ℕ
  pub reader : State
  pub disk : Disk

pub record Stands (b : Bus) (w : World) : Type 0 where
  pub tally : b.tally ≡ min 255 w.spoiled
  pub reader : b.reader ≡ w.reader
  pub disk : b.disk ≡ w.disk

-- code that performs a tree: from whatever world the bus stands for, it has run the tree to this result, and the bus now
-- stands for the world after it
abbrev pub Performs : {A : Type 0} → Process A → Bus → A → Bus → Type 0
Performs tree before a after = (w : World) → Stands before w → (w' : World) × Stands after w' × Runs tree w a w'

-- the bus by the ghost members of the wire and of the store
abbrev pub bus_of : {W S : Type 0} → wire.Ghosts W → store.Ghosts S → W → Reader S → Bus
bus_of w s wire reader = record { tally = w.tally wire; reader = seen reader.core; disk = disk_of s reader.store }
