-- What is promised of the reader, over the definition of what it does with what it hears.
use Rattle.std.specs.Prelude.{◌≡◌, ℕ, ◌<◌, ◌≤◌, min, Bool, true, false, List, ◌∷◌, ◌++◌, length, Some, None}
use Rattle.packet.specs.declared.kind.DataKind.{DataKind}
use Rattle.packet.specs.declared.kind.TokenKind.TheVariants.{In}
use Rattle.packet.specs.Building.{can_be_built}
use Rattle.packet.specs.Kinds.{same_kind}
use Rattle.packet.specs.Parts.{Parts, token, data_packet}
use Rattle.packet.specs.Reading.{Reading, packet}
use Rattle.reader.specs.declared.state.Addresses.TheVariants.{One}
use Rattle.reader.specs.declared.state.Expectation.TheVariants.{Nothing, BulkData}
use Rattle.reader.specs.Answers.{Answer, quiet, says, acks, answer_bytes}
use Rattle.reader.specs.BulkEnds.{receiving_halted}
use Rattle.reader.specs.Control.{expecting, addressed}
use Rattle.reader.specs.Disk.{Disk}
use Rattle.reader.specs.Hears.{hears}
use Rattle.reader.specs.Reaching.{reaches_bulk, NoneReachesBulk}
use Rattle.reader.specs.Runs.{heard_all, recovery}
use Rattle.reader.specs.State.{State, data_out, status, fresh}
use Rattle.reader.specs.Tasks.{Task, run, AnswersTask}
use Rattle.store.specs.declared.answers.Verdict.TheVariants.{Taken}
use Rattle.transport.specs.declared.statuses.StatusBlock.{StatusBlock}

-- data that come again are acknowledged and do nothing else
abbrev pub ARepeatChangesNothing : Type 0
ARepeatChangesNothing =
    (s : State) (d : Disk) (k : DataKind) (body : List ℕ) → s.expects ≡ BulkData → same_kind k s.bulk.toggles.data_out ≡ false
    → hears s d (packet (data_packet k body)) ≡ record { state = expecting Nothing s; answer = acks; written = None }

-- an answer that can be sent: nothing, or a packet that can be built
abbrev pub CanBeSent : Answer → Type 0
CanBeSent quiet = Unit {0}
CanBeSent (says p) = can_be_built p ≡ true

abbrev pub AnAnswerIsNothingOrABuiltPacket : Type 0
AnAnswerIsNothingOrABuiltPacket =
    (s : State) (d : Disk) (r : Reading) → CanBeSent (hears s d r).answer × (length (answer_bytes (hears s d r).answer) ≤ 67)

-- what is heard completes the sector that is written, and the store takes it
pub record Completes (s : State) (d : Disk) (r : Reading) (sector : ℕ) (bytes : List ℕ) : Type 0 where
  pub kind : DataKind
  pub body : List ℕ
  pub tag : ℕ
  pub due : ℕ
  pub left : ℕ
  pub come : List ℕ
  pub heard : r ≡ packet (data_packet kind body)
  pub expected : s.expects ≡ BulkData
  pub in_turn : same_kind kind s.bulk.toggles.data_out ≡ true
  pub alive : receiving_halted s.bulk.halts ≡ false
  pub phase : s.bulk.phase ≡ data_out tag due left sector come
  pub full : length body ≡ min 64 left
  pub joined : bytes ≡ come ++ body
  pub whole : length bytes ≡ 512
  pub there : sector < d.size
  pub allowed : d.verdict sector bytes ≡ Taken
  pub answered : (hears s d r).answer ≡ acks

abbrev pub OnlyACompletedSectorReachesTheDisk : Type 0
OnlyACompletedSectorReachesTheDisk =
    (s : State) (d : Disk) (r : Reading) (sector : ℕ) (bytes : List ℕ) → (hears s d r).written ≡ Some (sector, bytes) → Completes s d r sector bytes

-- as after a port reset, but still configured and at its address
pub record Recovered (address : ℕ) (s : State) : Type 0 where
  pub bulk : s.bulk ≡ fresh.bulk
  pub configured : s.control.configured ≡ true
  pub addresses : s.control.addresses ≡ One address
  pub expects : s.expects ≡ Nothing

abbrev pub ResetRecoveryEndsEveryHaltAndCommand : Type 0
ResetRecoveryEndsEveryHaltAndCommand =
    (s : State) (d : Disk) (a : ℕ) → s.control.configured ≡ true → addressed s.control.addresses a ≡ true → Recovered a (heard_all s d (recovery a))

-- and so leaves the disk alone
abbrev pub WhatDoesNotReachTheBulkEndpointsWritesNothing : Type 0
WhatDoesNotReachTheBulkEndpointsWritesNothing = (s : State) (d : Disk) (r : Reading) → reaches_bulk s r ≡ false → (hears s d r).written ≡ None

-- the IN that asks for what the bulk endpoint sends
abbrev pub asks : (address : ℕ) → Reading
asks a = packet (token In a 1)

-- what is sent is sent again, however often and whatever is heard in between, until it is acknowledged
abbrev pub AnUnacknowledgedPacketIsSentAgainUnchanged : Type 0
AnUnacknowledgedPacketIsSentAgainUnchanged =
    (s : State) (d : Disk) (a : ℕ) (between : List Reading) (p : Parts) → s.control.configured ≡ true → addressed s.control.addresses a ≡ true
    → (hears s d (asks a)).answer ≡ says p
    → NoneReachesBulk (hears s d (asks a)).state d between
    → addressed (heard_all s d (asks a ∷ between)).control.addresses a ≡ true
    → (hears (heard_all s d (asks a ∷ between)) d (asks a)).answer ≡ says p

-- from a port reset on, whatever is heard
abbrev pub AStatusAnswersItsCommand : Type 0
AStatusAnswersItsCommand =
    (arrivals : List (Disk × Reading)) (b : StatusBlock) (sent : Bool) → (run fresh None arrivals).0.bulk.phase ≡ status b sent
    → (t : Task) × (((run fresh None arrivals).1 ≡ Some t) × AnswersTask b t)
