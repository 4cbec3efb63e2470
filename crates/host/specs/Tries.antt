-- Transactions as the code makes them, try by try: what is made of an answer, and what follows from that.
use Rattle.std.specs.Prelude.{ℕ, zero, suc, Bool, true, false, List, length, Some, None, Ok, Err, Option, Result, ◌==◌}
use Rattle.packet.specs.declared.kind.DataKind.{DataKind}
use Rattle.packet.specs.declared.kind.Handshake.TheVariants.{Ack, Nak, Stall}
use Rattle.packet.specs.Parts.{Parts, token, data_packet, handshake}
use Rattle.packet.specs.Reading.{Reading, packet, refused}
use Rattle.packet.specs.Kinds.{same_kind}
use Rattle.host.specs.declared.fault.Cause.{Cause}
use Rattle.host.specs.declared.fault.Cause.TheVariants.{Damaged, Repeat, NotReady}
use Rattle.host.specs.declared.fault.TransactionFault.{TransactionFault}
use Rattle.host.specs.Process.{Process, done, send}
use Rattle.host.specs.Transactions.{Ending, passed, stalled, gave_up, cause_of}

-- an ending as the code answers it
abbrev pub ending_seen : {A B : Type 0} → (A → B) → Result (Option A) TransactionFault → Ending B
ending_seen f (Ok (Some a)) = passed (f a)
ending_seen f (Ok None) = stalled
ending_seen f (Err fault) = gave_up fault.cause

-- what is made of the answer to data that were sent: ACK, STALL, or a failure
abbrev pub Reply : Type 0
Reply = Result (Option (Unit {0})) Cause

abbrev pub reply_of : Reading → Reply
reply_of (refused n) = Err (cause_of n)
reply_of (packet (token k a e)) = Err Damaged
reply_of (packet (data_packet k body)) = Err Damaged
reply_of (packet (handshake Ack)) = Ok (Some tt)
reply_of (packet (handshake Nak)) = Err NotReady
reply_of (packet (handshake Stall)) = Ok None

abbrev pub by_reply : (Cause → Process (Ending (Unit {0}))) → Reply → Process (Ending (Unit {0}))
by_reply again (Ok (Some a)) = done (passed a)
by_reply again (Ok None) = done stalled
by_reply again (Err cause) = again cause

-- one try: a token and the data after it, and what is made of the answer
abbrev pub tries_delivery : Parts → Parts → Process Reply
tries_delivery head body = send head (λ _. send body (λ r. done (reply_of r)))

-- a token and the data after it, with so many tries left
abbrev pub delivers : ℕ → Parts → Parts → Cause → Process (Ending (Unit {0}))
delivers zero head body cause = done (gave_up cause)
delivers (suc n) head body cause = send head (λ _. send body (λ r. by_reply (delivers n head body) (reply_of r)))

-- which new data fit: any, or those of so many bytes
abbrev pub fits : Option ℕ → List ℕ → Bool
fits None body = true
fits (Some n) body = length body == n

-- what is made of the answer to an IN: new data that fit, a repeat, STALL, or a failure
pub data Fetch : Type 0 where
  new : List ℕ → Fetch
  repeated : Fetch
  stall : Fetch
  failed : Cause → Fetch

abbrev pub fetch_data : Bool → Bool → List ℕ → Fetch
fetch_data true true body = new body
fetch_data true false body = failed Damaged
fetch_data false fit body = repeated

abbrev pub fetch_of : DataKind → Option ℕ → Reading → Fetch
fetch_of toggle fit (refused n) = failed (cause_of n)
fetch_of toggle fit (packet (token k a e)) = failed Damaged
fetch_of toggle fit (packet (data_packet k body)) = fetch_data (same_kind k toggle) (fits fit body) body
fetch_of toggle fit (packet (handshake Ack)) = failed Damaged
fetch_of toggle fit (packet (handshake Nak)) = failed NotReady
fetch_of toggle fit (packet (handshake Stall)) = stall

-- new data and repeats are acknowledged; after a repeat the try has failed
abbrev pub by_fetch : (Cause → Process (Ending (List ℕ))) → Fetch → Process (Ending (List ℕ))
by_fetch again (new body) = send (handshake Ack) (λ _. done (passed body))
by_fetch again repeated = send (handshake Ack) (λ _. again Repeat)
by_fetch again stall = done stalled
by_fetch again (failed cause) = again cause

-- ACK goes out
abbrev pub sends_ack : Process (Unit {0})
sends_ack = send (handshake Ack) (λ _. done tt)

-- one try: an IN token, and what is made of the answer, acknowledged where that is due
abbrev pub acknowledges : Fetch → Process Fetch
acknowledges (new body) = send (handshake Ack) (λ _. done (new body))
acknowledges repeated = send (handshake Ack) (λ _. done repeated)
acknowledges stall = done stall
acknowledges (failed cause) = done (failed cause)

abbrev pub tries_fetch : Parts → DataKind → Option ℕ → Process Fetch
tries_fetch head toggle fit = send head (λ r. acknowledges (fetch_of toggle fit r))

-- an IN token, and what it is answered, with so many tries left
abbrev pub fetches : ℕ → Parts → DataKind → Option ℕ → Cause → Process (Ending (List ℕ))
fetches zero head toggle fit cause = done (gave_up cause)
fetches (suc n) head toggle fit cause = send head (λ r. by_fetch (fetches n head toggle fit) (fetch_of toggle fit r))
