-- Transactions: a packet delivered to the reader or fetched from it, in at most so many tries.
use Rattle.std.specs.Prelude.{ℕ, zero, suc, Bool, true, false, cond, List, ◌==◌}
use Rattle.packet.specs.declared.kind.DataKind.{DataKind}
use Rattle.packet.specs.declared.kind.Handshake.TheVariants.{Ack, Nak, Stall}
use Rattle.packet.specs.Parts.{Parts, token, data_packet, handshake}
use Rattle.packet.specs.Reading.{Reading, packet, refused}
use Rattle.packet.specs.Kinds.{same_kind}
use Rattle.host.specs.declared.fault.Cause.{Cause}
use Rattle.host.specs.declared.fault.Cause.TheVariants.{Nothing, Damaged, Repeat, NotReady}
use Rattle.host.specs.Process.{Process, done, send}

-- a transaction passes with what was fetched, meets STALL, or is given up with the cause of its last try
pub data Ending (A : Type 0) : Type 0 where
  passed : A → Ending A
  stalled : Ending A
  gave_up : Cause → Ending A

-- nothing came, or what came was damaged
abbrev pub cause_of : ℕ → Cause
cause_of n = cond (n == 20) Nothing Damaged

-- the answer to data that were sent
abbrev pub judged_sent : (Cause → Process (Ending (Unit {0}))) → Reading → Process (Ending (Unit {0}))
judged_sent again (refused n) = again (cause_of n)
judged_sent again (packet (token k a e)) = again Damaged
judged_sent again (packet (data_packet k body)) = again Damaged
judged_sent again (packet (handshake Ack)) = done (passed tt)
judged_sent again (packet (handshake Nak)) = again NotReady
judged_sent again (packet (handshake Stall)) = done stalled

-- a token and the data after it, with so many tries left
abbrev pub delivers : ℕ → Parts → Parts → Cause → Process (Ending (Unit {0}))
delivers zero head body cause = done (gave_up cause)
delivers (suc n) head body cause = send head (λ _. send body (judged_sent (delivers n head body)))

-- data that came with the toggle that was awaited are acknowledged if they fit; a repeat is acknowledged, and the try has
-- failed
abbrev pub judged_data : Bool → Bool → List ℕ → (Cause → Process (Ending (List ℕ))) → Process (Ending (List ℕ))
judged_data true true body again = send (handshake Ack) (λ _. done (passed body))
judged_data true false body again = again Damaged
judged_data false fits body again = send (handshake Ack) (λ _. again Repeat)

abbrev pub judged_fetched : DataKind → (List ℕ → Bool) → (Cause → Process (Ending (List ℕ))) → Reading → Process (Ending (List ℕ))
judged_fetched toggle fits again (refused n) = again (cause_of n)
judged_fetched toggle fits again (packet (token k a e)) = again Damaged
judged_fetched toggle fits again (packet (data_packet k body)) = judged_data (same_kind k toggle) (fits body) body again
judged_fetched toggle fits again (packet (handshake Ack)) = again Damaged
judged_fetched toggle fits again (packet (handshake Nak)) = again NotReady
judged_fetched toggle fits again (packet (handshake Stall)) = done stalled

-- an IN token, and what it is answered, with so many tries left
abbrev pub fetches : ℕ → Parts → DataKind → (List ℕ → Bool) → Cause → Process (Ending (List ℕ))
fetches zero head toggle fits cause = done (gave_up cause)
fetches (suc n) head toggle fits cause = send head (judged_fetched toggle fits (fetches n head toggle fits))
