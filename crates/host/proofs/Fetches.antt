-- Failed tries of fetching a packet are paid for by spoiled packets, or by an ACK that was spoiled before.
use Rattle.std.proofs.Common.{◌≡◌, ℕ, zero, suc, ◌+◌, ◌≤◌, Bool, true, false, List, sym, ◌∙◌, subst, arith}
use Rattle.packet.specs.declared.kind.DataKind.{DataKind}
use Rattle.packet.specs.declared.kind.Handshake.TheVariants.{Ack}
use Rattle.packet.specs.declared.kind.TokenKind.TheVariants.{In}
use Rattle.packet.specs.Parts.{token, data_packet, handshake}
use Rattle.reader.specs.declared.state.Expectation.TheVariants.{Nothing, BulkAck}
use Rattle.reader.specs.declared.state.Transfer.{Transfer}
use Rattle.reader.specs.Answers.{Answer, says}
use Rattle.reader.specs.BulkEnds.{unwritten, turned}
use Rattle.reader.specs.Disk.{Disk}
use Rattle.reader.specs.State.{State}
use Rattle.store.specs.declared.answers.Verdict.{Verdict}
use Rattle.wire.specs.Delivery.{Delivery, delivered, spoiled}
use Rattle.host.specs.declared.fault.Cause.{Cause}
use Rattle.host.specs.declared.fault.Cause.TheVariants.{Repeat}
use Rattle.host.specs.Deliveries.{attached, world}
use Rattle.host.specs.Fetches.{sent_once, Fetching, Waits, level, level_sent, behind, ended, unended, Fetches, fetched, given_up, FailedFetchesArePaidFor}
use Rattle.host.specs.Process.{World, done, Runs, exchange, answered}
use Rattle.host.specs.Transactions.{Ending, passed, fetches, judged_data, judged_fetched}
use Rattle.host.proofs.Toggles.{same_as_itself, not_its_other}

module _ {t : Transfer} {d : Disk} {toggle : DataKind} (k : Fetching t d toggle) (fits : List ℕ → Bool) (fit : fits k.now.body ≡ true) where
  more : (tries from pending next later : ℕ) (e : Ending (List ℕ)) (w : World) → from + 1 + later ≤ next + pending → Fetches k tries next later e w → Fetches k (suc tries) from pending e w
  more tries from pending next later e w h (fetched n l u b m) = fetched n l u b (omega arith)
  more tries from pending next later e w h (given_up n l cause u b m) = given_up n l cause u b (omega arith)

  abbrev Later : ℕ → Ending (List ℕ) → World → Type 0
  Later tries e w = (cause : Cause) (from pending : ℕ) (u : World) → Waits k from pending u → Runs (fetches tries (token In 1 1) toggle fits cause) u e w → Fetches k tries from pending e w

  -- what is left of a run when the reader's answer to the token is known
  abbrev Answered : ℕ → ℕ → State × Answer → Delivery → (ℕ → List ℕ → Verdict) → Ending (List ℕ) → World → Type 0
  Answered tries n p g v e w = Runs (judged_fetched toggle fits (fetches tries (token In 1 1) toggle fits) (answered n d (unwritten p) g v).0) (answered n d (unwritten p) g v).1 e w

  -- the ACK of the packet goes out
  acknowledges : (tries n : ℕ) (e : Ending (List ℕ)) (w : World) (f g : Delivery) (v : ℕ → List ℕ → Verdict)
      → Runs (done (passed k.now.body)) (exchange (handshake Ack) (world n (sent_once k.now BulkAck) d) f g v).1 e w → Fetches k (suc tries) n 0 e w
  acknowledges tries n e w delivered g v r = rw (← r.0, ← r.1) (subst (λ b. Fetches k (suc tries) n 0 (passed k.now.body) (world n (attached t b Nothing) d)) (sym k.now.ends) (fetched n 0 _ (ended Nothing) (omega arith)))
  acknowledges tries n e w (spoiled m) g v r = rw (← r.0, ← r.1) (fetched (n + 1) 1 _ (unended Nothing) (omega arith))

  -- the packet came home, or did not
  comes : (tries n : ℕ) (e : Ending (List ℕ)) (w : World) → Later tries e w → (g : Delivery) (v : ℕ → List ℕ → Verdict)
      → Answered tries n (sent_once k.now BulkAck, says (data_packet toggle k.now.body)) g v e w → Fetches k (suc tries) n 0 e w
  comes tries n e w later delivered v r =
      let here : Runs (judged_data true true k.now.body (fetches tries (token In 1 1) toggle fits)) (world n (sent_once k.now BulkAck) d) e w =
      subst (λ b. Runs (judged_data true b k.now.body (fetches tries (token In 1 1) toggle fits)) (world n (sent_once k.now BulkAck) d) e w) fit
      (subst (λ b. Runs (judged_data b (fits k.now.body) k.now.body (fetches tries (token In 1 1) toggle fits)) (world n (sent_once k.now BulkAck) d) e w) (same_as_itself toggle) r) in
      acknowledges tries n e w here.0 here.1 here.2 here.3
  comes tries n e w later (spoiled m) v r = more tries n 0 (n + 1) 0 e w (omega arith) (later _ _ _ _ (level_sent BulkAck) r)

  -- the ACK of a repeat goes out: it settles what was unacknowledged, unless it is spoiled again
  settles : (tries n : ℕ) (e : Ending (List ℕ)) (w : World) → Later tries e w → (f g : Delivery) (v : ℕ → List ℕ → Verdict)
      → Runs (fetches tries (token In 1 1) toggle fits Repeat) (exchange (handshake Ack) (world n (sent_once k.old BulkAck) d) f g v).1 e w → Fetches k (suc tries) n 1 e w
  settles tries n e w later delivered g v r =
      more tries n 1 n 0 e w (omega arith) (later _ _ _ _ (level Nothing) (subst (λ b. Runs (fetches tries (token In 1 1) toggle fits Repeat) (world n (attached t b Nothing) d) e w) (k.old.ends ∙ k.follows) r))
  settles tries n e w later (spoiled m) g v r = more tries n 1 (n + 1) 1 e w (omega arith) (later _ _ _ _ (behind Nothing) r)

  -- a repeat came home, or did not
  repeats : (tries n : ℕ) (e : Ending (List ℕ)) (w : World) → Later tries e w → (g : Delivery) (v : ℕ → List ℕ → Verdict)
      → Answered tries n (sent_once k.old BulkAck, says (data_packet (turned toggle) k.old.body)) g v e w → Fetches k (suc tries) n 1 e w
  repeats tries n e w later delivered v r =
      let here : Runs (judged_data false (fits k.old.body) k.old.body (fetches tries (token In 1 1) toggle fits)) (world n (sent_once k.old BulkAck) d) e w =
      subst (λ b. Runs (judged_data b (fits k.old.body) k.old.body (fetches tries (token In 1 1) toggle fits)) (world n (sent_once k.old BulkAck) d) e w) (not_its_other toggle) r in
      settles tries n e w later here.0 here.1 here.2 here.3
  repeats tries n e w later (spoiled m) v r = more tries n 1 (n + 1) 1 e w (omega arith) (later _ _ _ _ (behind BulkAck) r)

  abbrev Rest : ℕ → World → (f g : Delivery) → (ℕ → List ℕ → Verdict) → Ending (List ℕ) → World → Type 0
  Rest tries u f g v e w = let x = exchange (token In 1 1) u f g v in Runs (judged_fetched toggle fits (fetches tries (token In 1 1) toggle fits) x.0) x.1 e w

  try : (tries n pending : ℕ) (u : World) → Waits k n pending u → (e : Ending (List ℕ)) (w : World) → Later tries e w → (f g : Delivery) (v : ℕ → List ℕ → Verdict) → Rest tries u f g v e w → Fetches k (suc tries) n pending e w
  try tries n pending u (level x) e w later delivered g v r = comes tries n e w later g v (subst (λ p. Answered tries n p g v e w) (k.now.offers x) r)
  try tries n pending u (level_sent x) e w later delivered g v r = comes tries n e w later g v (subst (λ p. Answered tries n p g v e w) (k.now.offers_again x) r)
  try tries n pending u (behind x) e w later delivered g v r = repeats tries n e w later g v (subst (λ p. Answered tries n p g v e w) (k.old.offers_again x) r)
  try tries n pending u (level x) e w later (spoiled m) g v r = more tries n 0 (n + 1) 0 e w (omega arith) (later _ _ _ _ (level Nothing) r)
  try tries n pending u (level_sent x) e w later (spoiled m) g v r = more tries n 0 (n + 1) 0 e w (omega arith) (later _ _ _ _ (level_sent Nothing) r)
  try tries n pending u (behind x) e w later (spoiled m) g v r = more tries n 1 (n + 1) 1 e w (omega arith) (later _ _ _ _ (behind Nothing) r)

pub failed_fetches_are_paid_for : FailedFetchesArePaidFor
failed_fetches_are_paid_for t d toggle k fits fit zero cause n pending u b e w r = rw (← r.0, ← r.1) (given_up n pending cause u b (omega arith))
failed_fetches_are_paid_for t d toggle k fits fit (suc tries) cause n pending u b e w r =
    try k fits fit tries n pending u b e w (λ c m p x y q. failed_fetches_are_paid_for t d toggle k fits fit tries c m p x y e w q) r.0 r.1 r.2 r.3
