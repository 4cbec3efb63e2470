-- Failed tries of fetching a packet are paid for by spoiled packets, or by an ACK that was spoiled before.
use Rattle.std.proofs.Common.{◌≡◌, ℕ, zero, suc, ◌+◌, ◌≤◌, Bool, true, List, ap, ◌∙◌, subst, arith, Option}
use Rattle.packet.specs.declared.kind.DataKind.{DataKind}
use Rattle.packet.specs.declared.kind.Handshake.TheVariants.{Ack}
use Rattle.packet.specs.declared.kind.TokenKind.{TokenKind}
use Rattle.packet.specs.Parts.{token, data_packet, handshake}
use Rattle.reader.specs.declared.state.Expectation.{Expectation}
use Rattle.reader.specs.declared.state.Expectation.TheVariants.{Nothing}
use Rattle.reader.specs.Answers.{quiet, says, stalls}
use Rattle.reader.specs.BulkEnds.{Outcome, unwritten, turned}
use Rattle.reader.specs.Control.{expecting}
use Rattle.reader.specs.Disk.{Disk}
use Rattle.store.specs.declared.answers.Verdict.{Verdict}
use Rattle.wire.specs.Delivery.{Delivery, delivered, spoiled}
use Rattle.host.specs.declared.fault.Cause.{Cause}
use Rattle.host.specs.declared.fault.Cause.TheVariants.{Repeat}
use Rattle.host.specs.Process.{World, Process, done, Runs, exchange, answered}
use Rattle.host.specs.Transactions.{Ending, passed}
use Rattle.host.specs.Tries.{fits, fetches, fetch_data, fetch_of, by_fetch}
use Rattle.host_laws.specs.Deliveries.{world}
use Rattle.host_laws.specs.Fetches.{Waiting, Behind, Waits, level, level_sent, behind, ended, unended, Fetches, fetched, given_up, FailedFetchesArePaidFor, Halted, Unfetched, met_stall, given_up as refused-no-more, AHaltedEndpointSendsNothing}
use Rattle.host.proofs.Toggles.{same_as_itself, not_its_other}

module _ (t : TokenKind) (address endpoint : ℕ) (toggle : DataKind) (fit : Option ℕ) (d : Disk) where
  abbrev Tries : ℕ → Cause → Process (Ending (List ℕ))
  Tries tries cause = fetches tries (token t address endpoint) toggle fit cause

  -- what is left of a run when what the reader makes of the token is known
  abbrev AfterToken : ℕ → ℕ → Outcome → Delivery → (ℕ → List ℕ → Verdict) → Ending (List ℕ) → World → Type 0
  AfterToken tries n o g v e w = Runs (by_fetch (Tries tries) (fetch_of toggle fit (answered n d o g v).0)) (answered n d o g v).1 e w

  module _ (k : Waiting (token t address endpoint) toggle d) (fitting : fits fit k.body ≡ true) where
    more : (tries from pending next later : ℕ) (e : Ending (List ℕ)) (w : World) → from ≤ next → from + 1 + later ≤ next + pending → Fetches k tries next later e w → Fetches k (suc tries) from pending e w
    more tries from pending next later e w i h (fetched n l u b m o) = fetched n l u b (omega arith) (omega arith)
    more tries from pending next later e w i h (given_up n l cause u b m o) = given_up n l cause u b (omega arith) (omega arith)

    abbrev Later : ℕ → Ending (List ℕ) → World → Type 0
    Later tries e w = (cause : Cause) (from pending : ℕ) (u : World) → Waits k from pending u → Runs (Tries tries cause) u e w → Fetches k tries from pending e w

    -- what is left of a run when what the reader makes of an ACK is known
    abbrev AfterAck : Process (Ending (List ℕ)) → ℕ → Delivery → (ℕ → List ℕ → Verdict) → Ending (List ℕ) → World → Outcome → Type 0
    AfterAck next n g v e w o = Runs next (answered n d o g v).1 e w

    -- the ACK of the packet goes out
    acknowledges : (tries n : ℕ) (e : Ending (List ℕ)) (w : World) (f g : Delivery) (v : ℕ → List ℕ → Verdict)
        → Runs (done (passed k.body)) (exchange (handshake Ack) (world n (expecting k.owed k.sent) d) f g v).1 e w → Fetches k (suc tries) n 0 e w
    acknowledges tries n e w delivered g v r = let q = subst (AfterAck (done (passed k.body)) n g v e w) k.ends r in rw (← q.0, ← q.1) (fetched n 0 _ (ended Nothing) (omega arith) (omega arith))
    acknowledges tries n e w (spoiled m) g v r = rw (← r.0, ← r.1) (fetched (n + 1) 1 _ (unended Nothing) (omega arith) (omega arith))

    -- the packet came home, or did not
    comes : (tries n : ℕ) (e : Ending (List ℕ)) (w : World) → Later tries e w → (g : Delivery) (v : ℕ → List ℕ → Verdict)
        → AfterToken tries n (unwritten (expecting k.owed k.sent, says (data_packet toggle k.body))) g v e w → Fetches k (suc tries) n 0 e w
    comes tries n e w later delivered v r =
        let judged : Bool → Bool → Type 0 = λ a b. Runs (by_fetch (Tries tries) (fetch_data a b k.body)) (world n (expecting k.owed k.sent) d) e w in
        let here : judged true true = subst (λ b. judged true b) fitting (subst (λ b. judged b (fits fit k.body)) (same_as_itself toggle) r) in
        acknowledges tries n e w here.0 here.1 here.2 here.3
    comes tries n e w later (spoiled m) v r = more tries n 0 (n + 1) 0 e w (omega arith) (omega arith) (later _ _ _ _ (level_sent k.owed) r)

    module _ (b : Behind k) where
      -- the ACK of a repeat goes out: it settles what was unacknowledged, unless it is spoiled again
      settles : (tries n : ℕ) (e : Ending (List ℕ)) (w : World) → Later tries e w → (f g : Delivery) (v : ℕ → List ℕ → Verdict)
          → Runs (Tries tries Repeat) (exchange (handshake Ack) (world n (expecting b.old.owed b.old.sent) d) f g v).1 e w → Fetches k (suc tries) n 1 e w
      settles tries n e w later delivered g v r =
          let q = subst (AfterAck (Tries tries Repeat) n g v e w) (b.old.ends ∙ ap (λ s. unwritten (expecting Nothing s, quiet)) b.follows) r in
          more tries n 1 n 0 e w (omega arith) (omega arith) (later _ _ _ _ (level Nothing) q)
      settles tries n e w later (spoiled m) g v r = more tries n 1 (n + 1) 1 e w (omega arith) (omega arith) (later _ _ _ _ (behind b Nothing) r)

      -- a repeat came home, or did not
      repeats : (tries n : ℕ) (e : Ending (List ℕ)) (w : World) → Later tries e w → (g : Delivery) (v : ℕ → List ℕ → Verdict)
          → AfterToken tries n (unwritten (expecting b.old.owed b.old.sent, says (data_packet (turned toggle) b.old.body))) g v e w → Fetches k (suc tries) n 1 e w
      repeats tries n e w later delivered v r =
          let here = subst (λ a. Runs (by_fetch (Tries tries) (fetch_data a (fits fit b.old.body) b.old.body)) (world n (expecting b.old.owed b.old.sent) d) e w) (not_its_other toggle) r in
          settles tries n e w later here.0 here.1 here.2 here.3
      repeats tries n e w later (spoiled m) v r = more tries n 1 (n + 1) 1 e w (omega arith) (omega arith) (later _ _ _ _ (behind b b.old.owed) r)

    try : (tries n pending : ℕ) (u : World) → Waits k n pending u → (e : Ending (List ℕ)) (w : World) → Later tries e w → (f g : Delivery) (v : ℕ → List ℕ → Verdict)
        → (let x = exchange (token t address endpoint) u f g v in Runs (by_fetch (Tries tries) (fetch_of toggle fit x.0)) x.1 e w) → Fetches k (suc tries) n pending e w
    try tries n pending u (level x) e w later delivered g v r = comes tries n e w later g v (subst (λ o. AfterToken tries n o g v e w) (k.offers x) r)
    try tries n pending u (level_sent x) e w later delivered g v r = comes tries n e w later g v (subst (λ o. AfterToken tries n o g v e w) (k.offers_again x) r)
    try tries n pending u (behind b x) e w later delivered g v r = repeats b tries n e w later g v (subst (λ o. AfterToken tries n o g v e w) (b.old.offers_again x) r)
    try tries n pending u (level x) e w later (spoiled m) g v r = more tries n 0 (n + 1) 0 e w (omega arith) (omega arith) (later _ _ _ _ (level Nothing) r)
    try tries n pending u (level_sent x) e w later (spoiled m) g v r = more tries n 0 (n + 1) 0 e w (omega arith) (omega arith) (later _ _ _ _ (level_sent Nothing) r)
    try tries n pending u (behind b x) e w later (spoiled m) g v r = more tries n 1 (n + 1) 1 e w (omega arith) (omega arith) (later _ _ _ _ (behind b Nothing) r)

  module _ (k : Halted (token t address endpoint) d) where
    more_refused : (tries from next : ℕ) (e : Ending (List ℕ)) (w : World) → from + 1 ≤ next → Unfetched k tries next e w → Unfetched k (suc tries) from e w
    more_refused tries from next e w h (met_stall n x l) = met_stall n x (omega arith)
    more_refused tries from next e w h (refused-no-more n cause x l) = refused-no-more n cause x (omega arith)

    abbrev LaterRefused : ℕ → Ending (List ℕ) → World → Type 0
    LaterRefused tries e w = (cause : Cause) (from : ℕ) (x : Expectation) → Runs (Tries tries cause) (world from (expecting x k.halted) d) e w → Unfetched k tries from e w

    -- STALL came home, or did not
    refused_now : (tries n : ℕ) (e : Ending (List ℕ)) (w : World) → LaterRefused tries e w → (g : Delivery) (v : ℕ → List ℕ → Verdict)
        → AfterToken tries n (unwritten (expecting Nothing k.halted, stalls)) g v e w → Unfetched k (suc tries) n e w
    refused_now tries n e w later delivered v r = rw (← r.0, ← r.1) (met_stall n Nothing (omega arith))
    refused_now tries n e w later (spoiled m) v r = more_refused tries n (n + 1) e w (omega arith) (later _ _ Nothing r)

    try_refused : (tries n : ℕ) (x : Expectation) (e : Ending (List ℕ)) (w : World) → LaterRefused tries e w → (f g : Delivery) (v : ℕ → List ℕ → Verdict)
        → (let x = exchange (token t address endpoint) (world n (expecting x k.halted) d) f g v in Runs (by_fetch (Tries tries) (fetch_of toggle fit x.0)) x.1 e w) → Unfetched k (suc tries) n e w
    try_refused tries n x e w later delivered g v r = refused_now tries n e w later g v (subst (λ o. AfterToken tries n o g v e w) (k.refuses x) r)
    try_refused tries n x e w later (spoiled m) g v r = more_refused tries n (n + 1) e w (omega arith) (later _ _ Nothing r)

pub failed_fetches_are_paid_for : FailedFetchesArePaidFor
failed_fetches_are_paid_for t a p toggle d k fit fitting zero cause n pending u b e w r = rw (← r.0, ← r.1) (given_up n pending cause u b (omega arith) (omega arith))
failed_fetches_are_paid_for t a p toggle d k fit fitting (suc tries) cause n pending u b e w r =
    try t a p toggle fit d k fitting tries n pending u b e w (λ c m l x y q. failed_fetches_are_paid_for t a p toggle d k fit fitting tries c m l x y e w q) r.0 r.1 r.2 r.3

pub a_halted_endpoint_sends_nothing : AHaltedEndpointSendsNothing
a_halted_endpoint_sends_nothing t a p toggle d k fit zero cause n x e w r = rw (← r.0, ← r.1) (refused-no-more n cause x (omega arith))
a_halted_endpoint_sends_nothing t a p toggle d k fit (suc tries) cause n x e w r =
    try_refused t a p toggle fit d k tries n x e w (λ c m y q. a_halted_endpoint_sends_nothing t a p toggle d k fit tries c m y e w q) r.0 r.1 r.2 r.3
