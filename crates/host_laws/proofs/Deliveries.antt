-- Failed tries of delivering a packet are paid for by spoiled packets.
use Rattle.std.proofs.Common.{ℕ, zero, suc, ◌+◌, ◌≤◌, List, subst, arith}
use Rattle.packet.specs.declared.kind.DataKind.{DataKind}
use Rattle.packet.specs.declared.kind.TokenKind.{TokenKind}
use Rattle.packet.specs.Parts.{token, data_packet}
use Rattle.reader.specs.declared.state.Expectation.{Expectation}
use Rattle.reader.specs.declared.state.Expectation.TheVariants.{Nothing}
use Rattle.reader.specs.Answers.{acks, stalls}
use Rattle.reader.specs.BulkEnds.{Outcome, unwritten}
use Rattle.reader.specs.Control.{expecting}
use Rattle.reader.specs.Disk.{Disk}
use Rattle.reader.specs.State.{State}
use Rattle.store.specs.declared.answers.Verdict.{Verdict}
use Rattle.wire.specs.Delivery.{Delivery, delivered, spoiled}
use Rattle.host.specs.declared.fault.Cause.{Cause}
use Rattle.host.specs.Process.{World, Process, send, Runs, exchange, answered, written_on}
use Rattle.host.specs.Transactions.{Ending}
use Rattle.host.specs.Tries.{delivers, by_reply, reply_of}
use Rattle.host_laws.specs.Deliveries.{world, Taking, Between, before, begun_only, after, Delivered, taken_once, given_up, FailedDeliveriesArePaidFor, Stalling, Refused, met_stall, given_up as refused-no-more, AHaltedEndpointRefusesData}

module _ (t : TokenKind) (address endpoint : ℕ) (kind : DataKind) (bytes : List ℕ) where
  abbrev Deliveries : ℕ → Cause → Process (Ending (Unit {0}))
  Deliveries tries cause = delivers tries (token t address endpoint) (data_packet kind bytes) cause

  -- what is left of a try when its token has gone out
  abbrev DataOfTry : ℕ → Process (Ending (Unit {0}))
  DataOfTry tries = send (data_packet kind bytes) (λ r. by_reply (Deliveries tries) (reply_of r))

  -- what is left of a run when what the reader makes of the token is known
  abbrev AfterToken : ℕ → ℕ → Disk → Outcome → Delivery → (ℕ → List ℕ → Verdict) → Ending (Unit {0}) → World → Type 0
  AfterToken tries n d o g v e w = Runs (DataOfTry tries) (answered n d o g v).1 e w

  -- and when what it makes of the data is known
  abbrev AfterData : ℕ → ℕ → Disk → Outcome → Delivery → (ℕ → List ℕ → Verdict) → Ending (Unit {0}) → World → Type 0
  AfterData tries n d o g v e w = Runs (by_reply (Deliveries tries) (reply_of (answered n d o g v).0)) (answered n d o g v).1 e w

  -- after a token that was spoiled the data say nothing to the reader
  missed : (tries n : ℕ) (s : State) (d : Disk) (e : Ending (Unit {0})) (w : World) (P : Type 0) → ((cause : Cause) (m : ℕ) → n ≤ m → Runs (Deliveries tries cause) (world m (expecting Nothing s) d) e w → P)
      → (f g : Delivery) (v : ℕ → List ℕ → Verdict)
      → (let x = exchange (data_packet kind bytes) (world n (expecting Nothing s) d) f g v in Runs (by_reply (Deliveries tries) (reply_of x.0)) x.1 e w) → P
  missed tries n s d e w P again delivered g v r = again _ n (omega arith) r
  missed tries n s d e w P again (spoiled m) g v r = again _ (n + 1) (omega arith) r

  module _ (k : Taking (token t address endpoint) kind bytes) where
    -- one failed try more
    more : (tries from next : ℕ) (e : Ending (Unit {0})) (w : World) → from + 1 ≤ next → Delivered k tries next e w → Delivered k (suc tries) from e w
    more tries from next e w h (taken_once n x v l) = taken_once n x v (omega arith)
    more tries from next e w h (given_up n cause u b l) = given_up n cause u b (omega arith)

    abbrev Later : ℕ → Ending (Unit {0}) → World → Type 0
    Later tries e w = (cause : Cause) (from : ℕ) (u : World) → Between k from u → Runs (Deliveries tries cause) u e w → Delivered k tries from e w

    -- the data were taken in this try
    now_taken : (tries n : ℕ) (e : Ending (Unit {0})) (w : World) → Later tries e w → (g : Delivery) (v : ℕ → List ℕ → Verdict)
        → AfterData tries n k.disk (record { state = expecting Nothing k.taken; answer = acks; written = k.written }) g v e w → Delivered k (suc tries) n e w
    now_taken tries n e w later delivered v r = rw (← r.0, ← r.1) (taken_once n Nothing v (omega arith))
    now_taken tries n e w later (spoiled m) v r = more tries n (n + 1) e w (omega arith) (later _ _ _ (after Nothing v) r)

    -- they are a repeat
    now_repeated : (tries n : ℕ) (u : ℕ → List ℕ → Verdict) (e : Ending (Unit {0})) (w : World) → Later tries e w → (g : Delivery) (v : ℕ → List ℕ → Verdict)
        → AfterData tries n (written_on k.written u k.disk) (unwritten (expecting Nothing k.taken, acks)) g v e w → Delivered k (suc tries) n e w
    now_repeated tries n u e w later delivered v r = rw (← r.0, ← r.1) (taken_once n Nothing u (omega arith))
    now_repeated tries n u e w later (spoiled m) v r = more tries n (n + 1) e w (omega arith) (later _ _ _ (after Nothing u) r)

    -- the token arrived, and the reader awaits the data
    data_awaited : (tries n : ℕ) (e : Ending (Unit {0})) (w : World) → Later tries e w → (f g : Delivery) (v : ℕ → List ℕ → Verdict)
        → (let x = exchange (data_packet kind bytes) (world n (expecting k.due k.begun) k.disk) f g v in Runs (by_reply (Deliveries tries) (reply_of x.0)) x.1 e w)
        → Delivered k (suc tries) n e w
    data_awaited tries n e w later delivered g v r = now_taken tries n e w later g v (subst (λ o. AfterData tries n k.disk o g v e w) k.takes r)
    data_awaited tries n e w later (spoiled m) g v r = more tries n (n + 1) e w (omega arith) (later _ _ _ (begun_only Nothing) r)

    -- the same, when it has taken them
    data_again : (tries n : ℕ) (u : ℕ → List ℕ → Verdict) (e : Ending (Unit {0})) (w : World) → Later tries e w → (f g : Delivery) (v : ℕ → List ℕ → Verdict)
        → (let x = exchange (data_packet kind bytes) (world n (expecting k.due k.taken) (written_on k.written u k.disk)) f g v in Runs (by_reply (Deliveries tries) (reply_of x.0)) x.1 e w)
        → Delivered k (suc tries) n e w
    data_again tries n u e w later delivered g v r = now_repeated tries n u e w later g v (subst (λ o. AfterData tries n (written_on k.written u k.disk) o g v e w) (k.repeats _) r)
    data_again tries n u e w later (spoiled m) g v r = more tries n (n + 1) e w (omega arith) (later _ _ _ (after Nothing u) r)

    try : (tries n : ℕ) (u : World) → Between k n u → (e : Ending (Unit {0})) (w : World) → Later tries e w → (f g : Delivery) (v : ℕ → List ℕ → Verdict)
        → Runs (DataOfTry tries) (exchange (token t address endpoint) u f g v).1 e w → Delivered k (suc tries) n e w
    try tries n u (before x) e w later delivered g v r = let q = subst (λ o. AfterToken tries n k.disk o g v e w) (k.token_heard x) r in data_awaited tries n e w later q.0 q.1 q.2 q.3
    try tries n u (begun_only x) e w later delivered g v r = let q = subst (λ o. AfterToken tries n k.disk o g v e w) (k.token_again x) r in data_awaited tries n e w later q.0 q.1 q.2 q.3
    try tries n u (after x y) e w later delivered g v r =
        let q = subst (λ o. AfterToken tries n (written_on k.written y k.disk) o g v e w) (k.token_after _ x) r in data_again tries n y e w later q.0 q.1 q.2 q.3
    try tries n u (before x) e w later (spoiled m) g v r =
        missed tries (n + 1) k.untaken k.disk e w _ (λ c i l q. more tries n i e w (omega arith) (later c i _ (before Nothing) q)) r.0 r.1 r.2 r.3
    try tries n u (begun_only x) e w later (spoiled m) g v r =
        missed tries (n + 1) k.begun k.disk e w _ (λ c i l q. more tries n i e w (omega arith) (later c i _ (begun_only Nothing) q)) r.0 r.1 r.2 r.3
    try tries n u (after x y) e w later (spoiled m) g v r =
        missed tries (n + 1) k.taken (written_on k.written y k.disk) e w _ (λ c i l q. more tries n i e w (omega arith) (later c i _ (after Nothing y) q)) r.0 r.1 r.2 r.3

  module _ (k : Stalling (token t address endpoint) kind bytes) where
    more_refused : (tries from next : ℕ) (e : Ending (Unit {0})) (w : World) → from + 1 ≤ next → Refused k tries next e w → Refused k (suc tries) from e w
    more_refused tries from next e w h (met_stall n x l) = met_stall n x (omega arith)
    more_refused tries from next e w h (refused-no-more n cause x l) = refused-no-more n cause x (omega arith)

    abbrev LaterRefused : ℕ → Ending (Unit {0}) → World → Type 0
    LaterRefused tries e w = (cause : Cause) (from : ℕ) (x : Expectation) → Runs (Deliveries tries cause) (world from (expecting x k.halted) k.disk) e w → Refused k tries from e w

    -- STALL came home, or did not
    refused_now : (tries n : ℕ) (e : Ending (Unit {0})) (w : World) → LaterRefused tries e w → (g : Delivery) (v : ℕ → List ℕ → Verdict)
        → AfterData tries n k.disk (unwritten (expecting Nothing k.halted, stalls)) g v e w → Refused k (suc tries) n e w
    refused_now tries n e w later delivered v r = rw (← r.0, ← r.1) (met_stall n Nothing (omega arith))
    refused_now tries n e w later (spoiled m) v r = more_refused tries n (n + 1) e w (omega arith) (later _ _ Nothing r)

    data_refused : (tries n : ℕ) (e : Ending (Unit {0})) (w : World) → LaterRefused tries e w → (f g : Delivery) (v : ℕ → List ℕ → Verdict)
        → (let x = exchange (data_packet kind bytes) (world n (expecting k.due k.halted) k.disk) f g v in Runs (by_reply (Deliveries tries) (reply_of x.0)) x.1 e w)
        → Refused k (suc tries) n e w
    data_refused tries n e w later delivered g v r = refused_now tries n e w later g v (subst (λ o. AfterData tries n k.disk o g v e w) k.refuses r)
    data_refused tries n e w later (spoiled m) g v r = more_refused tries n (n + 1) e w (omega arith) (later _ _ Nothing r)

    try_refused : (tries n : ℕ) (x : Expectation) (e : Ending (Unit {0})) (w : World) → LaterRefused tries e w → (f g : Delivery) (v : ℕ → List ℕ → Verdict)
        → Runs (DataOfTry tries) (exchange (token t address endpoint) (world n (expecting x k.halted) k.disk) f g v).1 e w → Refused k (suc tries) n e w
    try_refused tries n x e w later delivered g v r = let q = subst (λ o. AfterToken tries n k.disk o g v e w) (k.token_heard x) r in data_refused tries n e w later q.0 q.1 q.2 q.3
    try_refused tries n x e w later (spoiled m) g v r =
        missed tries (n + 1) k.halted k.disk e w _ (λ c i l q. more_refused tries n i e w (omega arith) (later c i Nothing q)) r.0 r.1 r.2 r.3

pub failed_deliveries_are_paid_for : FailedDeliveriesArePaidFor
failed_deliveries_are_paid_for t a p kind bytes k zero cause n u b e w r = rw (← r.0, ← r.1) (given_up n cause u b (omega arith))
failed_deliveries_are_paid_for t a p kind bytes k (suc tries) cause n u b e w r =
    try t a p kind bytes k tries n u b e w (λ c m x y q. failed_deliveries_are_paid_for t a p kind bytes k tries c m x y e w q) r.0 r.1 r.2 r.3

pub a_halted_endpoint_refuses_data : AHaltedEndpointRefusesData
a_halted_endpoint_refuses_data t a p kind bytes k zero cause n x e w r = rw (← r.0, ← r.1) (refused-no-more n cause x (omega arith))
a_halted_endpoint_refuses_data t a p kind bytes k (suc tries) cause n x e w r =
    try_refused t a p kind bytes k tries n x e w (λ c m y q. a_halted_endpoint_refuses_data t a p kind bytes k tries c m y e w q) r.0 r.1 r.2 r.3
