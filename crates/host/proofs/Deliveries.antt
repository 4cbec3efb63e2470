-- Failed tries of delivering a packet are paid for by spoiled packets.
use Rattle.std.proofs.Common.{ℕ, zero, suc, ◌+◌, ◌≤◌, List, subst, arith}
use Rattle.packet.specs.declared.kind.DataKind.{DataKind}
use Rattle.packet.specs.declared.kind.DataKind.TheVariants.{Data0, Data1}
use Rattle.packet.specs.declared.kind.TokenKind.TheVariants.{Out}
use Rattle.packet.specs.Parts.{token, data_packet}
use Rattle.reader.specs.declared.state.Expectation.{Expectation}
use Rattle.reader.specs.declared.state.Expectation.TheVariants.{Nothing}
use Rattle.reader.specs.declared.state.Transfer.{Transfer}
use Rattle.reader.specs.Answers.{acks}
use Rattle.reader.specs.BulkEnds.{Outcome}
use Rattle.store.specs.declared.answers.Verdict.{Verdict}
use Rattle.wire.specs.Delivery.{Delivery, delivered, spoiled}
use Rattle.host.specs.declared.fault.Cause.{Cause}
use Rattle.host.specs.Deliveries.{Taking, world, untaken, taken, Between, before, after, Delivered, taken_once, given_up, FailedDeliveriesArePaidFor}
use Rattle.host.specs.Process.{World, Runs, exchange, answered, written_on}
use Rattle.host.specs.Transactions.{Ending, delivers, judged_sent}

module _ {t : Transfer} {body : List ℕ} {toggle : DataKind} (k : Taking t body toggle) where
  -- one failed try more
  more : (tries from next : ℕ) (e : Ending (Unit {0})) (w : World) → from + 1 ≤ next → Delivered k tries next e w → Delivered k (suc tries) from e w
  more tries from next e w h (taken_once n x v l) = taken_once n x v (omega arith)
  more tries from next e w h (given_up n cause u b l) = given_up n cause u b (omega arith)

  abbrev Later : ℕ → Ending (Unit {0}) → World → Type 0
  Later tries e w = (cause : Cause) (from : ℕ) (u : World) → Between k from u → Runs (delivers tries (token Out 1 2) (data_packet toggle body) cause) u e w → Delivered k tries from e w

  -- what is left of a run when the reader's answer to the data is known
  abbrev Answered : ℕ → ℕ → Outcome → Delivery → (ℕ → List ℕ → Verdict) → Ending (Unit {0}) → World → Type 0
  Answered tries n o g v e w = Runs (judged_sent (delivers tries (token Out 1 2) (data_packet toggle body)) (answered n k.disk o g v).0) (answered n k.disk o g v).1 e w

  -- the data were taken in this try
  now_taken : (tries n : ℕ) (e : Ending (Unit {0})) (w : World) → Later tries e w → (g : Delivery) (v : ℕ → List ℕ → Verdict) → Answered tries n (record { state = taken k Nothing; answer = acks; written = k.written }) g v e w → Delivered k (suc tries) n e w
  now_taken tries n e w later delivered v r = rw (← r.0, ← r.1) (taken_once n Nothing v (omega arith))
  now_taken tries n e w later (spoiled m) v r = more tries n (n + 1) e w (omega arith) (later _ _ _ (after Nothing v) r)

-- what is left of a run after the token and the data of a try
abbrev Rest : (t : Transfer) (body : List ℕ) (toggle : DataKind) → ℕ → World → (f g : Delivery) → (ℕ → List ℕ → Verdict) → (f2 g2 : Delivery) → (ℕ → List ℕ → Verdict) → Ending (Unit {0}) → World → Type 0
Rest t body toggle tries u f g v f2 g2 v2 e w =
    let x = exchange (data_packet toggle body) (exchange (token Out 1 2) u f g v).1 f2 g2 v2 in
    Runs (judged_sent (delivers tries (token Out 1 2) (data_packet toggle body)) x.0) x.1 e w

-- the reader has not taken the data yet
try_before : (t : Transfer) (body : List ℕ) (toggle : DataKind) (k : Taking t body toggle) (tries n : ℕ) (e : Ending (Unit {0})) (w : World) → Later k tries e w → (x : Expectation) (f g : Delivery) (v : ℕ → List ℕ → Verdict) (f2 g2 : Delivery) (v2 : ℕ → List ℕ → Verdict) → Rest t body toggle tries (world n (untaken k x) k.disk) f g v f2 g2 v2 e w → Delivered k (suc tries) n e w
try_before t body Data0 k tries n e w later x delivered g v delivered g2 v2 r = now_taken k tries n e w later g2 v2 (subst (λ o. Answered k tries n o g2 v2 e w) k.takes r)
try_before t body Data1 k tries n e w later x delivered g v delivered g2 v2 r = now_taken k tries n e w later g2 v2 (subst (λ o. Answered k tries n o g2 v2 e w) k.takes r)
try_before t body toggle k tries n e w later x delivered g v (spoiled m) g2 v2 r = more k tries n (n + 1) e w (omega arith) (later _ _ _ (before Nothing) r)
try_before t body toggle k tries n e w later x (spoiled m) g v delivered g2 v2 r = more k tries n (n + 1) e w (omega arith) (later _ _ _ (before Nothing) r)
try_before t body toggle k tries n e w later x (spoiled m) g v (spoiled m2) g2 v2 r = more k tries n (n + 1 + 1) e w (omega arith) (later _ _ _ (before Nothing) r)

-- it has taken them, and the data are a repeat
try_after : (t : Transfer) (body : List ℕ) (toggle : DataKind) (k : Taking t body toggle) (tries n : ℕ) (e : Ending (Unit {0})) (w : World) → Later k tries e w → (x : Expectation) (u : ℕ → List ℕ → Verdict) (f g : Delivery) (v : ℕ → List ℕ → Verdict) (f2 g2 : Delivery) (v2 : ℕ → List ℕ → Verdict) → Rest t body toggle tries (world n (taken k x) (written_on k.written u k.disk)) f g v f2 g2 v2 e w → Delivered k (suc tries) n e w
try_after t body Data0 k tries n e w later x u delivered g v delivered delivered v2 r = rw (← r.0, ← r.1) (taken_once n Nothing u (omega arith))
try_after t body Data1 k tries n e w later x u delivered g v delivered delivered v2 r = rw (← r.0, ← r.1) (taken_once n Nothing u (omega arith))
try_after t body Data0 k tries n e w later x u delivered g v delivered (spoiled m) v2 r = more k tries n (n + 1) e w (omega arith) (later _ _ _ (after Nothing u) r)
try_after t body Data1 k tries n e w later x u delivered g v delivered (spoiled m) v2 r = more k tries n (n + 1) e w (omega arith) (later _ _ _ (after Nothing u) r)
try_after t body toggle k tries n e w later x u delivered g v (spoiled m) g2 v2 r = more k tries n (n + 1) e w (omega arith) (later _ _ _ (after Nothing u) r)
try_after t body toggle k tries n e w later x u (spoiled m) g v delivered g2 v2 r = more k tries n (n + 1) e w (omega arith) (later _ _ _ (after Nothing u) r)
try_after t body toggle k tries n e w later x u (spoiled m) g v (spoiled m2) g2 v2 r = more k tries n (n + 1 + 1) e w (omega arith) (later _ _ _ (after Nothing u) r)

try : (t : Transfer) (body : List ℕ) (toggle : DataKind) (k : Taking t body toggle) (tries n : ℕ) (u : World) → Between k n u → (e : Ending (Unit {0})) (w : World) → Later k tries e w → (f g : Delivery) (v : ℕ → List ℕ → Verdict) (f2 g2 : Delivery) (v2 : ℕ → List ℕ → Verdict) → Rest t body toggle tries u f g v f2 g2 v2 e w → Delivered k (suc tries) n e w
try t body toggle k tries n u (before x) e w later f g v f2 g2 v2 r = try_before t body toggle k tries n e w later x f g v f2 g2 v2 r
try t body toggle k tries n u (after x y) e w later f g v f2 g2 v2 r = try_after t body toggle k tries n e w later x y f g v f2 g2 v2 r

pub failed_deliveries_are_paid_for : FailedDeliveriesArePaidFor
failed_deliveries_are_paid_for t body toggle k zero cause n u b e w r = rw (← r.0, ← r.1) (given_up n cause u b (omega arith))
failed_deliveries_are_paid_for t body toggle k (suc tries) cause n u b e w r =
    try t body toggle k tries n u b e w (λ c m x y q. failed_deliveries_are_paid_for t body toggle k tries c m x y e w q) r.0 r.1 r.2 r.3.0 r.3.1 r.3.2 r.3.3
