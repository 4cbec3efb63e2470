-- One try after another.
use Rattle.std.proofs.Common.{◌≡◌, ℕ, suc, ◌+◌, ◌-◌, ◌<◌, ◌≤◌, List, Option, Some, None, Ok, sym, refl, ap, subst, arith}
use mathlib.Core.Path.{fun_ext}
use Rattle.packet.specs.declared.kind.DataKind.{DataKind}
use Rattle.packet.specs.Parts.{Parts}
use Rattle.packet.specs.Reading.{Reading}
use Rattle.store.specs.declared.interface.Store as store
use Rattle.wire.specs.declared.interface.Wire as wire
use Rattle.host.specs.declared.bus.Bus.{Bus as Ends}
use Rattle.host.specs.declared.fault.Cause.{Cause}
use Rattle.host.specs.declared.fault.Cause.TheVariants.{Repeat}
use Rattle.host.specs.Buses.{PerformsOver}
use Rattle.host.specs.Process.{Process, done, send, sends, bind}
use Rattle.host.specs.Transactions.{Ending, passed, stalled, gave_up}
use Rattle.host.specs.Tries.{ending_seen, Reply, reply_of, by_reply, tries_delivery, delivers, Fetch, new, repeated, stall, failed, fetch_of, by_fetch, sends_ack, acknowledges, tries_fetch, fetches}
use Rattle.host.proofs.Performing.{both_over, over_at}

-- what is left of a fetch after a try
abbrev pub after_try : (Cause → Process (Ending (List ℕ))) → Fetch → Process (Ending (List ℕ))
after_try again (new body) = done (passed body)
after_try again repeated = again Repeat
after_try again stall = done stalled
after_try again (failed cause) = again cause

same_rest : (again : Cause → Process (Ending (List ℕ))) (x : Fetch) → bind (acknowledges x) (after_try again) ≡ by_fetch again x
same_rest again (new body) = refl
same_rest again repeated = refl
same_rest again stall = refl
same_rest again (failed cause) = refl

same_tree : (head : Parts) (toggle : DataKind) (fit : Option ℕ) (again : Cause → Process (Ending (List ℕ))) → bind (tries_fetch head toggle fit) (after_try again) ≡ send head (λ r. by_fetch again (fetch_of toggle fit r))
same_tree head toggle fit again = ap (send head) (fun_ext (λ r. same_rest again (fetch_of toggle fit r)))

module _ {W S : Type 0} (w : wire.Ghosts W) (s : store.Ghosts S) where
  abbrev Over : {A : Type 0} → Process A → Ends W S → A → Ends W S → Type 0
  Over = PerformsOver w s

  -- the two packets of a delivery, and what is made of the answer
  pub delivery_tried : (head body : Parts) (b m a : Ends W S) (x y : Reading) → Over (sends head) b x m → Over (sends body) m y a → Over (tries_delivery head body) b (reply_of y) a
  delivery_tried head body b m a x y first second = both_over w s (sends head) (λ _. send body (λ r. done (reply_of r))) b m a x (reply_of y) first (both_over w s (sends body) (λ r. done (reply_of r)) m a a y (reply_of y) second (over_at w s (reply_of y) a))

  -- ACK and STALL end the tries
  answered_now : (again : Cause → Process (Ending (Unit {0}))) (x : Option (Unit {0})) (b : Ends W S) → Over (by_reply again (Ok x)) b (ending_seen (λ u. u) (Ok x)) b
  answered_now again (Some a) b = over_at w s (passed a) b
  answered_now again None b = over_at w s stalled b

  -- a try, and what is left
  pub delivery_goes_on : (n : ℕ) (head body : Parts) (cause : Cause) (b m a : Ends W S) (r : Reply) (e : Ending (Unit {0})) → Over (tries_delivery head body) b r m → Over (by_reply (delivers n head body) r) m e a → Over (delivers (suc n) head body cause) b e a
  delivery_goes_on n head body cause b m a r e first rest = both_over w s (tries_delivery head body) (by_reply (delivers n head body)) b m a r e first rest

  -- with a turn counted up to three
  pub one_delivery_less : (turn : ℕ) (head body : Parts) (cause : Cause) (b m a : Ends W S) (r : Reply) (e : Ending (Unit {0})) → turn < 3 → Over (tries_delivery head body) b r m → Over (by_reply (delivers (3 - (turn + 1)) head body) r) m e a → Over (delivers (3 - turn) head body cause) b e a
  one_delivery_less turn head body cause b m a r e h first rest =
      let n : suc (3 - (turn + 1)) ≡ 3 - turn = omega arith in
      subst (λ k. Over (delivers k head body cause) b e a) n (delivery_goes_on (3 - (turn + 1)) head body cause b m a r e first rest)

  pub delivery_answered : (turn : ℕ) (head body : Parts) (cause : Cause) (b a : Ends W S) (x : Option (Unit {0})) → turn < 3 → Over (tries_delivery head body) b (Ok x) a → Over (delivers (3 - turn) head body cause) b (ending_seen (λ u. u) (Ok x)) a
  delivery_answered turn head body cause b a x h first = one_delivery_less turn head body cause b a a (Ok x) (ending_seen (λ u. u) (Ok x)) h first (answered_now (delivers (3 - (turn + 1)) head body) x a)

  pub no_delivery_left : (turn : ℕ) (head body : Parts) (cause : Cause) (b : Ends W S) → 3 ≤ turn → Over (delivers (3 - turn) head body cause) b (gave_up cause) b
  no_delivery_left turn head body cause b h =
      let n : 0 ≡ 3 - turn = omega arith in
      subst (λ k. Over (delivers k head body cause) b (gave_up cause) b) n (over_at w s (gave_up cause) b)

  -- an IN, what is made of the answer, and its ACK
  pub fetch_tried : (head sent : Parts) (toggle : DataKind) (fit : Option ℕ) (b m a : Ends W S) (r : Reading) (x y : Fetch)
      → sent ≡ head → Over (sends sent) b r m → x ≡ fetch_of toggle fit r → x ≡ y → Over (acknowledges y) m y a → Over (tries_fetch head toggle fit) b x a
  fetch_tried head sent toggle fit b m a r x y same first is seen second =
      both_over w s (sends head) (λ z. acknowledges (fetch_of toggle fit z)) b m a r x
      (subst (λ p. Over (sends p) b r m) same first)
      (subst (λ z. Over (acknowledges z) m x a) is (subst (λ z. Over (acknowledges z) m z a) (sym seen) second))

  pub new_acknowledged : (body : List ℕ) (m a : Ends W S) → Over sends_ack m tt a → Over (acknowledges (new body)) m (new body) a
  new_acknowledged body m a ack = both_over w s sends_ack (λ _. done (new body)) m a a tt (new body) ack (over_at w s (new body) a)

  pub repeat_acknowledged : (m a : Ends W S) → Over sends_ack m tt a → Over (acknowledges repeated) m repeated a
  repeat_acknowledged m a ack = both_over w s sends_ack (λ _. done repeated) m a a tt repeated ack (over_at w s repeated a)

  -- a try, and what is left
  pub one_fetch_less : (turn : ℕ) (head : Parts) (toggle : DataKind) (fit : Option ℕ) (cause : Cause) (b m a : Ends W S) (x : Fetch) (e : Ending (List ℕ)) → turn < 3 → Over (tries_fetch head toggle fit) b x m → Over (after_try (fetches (3 - (turn + 1)) head toggle fit) x) m e a → Over (fetches (3 - turn) head toggle fit cause) b e a
  one_fetch_less turn head toggle fit cause b m a x e h first rest =
      let again = fetches (3 - (turn + 1)) head toggle fit in
      let n : suc (3 - (turn + 1)) ≡ 3 - turn = omega arith in
      subst (λ k. Over (fetches k head toggle fit cause) b e a) n
      (subst (λ p. Over p b e a) (same_tree head toggle fit again) (both_over w s (tries_fetch head toggle fit) (after_try again) b m a x e first rest))

  pub no_fetch_left : (turn : ℕ) (head : Parts) (toggle : DataKind) (fit : Option ℕ) (cause : Cause) (b : Ends W S) → 3 ≤ turn → Over (fetches (3 - turn) head toggle fit cause) b (gave_up cause) b
  no_fetch_left turn head toggle fit cause b h =
      let n : 0 ≡ 3 - turn = omega arith in
      subst (λ k. Over (fetches k head toggle fit cause) b (gave_up cause) b) n (over_at w s (gave_up cause) b)
