-- A control transfer, from its two transactions.
use Rattle.std.proofs.Common.{◌≡◌, ℕ, List, Some, None, Ok, Err, Option, Result, sym, refl, ap, subst, arith}
use Rattle.packet.specs.declared.body.Body.{Body}
use Rattle.packet.specs.declared.kind.DataKind.TheVariants.{Data0, Data1}
use Rattle.packet.specs.declared.kind.TokenKind.TheVariants.{In, Setup}
use Rattle.packet.specs.Bodies.{held}
use Rattle.packet.specs.Parts.{token, data_packet}
use Rattle.store.specs.declared.interface.Store as store
use Rattle.wire.specs.declared.interface.Wire as wire
use Rattle.host.specs.declared.bus.Bus.{Bus as Ends}
use Rattle.host.specs.declared.fault.Cause.TheVariants.{Nothing, Stalled}
use Rattle.host.specs.declared.fault.Stage.TheVariants.{Control}
use Rattle.host.specs.declared.fault.TransactionFault.{TransactionFault}
use Rattle.host.specs.declared.fault.TransportFault.{TransportFault}
use Rattle.host.specs.Buses.{PerformsOver}
use Rattle.host.specs.Faults.{located}
use Rattle.host.specs.Process.{done}
use Rattle.host.specs.Transactions.{passed}
use Rattle.host.specs.Tries.{ending_seen, delivers, fetches}
use Rattle.host.specs.Transfers.{Transferred, placed_as, reply_ended, setup_ended, transfers}
use Rattle.host.proofs.Performing.{both_over, over_at}

abbrev Sent : Type 0
Sent = Result (Option (Unit {0})) TransactionFault

abbrev Came : Type 0
Came = Result (Option Body) TransactionFault

not_both : {A B C : Type 0} (a : A) (b : B) → ◌≡◌ {A = Result A B} (Ok a) (Err b) → C
not_both a b e = absurd (let z : ◌≡◌ {A = ℕ} 0 1 = cc in omega arith)

refused_setup : (a : ℕ) (x : Sent) (f : TransportFault) → Err f ≡ placed_as 0 Control 0 x → setup_ended a (ending_seen (λ u. u) x) ≡ done (Err f)
refused_setup a (Ok (Some u)) f e = not_both u f (sym e)
refused_setup a (Ok None) f e = ap done (sym e)
refused_setup a (Err t) f e = ap done (sym e)

accepted_setup : (x : Sent) (u : Unit {0}) → Ok u ≡ placed_as 0 Control 0 x → ending_seen (λ u. u) x ≡ passed tt
accepted_setup (Ok (Some v)) u e = refl
accepted_setup (Ok None) u e = not_both u _ e
accepted_setup (Err t) u e = not_both u _ e

refused_reply : (x : Came) (f : TransportFault) → Err f ≡ placed_as 0 Control 1 x → reply_ended (ending_seen held x) ≡ done (Err f)
refused_reply (Ok (Some b)) f e = not_both b f (sym e)
refused_reply (Ok None) f e = let same : located Stalled 0 Control 1 ≡ f = cc in ap (λ z. done (Err z)) same
refused_reply (Err t) f e = let same : located t.cause 0 Control 1 ≡ f = cc in ap (λ z. done (Err z)) same

accepted_reply : (x : Came) (b : Body) → Ok b ≡ placed_as 0 Control 1 x → reply_ended (ending_seen held x) ≡ done (Ok tt)
accepted_reply (Ok (Some c)) b e = refl
accepted_reply (Ok None) b e = not_both b _ e
accepted_reply (Err t) b e = not_both b _ e

module _ {W S : Type 0} (w : wire.Ghosts W) (s : store.Ghosts S) (a : ℕ) (setup body : List ℕ) (b m : Ends W S) (x : Sent) (is : body ≡ setup) (sent : PerformsOver w s (delivers 3 (token Setup a 0) (data_packet Data0 body) Nothing) b (ending_seen (λ u. u) x) m) where
  first : PerformsOver w s (delivers 3 (token Setup a 0) (data_packet Data0 setup) Nothing) b (ending_seen (λ u. u) x) m
  first = subst (λ l. PerformsOver w s (delivers 3 (token Setup a 0) (data_packet Data0 l) Nothing) b (ending_seen (λ u. u) x) m) is sent

  pub given_up_at_setup : (f : TransportFault) → Err f ≡ placed_as 0 Control 0 x → PerformsOver w s (transfers a setup) b (Err f) m
  given_up_at_setup f e =
      both_over w s (delivers 3 (token Setup a 0) (data_packet Data0 setup) Nothing) (setup_ended a) b m m (ending_seen (λ u. u) x) (Err f) first
      (subst (λ p. PerformsOver w s p m (Err f) m) (sym (refused_setup a x f e)) (over_at w s (Err f) m))

  -- the reply ends it, one way or the other
  pub ended_by_reply : (u : Unit {0}) → Ok u ≡ placed_as 0 Control 0 x → (n : Ends W S) (y : Came) (r : Transferred) → PerformsOver w s (fetches 3 (token In a 0) Data1 None Nothing) m (ending_seen held y) n
      → reply_ended (ending_seen held y) ≡ done r → PerformsOver w s (transfers a setup) b r n
  ended_by_reply u e n y r second ends =
      let rest : PerformsOver w s (setup_ended a (passed tt)) m r n =
      both_over w s (fetches 3 (token In a 0) Data1 None Nothing) reply_ended m n n (ending_seen held y) r second (subst (λ p. PerformsOver w s p n r n) (sym ends) (over_at w s r n)) in
      both_over w s (delivers 3 (token Setup a 0) (data_packet Data0 setup) Nothing) (setup_ended a) b m n (ending_seen (λ u. u) x) r first (subst (λ z. PerformsOver w s (setup_ended a z) m r n) (sym (accepted_setup x u e)) rest)

  pub given_up_at_reply : (u : Unit {0}) → Ok u ≡ placed_as 0 Control 0 x → (n : Ends W S) (y : Came) (f : TransportFault) → PerformsOver w s (fetches 3 (token In a 0) Data1 None Nothing) m (ending_seen held y) n
      → Err f ≡ placed_as 0 Control 1 y → PerformsOver w s (transfers a setup) b (Err f) n
  given_up_at_reply u e n y f second fails = ended_by_reply u e n y (Err f) second (refused_reply y f fails)

  pub transferred : (u : Unit {0}) → Ok u ≡ placed_as 0 Control 0 x → (n : Ends W S) (y : Came) (c : Body) → PerformsOver w s (fetches 3 (token In a 0) Data1 None Nothing) m (ending_seen held y) n
      → Ok c ≡ placed_as 0 Control 1 y → PerformsOver w s (transfers a setup) b (Ok tt) n
  transferred u e n y c second came = ended_by_reply u e n y (Ok tt) second (accepted_reply y c came)
