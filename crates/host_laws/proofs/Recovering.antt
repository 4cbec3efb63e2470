-- Recovering: the transport's reset and clear halt of both endpoints, one transfer after another.
use Rattle.std.proofs.Common.{ℕ, ◌≤◌, Bool, true, false, Result, refl, arith}
use Rattle.packet.specs.declared.kind.DataKind.{DataKind}
use Rattle.packet.specs.declared.kind.DataKind.TheVariants.{Data0}
use Rattle.reader.specs.declared.state.Expectation.{Expectation}
use Rattle.reader.specs.declared.state.Halts.{Halts}
use Rattle.reader.specs.declared.state.Halts.TheVariants.{Each, Invalid}
use Rattle.reader.specs.declared.state.Request.TheVariants.{ClearHalt, ResetTransport}
use Rattle.reader.specs.declared.state.Transfer.{Transfer}
use Rattle.reader.specs.Control.{halts_kept, transport_reset}
use Rattle.reader.specs.Disk.{Disk}
use Rattle.reader.specs.State.{Bulk, Phase, command}
use Rattle.transport.specs.declared.blocks.DataDirection.TheVariants.{In, Out}
use Rattle.host.specs.declared.fault.Fault.{Fault}
use Rattle.transport.specs.declared.toggles.Toggles.{Toggles}
use Rattle.host.specs.Process.{World, Process, done, bind, Runs}
use Rattle.host.specs.Transfers.{Transferred, transfers, reset_setup, clear_setup, settled, after_transfer, recovers}
use Rattle.host_laws.specs.Deliveries.{world}
use Rattle.host_laws.specs.InStep.{attached, at_address_1, bulk_at, awaiting}
use Rattle.host_laws.specs.Transfers.{Changing, Changed, changed, given_up, Recovering, recovered, given_up as not-recovered, RecoveringPutsTheEndsInStep}
use Rattle.host_laws.proofs.Chains.{halfway}
use Rattle.host_laws.proofs.Transfers.{a_control_transfer_is_done_or_paid_for}

pub resetting : (b : Bulk) → Changing reset_setup b (transport_reset b)
resetting b = record { request = ResetTransport; whole = refl; asks = refl; changes = λ e. refl }

pub clearing_inward : (s r : DataKind) (i o : Bool) (p : Phase) → Changing (clear_setup In) (bulk_at s r (Each i o) p) (bulk_at Data0 r (Each false o) p)
clearing_inward s r i o p = record { request = ClearHalt In; whole = refl; asks = refl; changes = λ e. refl }

pub clearing_outward : (s r : DataKind) (i o : Bool) (p : Phase) → Changing (clear_setup Out) (bulk_at s r (Each i o) p) (bulk_at s Data0 (Each i false) p)
clearing_outward s r i o p = record { request = ClearHalt Out; whole = refl; asks = refl; changes = λ e. refl }

abbrev Recovered : Type 0
Recovered = Result (Unit {0}) Fault × Toggles

-- one transfer of a recovery: it is given up, or the recovery goes on from what it changed
step : {b b' : Bulk} (t : Toggles) (d : Disk) (start from : ℕ) → start ≤ from → (next : Process Recovered) (c : Recovered) (w' : World)
    → ((n : ℕ) (x : Transfer) (e : Expectation) → start ≤ n → Runs next (world n (attached x b' e) d) c w' → Recovering d start c w')
    → (r : Transferred) (w : World) → Changed b b' d from r w → Runs (after_transfer (settled t) next r) w c w' → Recovering d start c w'
step t d start from l next c w' goes_on r w (changed n x e h) q = goes_on n x e (omega arith) q
step t d start from l next c w' goes_on r w (given_up n x e b'' fault s h) q = rw (← q.0, ← q.1) (not-recovered n _ _ t (at_address_1 x b'' e) (omega arith))

-- the last one
last_step : {b : Bulk} (t : Toggles) (d : Disk) (start from : ℕ) → start ≤ from → (c : Recovered) (w' : World)
    → (r : Transferred) (w : World) → Changed b (bulk_at Data0 Data0 (Each false false) command) d from r w → Runs (done (settled t r)) w c w' → Recovering d start c w'
last_step t d start from l c w' r w (changed n x e h) q = rw (← q.0, ← q.1) (recovered n _ (omega arith) (awaiting x e))
last_step t d start from l c w' r w (given_up n x e b'' fault s h) q = rw (← q.0, ← q.1) (not-recovered n _ _ t (at_address_1 x b'' e) (omega arith))

-- what is left of recovering after its first transfer, and after its second
abbrev ClearsOutward : Toggles → Process Recovered
ClearsOutward t = bind (transfers 1 (clear_setup Out)) (λ r. done (settled t r))

abbrev ClearsBoth : Toggles → Process Recovered
ClearsBoth t = bind (transfers 1 (clear_setup In)) (after_transfer (settled t) (ClearsOutward t))

module _ (t : Toggles) (d : Disk) (start : ℕ) (c : Recovered) (w' : World) where
  clears_outward : (r : DataKind) (o : Bool) (n : ℕ) (x : Transfer) (e : Expectation) → start ≤ n
      → Runs (ClearsOutward t) (world n (attached x (bulk_at Data0 r (Each false o) command) e) d) c w' → Recovering d start c w'
  clears_outward r o n x e l q =
      let h = halfway (transfers 1 (clear_setup Out)) (λ y. done (settled t y)) (world n (attached x (bulk_at Data0 r (Each false o) command) e) d) c w' q in
      last_step t d start n l c w' h.result h.between (a_control_transfer_is_done_or_paid_for _ _ _ (clearing_outward Data0 r false o command) d n x e h.result h.between h.first) h.second

  clears_both : (s r : DataKind) (i o : Bool) (n : ℕ) (x : Transfer) (e : Expectation) → start ≤ n
      → Runs (ClearsBoth t) (world n (attached x (bulk_at s r (Each i o) command) e) d) c w' → Recovering d start c w'
  clears_both s r i o n x e l q =
      let h = halfway (transfers 1 (clear_setup In)) (after_transfer (settled t) (ClearsOutward t)) (world n (attached x (bulk_at s r (Each i o) command) e) d) c w' q in
      step t d start n l (ClearsOutward t) c w' (clears_outward r o) h.result h.between (a_control_transfer_is_done_or_paid_for _ _ _ (clearing_inward s r i o command) d n x e h.result h.between h.first) h.second

  -- after the transport's reset every halt can be cleared
  clears_kept : (s r : DataKind) (k : Halts) (n : ℕ) (x : Transfer) (e : Expectation) → start ≤ n
      → Runs (ClearsBoth t) (world n (attached x (bulk_at s r (halts_kept k) command) e) d) c w' → Recovering d start c w'
  clears_kept s r (Each i o) n x e l q = clears_both s r i o n x e l q
  clears_kept s r Invalid n x e l q = clears_both s r true true n x e l q

recovers_attached : (t : Toggles) (d : Disk) (from : ℕ) (x : Transfer) (b : Bulk) (e : Expectation) (c : Recovered) (w' : World) → Runs (recovers t) (world from (attached x b e) d) c w' → Recovering d from c w'
recovers_attached t d from x b e c w' q =
    let h = halfway (transfers 1 reset_setup) (after_transfer (settled t) (ClearsBoth t)) (world from (attached x b e) d) c w' q in
    step t d from from (omega arith) (ClearsBoth t) c w' (clears_kept t d from c w' b.toggles.data_in b.toggles.data_out b.halts) h.result h.between
    (a_control_transfer_is_done_or_paid_for _ _ _ (resetting b) d from x e h.result h.between h.first) h.second

pub recovering_puts_the_ends_in_step : RecoveringPutsTheEndsInStep
recovering_puts_the_ends_in_step t s d from (at_address_1 x b e) c w' q = recovers_attached t d from x b e c w' q
