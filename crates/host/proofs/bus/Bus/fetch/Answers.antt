use Rattle.std.proofs.Common.{◌+◌, ◌-◌, subst}
use Rattle.packet.specs.Bodies.{held}
use Rattle.host.specs.declared.fault.Cause.{Cause}
use Rattle.host.specs.Buses.{PerformsOver}
use Rattle.host.specs.Pipes.{in_token}
use Rattle.host.specs.Transactions.{passed, stalled, gave_up}
use Rattle.host.specs.Tries.{fetches, repeated, failed}
use Rattle.host.proofs.Performing.{over_at}
use Rattle.host.proofs.Trying.{one_fetch_less, no_fetch_left}
use Rattle.host.proofs.bus.Bus.fetch.Goals as goal
use Rattle.host.proofs.bus.Bus.fetch.Goals.{in-Repeat, in-Failed}

pub returns-in-New : goal.returns-in-New
returns-in-New g c =
    let ended = c.try_fetch.new.self in
    let e = passed (held c.in-New.body) in
    c.loop.invariant e ended (one_fetch_less g.W.Wire g.S.Store c.loop.counter _ _ _ c.loop.cause c.loop.self ended ended _ e c.loop-test.true c.in-New.ensures (over_at g.W.Wire g.S.Store e ended))

pub returns-in-Stalled : goal.returns-in-Stalled
returns-in-Stalled g c =
    let ended = c.try_fetch.new.self in
    c.loop.invariant stalled ended (one_fetch_less g.W.Wire g.S.Store c.loop.counter _ _ _ c.loop.cause c.loop.self ended ended _ stalled c.loop-test.true c.in-Stalled.ensures (over_at g.W.Wire g.S.Store stalled ended))

pub loop-preserved : goal.loop-preserved
loop-preserved g c e b rest =
    let ended = c.try_fetch.new.self in
    let left = λ (k : Cause). PerformsOver g.W.Wire g.S.Store (fetches (3 - (c.loop.counter + 1)) (in_token c.args.pipe) c.args.awaited.toggle c.args.awaited.length k) ended e b in
    let step = one_fetch_less g.W.Wire g.S.Store c.loop.counter (in_token c.args.pipe) c.args.awaited.toggle c.args.awaited.length c.loop.cause c.loop.self ended b in
    elim c.match-try_fetch.branch [
      | in-Repeat w ↦ c.loop.invariant e b (step repeated e c.loop-test.true w.in-Repeat.ensures (subst left w.cause-is rest))
      | in-Failed w ↦ c.loop.invariant e b (step (failed w.in-Failed.failed) e c.loop-test.true w.in-Failed.ensures (subst left w.cause-is rest))
    ]

pub returns : goal.returns
returns g c = c.loop.invariant (gave_up c.loop.cause) c.loop.self (no_fetch_left g.W.Wire g.S.Store c.loop.counter _ _ _ c.loop.cause c.loop.self c.loop-test.false)
