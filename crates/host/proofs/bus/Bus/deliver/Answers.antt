use Rattle.std.proofs.Common.{Ok}
use Rattle.host.specs.Transactions.{gave_up}
use Rattle.host.specs.Tries.{ending_seen}
use Rattle.host.proofs.Trying.{one_delivery_less, no_delivery_left, delivery_answered}
use Rattle.host.proofs.bus.Bus.deliver.Goals as goal

pub returns-in-Ok : goal.returns-in-Ok
returns-in-Ok g c =
    let ended = c.try_delivery.new.self in
    let answered = c.in-Ok.answered in
    c.loop.invariant (ending_seen (λ u. u) (Ok answered)) ended (delivery_answered g.W.Wire g.S.Store c.loop.counter _ _ c.loop.cause c.loop.self ended answered c.loop-test.true c.in-Ok.ensures)

pub loop-preserved : goal.loop-preserved
loop-preserved g c e b rest =
    c.loop.invariant e b (one_delivery_less g.W.Wire g.S.Store c.loop.counter _ _ c.loop.cause c.loop.self c.try_delivery.new.self b _ e c.loop-test.true c.in-Err.ensures rest)

pub returns : goal.returns
returns g c = c.loop.invariant (gave_up c.loop.cause) c.loop.self (no_delivery_left g.W.Wire g.S.Store c.loop.counter _ _ c.loop.cause c.loop.self c.loop-test.false)
