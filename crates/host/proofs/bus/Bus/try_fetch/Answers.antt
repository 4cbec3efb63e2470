use Rattle.std.proofs.Common.{ap, inl, inr}
use Rattle.packet.specs.Bodies.{held}
use Rattle.packet.specs.Reading.{reading}
use Rattle.host.specs.Arrivals.{arrival_seen}
use Rattle.host.specs.Pipes.{in_token}
use Rattle.host.specs.Tries.{Fetch, new, repeated, stall, failed}
use Rattle.host.proofs.Performing.{over_at}
use Rattle.host.proofs.Trying.{fetch_tried, new_acknowledged, repeat_acknowledged}
use Rattle.host.proofs.bus.Bus.try_fetch.Goals as goal

pub returns-in-New : goal.returns-in-New
returns-in-New g c =
    let heard = c.exchange-heard in
    let m = heard.new.self in
    let a = c.acknowledge.new.self in
    let ends = λ (y : Fetch). fetch_tried g.W.Wire g.S.Store (in_token c.args.pipe) _ c.args.awaited.toggle c.args.awaited.length c.args.self.now m a (reading heard.result.now) _ y c.in_token.ensures heard.ensures c.judge_arrival-arrival.ensures in
    elim c.in-New.is [
      | inl x ↦ ends (new (held x.0)) (ap arrival_seen x.1) (new_acknowledged g.W.Wire g.S.Store (held x.0) m a c.acknowledge.ensures)
      | inr x ↦ ends repeated (ap arrival_seen x) (repeat_acknowledged g.W.Wire g.S.Store m a c.acknowledge.ensures)
    ]

pub returns-in-Stalled : goal.returns-in-Stalled
returns-in-Stalled g c =
    let heard = c.exchange-heard in
    let m = heard.new.self in
    let ends = λ (y : Fetch). fetch_tried g.W.Wire g.S.Store (in_token c.args.pipe) _ c.args.awaited.toggle c.args.awaited.length c.args.self.now m m (reading heard.result.now) _ y c.in_token.ensures heard.ensures c.judge_arrival-arrival.ensures in
    elim c.in-Stalled.is [
      | inl x ↦ ends stall (ap arrival_seen x) (over_at g.W.Wire g.S.Store stall m)
      | inr x ↦ ends (failed x.0) (ap arrival_seen x.1) (over_at g.W.Wire g.S.Store (failed x.0) m)
    ]
