use Rattle.std.proofs.Common.{refl}
use Rattle.host.proofs.Exchanging.{exchanged}
use Rattle.host.proofs.bus.Bus.exchange.Goals as goal

pub returns : goal.returns
returns g c =
    let sent = c.build-length in
    let out = c.carry-arrived in
    let answer = c.hear-answered in
    let back = c.carry-home in (
      refl,
      refl,
      exchanged _ c.args.packet.fits _ _ _ sent.result sent.new.out sent.ensures.count sent.ensures.memory out.result out.new.heard _ out.ensures.carried _ _ answer.ensures.state answer.ensures.disk answer.result answer.new.answer answer.ensures.count answer.ensures.memory _ _ back.ensures.carried,
    )
