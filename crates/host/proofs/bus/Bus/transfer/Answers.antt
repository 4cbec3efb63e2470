use Rattle.std.proofs.Common.{◌≡◌, Err, rules}
use Rattle.host.specs.Pipes.{address_number}
use Rattle.host.specs.Transfers.{request_setup}
use Rattle.host.proofs.Transferring.{given_up_at_setup, given_up_at_reply, transferred}
use Rattle.host.proofs.bus.Bus.transfer.Goals as goal

pub returns-in_err-placed : goal.returns-in_err-placed
returns-in_err-placed g c =
    let sent = c.deliver-sent in
    let r : c.from_residual.result ≡ Err c.in_err-placed.field-0.0 = search rules in
    rw r (given_up_at_setup g.W.Wire g.S.Store (address_number c.args.address) (request_setup c.args.request) _ c.args.self.now sent.new.self sent.result c.setup.ensures sent.ensures _ c.in_err-placed.ensures)

pub returns-in_err-placed-2 : goal.returns-in_err-placed-2
returns-in_err-placed-2 g c =
    let sent = c.deliver-sent in
    let reply = c.fetch-reply in
    let r : c.from_residual-in_err-placed-2.result ≡ Err c.in_err-placed-2.field-0.0 = search rules in
    rw r (given_up_at_reply g.W.Wire g.S.Store (address_number c.args.address) (request_setup c.args.request) _ c.args.self.now sent.new.self sent.result c.setup.ensures sent.ensures
    c.in_ok-placed.field-0 c.in_ok-placed.ensures reply.new.self reply.result _ reply.ensures c.in_err-placed-2.ensures)

pub returns : goal.returns
returns g c =
    let sent = c.deliver-sent in
    let reply = c.fetch-reply in
    transferred g.W.Wire g.S.Store (address_number c.args.address) (request_setup c.args.request) _ c.args.self.now sent.new.self sent.result c.setup.ensures sent.ensures
    c.in_ok-placed.field-0 c.in_ok-placed.ensures reply.new.self reply.result c.in_ok-placed-2.field-0 reply.ensures c.in_ok-placed-2.ensures
