use Rattle.std.proofs.Common.{◌≡◌, Ok, Err, sym, subst, rules}
use Rattle.host.specs.Buses.{PerformsOver}
use Rattle.host.specs.Transfers.{cleared, clears, transfers, clear_setup}
use Rattle.host.proofs.Performing.{ends_with}
use Rattle.host.proofs.host.Host.clear_halt.Goals as goal

pub returns-in_err-transfer-clause-performs : goal.returns-in_err-transfer-clause-performs
returns-in_err-transfer-clause-performs g c =
    let t = c.args.self.now.toggles in
    let d = c.args.direction in
    let f = c.in_err-transfer.field-0.0 in
    let r : c.from_residual.result ≡ Err f = search rules in
    subst (λ x. PerformsOver g.W.Wire g.S.Store (clears d t) c.args.bus.now (x, t) c.transfer.new.self) (sym r)
    (ends_with g.W.Wire g.S.Store (transfers 1 (clear_setup d)) (cleared d t) c.args.bus.now c.transfer.new.self (Err f) c.in_err-transfer.ensures)

pub returns-clause-performs : goal.returns-clause-performs
returns-clause-performs g c =
    let t = c.args.self.now.toggles in
    let d = c.args.direction in
    subst (λ x. PerformsOver g.W.Wire g.S.Store (clears d t) c.args.bus.now (Ok tt, x) c.transfer.new.self) (sym c.reset-self.ensures)
    (ends_with g.W.Wire g.S.Store (transfers 1 (clear_setup d)) (cleared d t) c.args.bus.now c.transfer.new.self (Ok tt) c.in_ok-transfer.ensures)
