use Rattle.std.proofs.Common.{Ok, rules}
use Rattle.transport.specs.declared.blocks.DataDirection.TheVariants.{In, Out}
use Rattle.transport.specs.declared.toggles.Toggles.{Toggles}
use Rattle.host.specs.declared.fault.Fault.{Fault}
use Rattle.std.specs.Prelude.{Result}
use Rattle.host.specs.Buses.{bus_seen}
use Rattle.host.specs.Process.{Process, done, bind, bus_of}
use Rattle.host.specs.Transfers.{after_transfer, settled, recovers, transfers, reset_setup, clear_setup}
use Rattle.host.proofs.Settling.{stops_here, goes_on, ends_with, handed_back}
use Rattle.host.proofs.host.Host.recover.Goals as goal

-- what follows the first transfer, and the second
abbrev After : Type 0
After = Process (Result (Unit {0}) Fault × Toggles)

abbrev clears_out : Toggles → After
clears_out t = bind (transfers 1 (clear_setup Out)) (λ r. done (settled t r))

abbrev clears_both : Toggles → After
clears_both t = bind (transfers 1 (clear_setup In)) (after_transfer (settled t) (clears_out t))

pub returns-in_err-transfer-clause-performs : goal.returns-in_err-transfer-clause-performs
returns-in_err-transfer-clause-performs g c =
    let t = c.args.self.now.toggles in
    let bus = bus_seen g.W.Wire g.S.Store in
    handed_back (recovers t) (bus_of g.W.Wire g.S.Store c.args.wire.now c.args.reader.now) (bus c.transfer.new.self) _ _ _
    (stops_here (transfers 1 reset_setup) (settled t) (clears_both t) _ _ c.in_err-transfer.field-0.0 c.in_err-transfer.ensures.2)
    (search rules) (search rules)

pub returns-in_err-transfer-2-clause-performs : goal.returns-in_err-transfer-2-clause-performs
returns-in_err-transfer-2-clause-performs g c =
    let t = c.args.self.now.toggles in
    let bus = bus_seen g.W.Wire g.S.Store in
    handed_back (recovers t) (bus_of g.W.Wire g.S.Store c.args.wire.now c.args.reader.now) (bus c.transfer-2.new.self) _ _ _
    (goes_on (transfers 1 reset_setup) (settled t) (clears_both t) _ (bus c.transfer.new.self) c.in_ok-transfer.field-0 _ _ c.in_ok-transfer.ensures.2
    (stops_here (transfers 1 (clear_setup In)) (settled t) (clears_out t) _ _ c.in_err-transfer-2.field-0.0 c.in_err-transfer-2.ensures.2))
    (search rules) (search rules)

pub returns-in_err-transfer-3-clause-performs : goal.returns-in_err-transfer-3-clause-performs
returns-in_err-transfer-3-clause-performs g c =
    let t = c.args.self.now.toggles in
    let bus = bus_seen g.W.Wire g.S.Store in
    handed_back (recovers t) (bus_of g.W.Wire g.S.Store c.args.wire.now c.args.reader.now) (bus c.transfer-3.new.self) _ _ _
    (goes_on (transfers 1 reset_setup) (settled t) (clears_both t) _ (bus c.transfer.new.self) c.in_ok-transfer.field-0 _ _ c.in_ok-transfer.ensures.2
    (goes_on (transfers 1 (clear_setup In)) (settled t) (clears_out t) _ (bus c.transfer-2.new.self) c.in_ok-transfer-2.field-0 _ _ c.in_ok-transfer-2.ensures.2
    (ends_with (transfers 1 (clear_setup Out)) (settled t) _ _ _ c.in_err-transfer-3.ensures.2)))
    (search rules) (search rules)

pub returns-clause-performs : goal.returns-clause-performs
returns-clause-performs g c =
    let t = c.args.self.now.toggles in
    let bus = bus_seen g.W.Wire g.S.Store in
    handed_back (recovers t) (bus_of g.W.Wire g.S.Store c.args.wire.now c.args.reader.now) (bus c.transfer-3.new.self) _ _ _
    (goes_on (transfers 1 reset_setup) (settled t) (clears_both t) _ (bus c.transfer.new.self) c.in_ok-transfer.field-0 _ _ c.in_ok-transfer.ensures.2
    (goes_on (transfers 1 (clear_setup In)) (settled t) (clears_out t) _ (bus c.transfer-2.new.self) c.in_ok-transfer-2.field-0 _ _ c.in_ok-transfer-2.ensures.2
    (ends_with (transfers 1 (clear_setup Out)) (settled t) _ _ (Ok c.in_ok-transfer-3.field-0) c.in_ok-transfer-3.ensures.2)))
    (search rules) (search rules)
