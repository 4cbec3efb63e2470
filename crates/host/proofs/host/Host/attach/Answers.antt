use Rattle.std.proofs.Common.{Ok, Err, Result, subst, rules}
use Rattle.reader.specs.Disk.{disk_of}
use Rattle.reader.specs.State.{seen}
use Rattle.transport.specs.declared.toggles.Toggles.{Toggles}
use Rattle.host.specs.declared.fault.Fault.{Fault}
use Rattle.host.specs.Buses.{bus_seen}
use Rattle.host.specs.Process.{Process, done, bind, Performs, bus_of}
use Rattle.host.specs.Transfers.{after_transfer, settled, attaches, transfers, address_setup, configure_setup}
use Rattle.host.proofs.Settling.{stops_here, goes_on, ends_with, after_reset, handed_back}
use Rattle.host.proofs.host.Host.attach.Goals as goal

-- what follows the first transfer
abbrev configures : Toggles → Process (Result (Unit {0}) Fault × Toggles)
configures t = bind (transfers 1 configure_setup) (λ r. done (settled t r))

pub returns-in_err-transfer-clause-performs : goal.returns-in_err-transfer-clause-performs
returns-in_err-transfer-clause-performs g c =
    let t = c.args.self.now.toggles in
    let start = c.args.reader.now in
    let bus = bus_seen g.W.Wire g.S.Store in
    let first = subst (λ s. Performs (transfers 0 address_setup) (record { tally = g.W.Wire.tally c.args.wire.now; reader = seen c.reset.new.self.core; disk = disk_of g.S.Store s }) (Err c.in_err-transfer.field-0.0) (bus c.transfer.new.self)) c.reset.ensures.store c.in_err-transfer.ensures.2 in
    handed_back (attaches t) (bus_of g.W.Wire g.S.Store c.args.wire.now start) (bus c.transfer.new.self) _ _ _
    (after_reset (bind (transfers 0 address_setup) (after_transfer (settled t) (configures t))) _ (seen start.core) (seen c.reset.new.self.core) (disk_of g.S.Store start.store) _ _ c.reset.ensures.state
    (stops_here (transfers 0 address_setup) (settled t) (configures t) _ _ c.in_err-transfer.field-0.0 first))
    (search rules) (search rules)

pub returns-in_err-transfer-2-clause-performs : goal.returns-in_err-transfer-2-clause-performs
returns-in_err-transfer-2-clause-performs g c =
    let t = c.args.self.now.toggles in
    let start = c.args.reader.now in
    let bus = bus_seen g.W.Wire g.S.Store in
    let first = subst (λ s. Performs (transfers 0 address_setup) (record { tally = g.W.Wire.tally c.args.wire.now; reader = seen c.reset.new.self.core; disk = disk_of g.S.Store s }) (Ok c.in_ok-transfer.field-0) (bus c.transfer.new.self)) c.reset.ensures.store c.in_ok-transfer.ensures.2 in
    handed_back (attaches t) (bus_of g.W.Wire g.S.Store c.args.wire.now start) (bus c.transfer-2.new.self) _ _ _
    (after_reset (bind (transfers 0 address_setup) (after_transfer (settled t) (configures t))) _ (seen start.core) (seen c.reset.new.self.core) (disk_of g.S.Store start.store) _ _ c.reset.ensures.state
    (goes_on (transfers 0 address_setup) (settled t) (configures t) _ (bus c.transfer.new.self) c.in_ok-transfer.field-0 _ _ first
    (ends_with (transfers 1 configure_setup) (settled t) _ _ _ c.in_err-transfer-2.ensures.2)))
    (search rules) (search rules)

pub returns-clause-performs : goal.returns-clause-performs
returns-clause-performs g c =
    let t = c.args.self.now.toggles in
    let start = c.args.reader.now in
    let bus = bus_seen g.W.Wire g.S.Store in
    let first = subst (λ s. Performs (transfers 0 address_setup) (record { tally = g.W.Wire.tally c.args.wire.now; reader = seen c.reset.new.self.core; disk = disk_of g.S.Store s }) (Ok c.in_ok-transfer.field-0) (bus c.transfer.new.self)) c.reset.ensures.store c.in_ok-transfer.ensures.2 in
    handed_back (attaches t) (bus_of g.W.Wire g.S.Store c.args.wire.now start) (bus c.transfer-2.new.self) _ _ _
    (after_reset (bind (transfers 0 address_setup) (after_transfer (settled t) (configures t))) _ (seen start.core) (seen c.reset.new.self.core) (disk_of g.S.Store start.store) _ _ c.reset.ensures.state
    (goes_on (transfers 0 address_setup) (settled t) (configures t) _ (bus c.transfer.new.self) c.in_ok-transfer.field-0 _ _ first
    (ends_with (transfers 1 configure_setup) (settled t) _ _ (Ok c.in_ok-transfer-2.field-0) c.in_ok-transfer-2.ensures.2)))
    (search rules) (search rules)
