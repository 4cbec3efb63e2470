-- Control transfers, and what is made of them: clearing a halt, attaching, recovering.
use Rattle.std.specs.Prelude.{ℕ, List, [], ◌∷◌, Some, None, Ok, Err, Option, Result}
use Rattle.packet.specs.declared.kind.DataKind.TheVariants.{Data0, Data1}
use Rattle.packet.specs.declared.kind.TokenKind.TheVariants.{In, Setup}
use Rattle.packet.specs.Parts.{token, data_packet}
use Rattle.transport.specs.declared.blocks.DataDirection.{DataDirection}
use Rattle.transport.specs.declared.blocks.DataDirection.TheVariants.{In as DataIn, Out as DataOut}
use Rattle.transport.specs.declared.toggles.Toggles.{Toggles}
use Rattle.transport.specs.Toggles.{both_fresh, toggle_freshened}
use Rattle.host.specs.declared.fault.Cause.TheVariants.{Nothing, Stalled}
use Rattle.host.specs.declared.fault.Fault.{Fault}
use Rattle.host.specs.declared.control.Request.{Request}
use Rattle.host.specs.declared.control.Request.TheVariants.{SetAddress, Configure, ResetTransport, ClearHalt}
use Rattle.host.specs.declared.fault.Stage.{Stage}
use Rattle.host.specs.declared.fault.Stage.TheVariants.{Control}
use Rattle.host.specs.declared.fault.TransactionFault.{TransactionFault}
use Rattle.host.specs.declared.fault.TransportFault.{TransportFault}
use Rattle.host.specs.Faults.{located, tagged}
use Rattle.host.specs.Process.{Process, done, reset, bind}
use Rattle.host.specs.Transactions.{Ending, passed, stalled, gave_up}
use Rattle.host.specs.Tries.{delivers, fetches}

-- what a control transfer comes to: done, or given up
abbrev pub Transferred : Type 0
Transferred = Result (Unit {0}) TransportFault

-- the setup is packet 0 of a transfer, the reply packet 1
abbrev pub reply_ended : Ending (List ℕ) → Process Transferred
reply_ended (passed body) = done (Ok tt)
reply_ended stalled = done (Err (located Stalled 0 Control 1))
reply_ended (gave_up cause) = done (Err (located cause 0 Control 1))

abbrev pub setup_ended : ℕ → Ending (Unit {0}) → Process Transferred
setup_ended address (passed _) = bind (fetches 3 (token In address 0) Data1 None Nothing) reply_ended
setup_ended address stalled = done (Err (located Stalled 0 Control 0))
setup_ended address (gave_up cause) = done (Err (located cause 0 Control 0))

-- setup, then empty DATA1 on IN
abbrev pub transfers : ℕ → List ℕ → Process Transferred
transfers address setup = bind (delivers 3 (token Setup address 0) (data_packet Data0 setup) Nothing) (setup_ended address)

-- the eight bytes of each request
abbrev pub address_setup : List ℕ
address_setup = 0x00 ∷ 0x05 ∷ 1 ∷ 0 ∷ 0 ∷ 0 ∷ 0 ∷ 0 ∷ []

abbrev pub configure_setup : List ℕ
configure_setup = 0x00 ∷ 0x09 ∷ 1 ∷ 0 ∷ 0 ∷ 0 ∷ 0 ∷ 0 ∷ []

abbrev pub reset_setup : List ℕ
reset_setup = 0x21 ∷ 0xff ∷ 0 ∷ 0 ∷ 0 ∷ 0 ∷ 0 ∷ 0 ∷ []

-- clear halt names the endpoint with its direction: 1 IN, or 2 OUT
abbrev pub clear_setup : DataDirection → List ℕ
clear_setup DataIn = 0x02 ∷ 0x01 ∷ 0 ∷ 0 ∷ 0x81 ∷ 0 ∷ 0 ∷ 0 ∷ []
clear_setup DataOut = 0x02 ∷ 0x01 ∷ 0 ∷ 0 ∷ 0x02 ∷ 0 ∷ 0 ∷ 0 ∷ []

abbrev pub request_setup : Request → List ℕ
request_setup SetAddress = address_setup
request_setup Configure = configure_setup
request_setup ResetTransport = reset_setup
request_setup (ClearHalt d) = clear_setup d

-- how a transaction ended, where STALL gives up too, with the place of its packet
abbrev pub placed_as : {A : Type 0} → ℕ → Stage → ℕ → Result (Option A) TransactionFault → Result A TransportFault
placed_as endpoint stage packet (Ok (Some a)) = Ok a
placed_as endpoint stage packet (Ok None) = Err (located Stalled endpoint stage packet)
placed_as endpoint stage packet (Err fault) = Err (located fault.cause endpoint stage packet)

-- what a step comes to, with the toggles after it
abbrev pub Ended : Type 0 → Type 0
Ended A = Result A TransportFault × Toggles

-- one transfer after another: the next is begun only if this one is done
abbrev pub after_transfer : {A : Type 0} → (Transferred → A) → Process A → Transferred → Process A
after_transfer given_up next (Ok _) = next
after_transfer given_up next (Err fault) = done (given_up (Err fault))

-- a halt is cleared, and with it that toggle
abbrev pub cleared : DataDirection → Toggles → Transferred → Transferred × Toggles
cleared d t (Ok _) = (Ok tt, toggle_freshened d t)
cleared d t (Err fault) = (Err fault, t)

abbrev pub clears : DataDirection → Toggles → Process (Transferred × Toggles)
clears d t = bind (transfers 1 (clear_setup d)) (λ r. done (cleared d t r))

-- outside a command the tag is 0
abbrev pub settled : Toggles → Transferred → Result (Unit {0}) Fault × Toggles
settled t (Ok _) = (Ok tt, both_fresh)
settled t (Err fault) = (Err (tagged fault 0), t)

-- attaching: a port reset, address 1, configuration 1
abbrev pub attaches : Toggles → Process (Result (Unit {0}) Fault × Toggles)
attaches t =
    reset (bind (transfers 0 address_setup) (after_transfer (settled t) (bind (transfers 1 configure_setup) (λ r. done (settled t r)))))

-- recovering: the transport's reset, then clear halt of both endpoints
abbrev pub recovers : Toggles → Process (Result (Unit {0}) Fault × Toggles)
recovers t =
    bind (transfers 1 reset_setup)
    (after_transfer (settled t)
    (bind (transfers 1 (clear_setup DataIn))
    (after_transfer (settled t) (bind (transfers 1 (clear_setup DataOut)) (λ r. done (settled t r))))))
