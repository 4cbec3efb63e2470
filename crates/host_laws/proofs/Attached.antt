-- A reader that is at address 1 when a packet of its endpoint 1 is acknowledged was there when it sent the packet.
use Rattle.std.proofs.Common.{◌≡◌, ℕ, Bool, true, false, cond, sym, refl, ap, ◌∙◌, subst, arith}
use Rattle.std.proofs.lemmas.Bool.{cond-true}
use Rattle.packet.specs.declared.kind.DataKind.{DataKind}
use Rattle.packet.specs.declared.kind.TokenKind.TheVariants.{In}
use Rattle.packet.specs.Parts.{token}
use Rattle.packet.specs.Reading.{packet}
use Rattle.reader.specs.declared.state.Addresses.{Addresses}
use Rattle.reader.specs.declared.state.Addresses.TheVariants.{One, Two}
use Rattle.reader.specs.declared.state.Expectation.{Expectation}
use Rattle.reader.specs.declared.state.Expectation.TheVariants.{Nothing, SetupData, ControlData, BulkData, ControlAck, BulkAck}
use Rattle.reader.specs.declared.state.Transfer.{Transfer}
use Rattle.reader.specs.Answers.{stalls}
use Rattle.reader.specs.BulkEnds.{Outcome, unwritten, offered, bulk_in, sending_halted}
use Rattle.reader.specs.Control.{expecting, with_control, with_addresses, addressed, settled, acknowledged}
use Rattle.reader.specs.Disk.{Disk}
use Rattle.reader.specs.Hears.{hears, hears_ack, token_taken, ignored}
use Rattle.reader.specs.State.{State, Control, Bulk, Phase, command, data_in, data_out, status}
use Rattle.host_laws.specs.Fetches.{Waiting}
use Rattle.host_laws.specs.InStep.{attached, Attached, at_address_1}

-- an ACK changes at most which of two addresses is heard
an_ack_keeps_the_configuration : (e : Expectation) (s : State) → (hears_ack e s).state.control.configured ≡ s.control.configured
an_ack_keeps_the_configuration Nothing s = refl
an_ack_keeps_the_configuration SetupData s = refl
an_ack_keeps_the_configuration ControlData s = refl
an_ack_keeps_the_configuration BulkData s = refl
an_ack_keeps_the_configuration ControlAck s = refl
an_ack_keeps_the_configuration BulkAck s = refl

acknowledged_twice : (a : Addresses) → acknowledged (acknowledged a) ≡ acknowledged a
acknowledged_twice (One x) = refl
acknowledged_twice (Two old new) = refl

an_ack_keeps_the_address : (e : Expectation) (s : State) → acknowledged (hears_ack e s).state.control.addresses ≡ acknowledged s.control.addresses
an_ack_keeps_the_address Nothing s = refl
an_ack_keeps_the_address SetupData s = refl
an_ack_keeps_the_address ControlData s = refl
an_ack_keeps_the_address BulkData s = refl
an_ack_keeps_the_address ControlAck s = acknowledged_twice s.control.addresses
an_ack_keeps_the_address BulkAck s = refl

either_way : {A B : Type 0} (f : A → B) (b : Bool) (x y : A) (z : B) → f x ≡ z → f y ≡ z → f (cond b x y) ≡ z
either_way f true x y z p q = p
either_way f false x y z p q = q

-- an IN of endpoint 1 settles the address, and leaves the control endpoint alone otherwise
offered_keeps_control : (p : Phase) (s : State) (d : Disk) → (offered p s d).0.control ≡ s.control
offered_keeps_control command s d = refl
offered_keeps_control (data_in tag due left moved source) s d = refl
offered_keeps_control (data_out tag due left sector come) s d = refl
offered_keeps_control (status b sent) s d = refl

an_in_keeps_control : (s : State) (d : Disk) → (token_taken In 1 s d).state.control ≡ s.control
an_in_keeps_control s d =
    either_way (λ (o : Outcome). o.state.control) s.control.configured (unwritten (bulk_in s d)) (ignored s) s.control
    (either_way (λ p. p.0.control) (sending_halted s.bulk.halts) (expecting Nothing s, stalls) (offered s.bulk.phase s d) s.control refl (offered_keeps_control s.bulk.phase s d)) refl

an_in_settles_the_address : (s : State) (d : Disk) → addressed s.control.addresses 1 ≡ true → (hears s d (packet (token In 1 1))).state.control.addresses ≡ settled s.control.addresses In 1
an_in_settles_the_address s d heard =
    let u : State = with_control (with_addresses (settled s.control.addresses In 1) s.control) s in
    ap (λ (o : Outcome). o.state.control.addresses) (cond-true (addressed s.control.addresses 1) (token_taken In 1 u d) (ignored s) heard) ∙ ap (λ (c : Control). c.addresses) (an_in_keeps_control u d)

-- an address that an IN does not settle any more, and that is 1 once it is acknowledged, is 1
is_address_1 : (a : Addresses) → acknowledged a ≡ One 1 → (addressed a 1 ≡ true → a ≡ settled a In 1) → a ≡ One 1
is_address_1 (One x) e kept = e
is_address_1 (Two old new) e kept =
    let now : new ≡ 1 = cc in
    let clash : Two old 1 ≡ One 1 = subst (λ x. addressed (Two old x) 1 ≡ true → Two old x ≡ settled (Two old x) In 1) now kept refl in
    let no : ◌≡◌ {A = ℕ} 0 1 = cc in
    absurd (omega arith)

pub was_attached : {toggle : DataKind} {d : Disk} (old : Waiting (token In 1 1) toggle d) (x : Transfer) (b : Bulk) (e : Expectation) → old.acknowledged ≡ attached x b e → Attached old.sent
was_attached {toggle} {d} old x b e after =
    let configured : old.sent.control.configured ≡ true =
    sym (an_ack_keeps_the_configuration old.owed (expecting old.owed old.sent))
    ∙ ap (λ (o : Outcome). o.state.control.configured) old.ends
    ∙ ap (λ (s : State). s.control.configured) after in
    let acknowledged_1 : acknowledged old.sent.control.addresses ≡ One 1 =
    sym (an_ack_keeps_the_address old.owed (expecting old.owed old.sent))
    ∙ ap (λ (o : Outcome). acknowledged o.state.control.addresses) old.ends
    ∙ ap (λ (s : State). acknowledged s.control.addresses) after in
    let address : old.sent.control.addresses ≡ One 1 =
    is_address_1 old.sent.control.addresses acknowledged_1
    (λ heard. sym (ap (λ (o : Outcome). o.state.control.addresses) (old.offers_again Nothing)) ∙ an_in_settles_the_address (expecting Nothing old.sent) d heard) in
    subst Attached (sym (λ i. record { control = record { addresses = address i; configured = configured i; transfer = old.sent.control.transfer }; bulk = old.sent.bulk; expects = old.sent.expects }))
    (at_address_1 old.sent.control.transfer old.sent.bulk old.sent.expects)

pub attached_whatever_is_expected : {s : State} (e : Expectation) → Attached s → Attached (expecting e s)
attached_whatever_is_expected e (at_address_1 x b e') = at_address_1 x b e
