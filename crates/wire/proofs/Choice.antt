-- What a wire does to a built packet comes down to one of two choices.
use Rattle.std.proofs.Common.{◌≡◌, ℕ, true, List, ap, ◌∙◌, inl, inr}
use Rattle.packet.specs.Building.{building, can_be_built}
use Rattle.packet.specs.Parts.{Parts}
use Rattle.packet.specs.Reading.{reading}
use Rattle.packet.proofs.Numbers.{a_refusal_is_20_to_24}
use Rattle.packet.proofs.RoundTrip.{reading_a_built_packet_returns_its_parts}
use Rattle.wire.specs.Carrying.{Arrives}
use Rattle.wire.specs.Delivery.{Delivery, delivered, spoiled, heard_of, counted, Numbered, ABuiltPacketIsDeliveredOrSpoiled}

by_choice : (p : Parts) (before : ℕ) (arrival : List ℕ) (after : ℕ) → can_be_built p ≡ true → Arrives (building p) before arrival after → (d : Delivery) × (reading arrival ≡ heard_of p d) × (after ≡ counted before d) × Numbered d
by_choice p before arrival after can (inl same) = (delivered, ap reading same.0 ∙ reading_a_built_packet_returns_its_parts p can, same.1, tt)
by_choice p before arrival after can (inr other) =
    let n = other.1.0 in
    let is = other.1.1 in
    (spoiled n, is, other.2, a_refusal_is_20_to_24 arrival n is)

pub a_built_packet_is_delivered_or_spoiled : ABuiltPacketIsDeliveredOrSpoiled
a_built_packet_is_delivered_or_spoiled p before arrival after can c = by_choice p before arrival after can c.arrives
