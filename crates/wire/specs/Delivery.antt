-- A wire's choice for one packet, as all layers above a wire speak of it.
use Rattle.std.specs.Prelude.{◌≡◌, ℕ, ◌≤◌, true, List}
use Rattle.packet.specs.Building.{building, can_be_built}
use Rattle.packet.specs.Parts.{Parts}
use Rattle.packet.specs.Reading.{Reading, packet, refused, reading}
use Rattle.wire.specs.Carrying.{Carried, one_more}

-- a packet is delivered, or spoiled so that reading what arrives is refused by this number
pub data Delivery : Type 0 where
  delivered : Delivery
  spoiled : ℕ → Delivery

-- what the other end reads of a packet
abbrev pub heard_of : Parts → Delivery → Reading
heard_of p delivered = packet p
heard_of p (spoiled n) = refused n

-- the tally after it
abbrev pub counted : ℕ → Delivery → ℕ
counted tally delivered = tally
counted tally (spoiled n) = one_more tally

-- a spoiled packet is refused by a number of reading
abbrev pub Numbered : Delivery → Type 0
Numbered delivered = Unit {0}
Numbered (spoiled n) = (20 ≤ n) × (n ≤ 24)

-- of the bytes of a built packet, the other end reads that packet and the tally stays, or it reads a refusal from 20 to
-- 24 and the tally is one higher, up to 255
abbrev pub ABuiltPacketIsDeliveredOrSpoiled : Type 0
ABuiltPacketIsDeliveredOrSpoiled =
    (p : Parts) (before : ℕ) (arrival : List ℕ) (after : ℕ) → can_be_built p ≡ true → Carried (building p) before arrival after
    → (d : Delivery) × (reading arrival ≡ heard_of p d) × (after ≡ counted before d) × Numbered d
