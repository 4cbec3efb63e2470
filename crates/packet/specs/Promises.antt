-- What is promised of packets and their checks, over the definitions that the contracts of reading and building cite.
use Rattle.std.specs.Prelude.{◌≡◌, ℕ, ◌^◌, ◌<◌, ◌≤◌, Bool, true, not, ◌⊎◌, List, [], ◌∷◌, ◌++◌, length, ◌≢◌, bit_xor, slice_index, slice_set}
use Rattle.packet.specs.declared.kind.TokenKind.TheVariants.{Out, In, Setup}
use Rattle.packet.specs.declared.kind.DataKind.TheVariants.{Data1}
use Rattle.packet.specs.Bits.{bits}
use Rattle.packet.specs.Building.{building, can_be_built, body_check, word_bytes}
use Rattle.packet.specs.Parts.{Parts, token, data_packet}
use Rattle.packet.specs.Reading.{Reading, reading, packet, refused}
use Rattle.packet.specs.Registers.{check}

-- each number of the list is a byte
abbrev pub Bytes : List ℕ → Type 0
Bytes [] = Unit {0}
Bytes (b ∷ bs) = (b < 256) × Bytes bs

-- the lists differ in just one bit
abbrev pub OneBit : List Bool → List Bool → Type 0
OneBit [] ys = ⊥
OneBit (x ∷ xs) [] = ⊥
OneBit (x ∷ xs) (y ∷ ys) = ((y ≡ not x) × (xs ≡ ys)) ⊎ ((x ≡ y) × OneBit xs ys)

-- the bytes with bit k of byte i changed
abbrev pub bit_changed : List ℕ → ℕ → ℕ → List ℕ
bit_changed bytes i k = slice_set bytes i (bit_xor (slice_index bytes i) (2 ^ k))

abbrev pub ReadingABuiltPacketReturnsItsParts : Type 0
ReadingABuiltPacketReturnsItsParts = (p : Parts) → can_be_built p ≡ true → reading (building p) ≡ packet p

abbrev pub OnlyBuiltPacketsAreAccepted : Type 0
OnlyBuiltPacketsAreAccepted = (bytes : List ℕ) (p : Parts) → Bytes bytes → reading bytes ≡ packet p → (can_be_built p ≡ true) × (bytes ≡ building p)

-- what was sent is covered bits and their check; if what is heard differs from it in just one bit, covered or of the
-- check, the field that is heard is not the check of the bits that are heard
abbrev pub OneChangedBitGivesAWrongCheck : (width generator : ℕ) → Type 0
OneChangedBitGivesAWrongCheck width generator =
    (covered front : List Bool) (field : ℕ) → OneBit (covered ++ bits width (check width generator covered)) (front ++ bits width field) → field ≢ check width generator front

abbrev pub OneChangedBitIsNoPacket : Type 0
OneChangedBitIsNoPacket =
    (p : Parts) (i k : ℕ) → can_be_built p ≡ true → i < length (building p) → k < 8 → (n : ℕ) × (reading (bit_changed (building p) i k) ≡ refused n)

abbrev pub ARefusalIs20To24 : Type 0
ARefusalIs20To24 = (bytes : List ℕ) (n : ℕ) → reading bytes ≡ refused n → (20 ≤ n) × (n ≤ 24)

-- the bytes that a reading stands for, or the refusal's number
abbrev pub shown : Reading → List ℕ
shown (packet p) = building p
shown (refused n) = n ∷ []

abbrev pub worked : List (List ℕ)
worked =
    building (token Setup 0 0)
    ∷ building (token In 1 1)
    ∷ building (token Out 1 2)
    ∷ building (data_packet Data1 [])
    ∷ word_bytes (body_check (0x80 ∷ 0x06 ∷ 0x00 ∷ 0x01 ∷ 0x00 ∷ 0x00 ∷ 0x40 ∷ 0x00 ∷ []))
    ∷ shown (reading (0xe0 ∷ []))
    ∷ shown (reading (0xf0 ∷ []))
    ∷ shown (reading (0x4b ∷ 0x00 ∷ []))
    ∷ shown (reading (0x69 ∷ 0x81 ∷ 0x59 ∷ []))
    ∷ []

abbrev pub given : List (List ℕ)
given =
    (0x2d ∷ 0x00 ∷ 0x10 ∷ [])
    ∷ (0x69 ∷ 0x81 ∷ 0x58 ∷ [])
    ∷ (0xe1 ∷ 0x01 ∷ 0xc1 ∷ [])
    ∷ (0x4b ∷ 0x00 ∷ 0x00 ∷ [])
    ∷ (0xdd ∷ 0x94 ∷ [])
    ∷ (21 ∷ [])
    ∷ (22 ∷ [])
    ∷ (23 ∷ [])
    ∷ (24 ∷ [])
    ∷ []

abbrev pub TheWorkedCasesComeOut : Type 0
TheWorkedCasesComeOut = worked ≡ given
