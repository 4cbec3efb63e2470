-- The bytes of a packet, and which packets can be built.
use Rattle.std.specs.Prelude.{ℕ, ◌+◌, ◌-◌, ◌*◌, ◌/◌, ◌%◌, Bool, true, cond, ◌&&◌, List, [], ◌∷◌, ◌++◌, length, replicate, Ok, Err, Result, nat_le}
use Rattle.packet.specs.declared.kind.Kind.TheVariants.{Token, Data, Handshake}
use Rattle.packet.specs.declared.refusal.Refusal.{Refusal}
use Rattle.packet.specs.declared.refusal.Refusal.TheVariants.{TooWide}
use Rattle.packet.specs.Bits.{bits, bits_of}
use Rattle.packet.specs.Kinds.{pid}
use Rattle.packet.specs.Parts.{Parts, token, data_packet, handshake}
use Rattle.packet.specs.Registers.{check}

-- a token's check, 5 bits with generator 05h, is over its address, 7 bits, and its endpoint, 4 bits
abbrev pub token_check : ℕ → ℕ → ℕ
token_check address endpoint = check 5 0x05 (bits 7 address ++ bits 4 endpoint)

-- a body's check, 16 bits with generator 8005h, is over its bytes
abbrev pub body_check : List ℕ → ℕ
body_check body = check 16 0x8005 (bits_of body)

-- the 16-bit word of a token: address in the lowest 7 bits, endpoint in the next 4, check in the top 5
abbrev pub token_word : ℕ → ℕ → ℕ
token_word address endpoint = address + endpoint * 128 + token_check address endpoint * 2048

-- a 16-bit word as two bytes, the low one first
abbrev pub word_bytes : ℕ → List ℕ
word_bytes w = w % 256 ∷ w / 256 ∷ []

-- the bytes of a packet
unfoldable pub building : Parts → List ℕ
building (token k a e) = pid (Token k) ∷ word_bytes (token_word a e)
building (data_packet k body) = pid (Data k) ∷ (body ++ word_bytes (body_check body))
building (handshake h) = pid (Handshake h) ∷ []

-- an address has 7 bits, an endpoint 4, a body at most 64 bytes
abbrev pub can_be_built : Parts → Bool
can_be_built (token k a e) = nat_le a 127 && nat_le e 15
can_be_built (data_packet k body) = nat_le (length body) 64
can_be_built (handshake h) = true

-- what building answers: the number of bytes, or the refusal
abbrev pub build_answer : Parts → Result ℕ Refusal
build_answer p = cond (can_be_built p) (Ok (length (building p))) (Err TooWide)

-- 67 bytes of memory with the packet in front and zeros behind
abbrev pub built_memory : Parts → List ℕ
built_memory p = building p ++ replicate (67 - length (building p)) 0

-- what the memory holds then: the packet, or what it held before
abbrev pub build_memory : Parts → List ℕ → List ℕ
build_memory p before = cond (can_be_built p) (built_memory p) before
