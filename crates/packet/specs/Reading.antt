-- What bytes are read as: a packet, or a refusal's number.
use Rattle.std.specs.Prelude.{ℕ, ◌+◌, ◌-◌, ◌*◌, ◌/◌, ◌%◌, cond, ◌&&◌, List, [], ◌∷◌, length, take, Ok, Err, Result, ◌==◌, nat_le, slice_index}
use Rattle.packet.specs.declared.kind.TokenKind.{TokenKind}
use Rattle.packet.specs.declared.kind.DataKind.{DataKind}
use Rattle.packet.specs.declared.kind.Handshake.{Handshake as Handshakes}
use Rattle.packet.specs.declared.kind.Kind.{Kind}
use Rattle.packet.specs.declared.kind.Kind.TheVariants.{Token, Data, Handshake}
use Rattle.packet.specs.declared.packet.Packet.{Packet}
use Rattle.packet.specs.declared.refusal.Refusal.{Refusal}
use Rattle.packet.specs.declared.refusal.Refusal.TheVariants.{NoBytes, WrongLength, WrongCheck}
use Rattle.packet.specs.Building.{token_check, body_check}
use Rattle.packet.specs.Kinds.{kind_of_pid}
use Rattle.packet.specs.Parts.{Parts, token, data_packet, handshake, parts}
use Rattle.packet.specs.Refusals.{refusal_number}

-- what is heard: a packet by its parts, or the number of the refusal
pub data Reading : Type 0 where
  packet : Parts → Reading
  refused : ℕ → Reading

-- a reading as the code answers it
abbrev pub heard : Result Packet Refusal → Reading
heard (Ok p) = packet (parts p)
heard (Err e) = refused (refusal_number e)

-- a token by its 16-bit word
abbrev pub reading_word : TokenKind → ℕ → Reading
reading_word k w =
    cond (w / 2048 == token_check (w % 128) (w / 128 % 16)) (packet (token k (w % 128) (w / 128 % 16))) (refused (refusal_number WrongCheck))

abbrev pub reading_token : TokenKind → List ℕ → Reading
reading_token k (low ∷ high ∷ []) = reading_word k (low + high * 256)
reading_token k [] = refused (refusal_number WrongLength)
reading_token k (low ∷ []) = refused (refusal_number WrongLength)
reading_token k (low ∷ high ∷ more ∷ rest) = refused (refusal_number WrongLength)

-- a body and the word after it
abbrev pub reading_body : DataKind → List ℕ → ℕ → Reading
reading_body k body w = cond (w == body_check body) (packet (data_packet k body)) (refused (refusal_number WrongCheck))

-- the word in the last two bytes
abbrev pub last_word : List ℕ → ℕ
last_word rest = slice_index rest (length rest - 2) + slice_index rest (length rest - 1) * 256

abbrev pub reading_data : DataKind → List ℕ → Reading
reading_data k rest =
    cond (nat_le 2 (length rest) && nat_le (length rest) 66) (reading_body k (take (length rest - 2) rest) (last_word rest)) (refused (refusal_number WrongLength))

abbrev pub reading_handshake : Handshakes → List ℕ → Reading
reading_handshake h [] = packet (handshake h)
reading_handshake h (more ∷ rest) = refused (refusal_number WrongLength)

-- what follows the first byte, by the kind that it names
abbrev pub reading_rest : Result Kind Refusal → List ℕ → Reading
reading_rest (Ok (Token k)) rest = reading_token k rest
reading_rest (Ok (Data k)) rest = reading_data k rest
reading_rest (Ok (Handshake h)) rest = reading_handshake h rest
reading_rest (Err e) rest = refused (refusal_number e)

unfoldable pub reading : List ℕ → Reading
reading [] = refused (refusal_number NoBytes)
reading (first ∷ rest) = reading_rest (kind_of_pid first) rest
