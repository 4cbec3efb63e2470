-- Every refusal of reading has a number from 20 to 24.
use Rattle.std.proofs.Common.{◌≡◌, ℕ, ◌≤◌, List, [], ◌∷◌, Ok, Err, Result, arith}
use Rattle.packet.specs.declared.kind.Kind.{Kind}
use Rattle.packet.specs.declared.kind.Kind.TheVariants.{Token, Data, Handshake}
use Rattle.packet.specs.declared.refusal.Refusal.{Refusal}
use Rattle.packet.specs.Kinds.{kind_of_pid}
use Rattle.packet.specs.Promises.{ARefusalIs20To24}
use Rattle.packet.specs.Reading.{refused, reading, reading_rest}

numbered_rest : (named : Result Kind Refusal) (rest : List ℕ) (n : ℕ) → reading_rest named rest ≡ refused n → (20 ≤ n) × (n ≤ 24)
numbered_rest (Ok (Token k)) [] n e = grind arith
numbered_rest (Ok (Token k)) (x ∷ []) n e = grind arith
numbered_rest (Ok (Token k)) (x ∷ y ∷ []) n e = grind arith
numbered_rest (Ok (Token k)) (x ∷ y ∷ z ∷ rest) n e = grind arith
numbered_rest (Ok (Data k)) rest n e = grind arith
numbered_rest (Ok (Handshake h)) [] n e = grind arith
numbered_rest (Ok (Handshake h)) (x ∷ rest) n e = grind arith
numbered_rest (Err refusal) rest n e = grind arith

pub a_refusal_is_20_to_24 : ARefusalIs20To24
unfolding reading
a_refusal_is_20_to_24 [] n e = grind arith
a_refusal_is_20_to_24 (first ∷ rest) n e = numbered_rest (kind_of_pid first) rest n e
