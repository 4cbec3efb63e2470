-- What an entry of a script does keeps the meaning of a wire.
use Rattle.std.proofs.Common.{◌≡◌, ℕ, ◌<◌, ◌≤◌, Bool, true, false, cond, List, [], length, sym, refl, subst, inr, arith}
use Rattle.packet.specs.Reading.{Reading, packet, refused, reading}
use Rattle.wire.specs.Carrying.{Carried, Carries, laid, one_more}
use Rattle.wire.specs.Scripts.{is_packet, with_bit_flipped, unless_packet}
use Rattle.wire.proofs.Flipping.{length_flipped, flipped_differs}
use Rattle.wire.proofs.Laid.{carries_arrival, loses}

-- bytes that are not read as a packet are no packet
refused_by : (r : Reading) → is_packet r ≡ false → (n : ℕ) × (r ≡ refused n)
refused_by (packet p) e = cc
refused_by (refused n) e = (n, refl)

-- flipped bytes arrive, or nothing
flips : (bit : ℕ) (sent : List ℕ) (tally : ℕ) → 0 < length sent → length sent ≤ 67 → Carried sent tally (unless_packet (with_bit_flipped bit sent)) (one_more tally)
flips bit sent tally some few = go (is_packet (reading (with_bit_flipped bit sent))) refl
  where
    go : (t : Bool) → is_packet (reading (with_bit_flipped bit sent)) ≡ t → Carried sent tally (cond t [] (with_bit_flipped bit sent)) (one_more tally)
    go true e = loses sent tally (one_more tally) some refl
    go false e = record {
      none_of_none = λ none. absurd (omega arith);
      none_of_too_many = λ many. absurd (omega arith);
      arrives = inr (flipped_differs bit sent some, refused_by (reading (with_bit_flipped bit sent)) e, refl);
    }

length_unless : (bit : ℕ) (sent : List ℕ) → 0 < length sent → length sent ≤ 67 → length (unless_packet (with_bit_flipped bit sent)) ≤ 67
length_unless bit sent some few = go (is_packet (reading (with_bit_flipped bit sent)))
  where
    go : (t : Bool) → length (cond t [] (with_bit_flipped bit sent)) ≤ 67
    go true = omega arith
    go false = omega (arith, length_flipped bit sent some)

-- flipped bytes are laid into memory, or zeros
pub carries_flipped : (bit : ℕ) (sent memory : List ℕ) (before after count : ℕ) → 0 < length sent → length sent ≤ 67 → count ≡ length (unless_packet (with_bit_flipped bit sent)) → memory ≡ laid (unless_packet (with_bit_flipped bit sent)) → after ≡ one_more before → Carries sent before count memory after
carries_flipped bit sent memory before after count some few n m grown =
    carries_arrival sent (unless_packet (with_bit_flipped bit sent)) memory before after count (length_unless bit sent some few) (subst (Carried sent before (unless_packet (with_bit_flipped bit sent))) (sym grown) (flips bit sent before some few)) n m
