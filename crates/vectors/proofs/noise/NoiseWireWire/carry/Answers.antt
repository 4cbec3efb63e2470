use Rattle.std.proofs.Common.{◌≡◌, ℕ, ◌<◌, ◌≤◌, List, [], length, replicate, sym, refl, ◌∙◌, subst, inr, arith, rules}
use Rattle.packet.specs.Reading.{reading}
use Rattle.std.proofs.lemmas.Slice.Eq.{bytes_eq-Decides}
use Rattle.std.proofs.lemmas.List.{nil_from_length}
use Rattle.std.proofs.lemmas.Bool.{both_ways}
use Rattle.wire.specs.Carrying.{NoPacket, Carried, Carries, laid, one_more}
use Rattle.wire.proofs.Laid.{carries_arrival, carries_nothing, delivers}
use Rattle.vectors.proofs.noise.NoiseWireWire.carry.Goals as goal

no_packet : NoPacket (replicate 67 0)
unfolding reading
no_packet = (21, refl)

-- what is sent arrives
same : (sent arrival memory : List ℕ) (tally : ℕ) → length arrival ≤ 67 → sent ≡ arrival → memory ≡ laid arrival → Carries sent tally (length arrival) memory tally
same sent arrival memory tally few is fits = carries_arrival sent arrival memory tally tally (length arrival) few (subst (λ l. Carried l tally arrival tally) (sym is) (delivers arrival tally few)) refl fits

other : (sent : List ℕ) (before after : ℕ) → 0 < length sent → length sent ≤ 67 → after ≡ one_more before → (sent ≡ replicate 67 0 → ⊥) → Carries sent before 67 (replicate 67 0) after
other sent before after some few grown differs =
    carries_arrival sent (replicate 67 0) _ before after 67 (omega arith) (record {
      none_of_none = λ e. absurd (omega arith);
      none_of_too_many = λ many. absurd (omega arith);
      arrives = inr (λ is. differs (sym is), no_packet, grown);
    }) refl refl

pub returns-then-is_empty : goal.returns-then-is_empty
returns-then-is_empty c = same _ [] _ _ (omega arith) (nil_from_length _ (search rules)) refl

pub returns-then-sent-gt67 : goal.returns-then-sent-gt67
returns-then-sent-gt67 c = carries_nothing _ _ _ _ _ (omega arith) refl refl (omega (arith, c.saturating_add-self.ensures))

pub returns-then-eq : goal.returns-then-eq
returns-then-eq c = same _ (replicate 67 0) _ _ (omega arith) ((bytes_eq-Decides _ _).0 (sym c.eq.ensures ∙ c.if-eq.true) ∙ c.as_slice.ensures) refl

pub returns : goal.returns
returns c =
    other _ _ _ (search rules) (omega arith) (omega (arith, c.saturating_add-self-2.ensures))
    (λ is. both_ways c.eq.result c.if-eq.false (c.eq.ensures ∙ (bytes_eq-Decides _ _).1 (is ∙ sym c.as_slice.ensures)))
