-- What arrives, laid into memory.
use Rattle.std.proofs.Common.{◌≡◌, ℕ, ◌-◌, ◌<◌, ◌≤◌, List, [], ◌∷◌, ◌++◌, length, take, replicate, sym, refl, ap, subst, subst₂, inl, inr, arith}
use Rattle.packet.specs.Reading.{reading}
use Rattle.std.proofs.lemmas.List.{take_at}
use Rattle.wire.specs.Carrying.{NoPacket, Carried, Carries, laid, one_more}

front : (arrival : List ℕ) → take (length arrival) (laid arrival) ≡ arrival
front arrival = take_at arrival _ (length arrival) refl

carries_laid : (sent arrival : List ℕ) (before after : ℕ) → length arrival ≤ 67 → Carried sent before arrival after → Carries sent before (length arrival) (laid arrival) after
carries_laid sent arrival before after within c = record {
  count_within = within;
  filled = ap (λ l. l ++ replicate (67 - length arrival) 0) (sym (front arrival));
  carried = subst (λ l. Carried sent before l after) (sym (front arrival)) c;
}

-- bytes that are carried and then laid
pub carries_arrival : (sent arrival memory : List ℕ) (before after count : ℕ) → length arrival ≤ 67 → Carried sent before arrival after → count ≡ length arrival → memory ≡ laid arrival → Carries sent before count memory after
carries_arrival sent arrival memory before after count within c n m =
    subst₂ (λ k l. Carries sent before k l after) (sym n) (sym m) (carries_laid sent arrival before after within c)

pub nothing_is_no_packet : NoPacket []
unfolding reading
nothing_is_no_packet = (20, refl)

-- what was sent arrives
pub delivers : (sent : List ℕ) (tally : ℕ) → length sent ≤ 67 → Carried sent tally sent tally
delivers sent tally within = record {
  none_of_none = λ none. nil sent none;
  none_of_too_many = λ many. absurd (omega arith);
  arrives = inl (refl, refl);
}
  where
    nil : (l : List ℕ) → length l ≡ 0 → l ≡ []
    nil [] e = refl
    nil (x ∷ l) e = absurd (omega arith)

-- nothing of something arrives
pub loses : (sent : List ℕ) (before after : ℕ) → 0 < length sent → after ≡ one_more before → Carried sent before [] after
loses sent before after some grown = record {
  none_of_none = λ none. refl;
  none_of_too_many = λ many. refl;
  arrives = inr (λ same. absurd (omega (arith, ap length same)), nothing_is_no_packet, grown);
}

-- nothing of something arrives, and the memory is zeros
pub carries_nothing : (sent memory : List ℕ) (before after count : ℕ) → 0 < length sent → count ≡ 0 → memory ≡ laid [] → after ≡ one_more before → Carries sent before count memory after
carries_nothing sent memory before after count some n m grown = carries_arrival sent [] memory before after count (omega arith) (loses sent before after some grown) n m
