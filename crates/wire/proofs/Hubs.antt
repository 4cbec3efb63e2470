-- Two wires one after the other keep the meaning of a wire.
use Rattle.std.proofs.Common.{◌≡◌, ℕ, List, [], ◌∷◌, length, take, sym, refl, ap, ◌∙◌, subst, inl, inr, arith}
use Rattle.wire.specs.declared.hub.Port.{Port}
use Rattle.wire.specs.declared.hub.Port.TheVariants.{Open, Closed}
use Rattle.wire.specs.declared.interface.Direction.{Direction}
use Rattle.wire.specs.declared.interface.Direction.TheVariants.{Outward, Homeward}
use Rattle.wire.specs.Carrying.{NoPacket, Arrives, Carries, laid, one_more}
use Rattle.wire.specs.Hubs.{Through, Passes, ByPort}
use Rattle.wire.proofs.Laid.{carries_nothing}

-- what comes out is what went in, or no packet
spoiled_somewhere : (sent middle arrival : List ℕ) (near near' far far' : ℕ) → Arrives sent near middle near' → Arrives middle far arrival far' → (arrival ≡ sent → ⊥) → NoPacket arrival
spoiled_somewhere sent middle arrival near near' far far' first (inr other) differs = other.1
spoiled_somewhere sent middle arrival near near' far far' (inr other) (inl same) differs = subst NoPacket (sym same.0) other.1
spoiled_somewhere sent middle arrival near near' far far' (inl before) (inl same) differs = absurd (differs (same.0 ∙ before.0))

module _ (sent : List ℕ) (near near' far far' count : ℕ) (memory : List ℕ) (t : Through sent near near' far far' count memory) where
  nothing_on : t.0 ≡ [] → take count memory ≡ []
  nothing_on none = t.2.carried.none_of_none (ap length none)

  through_is_carried : (before after : ℕ) → Arrives sent before (take count memory) after → Carries sent before count memory after
  through_is_carried before after a = record {
    count_within = t.2.count_within;
    filled = t.2.filled;
    carried = record {
      none_of_none = λ none. nothing_on (t.1.none_of_none none);
      none_of_too_many = λ many. nothing_on (t.1.none_of_too_many many);
      arrives = a;
    };
  }

  through_other : (before after : ℕ) → after ≡ one_more before → (take count memory ≡ sent → ⊥) → Carries sent before count memory after
  through_other before after grown differs =
      through_is_carried before after (inr (differs, spoiled_somewhere sent t.0 (take count memory) near near' far far' t.1.arrives t.2.carried.arrives differs, grown))

pub passes_other : (d : Direction) (sent : List ℕ) (f f' s s' count : ℕ) (memory : List ℕ) → Passes d sent f f' s s' count memory → (before after : ℕ) → after ≡ one_more before → (take count memory ≡ sent → ⊥) → Carries sent before count memory after
passes_other Outward sent f f' s s' count memory p = through_other sent f f' s s' count memory p
passes_other Homeward sent f f' s s' count memory p = through_other sent s s' f f' count memory p

-- nothing arrived, and that is not what was sent
closed_other : (sent memory : List ℕ) (before after count : ℕ) → count ≡ 0 → memory ≡ laid [] → after ≡ one_more before → (take count memory ≡ sent → ⊥) → Carries sent before count memory after
closed_other [] memory before after count n m grown differs = absurd (differs (rw n refl))
closed_other (b ∷ sent) memory before after count n m grown differs = carries_nothing (b ∷ sent) memory before after count (omega arith) n m grown

pub by_port_other : {F S : Type 0} (f : F → ℕ) (s : S → ℕ) (port : Port) (d : Direction) (sent : List ℕ) (first first' : F) (second second' : S) (count : ℕ) (memory : List ℕ) → ByPort f s port d sent first first' second second' count memory → (before after : ℕ) → after ≡ one_more before → (take count memory ≡ sent → ⊥) → Carries sent before count memory after
by_port_other f s Open d sent first first' second second' count memory p before after grown differs = passes_other d sent (f first) (f first') (s second) (s second') count memory p before after grown differs
by_port_other f s Closed d sent first first' second second' count memory p before after grown differs = closed_other sent memory before after count p.2 p.3 grown differs
