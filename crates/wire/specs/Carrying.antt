-- What a wire may do with bytes that are sent. Which of it happens is the wire's choice.
use Rattle.std.specs.Prelude.{◌≡◌, ℕ, ◌+◌, ◌-◌, ◌<◌, ◌≤◌, min, cond, ◌⊎◌, List, [], ◌++◌, length, take, replicate, ◌≢◌, nat_le}
use Rattle.packet.specs.Reading.{reading, refused}

-- bytes that reading refuses; nothing is such
abbrev pub NoPacket : List ℕ → Type 0
NoPacket bytes = (n : ℕ) × (reading bytes ≡ refused n)

-- a tally that grows by one, up to 255
abbrev pub one_more : ℕ → ℕ
one_more tally = min 255 (tally + 1)

-- what arrives is what was sent, and the tally stays; or other bytes, which are no packet, and the tally grows
abbrev pub Arrives : List ℕ → ℕ → List ℕ → ℕ → Type 0
Arrives sent before arrival after =
    ((arrival ≡ sent) × (after ≡ before)) ⊎ ((arrival ≢ sent) × NoPacket arrival × (after ≡ one_more before))

-- of no bytes, or of more than 67, none arrive
pub record Carried (sent : List ℕ) (before : ℕ) (arrival : List ℕ) (after : ℕ) : Type 0 where
  pub none_of_none : length sent ≡ 0 → arrival ≡ []
  pub none_of_too_many : 67 < length sent → arrival ≡ []
  pub arrives : Arrives sent before arrival after

-- so many bytes arrive in the front of the memory, and zeros are behind them
pub record Carries (sent : List ℕ) (before count : ℕ) (memory : List ℕ) (after : ℕ) : Type 0 where
  pub count_within : count ≤ 67
  pub filled : memory ≡ take count memory ++ replicate (67 - count) 0
  pub carried : Carried sent before (take count memory) after

-- 67 bytes of memory with these in front and zeros behind
abbrev pub laid : List ℕ → List ℕ
laid bytes = bytes ++ replicate (67 - length bytes) 0

-- what a wire delivers that delivers all it may
abbrev pub all_it_may : List ℕ → List ℕ
all_it_may sent = cond (nat_le (length sent) 67) sent []
