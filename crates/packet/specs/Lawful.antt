-- The law of a check register, and its width.
use Rattle.std.specs.Prelude.{◌≡◌, ℕ, ◌^◌, ◌<◌, ◌≤◌, Bool}
use Rattle.packet.specs.Registers.{taken}

-- a register has 1 to 16 bits, and a content that fits goes on to one that fits
pub record Sized (width generator : ℕ) : Type 0 where
  pub some : 0 < width
  pub most : width ≤ 16
  pub generator_fits : generator < 2 ^ width

-- different contents under one bit, and two bits on one content, go to different contents
pub record Lawful (width generator : ℕ) : Type 0 where
  pub contents : (c d : ℕ) (b : Bool) → c < 2 ^ width → d < 2 ^ width → taken width generator c b ≡ taken width generator d b → c ≡ d
  pub bits : (c : ℕ) (a b : Bool) → c < 2 ^ width → taken width generator c a ≡ taken width generator c b → a ≡ b
