-- The capacity reply: its 8 bytes, and the size that bytes tell.
use Rattle.std.specs.Prelude.{ℕ, ◌+◌, ◌-◌, Bool, cond, ◌&&◌, List, ◌++◌, length, Some, None, Option, ◌==◌, nat_le}
use Rattle.transport.specs.Numbers.{high_first, high_first_at}

-- the last sector, and the 512 bytes of a sector; without a sector, as for one, since `-` stops at 0
unfoldable pub capacity_bytes : ℕ → List ℕ
capacity_bytes n = high_first (n - 1) ++ high_first 512

-- 8 bytes, sectors of 512 bytes, and at most 65,536 of them
abbrev pub is_capacity : List ℕ → Bool
is_capacity bs = length bs == 8 && high_first_at bs 4 == 512 && nat_le (high_first_at bs 0) 65535

-- the number of sectors, if the bytes tell one
unfoldable pub capacity_of : List ℕ → Option ℕ
capacity_of bs = cond (is_capacity bs) (Some (high_first_at bs 0 + 1)) None
