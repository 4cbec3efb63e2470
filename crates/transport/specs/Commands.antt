-- Commands: their 16 bytes, and what bytes are read as.
use Rattle.std.specs.Prelude.{ℕ, cond, List, ◌∷◌, ◌++◌, replicate, Some, None, Option, ◌==◌, slice_index}
use Rattle.transport.specs.declared.commands.Command.{Command}
use Rattle.transport.specs.declared.commands.Command.TheVariants.{Test, Capacity, Read, Write}
use Rattle.transport.specs.Numbers.{high_first, two_high_first, high_first_at, two_high_first_at}

-- a code, a sector in bytes 2 to 5, a count of sectors in bytes 7 and 8, and zeros
abbrev pub coded_bytes : ℕ → ℕ → ℕ → List ℕ
coded_bytes code place many = code ∷ 0 ∷ (high_first place ++ 0 ∷ (two_high_first many ++ replicate 7 0))

unfoldable pub command_bytes : Command → List ℕ
command_bytes Test = coded_bytes 0x00 0 0
command_bytes Capacity = coded_bytes 0x25 0 0
command_bytes (Read place many) = coded_bytes 0x28 place many
command_bytes (Write place many) = coded_bytes 0x2a place many

-- how many of its bytes a command has
abbrev pub command_size : Command → ℕ
command_size Test = 6
command_size Capacity = 10
command_size (Read place many) = 10
command_size (Write place many) = 10

-- a command by its code
abbrev pub command_by : ℕ → ℕ → ℕ → Option Command
command_by code place many =
    cond (code == 0x00) (Some Test)
    (cond (code == 0x25) (Some Capacity)
    (cond (code == 0x28) (Some (Read place many))
    (cond (code == 0x2a) (Some (Write place many)) None)))

-- the command that the bytes are, or none that is known; bytes that it does not use are not tested
unfoldable pub command_of : List ℕ → Option Command
command_of bs = command_by (slice_index bs 0) (high_first_at bs 2) (two_high_first_at bs 7)
