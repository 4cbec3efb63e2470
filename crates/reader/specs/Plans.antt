-- Plans as the code holds them.
use Rattle.std.specs.Prelude.{◌≡◌, ◌+◌, ◌%◌, ◌≤◌}
use Rattle.reader.specs.declared.planning.Plan.{Plan as Plans}
use Rattle.reader.specs.declared.planning.Plan.TheVariants.{Passes, Fails, Sends, Receives}
use Rattle.reader.specs.Stages.{Plan, passes, fails, sends, receives}

abbrev pub plan_seen : Plans → Plan
plan_seen Passes = passes
plan_seen Fails = fails
plan_seen (Sends source n) = sends source n
plan_seen (Receives sector n) = receives sector n

-- what a plan may name of a disk of at most 65,536 sectors
abbrev pub Bounded : Plans → Type 0
Bounded Passes = Unit {0}
Bounded Fails = Unit {0}
Bounded (Sends source n) = Unit {0}
Bounded (Receives sector n) = (sector + n ≤ 67108864) × (n % 64 ≡ 0)
