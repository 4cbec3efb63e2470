-- A disk that takes so many writes: its verdict while some are left, and how many are left after a write.
use Rattle.std.specs.Prelude.{ℕ, zero, suc, ◌-◌, Ok, Err, Result}
use Rattle.store.specs.declared.answers.StoreRefusal.{StoreRefusal}
use Rattle.store.specs.declared.answers.Verdict.{Verdict}
use Rattle.store.specs.declared.answers.Verdict.TheVariants.{Taken, Locked, Full}

-- the verdict of the disk behind it while writes are left
abbrev pub limited_verdict : ℕ → Verdict → Verdict
limited_verdict zero verdict = Full
limited_verdict (suc left) verdict = verdict

-- the writes left after one that is answered so
abbrev pub left_after : Result Verdict StoreRefusal → ℕ → ℕ
left_after (Ok Taken) left = left - 1
left_after (Ok Locked) left = left
left_after (Ok Full) left = left
left_after (Err e) left = left
