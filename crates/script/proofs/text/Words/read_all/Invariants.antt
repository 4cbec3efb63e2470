use Rattle.std.proofs.Common.{◌≡◌, vec_items}
use Rattle.script.specs.Arguments.{all_read}
use Rattle.script.specs.Text.{words_left}
use Rattle.script.proofs.WordsRead.{before}
use Rattle.script.proofs.text.Words.read_all.Given as goal

abbrev pub invariant-loop-word : goal.invariant-loop-word
invariant-loop-word g l =
    (goal.iterator-loop-word g).can_next l.word-iterator × (goal.iterator-loop-word g).is_finite l.word-iterator × (before (vec_items l.values) (all_read g.A.Argument.reading (words_left l.word-iterator)) ≡ all_read g.A.Argument.reading (words_left l.fn.self))
