use Rattle.std.proofs.Common.{rules, tests, ◌≡◌, ◌-◌, length, take, drop, true-eqb, false-eqb, ap, ◌∙◌}
use Rattle.std.proofs.lemmas.Iterator.{YieldsList-from_slice}
use Rattle.std.proofs.lemmas.Iterator.Consumers.{count_from_yields_List}
use Rattle.std.proofs.lemmas.Iterator.Search.{YieldsList-from_take_while}
use Rattle.std.proofs.lemmas.List.Folds.{length-prefix_len}
use Rattle.std.specs.List.{prefix_len}
use Rattle.script.specs.Text.{inner}
use Rattle.script.proofs.Taking.{no_line, a_line, nearer, past_end}
use Rattle.script.proofs.text.LinesIterator.next.Goals as goal

pub returns-then-is_empty-clause-steps : goal.returns-then-is_empty-clause-steps
returns-then-is_empty-clause-steps c = let none = no_line c.args.self.now.rest.now (true-eqb _ 0 c.if-is_empty.ensures) in (none, none)

pub returns-clause-steps : goal.returns-clause-steps
returns-clause-steps c =
    let bs = c.args.self.now.rest.now in
    let rest = c.split_at.result.1.now in
    let long : c.count-length.result ≡ prefix_len inner bs =
    count_from_yields_List c.take_while.result _ c.count-length.ensures.ran (YieldsList-from_take_while _ inner (YieldsList-from_slice (c.args.self.now.rest.now) (cc)) c.take_while.ensures.closure c.take_while.ensures.done (λ x b q k. search (rules, tests))) ∙ length-prefix_len inner (c.args.self.now.rest.now) in
    let after : take (length rest - c.min.result) (drop c.min.result rest) ≡ drop 1 rest = ap (λ k. take (length rest - k) (drop k rest)) c.min.ensures ∙ past_end rest in
    a_line bs c.split_at.result.0.now rest (take (length rest - c.min.result) (drop c.min.result rest)) c.count-length.result long c.split_at.ensures.front c.split_at.ensures.back after (false-eqb _ 0 c.if-is_empty.ensures)

pub returns-clause-goes : goal.returns-clause-goes
returns-clause-goes c = record { on = λ f. (tt, tt, nearer _ _ _ (returns-clause-steps c)); keeps = tt; rests = λ f. tt }
