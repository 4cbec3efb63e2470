use Rattle.std.proofs.Common.{rules, tests, ◌≡◌, ◌-◌, length, take, drop, true-eqb, false-eqb, ◌∙◌}
use Rattle.std.proofs.lemmas.Iterator.{YieldsList-from_slice}
use Rattle.std.proofs.lemmas.Iterator.Consumers.{count_from_yields_List}
use Rattle.std.proofs.lemmas.Iterator.Search.{YieldsList-from_take_while}
use Rattle.std.proofs.lemmas.List.Folds.{length-prefix_len}
use Rattle.std.specs.List.{prefix_len}
use Rattle.std.proofs.lemmas.List.{take_rest}
use Rattle.script.specs.Text.{blank, solid}
use Rattle.script.proofs.Taking.{no_word, a_word, nearer}
use Rattle.script.proofs.text.WordsIterator.next.Goals as goal

pub returns-then-is_empty-clause-steps : goal.returns-then-is_empty-clause-steps
returns-then-is_empty-clause-steps c =
    let bs = c.args.self.now.rest.now in
    let line = take (length bs - c.count-blanks.result) (drop c.count-blanks.result bs) in
    let led : c.count-blanks.result ≡ prefix_len blank bs =
    count_from_yields_List c.take_while.result _ c.count-blanks.ensures.ran (YieldsList-from_take_while _ blank (YieldsList-from_slice (c.args.self.now.rest.now) (cc)) c.take_while.ensures.closure c.take_while.ensures.done (λ x b q k. search (rules, tests))) ∙ length-prefix_len blank (c.args.self.now.rest.now) in
    let long : c.count-length.result ≡ prefix_len solid line =
    count_from_yields_List c.take_while-2.result _ c.count-length.ensures.ran (YieldsList-from_take_while _ solid (YieldsList-from_slice (take (length c.args.self.now.rest.now - c.count-blanks.result) (drop c.count-blanks.result c.args.self.now.rest.now)) (cc)) c.take_while-2.ensures.closure c.take_while-2.ensures.done (λ x b q k. search (rules, tests))) ∙ length-prefix_len solid (take (length c.args.self.now.rest.now - c.count-blanks.result) (drop c.count-blanks.result c.args.self.now.rest.now)) in
    no_word bs line c.split_at.result.0.now c.split_at.result.1.now c.count-blanks.result c.count-length.result led (take_rest bs c.count-blanks.result) long c.split_at.ensures.front c.split_at.ensures.back (true-eqb _ 0 c.if-is_empty.ensures)

pub returns-else-is_empty-clause-steps : goal.returns-else-is_empty-clause-steps
returns-else-is_empty-clause-steps c =
    let bs = c.args.self.now.rest.now in
    let line = take (length bs - c.count-blanks.result) (drop c.count-blanks.result bs) in
    let led : c.count-blanks.result ≡ prefix_len blank bs =
    count_from_yields_List c.take_while.result _ c.count-blanks.ensures.ran (YieldsList-from_take_while _ blank (YieldsList-from_slice (c.args.self.now.rest.now) (cc)) c.take_while.ensures.closure c.take_while.ensures.done (λ x b q k. search (rules, tests))) ∙ length-prefix_len blank (c.args.self.now.rest.now) in
    let long : c.count-length.result ≡ prefix_len solid line =
    count_from_yields_List c.take_while-2.result _ c.count-length.ensures.ran (YieldsList-from_take_while _ solid (YieldsList-from_slice (take (length c.args.self.now.rest.now - c.count-blanks.result) (drop c.count-blanks.result c.args.self.now.rest.now)) (cc)) c.take_while-2.ensures.closure c.take_while-2.ensures.done (λ x b q k. search (rules, tests))) ∙ length-prefix_len solid (take (length c.args.self.now.rest.now - c.count-blanks.result) (drop c.count-blanks.result c.args.self.now.rest.now)) in
    a_word bs line c.split_at.result.0.now c.split_at.result.1.now c.count-blanks.result c.count-length.result led (take_rest bs c.count-blanks.result) long c.split_at.ensures.front c.split_at.ensures.back (false-eqb _ 0 c.if-is_empty.ensures)

pub returns-else-is_empty-clause-goes : goal.returns-else-is_empty-clause-goes
returns-else-is_empty-clause-goes c = record { on = λ f. (tt, tt, nearer _ _ _ (returns-else-is_empty-clause-steps c)); keeps = tt; rests = λ f. tt }
