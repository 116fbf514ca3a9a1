use Rattle.std.proofs.Common.{◌∙◌, ℕ, List, [], reverse, ap, sym}
use Rattle.std.specs.Prelude.{option_and_then}
use Rattle.std.proofs.lemmas.Result.{IfOk-weaker}
use Rattle.ll_engine.specs.Derivation.{leftmost}
use Rattle.ll_engine.specs.Fold.{first_value}
use Rattle.ll_engine.specs.Run.{work, run}
use Rattle.ll_engine.proofs.Running.{tree_runs}
use Rattle.ll_engine.proofs.fold.fold_derivation.Goals as goal

pub returns : goal.returns
returns g c =
    let value_of = g.A.Actions.value_of c.args.actions.now in
    let keeps = g.A.Actions.keeps in
    let rows = c.args.grammar.now.rows in
    IfOk-weaker c.build_rows.result _ _
    (λ built is. λ tree d leaves_are rows_are.
    is
    ∙ ap (λ (l : List ℕ). option_and_then (λ after. first_value after.values)
    (run value_of keeps rows (reverse l) (work [] (reverse c.in_ok-ahead.ahead.items)))) (sym rows_are)
    ∙ ap (λ l. option_and_then (λ after. first_value after.values) (run value_of keeps rows (reverse (leftmost tree))
    (work [] (reverse l)))) c.in_ok-ahead.ensures
    ∙ tree_runs value_of keeps g.A.Actions.kind rows c.requires tree c.args.grammar.now.start c.args.tokens.now d leaves_are)
    c.build_rows.ensures
