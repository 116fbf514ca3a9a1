use Rattle.std.proofs.Common.{◌≡◌, [], reverse, option_and_then, vec_len}
use Rattle.ll_engine.specs.Fold.{first_value}
use Rattle.ll_engine.specs.Run.{from_last, work, run}
use Rattle.ll_engine.proofs.fold.build_rows.Given as goal

-- what the rows that are left make of what is built so far
abbrev pub invariant-loop-row : goal.invariant-loop-row
invariant-loop-row g l =
    option_and_then (λ after. first_value after.values)
    (run (g.A.Actions.value_of l.actions) g.A.Actions.keeps l.grammar.rows (reverse l.rows.items)
    (work (from_last g.A.Actions.meaning l.values.items) (reverse l.ahead.items)))
    ≡ option_and_then (λ after. first_value after.values)
    (run (g.A.Actions.value_of l.actions) g.A.Actions.keeps l.grammar.rows (reverse l.initial.rows.items)
    (work [] (reverse l.initial.ahead.items)))

abbrev pub decreases-loop-row : goal.decreases-loop-row
decreases-loop-row g l = vec_len l.rows
