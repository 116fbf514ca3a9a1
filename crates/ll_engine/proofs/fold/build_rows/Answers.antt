use Rattle.std.proofs.Common.{◌≡◌, ◌∙◌, ℕ, List, [], ◌∷◌, reverse, ap, sym, Bor}
use Rattle.std.specs.Prelude.{option_map, option_and_then}
use Rattle.std.proofs.lemmas.List.{nil_from_length}
use Rattle.ll_engine.specs.declared.symbol.Symbol.{Symbol}
use Rattle.ll_engine.specs.Fold.{first_value}
use Rattle.ll_engine.specs.Run.{from_last, work, run}
use Rattle.ll_engine.proofs.Stacks.{from_last_more, from_last_none}
use Rattle.ll_engine.proofs.Steps.{run_more, top_value}
use Rattle.ll_engine.proofs.fold.build_rows.Goals as goal

pub loop-row-init : goal.loop-row-init
loop-row-init g c =
    let meaning = g.A.Actions.meaning in
    ap (λ (l : List g.A.Actions.Meaning). option_and_then (λ after. first_value after.values)
    (run (g.A.Actions.value_of c.args.actions.now) g.A.Actions.keeps c.args.grammar.now.rows (reverse c.args.rows.items)
    (work l (reverse c.args.ahead.items))))
    (ap (from_last meaning) c.new-values.ensures.items ∙ from_last_none meaning)

pub loop-row-preserved : goal.loop-row-preserved
loop-row-preserved g c =
    let meaning = g.A.Actions.meaning in
    let value_of = g.A.Actions.value_of c.args.actions.now in
    let keeps = g.A.Actions.keeps in
    let rows = c.args.grammar.now.rows in
    let below = from_last meaning c.build_row.new.values.items in
    let ahead = reverse c.build_row.new.ahead.items in
    let values_are : from_last meaning c.push.new.self.items ≡ meaning c.in-Some-2.value ∷ below =
    ap (from_last meaning) c.in_ok-push.ensures.items ∙ from_last_more meaning c.build_row.new.values.items c.in-Some-2.value in
    let right_is = sym (ap (option_map (λ (r : Bor (List Symbol)). r.now)) c.in-Some-right_of.is) ∙ c.right_of.ensures in
    let step_is = sym (ap (option_map (λ value. work (meaning value ∷ below) ahead)) c.in-Some-2.is) ∙ c.in_ok-value.ensures in
    ap (option_and_then (λ after. first_value after.values))
    (ap (λ (l : List g.A.Actions.Meaning). run value_of keeps rows (reverse c.pop.new.self.items) (work l ahead)) values_are
    ∙ run_more meaning value_of keeps rows c.loop-row.rows.items c.pop.new.self.items c.in-Some.row c.in-Some-right_of.right.now
    (work (from_last meaning c.loop-row.values.items) (reverse c.loop-row.ahead.items))
    (work (meaning c.in-Some-2.value ∷ below) ahead) c.in-Some.ensures.items right_is step_is)
    ∙ c.loop-row.invariant

pub returns : goal.returns
returns g c =
    let meaning = g.A.Actions.meaning in
    let before = work (from_last meaning c.loop-row.values.items) (reverse c.loop-row.ahead.items) in
    let none : c.loop-row.rows.items ≡ [] = nil_from_length c.loop-row.rows.items (sym c.loop-row.rows.ok.0
    ∙ c.in_default.ensures.cases.0) in
    top_value meaning (g.A.Actions.value_of c.args.actions.now) g.A.Actions.keeps c.loop-row.values.items c.pop-2.new.self.items
    c.pop-2.result _ _ c.loop-row.values.ok.0 c.pop-2.ensures.items c.pop-2.ensures.cases
    ∙ sym (ap (λ (l : List ℕ). option_and_then (λ after. first_value after.values)
    (run (g.A.Actions.value_of c.args.actions.now) g.A.Actions.keeps c.args.grammar.now.rows (reverse l) before)) none)
    ∙ c.loop-row.invariant
