use Rattle.std.proofs.Common.{List, subst}
use Rattle.ll_engine.specs.declared.symbol.Row.{Row}
use Rattle.ll_engine.specs.View.{grammar_of}
use Rattle.ll_engine.specs.Checked.{IsChecked, IsTableFaultOf}
use Rattle.ll_engine.proofs.Exactness.{exact_barren-ok, exact_ok-fault, exact_barren-fault, exact_left_cycle-fault, exact_conflict-fault}
use Rattle.ll_engine.proofs.grammar.Grammar.checked.Goals as goal
use Rattle.ll_engine.proofs.grammar.Grammar.checked.Goals.{In-Err}

fault_of : (c : In-Err) → IsTableFaultOf (grammar_of c.args.rows.items c.args.parts c.args.tokens c.args.start) c.in-Err.fault
fault_of c = subst (λ (rows : List Row). IsTableFaultOf (grammar_of rows c.args.parts c.args.tokens c.args.start) c.in-Err.fault)
    c.deref.ensures.value c.in-Err.ensures

pub returns-in-Ok-clause-barren : goal.returns-in-Ok-clause-barren
returns-in-Ok-clause-barren c =
    let is = subst (λ (rows : List Row). IsChecked (grammar_of rows c.args.parts c.args.tokens c.args.start) c.in-Ok.entries.items)
    c.deref.ensures.value c.in-Ok.ensures in
    λ part. exact_barren-ok (grammar_of c.args.rows.items c.args.parts c.args.tokens c.args.start)
    (grammar_of c.args.rows.items c.args.parts c.args.tokens c.args.start) is.predictive part

pub returns-in-Err-clause-ok : goal.returns-in-Err-clause-ok
returns-in-Err-clause-ok c =
    let d = (goal.at.returns-in-Err-clause-ok c).In-Err in
    exact_ok-fault (grammar_of c.args.rows.items c.args.parts c.args.tokens c.args.start) c.in-Err.fault (fault_of d)

pub returns-in-Err-clause-barren : goal.returns-in-Err-clause-barren
returns-in-Err-clause-barren c =
    let d = (goal.at.returns-in-Err-clause-barren c).In-Err in
    exact_barren-fault (grammar_of c.args.rows.items c.args.parts c.args.tokens c.args.start) c.in-Err.fault (fault_of d)

pub returns-in-Err-clause-left_cycle : goal.returns-in-Err-clause-left_cycle
returns-in-Err-clause-left_cycle c =
    let d = (goal.at.returns-in-Err-clause-left_cycle c).In-Err in
    exact_left_cycle-fault (grammar_of c.args.rows.items c.args.parts c.args.tokens c.args.start) c.in-Err.fault (fault_of d)

pub returns-in-Err-clause-conflict : goal.returns-in-Err-clause-conflict
returns-in-Err-clause-conflict c =
    let d = (goal.at.returns-in-Err-clause-conflict c).In-Err in
    exact_conflict-fault (grammar_of c.args.rows.items c.args.parts c.args.tokens c.args.start) c.in-Err.fault (fault_of d)
