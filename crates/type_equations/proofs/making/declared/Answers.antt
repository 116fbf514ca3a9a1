use Rattle.std.proofs.Common.{◌≡◌, ◌<◌, ℕ, List, length, get_or, map, ap, subst}
use Rattle.sort_terms.specs.EquationView.{variable_of}
use Rattle.type_equations.proofs.CollectLemmas.{variables_more}
use Rattle.type_equations.proofs.making.declared.Goals as goal

pub loop-number-preserved : goal.loop-number-preserved
loop-number-preserved c =
    let same : c.as_slice-old.result.now ≡ c.args.order.now.keys = c.as_slice-old.ensures.keys in
    variables_more (map variable_of c.args.scope.now) c.args.order.now.keys c.loop-number.number _
    (map variable_of c.loop-number.made.items) (map variable_of c.push_variable.new.made.items) _
    (subst (λ (ns : List ℕ). c.loop-number.number < length ns) same c.loop-number-test.true)
    (ap (λ (ns : List ℕ). get_or ns c.loop-number.number 0) same) c.in_ok-push_variable.ensures c.loop-number.invariant
