use Rattle.std.proofs.Common.{map}
use Rattle.std.proofs.lemmas.List.{nil_from_length}
use Rattle.lotos_base.specs.WrittenView.{text_place_of}
use Rattle.sort_terms.specs.EquationView.{variable_of}
use Rattle.sort_terms.specs.SortedView.{profiled_in}
use Rattle.type_equations.proofs.MadeLemmas.{order_is, equation_is, side_is_of}
use Rattle.type_equations.proofs.made.equation_made.Goals as goal

pub returns-clause-made : goal.returns-clause-made
returns-clause-made c =
    equation_is (text_place_of c.args.place) (map variable_of c.args.scope.now) _ c.collect-2.new.order.keys
    (profiled_in c.args.left.now) (profiled_in c.args.right.now) (profiled_in c.in_ok-one.one) (profiled_in c.in_ok-other.other)
    (order_is c.new-order.result.keys c.collect.new.order.keys c.collect-2.new.order.keys c.term.result.now c.term-2.result.now
    c.args.left.now.term c.args.right.now.term (nil_from_length c.new-order.result.keys c.new-order.ensures.len) c.term.ensures
    c.term-2.ensures c.in_ok-collect.ensures c.in_ok-collect-2.ensures)
    c.in_ok-variables.ensures c.in_ok-one.ensures c.in_ok-other.ensures

pub returns-clause-left : goal.returns-clause-left
returns-clause-left c = λ signature of. side_is_of _ (profiled_in c.args.left.now) _ signature c.in_ok-one.ensures of

pub returns-clause-right : goal.returns-clause-right
returns-clause-right c = λ signature of. side_is_of _ (profiled_in c.args.right.now) _ signature c.in_ok-other.ensures of
