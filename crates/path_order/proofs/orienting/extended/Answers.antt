use Rattle.std.proofs.Common.{subst}
use Rattle.sort_terms.specs.SortedView.{term_in}
use Rattle.path_order.specs.PrecedenceView.{precedence_of}
use Rattle.path_order.specs.TurnView.{IsComparedTurn}
use Rattle.path_order.specs.declared.turning.Turn.{Turn}
use Rattle.path_order.proofs.OrientLemmas.{extends_by_none, extends_forward, extends_backward}
use Rattle.path_order.proofs.orienting.extended.Goals as goal

pub returns-in-Identical : goal.returns-in-Identical
returns-in-Identical c =
    extends_by_none (precedence_of c.args.precedence.now) c.args.number c.args.equation.now c.args.rules.items
    (subst (λ (turn : Turn). IsComparedTurn (precedence_of c.args.precedence.now) (term_in c.args.equation.now.left)
    (term_in c.args.equation.now.right) turn) c.in-Identical.is c.in_ok-turn_of.ensures)

pub returns-in_ok-with_rule-in-Forward : goal.returns-in_ok-with_rule-in-Forward
returns-in_ok-with_rule-in-Forward c =
    let turned = subst (λ (turn : Turn). IsComparedTurn (precedence_of c.args.precedence.now) (term_in c.args.equation.now.left)
    (term_in c.args.equation.now.right) turn) c.in-Forward.is c.in_ok-turn_of.ensures in
    extends_forward (precedence_of c.args.precedence.now) c.args.number c.args.equation.now c.args.rules.items
    c.in_ok-with_rule-in-Forward.field-0.items turned.0 turned.1
    c.in_ok-with_rule-in-Forward.ensures.rules c.in_ok-with_rule-in-Forward.ensures.sides

pub returns-in_ok-with_rule-in-Backward : goal.returns-in_ok-with_rule-in-Backward
returns-in_ok-with_rule-in-Backward c =
    let turned = subst (λ (turn : Turn). IsComparedTurn (precedence_of c.args.precedence.now) (term_in c.args.equation.now.left)
    (term_in c.args.equation.now.right) turn) c.in-Backward.is c.in_ok-turn_of.ensures in
    extends_backward (precedence_of c.args.precedence.now) c.args.number c.args.equation.now c.args.rules.items
    c.in_ok-with_rule-in-Backward.field-0.items turned.0 turned.1
    c.in_ok-with_rule-in-Backward.ensures.rules c.in_ok-with_rule-in-Backward.ensures.sides
