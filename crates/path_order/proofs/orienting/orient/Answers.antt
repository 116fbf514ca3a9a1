use Rattle.std.proofs.Common.{Vec, Global, sym, subst}
use Rattle.lotos_base.specs.Signature.{Signature}
use Rattle.sort_terms.specs.EquationView.{data_of}
use Rattle.rewriting_theory.specs.Orientation.{rules_of}
use Rattle.path_order.specs.PrecedenceView.{precedence_of}
use Rattle.path_order.specs.RewritingEnd.{RewritingEndsBy}
use Rattle.path_order.specs.RuleSides.{AreRulesOver}
use Rattle.path_order.specs.RuleView.{numbered_rules}
use Rattle.path_order.specs.declared.rule.Rule.{Rule}
use Rattle.path_order.proofs.OrientLemmas.{given_oriented, given_ends}
use Rattle.path_order.proofs.orienting.orient.Goals as goal

pub of-requires-clause-oriented : goal.of-requires-clause-oriented
of-requires-clause-oriented c =
    given_oriented (precedence_of c.args.precedence) (data_of c.args.flat.now) c.in_ok-rules.rules.items c.in_ok-rules.ensures.rules

pub of-requires-clause-over : goal.of-requires-clause-over
of-requires-clause-over c =
    subst (λ (signature : Signature). AreRulesOver signature c.in_ok-rules.rules.items) (sym c.in_ok-copy.ensures)
    c.in_ok-rules.ensures.over

pub returns-clause-ends : goal.returns-clause-ends
returns-clause-ends c =
    subst (λ (rules : Vec Rule Global). RewritingEndsBy (rules_of (numbered_rules rules.items))) (sym c.in_ok-of.ensures.rules)
    (given_ends (precedence_of c.args.precedence) (data_of c.args.flat.now) (numbered_rules c.in_ok-rules.rules.items)
    c.in_ok-rules.ensures.rules)
