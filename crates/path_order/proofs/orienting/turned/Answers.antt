use Rattle.std.proofs.Common.{List, sym, subst, arith}
use Rattle.std.proofs.lemmas.Result.{err_from_is_err_and}
use Rattle.sort_terms.specs.SignatureView.{signature_of}
use Rattle.rewriting_theory.specs.Orientation.{GiveRules, no_more}
use Rattle.path_order.specs.PrecedenceView.{precedence_of}
use Rattle.path_order.specs.RuleView.{numbered_rules}
use Rattle.path_order.specs.declared.rule.Rule.{Rule}
use Rattle.path_order.proofs.OrientLemmas.{equation_is_of, given_more, fault_first}
use Rattle.path_order.proofs.RuleLemmas.{no_sides}
use Rattle.std.specs.Prelude.{[]}
use Rattle.path_order.proofs.orienting.turned.Goals as goal

pub loop-number-init : goal.loop-number-init
loop-number-init c = (
  subst (λ (rules : List Rule). GiveRules (precedence_of c.args.precedence.now) 0 [] (numbered_rules rules)) (sym c.new-rules.ensures.items)
      no_more,
  no_sides (signature_of c.args.flat.now.signature) c.new-rules.result.items c.new-rules.ensures.items,
)

pub returns-in_err-rules-clause-rules : goal.returns-in_err-rules-clause-rules
returns-in_err-rules-clause-rules c =
    let p = err_from_is_err_and c.from_residual.result c.from_residual.ensures.1 in
    rw (p.1, p.2) (fault_first (precedence_of c.args.precedence.now) c.args.flat.now.equations.items c.index.result.now c.loop-number.number
    (numbered_rules c.loop-number.rules.items) _ (omega arith) c.index.ensures c.loop-number.invariant.0 c.in_err-rules.ensures)

pub loop-number-preserved : goal.loop-number-preserved
loop-number-preserved c = (
  given_more (precedence_of c.args.precedence.now) c.args.flat.now.equations.items c.index.result.now c.loop-number.number
      (numbered_rules c.loop-number.rules.items) (numbered_rules c.in_ok-rules.rules.items) (omega arith) c.index.ensures
      c.loop-number.invariant.0 c.in_ok-rules.ensures.adds,
  c.in_ok-rules.ensures.over (signature_of c.args.flat.now.signature)
      (equation_is_of c.args.flat.now c.loop-number.number c.index.result.now c.requires (omega arith) c.index.ensures)
      c.loop-number.invariant.1,
)
