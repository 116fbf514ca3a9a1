use Rattle.std.proofs.Common.{take, map}
use Rattle.sort_terms.specs.EquationView.{equation_of}
use Rattle.sort_terms.specs.SignatureView.{signature_of}
use Rattle.rewriting_theory.specs.Orientation.{GiveRules}
use Rattle.path_order.specs.PrecedenceView.{precedence_of}
use Rattle.path_order.specs.RuleSides.{AreRulesOver}
use Rattle.path_order.specs.RuleView.{numbered_rules}
use Rattle.path_order.proofs.orienting.turned.Given as goal

abbrev pub invariant-loop-number : goal.invariant-loop-number
invariant-loop-number l =
    GiveRules (precedence_of l.precedence) 0 (map equation_of (take l.number l.flat.equations.items)) (numbered_rules l.rules.items)
    × AreRulesOver (signature_of l.flat.signature) l.rules.items
