-- What rules of the code stand for.
use Rattle.std.specs.Prelude.{List}
use Rattle.lotos_base.specs.Signature.{Signature}
use Rattle.rewriting_theory.specs.Rule.{Rule as PlainRule}
use Rattle.sort_terms.specs.SignatureView.{signature_of}
use Rattle.rewriting_theory.specs.Orientation.{NumberedRule, rules_of}
use Rattle.rewriting_theory.specs.Precedence.{Precedence}
use Rattle.path_order.specs.PrecedenceView.{precedence_of}
use Rattle.path_order.specs.RuleView.{numbered_rules}
use Rattle.path_order.specs.declared.rules.Rules.{Rules}

-- the rules with the numbers of their equations
abbrev pub rules_in : Rules → List NumberedRule
rules_in rules = numbered_rules rules.rules.items

-- the rules without the numbers
abbrev pub plain_rules_in : Rules → List PlainRule
plain_rules_in rules = rules_of (rules_in rules)

-- the precedence that orients them
abbrev pub precedence_in : Rules → Precedence
precedence_in rules = precedence_of rules.precedence

-- the signature that they are over
abbrev pub signature_in : Rules → Signature
signature_in rules = signature_of rules.signature
