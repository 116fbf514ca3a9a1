-- The chosen form of a term by the rules of data.
use Rattle.std.specs.Prelude.{List}
use Rattle.lotos_base.specs.Term.{Term}
use Rattle.lotos_base.specs.Equation.{Data}
use Rattle.rewriting_theory.specs.ChosenForm.{Chosen}
use Rattle.path_order.specs.HandedOn.{Precedence}
use Rattle.path_order.specs.HandedOn.{NumberedRule, rules_of, IsOrientation}

-- The data have rules by the precedence, and the second term is the chosen form of the first one by them.
pub record IsFormByData (precedence : Precedence) (data_ : Data) (t form : Term) : Type 0 where
  pub rules : List NumberedRule
  pub are_rules : IsOrientation precedence data_ rules
  pub chosen : Chosen (rules_of rules) t form
