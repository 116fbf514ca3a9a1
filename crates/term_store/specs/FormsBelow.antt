-- An operation on the chosen forms of the arguments of another one.
use Rattle.std.specs.Prelude.{ℕ, List}
use Rattle.lotos_base.specs.Term.{Term, variable, node, Terms}
use Rattle.rewriting_theory.specs.Rule.{Rule}
use Rattle.rewriting_theory.specs.ChosenForm.{AllChosen}

-- The second term is the operation at the head of the first one on the chosen forms of its arguments, or the variable that
-- the first one is.
pub data HasFormsBelow (rules : List Rule) : Term → Term → Type 0 where
  of_variable : {n s : ℕ} → HasFormsBelow rules (variable n s) (variable n s)
  of_operation : {f : ℕ} {ts us : Terms} → AllChosen rules ts us → HasFormsBelow rules (node f ts) (node f us)
