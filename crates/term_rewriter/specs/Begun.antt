-- Terms on the way to their chosen forms: the arguments are irreducible, and only the root is left.
use Rattle.std.specs.Prelude.{◌≡◌, ◌<◌, ◌+◌, ℕ}
use Rattle.lotos_base.specs.Signature.{Operation, IsOperation}
use Rattle.rewriting_theory.specs.Measure.{choice_cost}
use Rattle.sort_terms.specs.ProfiledTerm.{ProfiledTerm, ProfiledTerms, profiled_node, bare, All}
use Rattle.sort_terms.specs.TermView.{profiled_of}
use Rattle.path_order.specs.RulesView.{plain_rules_in, signature_in}
use Rattle.path_order.specs.declared.rules.Rules.{Rules}
use Rattle.path_order.proofs.RulesLemmas.{rules_have_forms}
use Rattle.term_rewriter.specs.Form.{IsNormalOf, IsFormOf}
use Rattle.term_rewriter.specs.declared.forms.Progress.{Progress}
use Rattle.term_rewriter.specs.declared.forms.Progress.TheVariants.{Form, Whole}

-- The term is an operation of the signature on irreducible terms of it.
pub record IsReadyForRoot (rules : Rules) (t : ProfiledTerm) : Type 0 where
  pub number : ℕ
  pub operation : Operation
  pub arguments : ProfiledTerms
  pub shape : t ≡ profiled_node number operation arguments
  pub is_there : IsOperation (signature_in rules) number operation
  pub normal : All (IsNormalOf (signature_in rules) (plain_rules_in rules)) arguments

-- The size of the derivation of the term's chosen form.
abbrev pub form_size : Rules → ProfiledTerm → ℕ
form_size rules t = choice_cost (rules_have_forms rules) (bare t)

-- The second term is ready, has a chosen form of a lesser size than the bound, and its chosen form is that of the first.
pub record LeadsTo (rules : Rules) (t : ProfiledTerm) (bound : ℕ) (whole : ProfiledTerm) : Type 0 where
  pub ready : IsReadyForRoot rules whole
  pub smaller : form_size rules whole < bound
  pub form : (made : ProfiledTerm) → IsFormOf (signature_in rules) (plain_rules_in rules) whole made
      → IsFormOf (signature_in rules) (plain_rules_in rules) t made

-- What was begun of the term: its chosen form, or a term with the same one.
abbrev pub IsBegunOf : Rules → ProfiledTerm → ℕ → Progress → Type 0
IsBegunOf rules t bound (Form made) = IsFormOf (signature_in rules) (plain_rules_in rules) t (profiled_of made)
IsBegunOf rules t bound (Whole whole) = LeadsTo rules t bound (profiled_of whole)

-- how much is left to be done
abbrev pub left_to_do : Rules → Progress → ℕ
left_to_do rules (Form made) = 0
left_to_do rules (Whole whole) = form_size rules (profiled_of whole) + 1
