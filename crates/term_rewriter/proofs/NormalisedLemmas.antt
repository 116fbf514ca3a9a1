-- What is made of a whole term.
use Rattle.std.proofs.Common.{◌≡◌, ap, sym, ◌∙◌, subst}
use Rattle.rewriting_theory.specs.ChosenForm.{Chosen}
use Rattle.rewriting_theory.specs.Reduction.{Reaches}
use Rattle.rewriting_theory.specs.Rewriting.{IsNormal, Rewrites}
use Rattle.rewriting_theory.proofs.PublicLemmas.{chosen_normal, chosen_rewritten}
use Rattle.sort_terms.specs.ProfiledTerm.{ProfiledTerm, FitsProfiles, IsOf}
use Rattle.sort_terms.specs.SortedView.{profiled_in, term_in}
use Rattle.sort_terms.specs.TermView.{profiled_of}
use Rattle.sort_terms.specs.declared.terms.Term.{Term}
use Rattle.sort_terms.specs.declared.sorted.Sorted.{Sorted}
use Rattle.path_order.specs.RulesView.{plain_rules_in, signature_in}
use Rattle.path_order.specs.declared.rules.Rules.{Rules}
use Rattle.path_order.proofs.RulesLemmas.{rules_well_formed}
use Rattle.term_rewriter.specs.Form.{IsFormOf}
use Rattle.term_rewriter.specs.Reduced.{IsReducedBelow}
use Rattle.term_rewriter.proofs.FormLemmas.{reduced_self, form_fits}

pub whole_reduced : (rules : Rules) (term : Sorted) (shape copy : Term) → shape ≡ term.term → profiled_of copy ≡ profiled_of shape
    → IsOf (signature_in rules) (profiled_in term)
    → IsReducedBelow (signature_in rules) (plain_rules_in rules) (profiled_of shape) (profiled_of copy)
whole_reduced rules term shape copy same copied h =
    subst (λ (u : ProfiledTerm). IsReducedBelow (signature_in rules) (plain_rules_in rules) (profiled_of shape) u) (sym copied)
    (reduced_self rules (profiled_of shape) (subst (λ (t : Term). IsOf (signature_in rules) (profiled_of t)) (sym same) h))

pub form_of_whole : (rules : Rules) (term : Sorted) (shape copy form : Term) → shape ≡ term.term → profiled_of copy ≡ profiled_of shape
    → IsFormOf (signature_in rules) (plain_rules_in rules) (profiled_of copy) (profiled_of form)
    → IsFormOf (signature_in rules) (plain_rules_in rules) (profiled_in term) (profiled_of form)
form_of_whole rules term shape copy form same copied h =
    subst (λ (u : ProfiledTerm). IsFormOf (signature_in rules) (plain_rules_in rules) u (profiled_of form)) (copied ∙ ap profiled_of same) h

pub form_has_profiles : (rules : Rules) (term : Sorted) (form : Term) → IsOf (signature_in rules) (profiled_in term)
    → IsFormOf (signature_in rules) (plain_rules_in rules) (profiled_in term) (profiled_of form) → FitsProfiles (profiled_of form)
form_has_profiles rules term form h is = (form_fits rules term (profiled_of form) h is).0

-- What is said of the answer.
pub record IsNormalised (rules : Rules) (term made : Sorted) : Type 0 where
  pub chosen : Chosen (plain_rules_in rules) (term_in term) (term_in made)
  pub normal : IsNormal (plain_rules_in rules) (term_in made)
  pub reached : Reaches (Rewrites (plain_rules_in rules)) (term_in term) (term_in made)
  pub is_of : IsOf (signature_in rules) (profiled_in made)
  pub sort : made.sort ≡ term.sort

pub normalised : (rules : Rules) (term made : Sorted) (form : Term) → made.term ≡ form → IsOf (signature_in rules) (profiled_in term)
    → IsFormOf (signature_in rules) (plain_rules_in rules) (profiled_in term) (profiled_of form) → IsNormalised rules term made
normalised rules term made form same h is =
    let there = subst (λ (t : Term). IsFormOf (signature_in rules) (plain_rules_in rules) (profiled_in term) (profiled_of t)) (sym same) is
    in
    record {
      chosen = there.chosen;
      normal = chosen_normal (rules_well_formed rules) there.chosen;
      reached = chosen_rewritten there.chosen;
      is_of = there.is_of;
      sort = sym made.headed ∙ (form_fits rules term (profiled_in made) h there).1 ∙ term.headed;
    }
