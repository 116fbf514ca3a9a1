-- Rules at the root, one after the other, where the arguments are irreducible.
use Rattle.std.proofs.Common.{◌≡◌, ◌+◌, ◌<◌, ◌≤◌, ℕ, List, [], ap, sym, ◌∙◌, subst, refl, arith}
use Rattle.std.specs.Prelude.{Some, slice_get}
use Rattle.std.proofs.lemmas.Option.{same_Some}
use Rattle.lotos_base.specs.Signature.{Operation}
use Rattle.lotos_base.specs.Term.{node}
use Rattle.rewriting_theory.specs.Rule.{Rule as PlainRule}
use Rattle.rewriting_theory.specs.Matching.{Matches}
use Rattle.rewriting_theory.specs.ChosenForm.{AllChosen, all_chosen, chosen_then, chosen_done, chosen_next}
use Rattle.rewriting_theory.proofs.CostLemmas.{costs_are_measures}
use Rattle.rewriting_theory.proofs.PublicLemmas.{normal_chosen}
use Rattle.sort_terms.specs.ProfiledTerm.{ProfiledTerm, ProfiledTerms, profiled_node, no_profiled_terms, profiled_term_then, bare, all_bare, IsOf, AreOf, All}
use Rattle.sort_terms.specs.SortedView.{profiled_in}
use Rattle.sort_terms.specs.TermView.{profiled_of, all_profiled}
use Rattle.sort_terms.specs.declared.terms.Term.{Term}
use Rattle.term_match.specs.ProfiledInstance.{profiled_binding}
use Rattle.term_match.specs.Search.{searched}
use Rattle.term_match.proofs.InstanceLemmas.{instance_of}
use Rattle.path_order.specs.RulesView.{plain_rules_in, signature_in}
use Rattle.path_order.specs.declared.rule.Rule.{Rule}
use Rattle.path_order.specs.declared.rules.Rules.{Rules}
use Rattle.path_order.proofs.RulesLemmas.{rules_well_formed, rules_end, rules_have_forms}
use Rattle.term_rewriter.specs.Begun.{IsReadyForRoot, LeadsTo, IsBegunOf, form_size}
use Rattle.term_rewriter.specs.FirstMatch.{NoneMatches, IsFirstMatch, IsFirstRule}
use Rattle.term_rewriter.specs.Form.{IsNormalOf, by_pairs, IsFormOf}
use Rattle.term_rewriter.specs.Reduced.{IsReducedBelow}
use Rattle.term_rewriter.specs.Taken.{IsRewritten}
use Rattle.term_rewriter.specs.declared.forms.Progress.{Progress}
use Rattle.term_rewriter.specs.declared.forms.Progress.TheVariants.{Form, Whole}
use Rattle.term_rewriter.proofs.FirstLemmas.{code_at}
use Rattle.term_rewriter.proofs.FormLemmas.{HaveForms, first_step, next_normal, right_is_of, reduced_by}
use Rattle.term_rewriter.proofs.SettledLemmas.{forms_cost_less, forms_form}

abbrev Pairs : Type 0
Pairs = List (ℕ × ProfiledTerm)

abbrev IsNormalIn : Rules → ProfiledTerm → Type 0
IsNormalIn rules t = IsNormalOf (signature_in rules) (plain_rules_in rules) t

abbrev IsFormIn : Rules → ProfiledTerm → ProfiledTerm → Type 0
IsFormIn rules t made = IsFormOf (signature_in rules) (plain_rules_in rules) t made

-- irreducible terms are their own forms
all_self : (rules : Rules) (us : ProfiledTerms) → All (IsNormalIn rules) us → AllChosen (plain_rules_in rules) (all_bare us) (all_bare us)
all_self rules no_profiled_terms all = all_chosen
all_self rules (profiled_term_then u us) all = chosen_then (normal_chosen (rules_end rules) all.0.normal) (all_self rules us all.1)

all_of : (rules : Rules) (us : ProfiledTerms) → All (IsNormalIn rules) us → AreOf (signature_in rules) us
all_of rules no_profiled_terms all = tt
all_of rules (profiled_term_then u us) all = (all.0.is_of, all_of rules us all.1)

-- ---- the operation on the chosen forms of the arguments

pub whole_leads : (rules : Rules) (t whole : ProfiledTerm) (f : ℕ) (operation : Operation) (made : List Term)
    → whole ≡ profiled_node f operation (all_profiled made) → IsOf (signature_in rules) t → HaveForms rules t f operation made
    → LeadsTo rules t (form_size rules t + 1) whole
whole_leads rules t whole f operation made whole_is h have =
    subst (λ (u : ProfiledTerm). LeadsTo rules u (form_size rules u + 1) whole) (sym have.shape)
    (subst (λ (u : ProfiledTerm). LeadsTo rules node_of (form_size rules node_of + 1) u) (sym whole_is) leads)
  where
    node_of : ProfiledTerm
    node_of = profiled_node f operation have.arguments

    leads : LeadsTo rules (profiled_node f operation have.arguments) (form_size rules (profiled_node f operation have.arguments) + 1)
        (profiled_node f operation (all_profiled made))
    leads = record {
      ready = record {
        number = f;
        operation = operation;
        arguments = all_profiled made;
        shape = refl;
        is_there = (subst (λ (u : ProfiledTerm). IsOf (signature_in rules) u) have.shape h).0;
        normal = have.forms.normal;
      };
      smaller =
          let less : form_size rules (profiled_node f operation (all_profiled made))
          ≤ form_size rules (profiled_node f operation have.arguments) =
          forms_cost_less (rules_well_formed rules) have.forms.chosen
          (rules_have_forms rules (bare (profiled_node f operation have.arguments))).1
          (rules_have_forms rules (bare (profiled_node f operation (all_profiled made)))).1 in
          omega (arith, less);
      form = λ made_form is. record { chosen = forms_form have.forms.chosen is.chosen; is_of = is.is_of };
    }

-- ---- no rule matches

pub ready_done : (rules : Rules) (whole : ProfiledTerm) → IsReadyForRoot rules whole → NoneMatches rules.rules.items whole
    → IsFormIn rules whole whole
ready_done rules whole ready none =
    subst (λ (u : ProfiledTerm). IsFormIn rules u u) (sym ready.shape)
    (record {
      chosen = chosen_done (all_self rules ready.arguments ready.normal) (λ rule is.
          let from = code_at rules.rules.items is.0 rule is.1 in
          subst (λ (r : PlainRule). ¬ Matches r.left (node ready.number (all_bare ready.arguments))) from.2
          (subst (λ (u : ProfiledTerm). NoneMatches rules.rules.items u) ready.shape none is.0 from.0 from.1));
      is_of = (ready.is_there, all_of rules ready.arguments ready.normal);
    })

-- ---- the first rule that matches

-- What the call for the instance of the right side asks and gives.
pub record NextRight (rules : Rules) (whole right instance : ProfiledTerm) : Type 0 where
  pub falls : form_size rules instance < form_size rules whole
  pub term : IsOf (signature_in rules) instance
  pub reduced : IsReducedBelow (signature_in rules) (plain_rules_in rules) right instance
  pub made : (form : ProfiledTerm) → IsFormOf (signature_in rules) (plain_rules_in rules) instance form
      → IsFormOf (signature_in rules) (plain_rules_in rules) whole form

ready_next : (rules : Rules) (whole : ProfiledTerm) (found : Pairs) (number : ℕ) (rule : Rule) → IsReadyForRoot rules whole
    → IsFirstMatch rules.rules.items number whole found → slice_get rules.rules.items number ≡ Some rule
    → NextRight rules whole (profiled_in rule.right) (by_pairs found (profiled_in rule.right))
ready_next rules whole found number rule ready m is =
    let first = subst (λ (u : ProfiledTerm). IsFirstMatch rules.rules.items number u found) ready.shape m in
    let same : first.rule ≡ rule = same_Some first.rule rule (sym first.is_at ∙ is) in
    let step = first_step rules (profiled_node ready.number ready.operation ready.arguments) number found first in
    let own = all_self rules ready.arguments ready.normal in
    let normal = next_normal rules found ready.number ready.operation ready.arguments number ready.normal first in
    subst (λ (r : Rule). NextRight rules whole (profiled_in r.right) (by_pairs found (profiled_in r.right))) same
    (subst (λ (u : ProfiledTerm). NextRight rules u (profiled_in first.rule.right) (by_pairs found (profiled_in first.rule.right)))
    (sym ready.shape)
    (record {
      falls = (costs_are_measures (plain_rules_in rules) (rules_have_forms rules) (rules_well_formed rules)).next ready.number
          (all_bare ready.arguments) (all_bare ready.arguments) (bare (by_pairs found (profiled_in first.rule.right))) own step;
      term = instance_of (signature_in rules) (profiled_binding found) (profiled_in first.rule.right)
          (right_is_of rules number first.rule first.is_at) (λ n s o. (normal n s o).is_of);
      reduced = reduced_by (signature_in rules) (plain_rules_in rules) found (profiled_in first.rule.right) normal;
      made = λ form h. record { chosen = chosen_next own step h.chosen; is_of = h.is_of };
    }))

-- the same of the instance that the code makes
pub next_right : (rules : Rules) (whole : ProfiledTerm) (number : ℕ) (rule : Rule) (left right : Term) (instance : ProfiledTerm)
    → IsReadyForRoot rules whole → IsFirstRule rules.rules.items number whole → slice_get rules.rules.items number ≡ Some rule
    → left ≡ rule.left.term → right ≡ rule.right.term → IsRewritten (profiled_of left) (profiled_of right) whole instance
    → NextRight rules whole (profiled_of right) instance
next_right rules whole number rule left right instance ready m is left_is right_is rewritten =
    let found = m.pairs in
    let same : m.is_first.rule ≡ rule = same_Some m.is_first.rule rule (sym m.is_first.is_at ∙ is) in
    let left_same : left ≡ m.is_first.rule.left.term = left_is ∙ ap (λ (r : Rule). r.left.term) (sym same) in
    let searched_is : searched (profiled_of left) whole [] ≡ Some m.pairs =
    (λ i. searched (profiled_of (left_same i)) whole []) ∙ m.is_first.found in
    subst (λ (u : ProfiledTerm). NextRight rules whole (profiled_of right) u) (sym (rewritten found searched_is))
    (subst (λ (u : Term). NextRight rules whole (profiled_of u) (by_pairs found (profiled_of u))) (sym right_is)
    (ready_next rules whole found number rule ready m.is_first is))

pub begun_under : (rules : Rules) (t whole : ProfiledTerm) (begun : Progress) → form_size rules t < form_size rules whole
    → ((made : ProfiledTerm) → IsFormOf (signature_in rules) (plain_rules_in rules) t made
    → IsFormOf (signature_in rules) (plain_rules_in rules) whole made)
    → IsBegunOf rules t (form_size rules t + 1) begun → IsBegunOf rules whole (form_size rules whole) begun
begun_under rules t whole (Form made) less onward is = onward (profiled_of made) is
begun_under rules t whole (Whole next) less onward is = record {
  ready = is.ready;
  smaller = let small = is.smaller in omega (arith, small, less);
  form = λ made h. onward made (is.form made h);
}
