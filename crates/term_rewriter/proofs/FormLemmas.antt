-- Chosen forms of instances: a variable, the arguments one by one, and what the first rule makes.
use Rattle.std.proofs.Common.{◌≡◌, ℕ, zero, suc, ◌<◌, List, [], ◌∷◌, ◌++◌, length, drop, append_assoc, append-nil, Bool, true, false, nat_eq, refl, ap, sym, ◌∙◌, subst, inl, inr}
use Rattle.std.specs.Prelude.{Some, None, slice_get, if◌then◌else◌}
use Rattle.std.proofs.lemmas.Option.{same_Some, slice_get_within}
use Rattle.std.proofs.lemmas.Bool.Decides.{Decides-eqb}
use Rattle.lotos_base.specs.Signature.{Signature, Operation}
use Rattle.lotos_base.specs.Term.{Terms, node, term_then}
use Rattle.lotos_base.specs.Path.{argument_at}
use Rattle.lotos_base.specs.Sorting.{OccursAmong, HasSort}
use Rattle.lotos_base.specs.Substitution.{binding}
use Rattle.rewriting_theory.specs.Rule.{Rule as PlainRule, IsNode}
use Rattle.rewriting_theory.specs.Step.{in_arguments, StepAmong, here, there}
use Rattle.rewriting_theory.specs.Matching.{Matches, FirstStep}
use Rattle.rewriting_theory.specs.ChosenForm.{Chosen, AllChosen, all_chosen, chosen_then}
use Rattle.rewriting_theory.proofs.ChosenLemmas.{variable_stuck, chosen_reached}
use Rattle.rewriting_theory.proofs.CostLemmas.{costs_are_measures}
use Rattle.rewriting_theory.proofs.PublicLemmas.{stuck_by_links, stuck_by_steps, normal_chosen, chosen_normal}
use Rattle.rewriting_theory.proofs.SortedSteps.{reaches_sort}
use Rattle.sort_terms.specs.ProfiledTerm.{ProfiledTerm, ProfiledTerms, profiled_variable, profiled_node, no_profiled_terms, profiled_term_then, bare, all_bare, head_sort, FitsProfiles, IsOf, AreOf, All}
use Rattle.sort_terms.specs.SortedView.{profiled_in}
use Rattle.sort_terms.specs.TermView.{profiled_of, all_profiled}
use Rattle.sort_terms.specs.declared.terms.Term.{Term}
use Rattle.sort_terms.specs.declared.sorted.Sorted.{Sorted}
use Rattle.sort_terms.proofs.ProfiledTermLemmas.{fitting_has_sort, sorted_fits}
use Rattle.sort_terms.proofs.TermListLemmas.{with_last_profiled, all_profiled-append}
use Rattle.term_match.specs.Matched.{IsPair}
use Rattle.term_match.specs.ProfiledInstance.{profiled_instances, profiled_binding, bare_pairs}
use Rattle.term_match.specs.Search.{searched, all_searched}
use Rattle.term_match.proofs.InstanceLemmas.{instance_by_pairs}
use Rattle.term_match.proofs.MatchLemmas.{AreKept, IsInherited, all_search_keeps, if_through, search_is_match}
use Rattle.term_match.proofs.StateLemmas.{nothing_put, occurs_sort_of}
use Rattle.path_order.specs.RuleView.{rule_of}
use Rattle.path_order.specs.RulesView.{plain_rules_in, signature_in}
use Rattle.path_order.specs.declared.rule.Rule.{Rule}
use Rattle.path_order.specs.declared.rules.Rules.{Rules}
use Rattle.path_order.proofs.RulesLemmas.{rules_well_formed, rules_end, rules_have_forms, rules_data, rules_sorted}
use Rattle.term_rewriter.specs.Begun.{form_size}
use Rattle.term_rewriter.specs.FirstMatch.{IsFirstMatch, IsFirstRule}
use Rattle.term_rewriter.specs.Form.{IsNormalOf, AreNormalFor, by_pairs, IsFormOf}
use Rattle.term_rewriter.specs.Reduced.{IsReducedBelow, AreReducedBelow}
use Rattle.term_rewriter.proofs.FirstLemmas.{plain_at, code_at, rule_over}

abbrev Pairs : Type 0
Pairs = List (ℕ × ProfiledTerm)

-- ---- irreducible terms

args_normal : (signature : Signature) (rules : List PlainRule) (ts : ProfiledTerms) → AreOf signature ts
    → ((us : Terms) → StepAmong rules (all_bare ts) us → ⊥) → All (IsNormalOf signature rules) ts
args_normal signature rules no_profiled_terms h none = tt
args_normal signature rules (profiled_term_then t ts) h none = (
  record { is_of = h.0; normal = stuck_by_links (λ u step. none (term_then u (all_bare ts)) (here step)) },
  args_normal signature rules ts h.1 (λ us step. none (term_then (bare t) us) (there step)),
)

normal_inherited : (signature : Signature) (rules : List PlainRule) → IsInherited (IsNormalOf signature rules)
normal_inherited signature rules f operation ts p =
    args_normal signature rules ts p.is_of.1 (λ us step. stuck_by_steps p.normal (node f us) (in_arguments step))

pub form_normal : (rules : Rules) (t made : ProfiledTerm) → IsFormOf (signature_in rules) (plain_rules_in rules) t made
    → IsNormalOf (signature_in rules) (plain_rules_in rules) made
form_normal rules t made h = record { is_of = h.is_of; normal = chosen_normal (rules_well_formed rules) h.chosen }

pub normal_form : (rules : Rules) (t made : ProfiledTerm) → IsNormalOf (signature_in rules) (plain_rules_in rules) t → made ≡ t
    → IsFormOf (signature_in rules) (plain_rules_in rules) t made
normal_form rules t made h same =
    subst (λ (u : ProfiledTerm). IsFormOf (signature_in rules) (plain_rules_in rules) t u) (sym same)
    (record { chosen = normal_chosen (rules_end rules) h.normal; is_of = h.is_of })

-- ---- the arguments

chosen_last : (rules : List PlainRule) (ts us : ProfiledTerms) (t u : ProfiledTerm) → AllChosen rules (all_bare ts) (all_bare us)
    → Chosen rules (bare t) (bare u) → AllChosen rules (all_bare (with_last_profiled ts t)) (all_bare (with_last_profiled us u))
chosen_last rules no_profiled_terms no_profiled_terms t u all one = chosen_then one all_chosen
chosen_last rules no_profiled_terms (profiled_term_then b bs) t u all one = elim all [ ]
chosen_last rules (profiled_term_then a rest_ts) no_profiled_terms t u all one = elim all [ ]
chosen_last rules (profiled_term_then a rest_ts) (profiled_term_then b bs) t u (chosen_then first rest) one =
    chosen_then first (chosen_last rules rest_ts bs t u rest one)

all_last : (P : ProfiledTerm → Type 0) (ts : ProfiledTerms) (t : ProfiledTerm) → All P ts → P t → All P (with_last_profiled ts t)
all_last P no_profiled_terms t all one = (one, tt)
all_last P (profiled_term_then u us) t all one = (all.0, all_last P us t all.1 one)

-- The second terms are the chosen forms of the first ones.
pub record AreForms (rules : Rules) (ts made : ProfiledTerms) : Type 0 where
  pub chosen : AllChosen (plain_rules_in rules) (all_bare ts) (all_bare made)
  pub normal : All (IsNormalOf (signature_in rules) (plain_rules_in rules)) made

forms_more : (rules : Rules) (xs made new : List Term) (x y : Term) → new ≡ made ++ y ∷ []
    → AreForms rules (all_profiled xs) (all_profiled made)
    → IsFormOf (signature_in rules) (plain_rules_in rules) (profiled_of x) (profiled_of y)
    → AreForms rules (all_profiled (xs ++ x ∷ [])) (all_profiled new)
forms_more rules xs made new x y added so_far one =
    let made_more : all_profiled new ≡ with_last_profiled (all_profiled made) (profiled_of y) =
    ap all_profiled added ∙ all_profiled-append made y in
    subst (λ (us : ProfiledTerms). AreForms rules (all_profiled (xs ++ x ∷ [])) us) (sym made_more)
    (subst (λ (ts : ProfiledTerms). AreForms rules ts (with_last_profiled (all_profiled made) (profiled_of y)))
    (sym (all_profiled-append xs x))
    (record {
      chosen = chosen_last (plain_rules_in rules) (all_profiled xs) (all_profiled made) (profiled_of x)
          (profiled_of y) so_far.chosen one.chosen;
      normal = all_last (IsNormalOf (signature_in rules) (plain_rules_in rules)) (all_profiled made) (profiled_of y) so_far.normal
          (form_normal rules (profiled_of x) (profiled_of y) one);
    }))

-- Some arguments of the term have their forms, and the other ones are instances of the shapes that are left.
pub record AreFormsSoFar (rules : Rules) (t : ProfiledTerm) (f : ℕ) (operation : Operation) (later rest made : List Term) : Type 0 where
  pub done : List Term
  pub shape : t ≡ profiled_node f operation (all_profiled (done ++ rest))
  pub forms : AreForms rules (all_profiled done) (all_profiled made)
  pub reduced : AreReducedBelow (signature_in rules) (plain_rules_in rules) (all_profiled later) (all_profiled rest)

pub no_forms : (rules : Rules) (shape t : ProfiledTerm) (f g : ℕ) (operation other : Operation) (shapes arguments rest made : List Term)
    → shape ≡ profiled_node g other (all_profiled shapes) → t ≡ profiled_node f operation (all_profiled arguments) → rest ≡ arguments
    → made ≡ [] → IsReducedBelow (signature_in rules) (plain_rules_in rules) shape t
    → AreFormsSoFar rules t f operation (drop 0 shapes) rest made
no_forms rules shape t f g operation other shapes arguments rest made shape_is t_is rest_is none reduced = record {
  done = [];
  shape = t_is ∙ ap (λ (ts : List Term). profiled_node f operation (all_profiled ts)) (sym rest_is);
  forms = subst (λ (ts : List Term). AreForms rules no_profiled_terms (all_profiled ts)) (sym none)
      (record { chosen = all_chosen; normal = tt });
  reduced = subst (λ (ts : List Term). AreReducedBelow (signature_in rules) (plain_rules_in rules) (all_profiled shapes) (all_profiled ts))
      (sym rest_is)
      (subst (λ (u : ProfiledTerm). IsReducedBelow (signature_in rules) (plain_rules_in rules) (profiled_node g other
      (all_profiled shapes)) u)
      t_is (subst (λ (s : ProfiledTerm). IsReducedBelow (signature_in rules) (plain_rules_in rules) s t) shape_is reduced));
}

-- ---- what the call for an argument asks

argument_there : (done rest : List Term) (part : Term)
    → argument_at (length done) (all_bare (all_profiled (done ++ part ∷ rest))) ≡ Some (bare (profiled_of part))
argument_there [] rest part = refl
argument_there (x ∷ done) rest part = argument_there done rest part

argument_is_of : (signature : Signature) (done rest : List Term) (part : Term) → AreOf signature (all_profiled (done ++ part ∷ rest))
    → IsOf signature (profiled_of part)
argument_is_of signature [] rest part h = h.0
argument_is_of signature (x ∷ done) rest part h = argument_is_of signature done rest part h.1

-- What the call for an argument asks.
pub record IsAsked (rules : Rules) (t : ProfiledTerm) (shape part : Term) : Type 0 where
  pub falls : form_size rules (profiled_of part) < form_size rules t
  pub term : IsOf (signature_in rules) (profiled_of part)
  pub reduced : IsReducedBelow (signature_in rules) (plain_rules_in rules) (profiled_of shape) (profiled_of part)

pub argument_asked : (rules : Rules) (t : ProfiledTerm) (f : ℕ) (operation : Operation) (later after rest left made : List Term)
    (shape part : Term) → later ≡ shape ∷ after → rest ≡ part ∷ left → IsOf (signature_in rules) t
    → AreFormsSoFar rules t f operation later rest made → IsAsked rules t shape part
argument_asked rules t f operation later after rest left made shape part later_is rest_is h so_far =
    let t_is : t ≡ profiled_node f operation (all_profiled (so_far.done ++ part ∷ left)) =
    so_far.shape ∙ ap (λ (ts : List Term). profiled_node f operation (all_profiled (so_far.done ++ ts))) rest_is in
    record {
      falls = subst (λ (u : ProfiledTerm). form_size rules (profiled_of part) < form_size rules u) (sym t_is)
          ((costs_are_measures (plain_rules_in rules) (rules_have_forms rules) (rules_well_formed rules)).arguments f (length so_far.done)
          (all_bare (all_profiled (so_far.done ++ part ∷ left))) (bare (profiled_of part)) (argument_there so_far.done left part));
      term = argument_is_of (signature_in rules) so_far.done left part
          (subst (λ (u : ProfiledTerm). IsOf (signature_in rules) u) t_is h).1;
      reduced = (subst (λ (ts : List Term). AreReducedBelow (signature_in rules) (plain_rules_in rules) (all_profiled (shape ∷ after))
          (all_profiled ts)) rest_is
          (subst (λ (ss : List Term). AreReducedBelow (signature_in rules) (plain_rules_in rules) (all_profiled ss) (all_profiled rest))
          later_is so_far.reduced)).0;
    }

pub argument_made : (rules : Rules) (t : ProfiledTerm) (f : ℕ) (operation : Operation) (later after rest left made new : List Term)
    (shape part form : Term) → later ≡ shape ∷ after → rest ≡ part ∷ left → new ≡ made ++ form ∷ []
    → AreFormsSoFar rules t f operation later rest made
    → IsFormOf (signature_in rules) (plain_rules_in rules) (profiled_of part) (profiled_of form)
    → AreFormsSoFar rules t f operation after left new
argument_made rules t f operation later after rest left made new shape part form later_is rest_is added so_far one = record {
  done = so_far.done ++ part ∷ [];
  shape = so_far.shape ∙ ap (λ (ts : List Term). profiled_node f operation (all_profiled (so_far.done ++ ts))) rest_is
      ∙ ap (λ (ts : List Term). profiled_node f operation (all_profiled ts)) (sym (append_assoc so_far.done (part ∷ []) left));
  forms = forms_more rules so_far.done made new part form added so_far.forms one;
  reduced = (subst (λ (ts : List Term). AreReducedBelow (signature_in rules) (plain_rules_in rules) (all_profiled (shape ∷ after))
      (all_profiled ts)) rest_is
      (subst (λ (ss : List Term). AreReducedBelow (signature_in rules) (plain_rules_in rules) (all_profiled ss) (all_profiled rest))
      later_is so_far.reduced)).1;
}

-- there are as many arguments as shapes
pub argument_lacks : (rules : Rules) (t : ProfiledTerm) (f : ℕ) (operation : Operation) (later after rest made : List Term) (shape : Term)
    → later ≡ shape ∷ after → rest ≡ [] → AreFormsSoFar rules t f operation later rest made → ⊥
argument_lacks rules t f operation later after rest made shape later_is none so_far =
    subst (λ (ts : List Term). AreReducedBelow (signature_in rules) (plain_rules_in rules) (all_profiled (shape ∷ after)) (all_profiled ts))
    none
    (subst (λ (ss : List Term). AreReducedBelow (signature_in rules) (plain_rules_in rules) (all_profiled ss) (all_profiled rest)) later_is
    so_far.reduced)

-- The arguments of the term have their forms.
pub record HaveForms (rules : Rules) (t : ProfiledTerm) (f : ℕ) (operation : Operation) (made : List Term) : Type 0 where
  pub arguments : ProfiledTerms
  pub shape : t ≡ profiled_node f operation arguments
  pub forms : AreForms rules arguments (all_profiled made)

pub all_made : (rules : Rules) (t : ProfiledTerm) (f : ℕ) (operation : Operation) (later rest made : List Term) → later ≡ []
    → AreFormsSoFar rules t f operation later rest made → HaveForms rules t f operation made
all_made rules t f operation later [] made none so_far = record {
  arguments = all_profiled so_far.done;
  shape = so_far.shape ∙ ap (λ (ts : List Term). profiled_node f operation (all_profiled ts)) (append-nil so_far.done);
  forms = so_far.forms;
}
all_made rules t f operation later (x ∷ rest) made none so_far =
    absurd (subst (λ (ss : List Term). AreReducedBelow (signature_in rules) (plain_rules_in rules) (all_profiled ss) (all_profiled
    (x ∷ rest)))
    none so_far.reduced)

-- ---- variables

pub variable_done : (rules : Rules) (shape : ProfiledTerm) (n s : ℕ) (t : ProfiledTerm) → shape ≡ profiled_variable n s
    → IsReducedBelow (signature_in rules) (plain_rules_in rules) shape t → IsFormOf (signature_in rules) (plain_rules_in rules) t t
variable_done rules shape n s t shape_is reduced =
    normal_form rules t t
    (subst (λ (u : ProfiledTerm). IsReducedBelow (signature_in rules) (plain_rules_in rules) u t) shape_is reduced) refl

mutual
  pub reduced_by : (signature : Signature) (rules : List PlainRule) (pairs : Pairs) (t : ProfiledTerm)
      → AreNormalFor signature rules t pairs → IsReducedBelow signature rules t (by_pairs pairs t)
  reduced_by signature rules pairs (profiled_variable n s) all = all n s (refl, refl)
  reduced_by signature rules pairs (profiled_node f operation ts) all = all_reduced_by signature rules pairs ts all

  all_reduced_by : (signature : Signature) (rules : List PlainRule) (pairs : Pairs) (ts : ProfiledTerms)
      → ((n s : ℕ) → OccursAmong n s (all_bare ts) → IsNormalOf signature rules (profiled_binding pairs n s))
      → AreReducedBelow signature rules ts (profiled_instances (profiled_binding pairs) ts)
  all_reduced_by signature rules pairs no_profiled_terms all = tt
  all_reduced_by signature rules pairs (profiled_term_then t ts) all = (
    reduced_by signature rules pairs t (λ n s o. all n s (inl o)),
    all_reduced_by signature rules pairs ts (λ n s o. all n s (inr o)),
  )

-- ---- the first rule that matches

pub first_step : (rules : Rules) (t : ProfiledTerm) (number : ℕ) (pairs : Pairs) (m : IsFirstMatch rules.rules.items number t pairs)
    → FirstStep (plain_rules_in rules) (bare t) (bare (by_pairs pairs (profiled_in m.rule.right)))
first_step rules t number pairs m = record {
  number = number;
  rule = rule_of m.rule;
  is_rule = plain_at rules.rules.items number m.rule m.is_at;
  step = record {
    values = binding (bare_pairs pairs);
    old = (search_is_match (profiled_in m.rule.left) t pairs m.found).makes;
    new = sym (instance_by_pairs pairs (profiled_in m.rule.right));
  };
  is_first = λ k earlier before at.
      let from = code_at rules.rules.items k earlier at in
      subst (λ (r : PlainRule). ¬ Matches r.left (bare t)) from.2 (m.none_before k from.0 before from.1);
}

-- what is found in irreducible arguments is irreducible
kept : (P : ProfiledTerm → Type 0) → IsInherited P → (l : ProfiledTerm) → IsNode (bare l) → (f : ℕ) (operation : Operation)
    (us : ProfiledTerms) (pairs : Pairs) → searched l (profiled_node f operation us) [] ≡ Some pairs → All P us
    → AreKept P (λ m. Unit {0}) pairs
kept P inherited (profiled_variable n s) is f operation us pairs e all = absurd is
kept P inherited (profiled_node g other ls) is f operation us pairs e all =
    all_search_keeps P (λ m. Unit {0}) inherited ls us [] pairs (if_through (nat_eq g f) (all_searched ls us []) pairs e) all
    (λ n s o. tt) (λ n u none. let k : None ≡ Some (n, u) = none.1 in cc)

-- what the pairs put for a variable that has a pair is that of some pair
bound_at : (pairs : Pairs) (n s : ℕ) (u : ProfiledTerm) → IsPair pairs n u
    → (v : ProfiledTerm) × IsPair pairs n v × (profiled_binding pairs n s ≡ v)
bound_at [] n s u is = let k : None ≡ Some (n, u) = is.1 in cc
bound_at (pair ∷ pairs) n s u is = go (nat_eq pair.0 n) refl is.0 is.1 (λ i e. bound_at pairs n s u (i, e))
  where
    go : (b : Bool) → nat_eq pair.0 n ≡ b → (i : ℕ) → slice_get (pair ∷ pairs) i ≡ Some (n, u)
        → ((k : ℕ) → slice_get pairs k ≡ Some (n, u) → (v : ProfiledTerm) × IsPair pairs n v × (profiled_binding pairs n s ≡ v))
        → (v : ProfiledTerm) × IsPair (pair ∷ pairs) n v × ((if b then pair.1 else profiled_binding pairs n s) ≡ v)
    go true test i e rest = (pair.1, (0, λ j. Some ((Decides-eqb pair.0 n).0 test j, pair.1)), refl)
    go false test zero e rest =
        let yes : nat_eq pair.0 n ≡ true = (Decides-eqb pair.0 n).1 (ap (λ (p : ℕ × ProfiledTerm). p.0) (same_Some pair (n, u) e)) in
        let clash : true ≡ false = sym yes ∙ test in cc
    go false test (suc i) e rest = let at = rest i e in (at.0, (suc at.1.0, at.1.1), at.2)

pub next_normal : (rules : Rules) (found : Pairs) (f : ℕ) (operation : Operation) (us : ProfiledTerms) (number : ℕ)
    → All (IsNormalOf (signature_in rules) (plain_rules_in rules)) us
    → (m : IsFirstMatch rules.rules.items number (profiled_node f operation us) found)
    → AreNormalFor (signature_in rules) (plain_rules_in rules) (profiled_in m.rule.right) found
next_normal rules found f operation us number all m n s o =
    let well = rules_well_formed rules (rule_of m.rule) (number, plain_at rules.rules.items number m.rule m.is_at) in
    let paired = (search_is_match (profiled_in m.rule.left) (profiled_node f operation us) found m.found).paired n
    (s, well.occurring n s o) in
    let at = bound_at found n s paired.0 paired.1 in
    let all_kept = kept (IsNormalOf (signature_in rules) (plain_rules_in rules))
    (normal_inherited (signature_in rules) (plain_rules_in rules)) (profiled_in m.rule.left) well.left_node f operation us found m.found
    all in
    subst (λ (v : ProfiledTerm). IsNormalOf (signature_in rules) (plain_rules_in rules) v) (sym at.2) (all_kept n at.0 at.1).0

pub right_is_of : (rules : Rules) (number : ℕ) (rule : Rule) → slice_get rules.rules.items number ≡ Some rule
    → IsOf (signature_in rules) (profiled_in rule.right)
right_is_of rules number rule is = (rule_over rules number rule is).right_is_of

pub matched_within : (rules : Rules) (number : ℕ) (whole : ProfiledTerm) → IsFirstRule rules.rules.items number whole
    → number < length rules.rules.items
matched_within rules number whole m = slice_get_within rules.rules.items number m.is_first.rule m.is_first.is_at

-- ---- whole terms

variables_normal : (rules : Rules) (t : ProfiledTerm) (pairs : Pairs) → pairs ≡ [] → IsOf (signature_in rules) t
    → AreNormalFor (signature_in rules) (plain_rules_in rules) t pairs
variables_normal rules t pairs none h =
    subst (λ (ps : Pairs). AreNormalFor (signature_in rules) (plain_rules_in rules) t ps) (sym none)
    (λ n s o. record {
      is_of = occurs_sort_of (signature_in rules) t n s h o;
      normal = stuck_by_links (variable_stuck n s (rules_well_formed rules));
    })

pub reduced_self : (rules : Rules) (t : ProfiledTerm) → IsOf (signature_in rules) t
    → IsReducedBelow (signature_in rules) (plain_rules_in rules) t t
reduced_self rules t h =
    subst (λ (u : ProfiledTerm). IsReducedBelow (signature_in rules) (plain_rules_in rules) t u) (nothing_put t)
    (reduced_by (signature_in rules) (plain_rules_in rules) [] t (variables_normal rules t [] refl h))

pub form_fits : (rules : Rules) (term : Sorted) (made : ProfiledTerm) → IsOf (signature_in rules) (profiled_in term)
    → IsFormOf (signature_in rules) (plain_rules_in rules) (profiled_in term) made
    → FitsProfiles made × (head_sort made ≡ head_sort (profiled_in term))
form_fits rules term made h form =
    let sorted = fitting_has_sort (signature_in rules) (profiled_in term) h term.fits in
    let of = rules_sorted rules in
    let after : HasSort (signature_in rules) (bare made) (head_sort (profiled_in term)) =
    reaches_sort (rules_data rules) of.sorted_sides of.rules_of_data of.well_formed (head_sort (profiled_in term))
    (chosen_reached form.chosen) sorted in
    sorted_fits (signature_in rules) made (head_sort (profiled_in term)) form.is_of after
