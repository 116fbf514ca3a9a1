-- What is visible is printed by names of the form that texts have, also behind declarations of such names.
use Rattle.std.proofs.Common.{◌≡◌, ℕ, suc, ◌+◌, Bool, true, false, List, [], ◌∷◌, ◌++◌, refl, ap, sym, subst, arith}
use Rattle.std.specs.Prelude.{Some, nat_eq, slice_get, if◌then◌else◌}
use Rattle.std.specs.Str.{bytes_eq}
use Rattle.std.proofs.lemmas.Bool.Decides.{Decides-eqb}
use Rattle.std.proofs.lemmas.Option.{same_Some, none-some}
use Rattle.lotos_base.proofs.Members.{member_at}
use Rattle.lotos_base.specs.Signature.{Signature, Sort}
use Rattle.lotos_base.specs.Equation.{Variable}
use Rattle.lotos_base.specs.Term.{Term, Terms, variable, node, no_terms, term_then}
use Rattle.behaviour_semantics.specs.Behaviour.{Behaviour}
use Rattle.behaviour_semantics.specs.WellFormed.{Every}
use Rattle.behaviour_semantics.proofs.InstanceLemmas.{every_at}
use Rattle.printed_texts.specs.TermText.{sort_name, sort_text, variable_text}
use Rattle.printed_texts.specs.BehaviourText.{Naming, gate_text}
use Rattle.scope_parts.specs.Scope.{Binding, bound_to, bind, bind_all}
use Rattle.scope_parts.specs.Sorts.{found_sort}
use Rattle.scope_parts.specs.Behaviours.{numbers_from}
use Rattle.scope_parts.proofs.FormedLists.{sort_formed}
use Rattle.scope_parts.proofs.FormedDefinitions.{every_both}
use Rattle.session_laws.specs.TextNames.{IsWordSpelling, HasTextNames}
use Rattle.session_laws.specs.TermMeanings.{TermMeans, TermsMean}
use Rattle.session_laws.specs.Meanings.{SortMeans, GateMeans, gate_texts, AreDeclaredGates, PrintedScope, behind_variables, behind_gates, behind_left}
use Rattle.session_laws.proofs.PartsMeant.{every_map}
use Rattle.session_laws.specs.TermTextLaws.{HasNamedVariables, HaveNamedVariables}
use Rattle.session_laws.specs.BehaviourTextLaws.{HasWordAsName, IsVariableNamed, HasScopeNames}

-- ---- Sorts

pub sort_named_well : (signature : Signature) → HasTextNames signature → (sort : ℕ) → SortMeans signature sort
    → IsWordSpelling (sort_text signature sort)
sort_named_well signature spelled sort means =
    let there : (s : Sort) × (slice_get signature.sorts sort ≡ Some s) =
    member_at signature.sorts sort
    (sort_formed signature (record { text = 0; line = 0; column = 0 }) (sort_text signature sort) sort
    (sym (ap (found_sort (record { text = 0; line = 0; column = 0 }) (sort_text signature sort)) means))) in
    subst IsWordSpelling (sym (ap sort_name there.1)) (spelled.sorts sort there.0 there.1)

-- ---- Variables

-- one more name that is looked up first
one_more : (x : Variable) (names : List Variable) (number : ℕ) → IsVariableNamed x → IsWordSpelling (variable_text names number)
    → IsWordSpelling (variable_text (x ∷ names) number)
one_more x names number first others = by (nat_eq x.number number)
  where
    by : (same : Bool) → IsWordSpelling (if same then x.name else variable_text names number)
    by true = first
    by false = others

-- names of variables that were looked up already
looked_up_still : (xs names : List Variable) (number : ℕ) → Every IsVariableNamed xs → IsWordSpelling (variable_text names number)
    → IsWordSpelling (variable_text (xs ++ names) number)
looked_up_still [] names number each others = others
looked_up_still (x ∷ xs) names number each others =
    one_more x (xs ++ names) number each.0 (looked_up_still xs names number each.1 others)

-- and of the new ones
pub looked_up_new : (xs names : List Variable) → Every IsVariableNamed xs
    → Every (λ (v : Variable). IsWordSpelling (variable_text (xs ++ names) v.number)) xs
looked_up_new [] names each = tt
looked_up_new (x ∷ xs) names each = (
  subst IsWordSpelling
      (sym (ap (λ (same : Bool). if same then x.name else variable_text (xs ++ names) x.number)
      ((Decides-eqb x.number x.number).1 refl))) each.0,
  every_map (λ (v : Variable). IsWordSpelling (variable_text (xs ++ names) v.number))
      (λ (v : Variable). IsWordSpelling (variable_text (x ∷ (xs ++ names)) v.number)) xs
      (λ v is. one_more x (xs ++ names) v.number each.0 is) (looked_up_new xs names each.1),
)

pub scope_behind_variables : (naming : Naming) (xs : List Variable) (scope : PrintedScope) → Every IsVariableNamed xs
    → HasScopeNames naming scope → HasScopeNames naming (behind_variables xs scope)
scope_behind_variables naming xs scope each has = record {
  gates = has.gates;
  variables =
      every_both (λ (v : Variable). IsWordSpelling (variable_text (xs ++ scope.names) v.number)) scope.variables xs
      (every_map (λ (v : Variable). IsWordSpelling (variable_text scope.names v.number))
      (λ (v : Variable). IsWordSpelling (variable_text (xs ++ scope.names) v.number)) scope.variables
      (λ v is. looked_up_still xs scope.names v.number each is) has.variables)
      (looked_up_new xs scope.names each);
}

pub scope_behind_left : (naming : Naming) (b : Behaviour) (scope : PrintedScope) → HasScopeNames naming scope
    → HasScopeNames naming (behind_left b scope)
scope_behind_left naming b scope has = record { gates = has.gates; variables = has.variables }

-- ---- Gates

abbrev first_or : List ℕ → ℕ
first_or [] = 0
first_or (n ∷ ns) = n

abbrev rest_of : List ℕ → List ℕ
rest_of [] = []
rest_of (n ∷ ns) = ns

pub bound_gates : (naming : Naming) (gates : List ℕ) (next : ℕ) (visible : List Binding) → numbers_from next gates ≡ gates
    → Every (HasWordAsName naming) gates → Every (λ (b : Binding). HasWordAsName naming b.number) visible
    → Every (λ (b : Binding). HasWordAsName naming b.number) (bind_all (gate_texts naming gates) next visible)
bound_gates naming [] next visible row each has = has
bound_gates naming (gate ∷ gates) next visible row each has =
    let first : next ≡ gate = ap first_or row in
    let others : numbers_from (next + 1) gates ≡ gates = ap rest_of row in
    let later : next + 1 ≡ suc next = omega arith in
    bound_gates naming gates (suc next) (bind (gate_text naming gate) next visible)
    (subst (λ (n : ℕ). numbers_from n gates ≡ gates) later others) each.1
    (subst (HasWordAsName naming) (sym first) each.0, has)

pub scope_behind_gates : (naming : Naming) (gates : List ℕ) (scope : PrintedScope) → AreDeclaredGates naming scope.numbers.gate gates
    → Every (HasWordAsName naming) gates → HasScopeNames naming scope → HasScopeNames naming (behind_gates naming gates scope)
scope_behind_gates naming gates scope declared each has = record {
  gates = bound_gates naming gates scope.numbers.gate scope.gates declared.numbered each has.gates;
  variables = has.variables;
}

-- a gate that is visible
bound_named : (naming : Naming) (visible : List Binding) (key : List ℕ) (gate : ℕ)
    → Every (λ (b : Binding). HasWordAsName naming b.number) visible → bound_to visible key ≡ Some gate → HasWordAsName naming gate
bound_named naming [] key gate has is = absurd (none-some gate is)
bound_named naming (b ∷ visible) key gate has is =
    by (bytes_eq key b.key) is (bound_named naming visible key gate has.1)
  where
    by : (same : Bool) → (if same then Some b.number else bound_to visible key) ≡ Some gate
        → (bound_to visible key ≡ Some gate → HasWordAsName naming gate) → HasWordAsName naming gate
    by true here later = subst (HasWordAsName naming) (same_Some _ _ here) has.0
    by false there later = later there

pub gate_named_well : (naming : Naming) (scope : PrintedScope) (gate : ℕ) → HasScopeNames naming scope → GateMeans naming scope.gates gate
    → HasWordAsName naming gate
gate_named_well naming scope gate has means = bound_named naming scope.gates _ gate has.gates means

pub gates_named_well : (naming : Naming) (scope : PrintedScope) (gates : List ℕ) → HasScopeNames naming scope
    → Every (GateMeans naming scope.gates) gates → Every (HasWordAsName naming) gates
gates_named_well naming scope gates has means =
    every_map (GateMeans naming scope.gates) (HasWordAsName naming) gates (λ gate is. gate_named_well naming scope gate has is) means

-- ---- Terms

mutual
  pub term_named : (signature : Signature) (visible names : List Variable) (t : Term) (sort : ℕ)
      → Every (λ (v : Variable). IsWordSpelling (variable_text names v.number)) visible → TermMeans signature visible names t sort
      → HasNamedVariables names t
  term_named signature visible names (variable n s) sort has means =
      subst (λ (number : ℕ). IsWordSpelling (variable_text names number)) means.0.numbered
      (every_at (λ (v : Variable). IsWordSpelling (variable_text names v.number)) visible means.0.last.position means.0.declared has
      means.0.last.found)
  term_named signature visible names (node f ts) sort has means =
      terms_named signature visible names ts means.0.arguments has means.4

  pub terms_named : (signature : Signature) (visible names : List Variable) (ts : Terms) (sorts : List ℕ)
      → Every (λ (v : Variable). IsWordSpelling (variable_text names v.number)) visible → TermsMean signature visible names ts sorts
      → HaveNamedVariables names ts
  terms_named signature visible names no_terms sorts has means = tt
  terms_named signature visible names (term_then t ts) [] has means = absurd means
  terms_named signature visible names (term_then t ts) (s ∷ ss) has means =
      (term_named signature visible names t s has means.0, terms_named signature visible names ts ss has means.1)
