-- What the offers, tests and values of a behaviour are read as is well formed.
use Rattle.std.proofs.Common.{◌≡◌, ℕ, suc, ◌+◌, Bool, true, false, List, [], ◌∷◌, refl, ap, sym, ◌∙◌, subst, arith, length, map}
use Rattle.std.specs.Prelude.{◌&&◌, Option, None, Some, slice_get, nat_eq, codes, if◌then◌else◌}
use Rattle.std.proofs.lemmas.Bool.{and_parts, eqb-true}
use Rattle.std.proofs.lemmas.Option.{none-some, same_Some}
use Rattle.lotos_base.specs.Signature.{Signature, Operation, prefix_form}
use Rattle.lotos_base.specs.Sorting.{HasSort, HaveSorts as HaveArgumentSorts}
use Rattle.lotos_base.specs.Term.{Term, node, no_terms}
use Rattle.lotos_base.specs.Twins.{form_eq}
use Rattle.lotos_base.specs.Equation.{Variable}
use Rattle.lotos_base.specs.WrittenTerm.{WrittenTerm}
use Rattle.lotos_base.proofs.Pieces.{no_member_by_length}
use Rattle.sort_terms.specs.Reading.{IsScopeOver}
use Rattle.sort_terms.specs.ReadingOutcome.{one_name}
use Rattle.syntax_trees.specs.WrittenVariable.{WrittenVariable}
use Rattle.syntax_trees.specs.WrittenEquation.{WrittenPremiss}
use Rattle.syntax_trees.specs.WrittenBehaviour.{WrittenExitValue, exit_term, exit_any, WrittenOffer, offer_value, offer_variable}
use Rattle.behaviour_semantics.specs.Behaviour.{Test, Offer, ExitValue, asked_variables, let_variables, let_terms}
use Rattle.behaviour_semantics.specs.WellFormed.{Every, IsTermIn, IsTestIn, AreTermsIn, IsTestOption, IsOffer, IsExitValue}
use Rattle.scope_parts.specs.ScopeFault.{no_bool}
use Rattle.scope_parts.specs.Resolution.{Resolution, resolved}
use Rattle.scope_parts.specs.Scope.{first_double}
use Rattle.scope_parts.specs.Numbering.{asked_for}
use Rattle.scope_parts.specs.Sorts.{Truth, is_true, true_from, true_of, truth_in, sort_named, placed_variables}
use Rattle.scope_parts.specs.Terms.{TrueTermIs, PremissIs, TestIs, TestOptionIs, ExitValueIs, ExitValuesAre, ValuesAre, BindingsAre, let_names, LetIs, OffersFollow, OffersAre}
use Rattle.scope_parts.proofs.FormedTerms.{AreIn, term_formed, expected_formed, pair_formed}
use Rattle.scope_parts.proofs.FormedLists.{same_resolved, never_faulty, beside_of, sort_formed, variable_formed, AreDeclared, one_declared}

-- what is read stands over a signature, and means what is in scope
pub record AreSeen (signature : Signature) (variables scope : List Variable) : Type 0 where
  pub over : IsScopeOver signature variables
  pub are : AreIn variables scope

-- ---- Tests

true_formed : (sort first : ℕ) (operations : List Operation) (truth : Truth) → true_from sort first operations ≡ Some truth
    → (truth.sort ≡ sort) × (i : ℕ) × (o : Operation) × (truth.constant ≡ first + i) × (slice_get operations i ≡ Some o) ×
    (is_true sort o ≡ true)
true_formed sort first [] truth is = absurd (none-some truth is)
true_formed sort first (o ∷ operations) truth is = go (is_true sort o) refl is (true_formed sort (suc first) operations truth)
  where
    go : (b : Bool) → is_true sort o ≡ b
        → (if b then Some (record { sort = sort; constant = first }) else true_from sort (suc first) operations) ≡ Some truth
        → (true_from sort (suc first) operations ≡ Some truth → (truth.sort ≡ sort) × (i : ℕ) × (p : Operation)
        × (truth.constant ≡ suc first + i) × (slice_get operations i ≡ Some p) × (is_true sort p ≡ true))
        → (truth.sort ≡ sort) × (i : ℕ) × (p : Operation) × (truth.constant ≡ first + i) × (slice_get (o ∷ operations) i ≡ Some p)
        × (is_true sort p ≡ true)
    go true test here later =
        let same = same_Some (record { sort = sort; constant = first }) truth here in
        let number : truth.constant ≡ first = ap (λ (t : Truth). t.constant) (sym same) in
        (ap (λ (t : Truth). t.sort) (sym same), 0, o, omega (arith, number), refl, test)
    go false test there later =
        let rest = later there in
        (rest.0, suc rest.1, rest.2, omega (arith, rest.3), rest.4, rest.5)

-- the constant `true` is a term of the sort `Bool`
truth_formed : (signature : Signature) (truth : Truth) → truth_in signature ≡ Some truth
    → HasSort signature (node truth.constant no_terms) truth.sort
truth_formed signature truth is = go (sort_named signature (codes "Bool")) is
  where
    go : (o : Option ℕ) → true_of signature o ≡ Some truth → HasSort signature (node truth.constant no_terms) truth.sort
    go None none = absurd (none-some truth none)
    go (Some sort) found =
        let at = true_formed sort 0 signature.operations truth found in
        let parts = and_parts (one_name at.2.name (codes "true") && form_eq at.2.form prefix_form)
        (nat_eq (length at.2.arguments) 0 && nat_eq at.2.result sort) at.5 in
        let numbers = and_parts (nat_eq (length at.2.arguments) 0) (nat_eq at.2.result sort) parts.1 in
        let number : truth.constant ≡ at.1 = omega (arith, at.3) in
        let result_sort : at.2.result ≡ truth.sort = eqb-true _ _ numbers.1 ∙ sym at.0 in (
          at.2,
          ap (slice_get signature.operations) number ∙ at.4,
          result_sort,
          subst (λ (ss : List ℕ). HaveArgumentSorts signature no_terms ss) (sym (no_member_by_length at.2.arguments numbers.0)) tt,
        )

premiss_formed : (signature : Signature) (variables scope : List Variable) (p : WrittenPremiss) (right : Option WrittenTerm) (test : Test)
    → AreSeen signature variables scope → PremissIs signature variables p right (resolved test) → IsTestIn signature scope test
premiss_formed signature variables scope p
    (Some right) test seen is = pair_formed signature variables scope p.left right test seen.over seen.are is
premiss_formed signature variables scope p None test seen is = go (truth_in signature) refl is
  where
    go : (o : Option Truth) → truth_in signature ≡ o → TrueTermIs signature variables p o (resolved test) → IsTestIn signature scope test
    go None none is = never_faulty test (no_bool p.place) is
    go (Some truth) found is = subst (λ (x : Test). IsTestIn signature scope x) (sym is.2) (record {
      sort = truth.sort;
      left = expected_formed signature variables scope p.left is.0 truth.sort seen.over seen.are is.1;
      right = record { sorted = truth_formed signature truth found; bound = λ n s occurs. absurd occurs };
    })

pub test_formed : (signature : Signature) (variables scope : List Variable) (p : WrittenPremiss) (test : Test)
    → AreSeen signature variables scope → TestIs signature variables p (resolved test) → IsTestIn signature scope test
test_formed signature variables scope p test seen is = premiss_formed signature variables scope p p.right test seen is

pub test_option_formed : (signature : Signature) (variables scope : List Variable) (p : Option WrittenPremiss) (test : Option Test)
    → AreSeen signature variables scope → TestOptionIs signature variables p (resolved test) → IsTestOption signature scope test
test_option_formed signature variables scope None test seen is =
    subst (λ (o : Option Test). IsTestOption signature scope o) (sym (same_resolved test None is)) tt
test_option_formed signature variables scope (Some p) test seen is =
    subst (λ (o : Option Test). IsTestOption signature scope o) (sym is.2) (test_formed signature variables scope p is.0 seen is.1)

-- ---- Values of `exit`

exit_value_formed : (signature : Signature) (variables scope : List Variable) (w : WrittenExitValue) (v : ExitValue)
    → AreSeen signature variables scope → ExitValueIs signature variables w (resolved v) → IsExitValue signature scope v
exit_value_formed signature variables scope (exit_term term) v seen is =
    subst (λ (x : ExitValue). IsExitValue signature scope x) (sym is.2)
    (term_formed signature variables scope term is.0 seen.over seen.are is.1)
exit_value_formed signature variables scope (exit_any sort) v seen is =
    subst (λ (x : ExitValue). IsExitValue signature scope x) (sym is.2) (sort_formed signature sort.place sort.name is.0 is.1)

pub exit_values_formed : (signature : Signature) (variables scope : List Variable) (ws : List WrittenExitValue) (vs : List ExitValue)
    → AreSeen signature variables scope → ExitValuesAre signature variables ws (resolved vs) → Every (IsExitValue signature scope) vs
exit_values_formed signature variables scope [] vs seen is =
    subst (λ (xs : List ExitValue). Every (IsExitValue signature scope) xs) (sym (same_resolved vs [] is)) tt
exit_values_formed signature variables scope (w ∷ ws) [] seen is = absurd is.2
exit_values_formed signature variables scope (w ∷ ws) (v ∷ vs) seen is = (
  subst (λ (x : ExitValue). IsExitValue signature scope x) (sym is.2.0)
      (exit_value_formed signature variables scope w is.0 seen is.1),
  exit_values_formed signature variables scope ws vs seen is.2.1,
)

-- ---- Actual values

pub values_formed : (signature : Signature) (variables scope : List Variable) (parameters : List Variable) (ws : List WrittenTerm)
    (ts : List Term) → AreSeen signature variables scope → length ws ≡ length parameters
    → ValuesAre signature variables (map (λ (x : Variable). Some x.sort) parameters) ws (resolved ts)
    → AreTermsIn signature scope parameters ts
values_formed signature variables scope [] ws ts seen counted is =
    subst (λ (xs : List Term). AreTermsIn signature scope [] xs) (sym (same_resolved ts [] is)) tt
values_formed signature variables scope (x ∷ parameters) [] ts seen counted is =
    let none : 0 ≡ suc (length parameters) = counted in absurd (let no : ⊥ = omega (arith, none) in no)
values_formed signature variables scope (x ∷ parameters) (w ∷ ws) [] seen counted is = absurd is.2
values_formed signature variables scope (x ∷ parameters) (w ∷ ws) (t ∷ ts) seen counted is =
    let less : suc (length ws) ≡ suc (length parameters) = counted in (
      subst (λ (y : Term). IsTermIn signature scope x.sort y) (sym is.2.0)
          (expected_formed signature variables scope w is.0 x.sort seen.over seen.are is.1),
      values_formed signature variables scope parameters ws ts seen (omega (arith, less)) is.2.1,
    )

-- ---- Lets

-- the variables of a `let` are declared, and its terms have their sorts
pub record IsLet (signature : Signature) (scope : List Variable) (next many : ℕ) (bindings : List (Variable × Term)) : Type 0 where
  pub declared : AreDeclared signature next many (let_variables bindings)
  pub terms : AreTermsIn signature scope (let_variables bindings) (let_terms bindings)

bindings_formed : (signature : Signature) (variables scope : List Variable) (next : ℕ) (ws : List (WrittenVariable × WrittenTerm))
    (bs : List (Variable × Term)) → AreSeen signature variables scope → BindingsAre signature variables next ws (resolved bs)
    → IsLet signature scope next (length ws) bs
bindings_formed signature variables scope next [] bs seen is =
    subst (λ (xs : List (Variable × Term)). IsLet signature scope next 0 xs) (sym (same_resolved bs [] is))
    (record { declared = record { numbered = tt; sorted = tt; counted = refl }; terms = tt })
bindings_formed signature variables scope next (w ∷ ws) [] seen is = absurd is.2
bindings_formed signature variables scope next (w ∷ ws) (b ∷ bs) seen is =
    let rest = bindings_formed signature variables scope (suc next) ws bs seen is.2.1 in
    let here = variable_formed signature next w.0 is.1.0 is.1.1 in
    subst (λ (x : Variable × Term). IsLet signature scope next (suc (length ws)) (x ∷ bs)) (sym (is.2.0 ∙ is.1.2.2)) (record {
      declared = one_declared signature next (length ws) is.1.0 (let_variables bs) here.0 here.1 rest.declared;
      terms = (expected_formed signature variables scope w.1 is.1.2.0 is.1.0.sort seen.over seen.are is.1.2.1, rest.terms);
    })

pub let_formed : (signature : Signature) (variables scope : List Variable) (next : ℕ) (ws : List (WrittenVariable × WrittenTerm))
    (bs : List (Variable × Term)) → AreSeen signature variables scope → LetIs signature variables next ws (resolved bs)
    → IsLet signature scope next (length ws) bs
let_formed signature variables scope next ws bs seen is =
    let others : resolved bs ≡ is.0 = beside_of (first_double (placed_variables (let_names ws))) is.0 bs is.2 in
    bindings_formed signature variables scope next ws bs seen
    (subst (λ (r : Resolution (List (Variable × Term))). BindingsAre signature variables next ws r) (sym others) is.1)

-- ---- Offers

-- the offers are well formed, and the variables that they ask for are declared
pub record AreOffers (signature : Signature) (scope : List Variable) (next many : ℕ) (offers : List Offer) : Type 0 where
  pub formed : Every (IsOffer signature scope) offers
  pub declared : AreDeclared signature next many (asked_variables offers)

follow_formed : (signature : Signature) (variables scope : List Variable) (next : ℕ) (ws : List WrittenOffer) (os : List Offer)
    → AreSeen signature variables scope → OffersFollow signature variables next ws (resolved os)
    → AreOffers signature scope next (length (asked_for ws)) os
follow_formed signature variables scope next [] os seen is =
    subst (λ (xs : List Offer). AreOffers signature scope next 0 xs) (sym (same_resolved os [] is))
    (record { formed = tt; declared = record { numbered = tt; sorted = tt; counted = refl } })
follow_formed signature variables scope next (offer_value term ∷ ws) [] seen is = absurd is.2
follow_formed signature variables scope next (offer_value term ∷ ws) (o ∷ os) seen is =
    let rest = follow_formed signature variables scope next ws os seen is.2.1 in
    subst (λ (x : Offer). AreOffers signature scope next (length (asked_for ws)) (x ∷ os)) (sym (is.2.0 ∙ is.1.2)) (record {
      formed = (term_formed signature variables scope term is.1.0 seen.over seen.are is.1.1, rest.formed);
      declared = rest.declared;
    })
follow_formed signature variables scope next (offer_variable v ∷ ws) [] seen is = absurd is.2
follow_formed signature variables scope next (offer_variable v ∷ ws) (o ∷ os) seen is =
    let rest = follow_formed signature variables scope (suc next) ws os seen is.2.1 in
    let here = variable_formed signature next v is.1.0 is.1.1 in
    subst (λ (x : Offer). AreOffers signature scope next (suc (length (asked_for ws))) (x ∷ os)) (sym (is.2.0 ∙ is.1.2)) (record {
      formed = (here.1, rest.formed);
      declared = one_declared signature next (length (asked_for ws)) is.1.0 (asked_variables os) here.0 here.1 rest.declared;
    })

pub offers_formed : (signature : Signature) (variables scope : List Variable) (next : ℕ) (ws : List WrittenOffer) (os : List Offer)
    → AreSeen signature variables scope → OffersAre signature variables next ws (resolved os)
    → AreOffers signature scope next (length (asked_for ws)) os
offers_formed signature variables scope next ws os seen is =
    let others : resolved os ≡ is.0 = beside_of (first_double (placed_variables (asked_for ws))) is.0 os is.2 in
    follow_formed signature variables scope next ws os seen
    (subst (λ (r : Resolution (List Offer)). OffersFollow signature variables next ws r) (sym others) is.1)
