-- What the terms in behaviours stand for means itself where they are written.
use Rattle.std.proofs.Common.{◌≡◌, ℕ, suc, ◌+◌, Bool, true, false, nat_eq, ◌&&◌, List, [], ◌∷◌, map, length, refl, ap, sym, ◌∙◌, subst, arith}
use Rattle.std.proofs.lemmas.Bool.{and_parts, eqb-true, eq-eqb}
use Rattle.std.proofs.lemmas.Option.{none-some, same_Some}
use Rattle.std.specs.Prelude.{Option, None, Some, slice_get, if◌then◌else◌, option_map, codes}
use Rattle.lotos_base.specs.Signature.{Signature, Operation, prefix_form}
use Rattle.lotos_base.specs.Equation.{Variable}
use Rattle.lotos_base.specs.Term.{Term, variable, node, no_terms, term_then, argument_list_of}
use Rattle.lotos_base.specs.Twins.{form_eq}
use Rattle.lotos_base.specs.WrittenTerm.{PlacedName, WrittenTerm}
use Rattle.syntax_trees.specs.WrittenVariable.{WrittenVariable}
use Rattle.syntax_trees.specs.WrittenEquation.{WrittenPremiss}
use Rattle.syntax_trees.specs.WrittenBehaviour.{WrittenExitValue, exit_term, exit_any, WrittenOffer, offer_value, offer_variable}
use Rattle.sort_terms.specs.ReadingOutcome.{IsExpected, one_name}
use Rattle.behaviour_semantics.specs.Behaviour.{Test, Offer, ExitValue, asked_variables, sorts_of, let_variables}
use Rattle.behaviour_semantics.specs.WellFormed.{Every}
use Rattle.sort_terms.proofs.OutcomeLemmas.{is_reading}
use Rattle.printed_texts.specs.BehaviourText.{Naming}
use Rattle.session_histories.specs.HandedOn.{is_constant}
use Rattle.scope_parts.specs.ScopeFault.{no_bool}
use Rattle.scope_parts.specs.Resolution.{Resolution, resolved}
use Rattle.scope_parts.specs.Scope.{first_double}
use Rattle.scope_parts.specs.Numbering.{spelled_names, asked_for}
use Rattle.scope_parts.specs.Sorts.{Truth, is_true, true_from, true_of, truth_in, sort_named, placed_variables}
use Rattle.scope_parts.specs.Terms.{TermIs, PairIs, TrueTermIs, PremissIs, TestIs, TestOptionIs, ExitValuesAre, ValuesAre, BindingsAre, LetIs, OffersFollow, OffersAre, let_names}
use Rattle.scope_parts.proofs.FormedLists.{same_resolved, never_faulty, beside_of}
use Rattle.session_laws.specs.TermMeanings.{TermsMean}
use Rattle.session_laws.specs.Meanings.{AreDeclaredVariables, PrintedScope, ValueMeans, ExitValueMeans, OfferMeans, IsImpliedTruth, TestMeans, PredicateMeans}
use Rattle.session_laws.specs.MeaningLaws.{LeavesOutTruth, FitsNaming}
use Rattle.session_laws.proofs.TermMeanings.{term_means}
use Rattle.session_laws.proofs.PartsMeant.{no_double_beside, sort_meant, variable_meant, AreMeant, one_more, declared_meant, looked_up}

-- ---- The constant `true`

record IsTruthFrom (sort first : ℕ) (operations : List Operation) (truth : Truth) : Type 0 where
  position : ℕ
  operation : Operation
  counted : truth.constant ≡ first + position
  there : slice_get operations position ≡ Some operation
  of_sort : truth.sort ≡ sort
  result : operation.result ≡ sort

truth_there : (sort first : ℕ) (operations : List Operation) (truth : Truth) → true_from sort first operations ≡ Some truth
    → IsTruthFrom sort first operations truth
truth_there sort first [] truth is = absurd (none-some truth is)
truth_there sort first (o ∷ operations) truth is =
    go (is_true sort o) refl is (λ later. truth_there sort (suc first) operations truth later)
  where
    go : (b : Bool) → is_true sort o ≡ b
        → (if b then Some (record { sort = sort; constant = first }) else true_from sort (suc first) operations) ≡ Some truth
        → (true_from sort (suc first) operations ≡ Some truth → IsTruthFrom sort (suc first) operations truth)
        → IsTruthFrom sort first (o ∷ operations) truth
    go true test is later =
        let one : Truth = record { sort = sort; constant = first } in
        let same : one ≡ truth = same_Some one truth is in
        let constant : first ≡ truth.constant = ap (λ (t : Truth). t.constant) same in
        let parts = and_parts (one_name o.name (codes "true") && form_eq o.form prefix_form)
        (nat_eq (length o.arguments) 0 && nat_eq o.result sort) test in
        record {
          position = 0;
          operation = o;
          counted = omega (arith, constant);
          there = refl;
          of_sort = sym (ap (λ (t : Truth). t.sort) same);
          result = eqb-true o.result sort (and_parts (nat_eq (length o.arguments) 0) (nat_eq o.result sort) parts.1).1;
        }
    go false test is later =
        let rest : IsTruthFrom sort (suc first) operations truth = later is in
        let counted : truth.constant ≡ suc first + rest.position = rest.counted in
        record {
          position = suc rest.position;
          operation = rest.operation;
          counted = omega (arith, counted);
          there = rest.there;
          of_sort = rest.of_sort;
          result = rest.result;
        }

-- the operation `true` has the sort `Bool`
truth_sorted : (signature : Signature) (truth : Truth) (operation : Operation) → truth_in signature ≡ Some truth
    → slice_get signature.operations truth.constant ≡ Some operation → operation.result ≡ truth.sort
truth_sorted signature truth operation is at = go (sort_named signature (codes "Bool")) is
  where
    go : (sort : Option ℕ) → true_of signature sort ≡ Some truth → operation.result ≡ truth.sort
    go None is = absurd (none-some truth is)
    go (Some sort) is =
        let there : IsTruthFrom sort 0 signature.operations truth = truth_there sort 0 signature.operations truth is in
        let counted : truth.constant ≡ 0 + there.position = there.counted in
        let place : there.position ≡ truth.constant = omega (arith, counted) in
        let one : there.operation ≡ operation =
        same_Some there.operation operation
        (sym there.there ∙ ap (λ (n : ℕ). slice_get signature.operations n) place ∙ at) in
        ap (λ (o : Operation). o.result) (sym one) ∙ there.result ∙ sym there.of_sort

constant_is : (constant : ℕ) (t : Term) → is_constant (Some constant) t ≡ true → t ≡ node constant no_terms
constant_is constant (variable n s) is = cc
constant_is constant (node f no_terms) is = ap (λ (n : ℕ). node n no_terms) (eqb-true f constant is)
constant_is constant (node f (term_then t ts)) is = cc

module _ (naming : Naming) (scope : PrintedScope) (leaves : LeavesOutTruth naming) (fits : FitsNaming naming scope) where
  -- ---- Terms

  record IsTermMeant (expected : Option ℕ) (t : Term) : Type 0 where
    sort : ℕ
    means : ValueMeans naming scope t sort
    asked : IsExpected expected sort

  term_meant : (w : WrittenTerm) (expected : Option ℕ) (t : Term) → TermIs naming.signature scope.variables w expected (resolved t)
      → IsTermMeant expected t
  term_meant w expected t is =
      let reads = is_reading _ _ _ is.0 is.1 in
      subst (IsTermMeant expected) (sym is.2) (record {
        sort = is.0.sort;
        means =
            term_means naming.signature scope.variables scope.names w is.0.term is.0.sort (looked_up naming scope fits) reads.0;
        asked = reads.1;
      })

  -- at the sort that is asked for
  term_at : (w : WrittenTerm) (sort : ℕ) (t : Term) → TermIs naming.signature scope.variables w (Some sort) (resolved t)
      → ValueMeans naming scope t sort
  term_at w sort t is =
      let meant = term_meant w (Some sort) t is in subst (λ (s : ℕ). ValueMeans naming scope t s) meant.asked meant.means

  pub exit_values_meant : (ws : List WrittenExitValue) (results : List ExitValue)
      → ExitValuesAre naming.signature scope.variables ws (resolved results) → Every (ExitValueMeans naming scope) results
  exit_values_meant [] results is =
      subst (λ (rs : List ExitValue). Every (ExitValueMeans naming scope) rs) (sym (same_resolved results [] is)) tt
  exit_values_meant (w ∷ ws) [] is = absurd is.2
  exit_values_meant (exit_term w ∷ ws) (x ∷ results) is =
      let meant = term_meant w None is.1.0 is.1.1 in (
        subst (ExitValueMeans naming scope) (sym (is.2.0 ∙ is.1.2)) (meant.sort, meant.means),
        exit_values_meant ws results is.2.1,
      )
  exit_values_meant (exit_any sort ∷ ws) (x ∷ results) is = (
    subst (ExitValueMeans naming scope) (sym (is.2.0 ∙ is.1.2)) (sort_meant naming.signature sort.place sort.name is.1.0 is.1.1),
    exit_values_meant ws results is.2.1,
  )

  pub values_meant : (parameters : List Variable) (ws : List WrittenTerm) (ts : List Term)
      → length ws ≡ length (map (λ (x : Variable). Some x.sort) parameters)
      → ValuesAre naming.signature scope.variables (map (λ (x : Variable). Some x.sort) parameters) ws (resolved ts)
      → TermsMean naming.signature scope.variables scope.names (argument_list_of ts) (sorts_of parameters)
  values_meant [] ws ts many is =
      subst (λ (us : List Term). TermsMean naming.signature scope.variables scope.names (argument_list_of us) [])
      (sym (same_resolved ts [] is)) tt
  values_meant (x ∷ parameters) [] ts many is = absurd (omega (arith, many))
  values_meant (x ∷ parameters) (w ∷ ws) [] many is = absurd is.2
  values_meant (x ∷ parameters) (w ∷ ws) (t ∷ ts) many is = (
    subst (λ (u : Term). ValueMeans naming scope u x.sort) (sym is.2.0) (term_at w x.sort is.0 is.1),
    values_meant parameters ws ts (let m = many in omega (arith, m)) is.2.1,
  )

  -- ---- Tests

  -- the constant `true` on the right, which is left out
  true_meant : (premiss : WrittenPremiss) (test : Test) (truth : Option Truth) → truth_in naming.signature ≡ truth
      → TrueTermIs naming.signature scope.variables premiss truth (resolved test) → TestMeans naming scope test
  true_meant premiss test None found is = never_faulty test (no_bool premiss.place) is
  true_meant premiss test (Some truth) found is =
      subst (TestMeans naming scope) (sym is.2) (record {
        sort = truth.sort;
        left = term_at premiss.left truth.sort is.0 is.1;
        written = λ differs. absurd (true_false (sym constant ∙ differs));
        left_out = λ same. record { truth = truth; found = found; constant = refl; sorted = refl };
      })
    where
      constant : is_constant naming.truth (node truth.constant no_terms) ≡ true
      constant =
          ap (λ (o : Option ℕ). is_constant o (node truth.constant no_terms))
          (leaves ∙ ap (λ (o : Option Truth). option_map (λ (t : Truth). t.constant) o) found)
          ∙ eq-eqb truth.constant truth.constant refl

      true_false : true ≡ false → ⊥
      true_false is = cc

  -- a right side that is `true` and is written all the same
  left_out_meant : (right : Term) (sort : ℕ) → ValueMeans naming scope right sort → is_constant naming.truth right ≡ true
      → IsImpliedTruth naming.signature right sort
  left_out_meant right sort means is =
      go (truth_in naming.signature) refl
      (ap (λ (o : Option ℕ). is_constant o right) (sym leaves) ∙ is)
    where
      go : (truth : Option Truth) → truth_in naming.signature ≡ truth
          → is_constant (option_map (λ (t : Truth). t.constant) truth) right ≡ true → IsImpliedTruth naming.signature right sort
      go None found is = cc
      go (Some truth) found is =
          let constant : right ≡ node truth.constant no_terms = constant_is truth.constant right is in
          let there : ValueMeans naming scope (node truth.constant no_terms) sort =
          subst (λ (t : Term). ValueMeans naming scope t sort) constant means in
          record {
            truth = truth;
            found = found;
            constant = constant;
            sorted = sym (truth_sorted naming.signature truth there.0 found there.1) ∙ there.3;
          }

  pair_meant : (left right : WrittenTerm) (test : Test) → PairIs naming.signature scope.variables left right (resolved test)
      → TestMeans naming scope test
  pair_meant left right test is =
      let reads = is_reading _ _ _ is.0 is.1 in
      let looked = looked_up naming scope fits in
      let there : ValueMeans naming scope is.0.right is.0.sort =
      term_means naming.signature scope.variables scope.names right is.0.right is.0.sort looked reads.1 in
      subst (TestMeans naming scope) (sym is.2) (record {
        sort = is.0.sort;
        left = term_means naming.signature scope.variables scope.names left is.0.left is.0.sort looked reads.0;
        written = λ differs. there;
        left_out = λ same. left_out_meant is.0.right is.0.sort there same;
      })

  premiss_meant : (premiss : WrittenPremiss) (right : Option WrittenTerm) (test : Test)
      → PremissIs naming.signature scope.variables premiss right (resolved test) → TestMeans naming scope test
  premiss_meant premiss None test is = true_meant premiss test (truth_in naming.signature) refl is
  premiss_meant premiss (Some right) test is = pair_meant premiss.left right test is

  pub test_meant : (premiss : WrittenPremiss) (test : Test) → TestIs naming.signature scope.variables premiss (resolved test)
      → TestMeans naming scope test
  test_meant premiss test is = premiss_meant premiss premiss.right test is

  pub predicate_meant : (premiss : Option WrittenPremiss) (test : Option Test)
      → TestOptionIs naming.signature scope.variables premiss (resolved test) → PredicateMeans naming scope test
  predicate_meant None test is = subst (PredicateMeans naming scope) (sym (same_resolved test None is)) tt
  predicate_meant (Some premiss) test is = subst (PredicateMeans naming scope) (sym is.2) (test_meant premiss is.0 is.1)

  -- ---- Offers

  record AreOffersMeant (next : ℕ) (ws : List WrittenOffer) (offers : List Offer) : Type 0 where
    values : Every (OfferMeans naming scope) offers
    asked : AreMeant naming.signature next (spelled_names (placed_variables (asked_for ws))) (asked_variables offers)
    counted : length (asked_variables offers) ≡ length (asked_for ws)

  offers_follow_meant : (next : ℕ) (ws : List WrittenOffer) (offers : List Offer)
      → OffersFollow naming.signature scope.variables next ws (resolved offers) → AreOffersMeant next ws offers
  offers_follow_meant next [] offers is =
      subst (AreOffersMeant next []) (sym (same_resolved offers [] is))
      (record { values = tt; asked = record { row = tt; sorts = tt; spelling = refl }; counted = refl })
  offers_follow_meant next (offer_value w ∷ ws) [] is = absurd is.2
  offers_follow_meant next (offer_variable w ∷ ws) [] is = absurd is.2
  offers_follow_meant next (offer_value w ∷ ws) (x ∷ offers) is =
      let rest = offers_follow_meant next ws offers is.2.1 in
      let meant = term_meant w None is.1.0 is.1.1 in
      subst (λ (o : Offer). AreOffersMeant next (offer_value w ∷ ws) (o ∷ offers)) (sym (is.2.0 ∙ is.1.2))
      (record { values = ((meant.sort, meant.means), rest.values); asked = rest.asked; counted = rest.counted })
  offers_follow_meant next (offer_variable w ∷ ws) (x ∷ offers) is =
      let rest = offers_follow_meant (suc next) ws offers is.2.1 in
      subst (λ (o : Offer). AreOffersMeant next (offer_variable w ∷ ws) (o ∷ offers)) (sym (is.2.0 ∙ is.1.2)) (record {
        values = (tt, rest.values);
        asked =
            one_more naming.signature next w.name (spelled_names (placed_variables (asked_for ws))) is.1.0 (asked_variables offers)
            (variable_meant naming.signature next w is.1.0 is.1.1) rest.asked;
        counted = ap suc rest.counted;
      })

  -- the values of an action, and the variables that it asks for
  pub record AreActionOffers (next : ℕ) (ws : List WrittenOffer) (offers : List Offer) : Type 0 where
    pub values : Every (OfferMeans naming scope) offers
    pub declared : AreDeclaredVariables naming.signature next (asked_variables offers)
    pub counted : length (asked_variables offers) ≡ length (asked_for ws)

  pub offers_meant : (next : ℕ) (ws : List WrittenOffer) (offers : List Offer)
      → OffersAre naming.signature scope.variables next ws (resolved offers) → AreActionOffers next ws offers
  offers_meant next ws offers is =
      let placed : List PlacedName = placed_variables (asked_for ws) in
      let all = beside_of (first_double placed) is.0 offers is.2 in
      let follow =
      offers_follow_meant next ws offers
      (subst (λ (r : Resolution (List Offer)). OffersFollow naming.signature scope.variables next ws r) (sym all) is.1) in
      record {
        values = follow.values;
        declared =
            declared_meant naming.signature next placed (asked_variables offers) (no_double_beside (first_double placed) is.0 offers is.2)
            follow.asked;
        counted = follow.counted;
      }

  -- ---- Bindings of `let`

  record AreBindingsMeant (next : ℕ) (ws : List (WrittenVariable × WrittenTerm)) (bindings : List (Variable × Term)) : Type 0 where
    values : Every (λ (bound : Variable × Term). ValueMeans naming scope bound.1 bound.0.sort) bindings
    bound : AreMeant naming.signature next (spelled_names (placed_variables (let_names ws))) (let_variables bindings)
    counted : length (let_variables bindings) ≡ length ws

  bindings_meant : (next : ℕ) (ws : List (WrittenVariable × WrittenTerm)) (bindings : List (Variable × Term))
      → BindingsAre naming.signature scope.variables next ws (resolved bindings) → AreBindingsMeant next ws bindings
  bindings_meant next [] bindings is =
      subst (AreBindingsMeant next []) (sym (same_resolved bindings [] is))
      (record { values = tt; bound = record { row = tt; sorts = tt; spelling = refl }; counted = refl })
  bindings_meant next (w ∷ ws) [] is = absurd is.2
  bindings_meant next (w ∷ ws) (b ∷ bindings) is =
      let rest = bindings_meant (suc next) ws bindings is.2.1 in
      let x : Variable = is.1.0 in
      let t : Term = is.1.2.0 in
      let same : b ≡ (x, t) = is.2.0 ∙ is.1.2.2 in
      subst (λ (c : Variable × Term). AreBindingsMeant next (w ∷ ws) (c ∷ bindings)) (sym same) (record {
        values = (term_at w.1 x.sort t is.1.2.1, rest.values);
        bound =
            one_more naming.signature next w.0.name (spelled_names (placed_variables (let_names ws))) x (let_variables bindings)
            (variable_meant naming.signature next w.0 x is.1.1) rest.bound;
        counted = ap suc rest.counted;
      })

  pub record IsLetMeant (next : ℕ) (ws : List (WrittenVariable × WrittenTerm)) (bindings : List (Variable × Term)) : Type 0 where
    pub values : Every (λ (bound : Variable × Term). ValueMeans naming scope bound.1 bound.0.sort) bindings
    pub declared : AreDeclaredVariables naming.signature next (let_variables bindings)
    pub counted : length (let_variables bindings) ≡ length ws

  pub let_meant : (next : ℕ) (ws : List (WrittenVariable × WrittenTerm)) (bindings : List (Variable × Term))
      → LetIs naming.signature scope.variables next ws (resolved bindings) → IsLetMeant next ws bindings
  let_meant next ws bindings is =
      let placed : List PlacedName = placed_variables (let_names ws) in
      let all = beside_of (first_double placed) is.0 bindings is.2 in
      let meant =
      bindings_meant next ws bindings
      (subst (λ (r : Resolution (List (Variable × Term))). BindingsAre naming.signature scope.variables next ws r) (sym all) is.1) in
      record {
        values = meant.values;
        declared =
            declared_meant naming.signature next placed (let_variables bindings) (no_double_beside (first_double placed) is.0 bindings is.2)
            meant.bound;
        counted = meant.counted;
      }
