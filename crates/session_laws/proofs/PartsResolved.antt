-- Parts of behaviours that mean themselves are what is written of them stands for.
use Rattle.std.proofs.Common.{◌≡◌, ℕ, suc, ◌+◌, Bool, true, false, List, [], ◌∷◌, map, length, refl, ap, sym, ◌∙◌, subst}
use Rattle.std.specs.Prelude.{Option, None, Some, if◌then◌else◌}
use Rattle.lotos_base.specs.Names.{folded}
use Rattle.lotos_base.specs.Signature.{Signature, IsWellFormedSignature}
use Rattle.lotos_base.specs.Equation.{Place, Variable}
use Rattle.lotos_base.specs.Term.{Term, argument_list_of}
use Rattle.lotos_base.specs.WrittenTerm.{PlacedName, WrittenTerm, written_terms}
use Rattle.syntax_trees.specs.WrittenVariable.{WrittenVariable}
use Rattle.syntax_trees.specs.WrittenEquation.{WrittenPremiss}
use Rattle.syntax_trees.specs.WrittenBehaviour.{WrittenSign, WrittenGateChoice, WrittenExitValue, exit_term, exit_any, WrittenOffer, offer_value, offer_variable}
use Rattle.sort_terms.specs.ReadingOutcome.{IsExpected}
use Rattle.behaviour_semantics.specs.Behaviour.{Test, Offer, give, ask, ExitValue, exit_value, any_of, SynchronisationSet, no_gates, all_gates, at_gates, asked_variables, sorts_of, let_variables}
use Rattle.behaviour_semantics.specs.WellFormed.{Every}
use Rattle.printed_texts.specs.TermText.{sort_text}
use Rattle.printed_texts.specs.BehaviourText.{Naming, gate_text}
use Rattle.session_histories.specs.HandedOn.{is_constant}
use Rattle.session_histories.specs.BoundNames.{names_of_variables}
use Rattle.scope_parts.specs.Resolution.{Resolution, resolved, put_in_front, beside}
use Rattle.scope_parts.specs.Scope.{Binding, bound_to, bind, found_gate, gate_at, gates_at, double_from, first_double}
use Rattle.scope_parts.specs.Numbering.{spelled_names, each_once_from, asked_for}
use Rattle.scope_parts.specs.Sorts.{Truth, sort_named, found_sort, sort_at, variable_at, sorted_variables, variables_at, placed_variables}
use Rattle.scope_parts.specs.Terms.{TermIs, TrueTermIs, PremissIs, TestIs, TestOptionIs, ExitValuesAre, ValuesAre, BindingsAre, LetIs, OffersFollow, OffersAre, let_names}
use Rattle.scope_parts.specs.Choices.{GateChoice, ParChoice, sign_at, choices_at, signs_follow, par_choices_at}
use Rattle.scope_parts.specs.Behaviours.{numbers_from}
use Rattle.scope_parts.proofs.AnswerLemmas.{value_then}
use Rattle.session_laws.specs.WrittenAs.{IsWrittenAs, AreWrittenAs}
use Rattle.session_laws.specs.TermMeanings.{TermsMean}
use Rattle.session_laws.specs.Meanings.{SortMeans, GateMeans, gate_texts, NoneStandsTwice, AreInRow, AreDeclaredVariables, PrintedScope, ValueMeans, ExitValueMeans, OfferMeans, IsImpliedTruth, TestMeans, PredicateMeans, MeetMeans}
use Rattle.session_laws.specs.WrittenBehaviours.{Correspond, IsVariableWritten, AreGatesWritten, IsExitValueWritten, IsOfferWritten, IsRightWritten, IsTestWritten, IsPredicateWritten, IsBindingWritten, IsMeetWritten, interleaving_written, full_written, synchronising_written, IsGateChoiceWritten}
use Rattle.session_laws.proofs.WrittenLemmas.{terms_have_one_reading, pairs_have_one_reading}

-- ---- Questions that have answers

pub in_front_is : {A : Type 0} (r : Resolution (List A)) (x : A) (xs : List A) → resolved xs ≡ r
    → resolved (x ∷ xs) ≡ put_in_front x r
in_front_is r x xs same = ap (λ (q : Resolution (List _)). put_in_front x q) same

pub beside_is : {A : Type 0} (double : Option PlacedName) (r : Resolution A) (x : A) → double ≡ None → resolved x ≡ r
    → resolved x ≡ beside double r
beside_is double r x none same = same ∙ ap (λ (d : Option PlacedName). beside d r) (sym none)

-- ---- Names that stand once

pub no_double : (before : List Binding) (names : List PlacedName) → NoneStandsTwice before (spelled_names names)
    → double_from before names ≡ None
no_double before [] none = refl
no_double before (name ∷ names) none =
    ap (λ (b : Bool). if b then Some name else double_from (bind name.name 0 before) names) none.0
    ∙ no_double (bind name.name 0 before) names none.1

pub all_once : (before : List Binding) (names : List (List ℕ)) → NoneStandsTwice before names → each_once_from before names ≡ names
all_once before [] none = refl
all_once before (name ∷ names) none =
    ap (λ (b : Bool). if b then each_once_from before names else name ∷ each_once_from (bind name 0 before) names) none.0
    ∙ ap (λ (ns : List (List ℕ)). name ∷ ns) (all_once (bind name 0 before) names none.1)

-- ---- Sorts and variables

module _ (signature : Signature) where
  pub sort_is : (place : Place) (name : List ℕ) (sort : ℕ) → SortMeans signature sort → name ≡ sort_text signature sort
      → resolved sort ≡ sort_at signature place name
  sort_is place name sort means named =
      sym (ap (λ (o : Option ℕ). found_sort place name o) (ap (λ (n : List ℕ). sort_named signature n) named ∙ means))

  pub variable_is : (next : ℕ) (x : Variable) (w : WrittenVariable) → x.number ≡ next → SortMeans signature x.sort
      → IsVariableWritten signature x w → resolved x ≡ variable_at signature next w
  variable_is next x w numbered means writes =
      let make : List ℕ → ℕ → Variable = λ name number. record { name = name; number = number; sort = x.sort } in
      value_then (sort_at signature w.sort_place w.sort) x.sort
      (λ sort. resolved (record { name = w.name; number = next; sort = sort })) (resolved x)
      (sort_is w.sort_place w.sort x.sort means writes.1)
      (ap resolved (ap (λ (name : List ℕ). make name x.number) (sym writes.0) ∙ ap (λ (n : ℕ). make w.name n) numbered))

  pub sorted_are : (next : ℕ) (xs : List Variable) (ws : List WrittenVariable) → AreInRow next xs
      → Every (λ (x : Variable). SortMeans signature x.sort) xs → Correspond (IsVariableWritten signature) xs ws
      → resolved xs ≡ sorted_variables signature next ws
  sorted_are next [] [] row sorts writes = refl
  sorted_are next [] (w ∷ ws) row sorts writes = absurd writes
  sorted_are next (x ∷ xs) [] row sorts writes = absurd writes
  sorted_are next (x ∷ xs) (w ∷ ws) row sorts writes =
      value_then (variable_at signature next w) x
      (λ (y : Variable). put_in_front y (sorted_variables signature (suc next) ws)) (resolved (x ∷ xs))
      (variable_is next x w row.0 sorts.0 writes.0)
      (in_front_is (sorted_variables signature (suc next) ws) x xs (sorted_are (suc next) xs ws row.1 sorts.1 writes.1))

  pub names_written : (xs : List Variable) (ws : List WrittenVariable) → Correspond (IsVariableWritten signature) xs ws
      → spelled_names (placed_variables ws) ≡ names_of_variables xs
  names_written [] [] writes = refl
  names_written [] (w ∷ ws) writes = absurd writes
  names_written (x ∷ xs) [] writes = absurd writes
  names_written (x ∷ xs) (w ∷ ws) writes =
      ap (λ (name : List ℕ). name ∷ spelled_names (placed_variables ws)) writes.0.0
      ∙ ap (λ (ns : List (List ℕ)). x.name ∷ ns) (names_written xs ws writes.1)

  pub no_double_written : (xs : List Variable) (ws : List WrittenVariable) → Correspond (IsVariableWritten signature) xs ws
      → NoneStandsTwice [] (names_of_variables xs) → first_double (placed_variables ws) ≡ None
  no_double_written xs ws writes none =
      no_double [] (placed_variables ws)
      (subst (λ (names : List (List ℕ)). NoneStandsTwice [] names) (sym (names_written xs ws writes)) none)

  pub variables_are : (next : ℕ) (xs : List Variable) (ws : List WrittenVariable) → AreDeclaredVariables signature next xs
      → Correspond (IsVariableWritten signature) xs ws → resolved xs ≡ variables_at signature next ws
  variables_are next xs ws declared writes =
      beside_is (first_double (placed_variables ws)) (sorted_variables signature next ws) xs
      (no_double_written xs ws writes declared.distinct) (sorted_are next xs ws declared.numbered declared.sorted writes)

pub as_long : {A B : Type 0} (Belong : A → B → Type 0) (xs : List A) (ys : List B) → Correspond Belong xs ys → length ys ≡ length xs
as_long Belong [] [] are = refl
as_long Belong [] (y ∷ ys) are = absurd are
as_long Belong (x ∷ xs) [] are = absurd are
as_long Belong (x ∷ xs) (y ∷ ys) are = ap suc (as_long Belong xs ys are.1)

-- ---- Gates

module _ (naming : Naming) where
  pub gate_is : (visible : List Binding) (gate : ℕ) (w : PlacedName) → GateMeans naming visible gate → w.name ≡ gate_text naming gate
      → resolved gate ≡ gate_at visible w
  gate_is visible gate w means named =
      sym (ap (λ (o : Option ℕ). found_gate w o) (ap (λ (name : List ℕ). bound_to visible (folded name)) named ∙ means))

  pub gates_are : (visible : List Binding) (gates : List ℕ) (ws : List PlacedName) → Every (GateMeans naming visible) gates
      → AreGatesWritten naming gates ws → resolved gates ≡ gates_at visible ws
  gates_are visible [] [] means writes = refl
  gates_are visible [] (w ∷ ws) means writes = cc
  gates_are visible (g ∷ gates) [] means writes = cc
  gates_are visible (g ∷ gates) (w ∷ ws) means writes =
      let named : w.name ≡ gate_text naming g = cc in
      let others : spelled_names ws ≡ gate_texts naming gates = cc in
      value_then (gate_at visible w) g (λ (n : ℕ). put_in_front n (gates_at visible ws)) (resolved (g ∷ gates))
      (gate_is visible g w means.0 named)
      (in_front_is (gates_at visible ws) g gates (gates_are visible gates ws means.1 others))

  pub numbers_same : {A : Type 0} (f : ℕ → A) (next : ℕ) (gates : List ℕ) → numbers_from next (map f gates) ≡ numbers_from next gates
  numbers_same f next [] = refl
  numbers_same f next (g ∷ gates) = ap (λ (ns : List ℕ). next ∷ ns) (numbers_same f (next + 1) gates)

  pub texts_long : (gates : List ℕ) → length (gate_texts naming gates) ≡ length gates
  texts_long [] = refl
  texts_long (g ∷ gates) = ap suc (texts_long gates)

  pub meet_is : (scope : PrintedScope) (meet : SynchronisationSet) (sign : WrittenSign) → MeetMeans naming scope meet
      → IsMeetWritten naming meet sign → resolved meet ≡ sign_at scope.gates sign
  meet_is scope no_gates sign means interleaving_written = refl
  meet_is scope all_gates sign means full_written = refl
  meet_is scope (at_gates gates) sign means (synchronising_written {given = given} writes) =
      value_then (gates_at scope.gates given) gates (λ (ns : List ℕ). resolved (at_gates ns)) (resolved (at_gates gates))
      (gates_are scope.gates gates given means writes) refl

  pub choice_is : (visible : List Binding) (next gate : ℕ) (among : List ℕ) (w : WrittenGateChoice)
      → numbers_from next (gate ∷ []) ≡ gate ∷ []
      → Every (GateMeans naming visible) among → IsGateChoiceWritten naming gate among w
      → resolved (record { gate = gate; among = among } ∷ []) ≡ choices_at visible next (w ∷ [])
  choice_is visible next gate among w numbered means writes =
      let same : next ≡ gate = cc in
      let make : ℕ → GateChoice = λ n. record { gate = n; among = among } in
      value_then (gates_at visible w.among) among
      (λ (ns : List ℕ). put_in_front (record { gate = next; among = ns }) (resolved []))
      (resolved (record { gate = gate; among = among } ∷ []))
      (gates_are visible among w.among means writes.listed) (ap (λ (n : ℕ). resolved (make n ∷ [])) (sym same))

  pub par_is : (scope : PrintedScope) (next gate : ℕ) (among : List ℕ) (meet : SynchronisationSet) (w : WrittenGateChoice)
      (sign : WrittenSign) → numbers_from next (gate ∷ []) ≡ gate ∷ [] → Every (GateMeans naming scope.gates) among
      → MeetMeans naming scope meet → IsGateChoiceWritten naming gate among w → IsMeetWritten naming meet sign
      → resolved (record { choice_ = record { gate = gate; among = among }; meet = meet } ∷ [])
      ≡ par_choices_at scope.gates next sign (w ∷ [])
  par_is scope next gate among meet w sign numbered means meets writes signed =
      let one : ParChoice = record { choice_ = record { gate = gate; among = among }; meet = meet } in
      value_then (choices_at scope.gates next (w ∷ [])) (record { gate = gate; among = among } ∷ []) _ (resolved (one ∷ []))
      (choice_is scope.gates next gate among w numbered means writes)
      (value_then (signs_follow scope.gates next sign (w ∷ [])) (meet ∷ []) _ (resolved (one ∷ []))
      (value_then (sign_at scope.gates sign) meet (λ (m : SynchronisationSet). put_in_front m (resolved [])) (resolved (meet ∷ []))
      (meet_is scope meet sign meets signed) refl) refl)

-- ---- Terms

module _ (naming : Naming) (well : IsWellFormedSignature naming.signature) (scope : PrintedScope) where
  pub term_is : (expected : Option ℕ) (t : Term) (sort : ℕ) (w : WrittenTerm) → ValueMeans naming scope t sort
      → IsWrittenAs naming.signature scope.names t w → IsExpected expected sort
      → TermIs naming.signature scope.variables w expected (resolved t)
  term_is expected t sort w means writes asked = (
    record { term = t; sort = sort },
    terms_have_one_reading naming.signature scope.variables scope.names sort t w expected well means writes asked,
    refl,
  )

  pub exit_values_are : (results : List ExitValue) (ws : List WrittenExitValue) → Every (ExitValueMeans naming scope) results
      → Correspond (IsExitValueWritten naming scope.names) results ws
      → ExitValuesAre naming.signature scope.variables ws (resolved results)
  exit_values_are [] [] means writes = refl
  exit_values_are [] (w ∷ ws) means writes = absurd writes
  exit_values_are (x ∷ results) [] means writes = absurd writes
  exit_values_are (exit_value t ∷ results) (exit_term w ∷ ws) means writes =
      (exit_value t, (t, term_is None t means.0.0 w means.0.1 writes.0 tt, refl), (refl, exit_values_are results ws means.1 writes.1))
  exit_values_are (exit_value t ∷ results) (exit_any sort ∷ ws) means writes = absurd writes.0
  exit_values_are (any_of s ∷ results) (exit_term w ∷ ws) means writes = absurd writes.0
  exit_values_are (any_of s ∷ results) (exit_any sort ∷ ws) means writes = (
    any_of s,
    (s, sort_is naming.signature sort.place sort.name s means.0 writes.0, refl),
    (refl, exit_values_are results ws means.1 writes.1),
  )

  pub values_are : (parameters : List Variable) (ts : List Term) (ws : List WrittenTerm)
      → TermsMean naming.signature scope.variables scope.names (argument_list_of ts) (sorts_of parameters)
      → AreWrittenAs naming.signature scope.names (argument_list_of ts) (written_terms ws)
      → ValuesAre naming.signature scope.variables (map (λ (x : Variable). Some x.sort) parameters) ws (resolved ts)
  values_are [] [] ws means writes = refl
  values_are [] (t ∷ ts) ws means writes = absurd means
  values_are (x ∷ parameters) [] ws means writes = absurd means
  values_are (x ∷ parameters) (t ∷ ts) [] means writes = absurd writes
  values_are (x ∷ parameters) (t ∷ ts) (w ∷ ws) means writes =
      (t, term_is (Some x.sort) t x.sort w means.0 writes.0 refl, (refl, values_are parameters ts ws means.1 writes.1))

  -- ---- Tests

  right_is : (test : Test) (premiss : WrittenPremiss) (left_out : Bool) (right : Option WrittenTerm) → TestMeans naming scope test
      → is_constant naming.truth test.right ≡ left_out → IsWrittenAs naming.signature scope.names test.left premiss.left
      → IsRightWritten naming scope.names left_out test.right right
      → PremissIs naming.signature scope.variables premiss right (resolved test)
  right_is test premiss true None means is left writes =
      let implied : IsImpliedTruth naming.signature test.right means.sort = means.left_out is in
      let make : Term → Test = λ r. record { left = test.left; right = r } in
      subst (λ (o : Option Truth). TrueTermIs naming.signature scope.variables premiss o (resolved test)) (sym implied.found) (
        test.left,
        term_is (Some implied.truth.sort) test.left means.sort premiss.left means.left left (sym implied.sorted),
        ap make implied.constant,
      )
  right_is test premiss true (Some w) means is left writes = absurd writes
  right_is test premiss false None means is left writes = absurd writes
  right_is test premiss false (Some w) means is left writes = (
    record { left = test.left; right = test.right; sort = means.sort },
    pairs_have_one_reading naming.signature scope.variables scope.names means.sort test.left test.right premiss.left w well means.left
        (means.written is) left writes,
    refl,
  )

  pub test_is : (test : Test) (premiss : WrittenPremiss) → TestMeans naming scope test → IsTestWritten naming scope.names test premiss
      → TestIs naming.signature scope.variables premiss (resolved test)
  test_is test premiss means writes =
      right_is test premiss (is_constant naming.truth test.right) premiss.right means refl writes.left writes.right

  pub predicate_is : (test : Option Test) (premiss : Option WrittenPremiss) → PredicateMeans naming scope test
      → IsPredicateWritten naming scope.names test premiss → TestOptionIs naming.signature scope.variables premiss (resolved test)
  predicate_is None None means writes = refl
  predicate_is None (Some premiss) means writes = absurd writes
  predicate_is (Some test) None means writes = absurd writes
  predicate_is (Some test) (Some premiss) means writes = (test, test_is test premiss means writes, refl)

  -- ---- Offers

  pub asked_written : (offers : List Offer) (ws : List WrittenOffer) → Correspond (IsOfferWritten naming scope.names) offers ws
      → Correspond (IsVariableWritten naming.signature) (asked_variables offers) (asked_for ws)
  asked_written [] [] writes = tt
  asked_written [] (w ∷ ws) writes = absurd writes
  asked_written (x ∷ offers) [] writes = absurd writes
  asked_written (give t ∷ offers) (offer_value w ∷ ws) writes = asked_written offers ws writes.1
  asked_written (give t ∷ offers) (offer_variable w ∷ ws) writes = absurd writes.0
  asked_written (ask x ∷ offers) (offer_value w ∷ ws) writes = absurd writes.0
  asked_written (ask x ∷ offers) (offer_variable w ∷ ws) writes = (writes.0, asked_written offers ws writes.1)

  offers_follow : (next : ℕ) (offers : List Offer) (ws : List WrittenOffer) → Every (OfferMeans naming scope) offers
      → AreInRow next (asked_variables offers) → Every (λ (x : Variable). SortMeans naming.signature x.sort) (asked_variables offers)
      → Correspond (IsOfferWritten naming scope.names) offers ws
      → OffersFollow naming.signature scope.variables next ws (resolved offers)
  offers_follow next [] [] means row sorts writes = refl
  offers_follow next [] (w ∷ ws) means row sorts writes = absurd writes
  offers_follow next (x ∷ offers) [] means row sorts writes = absurd writes
  offers_follow next (give t ∷ offers) (offer_value w ∷ ws) means row sorts writes = (
    give t,
    (t, term_is None t means.0.0 w means.0.1 writes.0 tt, refl),
    (refl, offers_follow next offers ws means.1 row sorts writes.1),
  )
  offers_follow next (give t ∷ offers) (offer_variable w ∷ ws) means row sorts writes = absurd writes.0
  offers_follow next (ask x ∷ offers) (offer_value w ∷ ws) means row sorts writes = absurd writes.0
  offers_follow next (ask x ∷ offers) (offer_variable w ∷ ws) means row sorts writes = (
    ask x,
    (x, variable_is naming.signature next x w row.0 sorts.0 writes.0, refl),
    (refl, offers_follow (suc next) offers ws means.1 row.1 sorts.1 writes.1),
  )

  pub offers_are : (next : ℕ) (offers : List Offer) (ws : List WrittenOffer) → Every (OfferMeans naming scope) offers
      → AreDeclaredVariables naming.signature next (asked_variables offers) → Correspond (IsOfferWritten naming scope.names) offers ws
      → OffersAre naming.signature scope.variables next ws (resolved offers)
  offers_are next offers ws means declared writes = (
    resolved offers,
    offers_follow next offers ws means declared.numbered declared.sorted writes,
    beside_is (first_double (placed_variables (asked_for ws))) (resolved offers) offers
        (no_double_written naming.signature (asked_variables offers) (asked_for ws) (asked_written offers ws writes) declared.distinct)
        refl,
  )

  -- ---- Bindings of `let`

  pub bound_written : (bindings : List (Variable × Term)) (ws : List (WrittenVariable × WrittenTerm))
      → Correspond (IsBindingWritten naming scope.names) bindings ws
      → Correspond (IsVariableWritten naming.signature) (let_variables bindings) (let_names ws)
  bound_written [] [] writes = tt
  bound_written [] (w ∷ ws) writes = absurd writes
  bound_written (b ∷ bindings) [] writes = absurd writes
  bound_written (b ∷ bindings) (w ∷ ws) writes = (writes.0.0, bound_written bindings ws writes.1)

  bindings_are : (next : ℕ) (bindings : List (Variable × Term)) (ws : List (WrittenVariable × WrittenTerm))
      → Every (λ (bound : Variable × Term). ValueMeans naming scope bound.1 bound.0.sort) bindings
      → AreInRow next (let_variables bindings) → Every (λ (x : Variable). SortMeans naming.signature x.sort) (let_variables bindings)
      → Correspond (IsBindingWritten naming scope.names) bindings ws
      → BindingsAre naming.signature scope.variables next ws (resolved bindings)
  bindings_are next [] [] means row sorts writes = refl
  bindings_are next [] (w ∷ ws) means row sorts writes = absurd writes
  bindings_are next (b ∷ bindings) [] means row sorts writes = absurd writes
  bindings_are next (b ∷ bindings) (w ∷ ws) means row sorts writes = (
    b,
    (
      b.0,
      variable_is naming.signature next b.0 w.0 row.0 sorts.0 writes.0.0,
      (b.1, term_is (Some b.0.sort) b.1 b.0.sort w.1 means.0 writes.0.1 refl, refl),
    ),
    (refl, bindings_are (suc next) bindings ws means.1 row.1 sorts.1 writes.1),
  )

  pub let_is : (next : ℕ) (bindings : List (Variable × Term)) (ws : List (WrittenVariable × WrittenTerm))
      → Every (λ (bound : Variable × Term). ValueMeans naming scope bound.1 bound.0.sort) bindings
      → AreDeclaredVariables naming.signature next (let_variables bindings) → Correspond (IsBindingWritten naming scope.names) bindings ws
      → LetIs naming.signature scope.variables next ws (resolved bindings)
  let_is next bindings ws means declared writes = (
    resolved bindings,
    bindings_are next bindings ws means declared.numbered declared.sorted writes,
    beside_is (first_double (placed_variables (let_names ws))) (resolved bindings) bindings
        (no_double_written naming.signature (let_variables bindings) (let_names ws) (bound_written bindings ws writes) declared.distinct)
        refl,
  )
