-- A test that a behaviour, and a specification, is closed and well formed. It computes, so that a worked case needs no
-- proof of its own.
use Rattle.std.proofs.Common.{◌≡◌, ◌≢◌, ◌<◌, ℕ, zero, suc, List, [], ◌∷◌, ◌++◌, length, nat_eq, nat_lt, slice_get, Bool, true, false, ◌&&◌, not, Option, None, Some, refl, ap, sym, subst}
use Rattle.lotos_base.specs.Signature.{Signature, IsSort}
use Rattle.lotos_base.specs.Term.{Term}
use Rattle.lotos_base.specs.Equation.{Variable}
use Rattle.lotos_base.specs.Substitution.{is_listed}
use Rattle.behaviour_semantics.specs.Behaviour.{Behaviour, stop, exit_with, action, inner_action, guard, choice, parallel, hide, enable, disable, let_be, choose_value, choose_gate, par_gate, call, relabel, Test, Offer, give, ask, ExitValue, exit_value, any_of, SynchronisationSet, no_gates, all_gates, at_gates, Process, Specification, Relabelling, asked_variables, numbers_of, let_variables, let_terms}
use Rattle.behaviour_semantics.specs.Label.{formals_of}
use Rattle.behaviour_semantics.specs.WellFormed.{Every, AreDistinct, IsTestIn, AreTermsIn, AreBinders, IsTestOption, IsOffer, IsExitValue, AreGates, IsSynchronisationSet, IsCall, IsRelabelling, IsBehaviour, IsFunctionality, IsDefinition, IsSpecification}
use Rattle.behaviour_semantics.proofs.OptionLemmas.{some_value}
use Rattle.std.specs.Cmp.{first_so, second_so}
use Rattle.std.proofs.Common.{eqb-true}
use Rattle.std.proofs.lemmas.Bool.{ltb-true}
use Rattle.behaviour_semantics.proofs.LeftVariables.{listed_at}
use Rattle.lotos_base.proofs.Truth.{not_both}
use Rattle.worked_cases.proofs.TermTests.{term_passes, term_in, head_sort}

abbrev every_passes : {X : Type 0} → (X → Bool) → List X → Bool
every_passes test [] = true
every_passes test (x ∷ xs) = test x && every_passes test xs

every_passed : {X : Type 0} (test : X → Bool) (P : X → Type 0) → ((x : X) → test x ≡ true → P x) → (xs : List X)
    → every_passes test xs ≡ true → Every P xs
every_passed test P h [] e = tt
every_passed test P h (x ∷ xs) e = (h x (first_so (test x) _ e), every_passed test P h xs (second_so (test x) _ e))

abbrev distinct_pass : List ℕ → Bool
distinct_pass [] = true
distinct_pass (n ∷ numbers) = not (is_listed numbers n) && distinct_pass numbers

are_distinct : (numbers : List ℕ) → distinct_pass numbers ≡ true → AreDistinct numbers
are_distinct [] e i j n at at' = absurd (cc at)
are_distinct (m ∷ numbers) e zero zero n at at' = refl
are_distinct (m ∷ numbers) e zero (suc j) n at at' =
    absurd (not_both (is_listed numbers m) (first_so (not (is_listed numbers m)) _ e)
    (subst (λ (k : ℕ). is_listed numbers k ≡ true) (sym (some_value at)) (listed_at numbers j n at')))
are_distinct (m ∷ numbers) e (suc i) zero n at at' =
    absurd (not_both (is_listed numbers m) (first_so (not (is_listed numbers m)) _ e)
    (subst (λ (k : ℕ). is_listed numbers k ≡ true) (sym (some_value at')) (listed_at numbers i n at)))
are_distinct (m ∷ numbers) e (suc i) (suc j) n at at' = ap suc
    (are_distinct numbers (second_so (not (is_listed numbers m)) _ e) i j n at at')

module _ (signature : Signature) (names : ℕ) (processes : List Process) where
  abbrev sort_passes : ℕ → Bool
  sort_passes s = nat_lt s (length signature.sorts)

  is_sort : (s : ℕ) → sort_passes s ≡ true → IsSort signature s
  is_sort s e = ltb-true s (length signature.sorts) e

  abbrev test_passes : List Variable → Test → Bool
  test_passes scope test = term_passes signature scope (head_sort signature test.left) test.left
      && term_passes signature scope (head_sort signature test.left) test.right

  is_test : (scope : List Variable) (test : Test) → test_passes scope test ≡ true → IsTestIn signature scope test
  is_test scope test e =
      let sort : ℕ = head_sort signature test.left in
      record {
        sort = sort;
        left = term_in signature scope sort test.left (first_so (term_passes signature scope sort test.left) _ e);
        right = term_in signature scope sort test.right (second_so (term_passes signature scope sort test.left) _ e);
      }

  abbrev option_passes : List Variable → Option Test → Bool
  option_passes scope None = true
  option_passes scope (Some test) = test_passes scope test

  is_option : (scope : List Variable) (o : Option Test) → option_passes scope o ≡ true → IsTestOption signature scope o
  is_option scope None e = tt
  is_option scope (Some test) e = is_test scope test e

  abbrev terms_pass : List Variable → List Variable → List Term → Bool
  terms_pass scope [] [] = true
  terms_pass scope (x ∷ variables) (t ∷ terms) = term_passes signature scope x.sort t && terms_pass scope variables terms
  terms_pass scope _ _ = false

  are_terms : (scope variables : List Variable) (terms : List Term) → terms_pass scope variables terms ≡ true
      → AreTermsIn signature scope variables terms
  are_terms scope [] [] e = tt
  are_terms scope (x ∷ variables) (t ∷ terms) e = (
    term_in signature scope x.sort t (first_so (term_passes signature scope x.sort t) _ e),
    are_terms scope variables terms (second_so (term_passes signature scope x.sort t) _ e),
  )
  are_terms scope [] (t ∷ terms) e = absurd (cc e)
  are_terms scope (x ∷ variables) [] e = absurd (cc e)

  abbrev pub binders_pass : List Variable → Bool
  binders_pass variables = distinct_pass (numbers_of variables) && every_passes (λ (x : Variable). sort_passes x.sort) variables

  pub are_binders : (variables : List Variable) → binders_pass variables ≡ true → AreBinders signature variables
  are_binders variables e = (
    are_distinct (numbers_of variables) (first_so (distinct_pass (numbers_of variables)) _ e),
    every_passed (λ (x : Variable). sort_passes x.sort) (λ (x : Variable). IsSort signature x.sort) (λ x h. is_sort x.sort h) variables
        (second_so (distinct_pass (numbers_of variables)) _ e),
  )

  abbrev offer_passes : List Variable → Offer → Bool
  offer_passes scope (give t) = term_passes signature scope (head_sort signature t) t
  offer_passes scope (ask x) = sort_passes x.sort

  is_offer : (scope : List Variable) (offer : Offer) → offer_passes scope offer ≡ true → IsOffer signature scope offer
  is_offer scope (give t) e = (head_sort signature t, term_in signature scope (head_sort signature t) t e)
  is_offer scope (ask x) e = is_sort x.sort e

  abbrev result_passes : List Variable → ExitValue → Bool
  result_passes scope (exit_value t) = term_passes signature scope (head_sort signature t) t
  result_passes scope (any_of s) = sort_passes s

  is_result : (scope : List Variable) (value : ExitValue) → result_passes scope value ≡ true → IsExitValue signature scope value
  is_result scope (exit_value t) e = (head_sort signature t, term_in signature scope (head_sort signature t) t e)
  is_result scope (any_of s) e = is_sort s e

  abbrev gates_pass : List ℕ → Bool
  gates_pass gates = every_passes (λ g. nat_lt g names) gates

  are_gates : (gates : List ℕ) → gates_pass gates ≡ true → AreGates names gates
  are_gates gates e = every_passed (λ g. nat_lt g names) (λ g. g < names) (λ g h. ltb-true g names h) gates e

  abbrev meet_passes : SynchronisationSet → Bool
  meet_passes no_gates = true
  meet_passes all_gates = true
  meet_passes (at_gates gates) = gates_pass gates

  is_meet : (meet : SynchronisationSet) → meet_passes meet ≡ true → IsSynchronisationSet names meet
  is_meet no_gates e = tt
  is_meet all_gates e = tt
  is_meet (at_gates gates) e = are_gates gates e

  abbrev process_passes : List Variable → List ℕ → List Term → Option Process → Bool
  process_passes scope gates arguments None = false
  process_passes scope gates arguments (Some process) = nat_eq (length gates) (length process.gates)
      && terms_pass scope process.parameters arguments

  is_process : (scope : List Variable) (number : ℕ) (gates : List ℕ) (arguments : List Term) (o : Option Process)
      → slice_get processes number ≡ o → process_passes scope gates arguments o ≡ true
      → IsCall signature processes scope number gates arguments
  is_process scope number gates arguments None at e = absurd (cc e)
  is_process scope number gates arguments (Some process) at e = record {
    process = process;
    exists = at;
    gate_count = eqb-true (length gates) (length process.gates) (first_so (nat_eq (length gates) (length process.gates)) _ e);
    values = are_terms scope process.parameters arguments (second_so (nat_eq (length gates) (length process.gates)) _ e);
  }

  abbrev pairs_pass : Relabelling → Bool
  pairs_pass pairs = distinct_pass (formals_of pairs) && every_passes (λ (pair : ℕ × ℕ). nat_lt pair.0 names && nat_lt pair.1 names) pairs

  is_relabelling : (pairs : Relabelling) → pairs_pass pairs ≡ true → IsRelabelling names pairs
  is_relabelling pairs e = (
    are_distinct (formals_of pairs) (first_so (distinct_pass (formals_of pairs)) _ e),
    every_passed (λ (pair : ℕ × ℕ). nat_lt pair.0 names && nat_lt pair.1 names) (λ (pair : ℕ × ℕ). (pair.0 < names) × (pair.1 < names))
        (λ pair h. (
          ltb-true pair.0 names (first_so (nat_lt pair.0 names) _ h),
          ltb-true pair.1 names (second_so (nat_lt pair.0 names) _ h),
        ))
        pairs (second_so (distinct_pass (formals_of pairs)) _ e),
  )

  abbrev has_gate : List ℕ → Bool
  has_gate [] = false
  has_gate (g ∷ gates) = true

  not_empty : (gates : List ℕ) → has_gate gates ≡ true → gates ≢ []
  not_empty [] e same = absurd (cc e)
  not_empty (g ∷ gates) e same = absurd (cc same)

  abbrev passes : List Variable → Behaviour → Bool
  passes scope stop = true
  passes scope (exit_with results) = every_passes (result_passes scope) results
  passes scope (action g offers test b) =
      nat_lt g names && (every_passes (offer_passes scope) offers
      && (binders_pass (asked_variables offers) && (option_passes (asked_variables offers ++ scope) test
      && passes (asked_variables offers ++ scope) b)))
  passes scope (inner_action b) = passes scope b
  passes scope (guard test b) = test_passes scope test && passes scope b
  passes scope (choice b c) = passes scope b && passes scope c
  passes scope (parallel meet b c) = meet_passes meet && (passes scope b && passes scope c)
  passes scope (hide gates b) = gates_pass gates && passes scope b
  passes scope (enable b variables c) = passes scope b && (binders_pass variables && passes (variables ++ scope) c)
  passes scope (disable b c) = passes scope b && passes scope c
  passes scope (let_be bindings b) =
      binders_pass (let_variables bindings) && (terms_pass scope (let_variables bindings) (let_terms bindings)
      && passes (let_variables bindings ++ scope) b)
  passes scope (choose_value x b) = sort_passes x.sort && passes (x ∷ scope) b
  passes scope (choose_gate g gates b) = nat_lt g names && (gates_pass gates && passes scope b)
  passes scope (par_gate g gates meet b) = nat_lt g names && (has_gate gates && (gates_pass gates && (meet_passes meet && passes scope b)))
  passes scope (call number gates arguments) = gates_pass gates && process_passes scope gates arguments (slice_get processes number)
  passes scope (relabel pairs b) = pairs_pass pairs && passes scope b

  is_behaviour : (scope : List Variable) (b : Behaviour) → passes scope b ≡ true → IsBehaviour signature names processes scope b
  is_behaviour scope stop e = tt
  is_behaviour scope (exit_with results) e = every_passed (result_passes scope) (IsExitValue signature scope) (is_result scope) results e
  is_behaviour scope (action g offers test b) e =
      let inside : List Variable = asked_variables offers ++ scope in
      let e1 : _ ≡ true = second_so (nat_lt g names) _ e in
      let e2 : _ ≡ true = second_so (every_passes (offer_passes scope) offers) _ e1 in
      let e3 : _ ≡ true = second_so (binders_pass (asked_variables offers)) _ e2 in (
        ltb-true g names (first_so (nat_lt g names) _ e),
        every_passed (offer_passes scope) (IsOffer signature scope) (is_offer scope) offers
            (first_so (every_passes (offer_passes scope) offers) _ e1),
        are_binders (asked_variables offers) (first_so (binders_pass (asked_variables offers)) _ e2),
        is_option inside test (first_so (option_passes inside test) _ e3),
        is_behaviour inside b (second_so (option_passes inside test) _ e3),
      )
  is_behaviour scope (inner_action b) e = is_behaviour scope b e
  is_behaviour scope (guard test b) e = (
    is_test scope test (first_so (test_passes scope test) _ e),
    is_behaviour scope b (second_so (test_passes scope test) _ e),
  )
  is_behaviour scope (choice b c) e = (
    is_behaviour scope b (first_so (passes scope b) _ e),
    is_behaviour scope c (second_so (passes scope b) _ e),
  )
  is_behaviour scope (parallel meet b c) e =
      let rest : _ ≡ true = second_so (meet_passes meet) _ e in (
        is_meet meet (first_so (meet_passes meet) _ e),
        is_behaviour scope b (first_so (passes scope b) _ rest),
        is_behaviour scope c (second_so (passes scope b) _ rest),
      )
  is_behaviour scope (hide gates b) e = (
    are_gates gates (first_so (gates_pass gates) _ e),
    is_behaviour scope b (second_so (gates_pass gates) _ e),
  )
  is_behaviour scope (enable b variables c) e =
      let rest : _ ≡ true = second_so (passes scope b) _ e in (
        is_behaviour scope b (first_so (passes scope b) _ e),
        are_binders variables (first_so (binders_pass variables) _ rest),
        is_behaviour (variables ++ scope) c (second_so (binders_pass variables) _ rest),
      )
  is_behaviour scope (disable b c) e = (
    is_behaviour scope b (first_so (passes scope b) _ e),
    is_behaviour scope c (second_so (passes scope b) _ e),
  )
  is_behaviour scope (let_be bindings b) e =
      let variables : List Variable = let_variables bindings in
      let rest : _ ≡ true = second_so (binders_pass variables) _ e in (
        are_binders variables (first_so (binders_pass variables) _ e),
        are_terms scope variables (let_terms bindings) (first_so (terms_pass scope variables (let_terms bindings)) _ rest),
        is_behaviour (variables ++ scope) b (second_so (terms_pass scope variables (let_terms bindings)) _ rest),
      )
  is_behaviour scope (choose_value x b) e = (
    is_sort x.sort (first_so (sort_passes x.sort) _ e),
    is_behaviour (x ∷ scope) b (second_so (sort_passes x.sort) _ e),
  )
  is_behaviour scope (choose_gate g gates b) e =
      let rest : _ ≡ true = second_so (nat_lt g names) _ e in (
        ltb-true g names (first_so (nat_lt g names) _ e),
        are_gates gates (first_so (gates_pass gates) _ rest),
        is_behaviour scope b (second_so (gates_pass gates) _ rest),
      )
  is_behaviour scope (par_gate g gates meet b) e =
      let e1 : _ ≡ true = second_so (nat_lt g names) _ e in
      let e2 : _ ≡ true = second_so (has_gate gates) _ e1 in
      let e3 : _ ≡ true = second_so (gates_pass gates) _ e2 in (
        ltb-true g names (first_so (nat_lt g names) _ e),
        not_empty gates (first_so (has_gate gates) _ e1),
        are_gates gates (first_so (gates_pass gates) _ e2),
        is_meet meet (first_so (meet_passes meet) _ e3),
        is_behaviour scope b (second_so (meet_passes meet) _ e3),
      )
  is_behaviour scope (call number gates arguments) e = (
    are_gates gates (first_so (gates_pass gates) _ e),
    is_process scope number gates arguments (slice_get processes number) refl
        (second_so (gates_pass gates) _ e),
  )
  is_behaviour scope (relabel pairs b) e = (
    is_relabelling pairs (first_so (pairs_pass pairs) _ e),
    is_behaviour scope b (second_so (pairs_pass pairs) _ e),
  )

  abbrev functionality_passes : Option (List ℕ) → Bool
  functionality_passes None = true
  functionality_passes (Some sorts) = every_passes sort_passes sorts

  is_functionality : (exit : Option (List ℕ)) → functionality_passes exit ≡ true → IsFunctionality signature exit
  is_functionality None e = tt
  is_functionality (Some sorts) e = every_passed sort_passes (IsSort signature) is_sort sorts e

  abbrev definition_passes : List ℕ → List Variable → Option (List ℕ) → Behaviour → Bool
  definition_passes gates parameters exit body =
      distinct_pass gates && (gates_pass gates && (binders_pass parameters && (functionality_passes exit && passes parameters body)))

  is_definition : (gates : List ℕ) (parameters : List Variable) (exit : Option (List ℕ)) (body : Behaviour)
      → definition_passes gates parameters exit body ≡ true → IsDefinition signature names processes gates parameters exit body
  is_definition gates parameters exit body e =
      let e1 : _ ≡ true = second_so (distinct_pass gates) _ e in
      let e2 : _ ≡ true = second_so (gates_pass gates) _ e1 in
      let e3 : _ ≡ true = second_so (binders_pass parameters) _ e2 in
      record {
        distinct_gates = are_distinct gates (first_so (distinct_pass gates) _ e);
        named_gates = are_gates gates (first_so (gates_pass gates) _ e1);
        binders = are_binders parameters (first_so (binders_pass parameters) _ e2);
        functionality = is_functionality exit (first_so (functionality_passes exit) _ e3);
        behaviour = is_behaviour parameters body (second_so (functionality_passes exit) _ e3);
      }

abbrev pub behaviour_passes : Signature → Specification → Behaviour → Bool
behaviour_passes signature specification b = passes signature (length specification.gate_names) specification.processes [] b

pub closed_behaviour : (signature : Signature) (specification : Specification) (b : Behaviour)
    → behaviour_passes signature specification b ≡ true → IsBehaviour signature (length specification.gate_names) specification.processes []
    b
closed_behaviour signature specification b e = is_behaviour signature (length specification.gate_names) specification.processes [] b e

abbrev pub specification_passes : Signature → Specification → Bool
specification_passes signature s =
    definition_passes signature (length s.gate_names) s.processes s.gates s.parameters s.exit s.body
    && every_passes (λ (p : Process). definition_passes signature (length s.gate_names) s.processes p.gates p.parameters p.exit p.body)
    s.processes

pub well_formed_specification : (signature : Signature) (s : Specification) → specification_passes signature s ≡ true
    → IsSpecification signature s
well_formed_specification signature s e =
    let names : ℕ = length s.gate_names in
    let whole : definition_passes signature names s.processes s.gates s.parameters s.exit s.body ≡ true =
    first_so (definition_passes signature names s.processes s.gates s.parameters s.exit s.body) _ e in
    record {
      whole = is_definition signature names s.processes s.gates s.parameters s.exit s.body whole;
      each = every_passed (λ (p : Process). definition_passes signature names s.processes p.gates p.parameters p.exit p.body)
          (λ (p : Process). IsDefinition signature names s.processes p.gates p.parameters p.exit p.body)
          (λ p h. is_definition signature names s.processes p.gates p.parameters p.exit p.body h) s.processes
          (second_so (definition_passes signature names s.processes s.gates s.parameters s.exit s.body) _ e);
    }
