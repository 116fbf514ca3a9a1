-- Parts with values put in are closed, and environments close them.
use Rattle.std.proofs.Common.{◌≡◌, ℕ, zero, suc, List, [], ◌∷◌, ◌++◌, map, length, slice_get, None, Some, refl, ap, sym, ◌∙◌, subst}
use Rattle.std.specs.Prelude.{zip}
use Rattle.std.proofs.lemmas.List.{append-nil}
use Rattle.std.proofs.lemmas.Option.{none-some}
use Rattle.lotos_base.proofs.Members.{at_map}
use Rattle.lotos_base.specs.Canon.{IsCanon}
use Rattle.lotos_base.specs.Equation.{Variable}
use Rattle.lotos_base.specs.Sorting.{IsGroundOf}
use Rattle.lotos_base.specs.Term.{Term}
use Rattle.lotos_base.proofs.CanonLemmas.{canon_ground}
use Rattle.behaviour_semantics.specs.Behaviour.{Behaviour, call, choose_value, let_be, let_terms, let_variables, numbers_of, Process, sorts_of}
use Rattle.behaviour_semantics.specs.Derives.{leaves_in}
use Rattle.behaviour_semantics.specs.Fault.{wrong_leaves}
use Rattle.behaviour_semantics.specs.Replacement.{binding_of, with_values}
use Rattle.behaviour_semantics.specs.Rule.{AreValues}
use Rattle.behaviour_semantics.specs.WellFormed.{AreDistinct, AreTermsIn, IsBehaviour, IsDefinition}
use Rattle.behaviour_semantics.proofs.ClosedTargets.{inside, KeepsGround, represented_terms}
use Rattle.behaviour_semantics.proofs.FaultParts.{leaves_right}
use Rattle.behaviour_semantics.proofs.ListLemmas.{Every-at}
use Rattle.behaviour_semantics.proofs.OptionLemmas.{some_value}
use Rattle.behaviour_semantics.proofs.PutTerms.{closed_by}
use Rattle.behaviour_tree.specs.BehaviourTerms.{profiles_in, profiles_of}
use Rattle.behaviour_tree.specs.BehaviourView.{terms_of}
use Rattle.behaviour_tree.specs.Closed.{IsClosedBy}
use Rattle.behaviour_tree.specs.DefinitionView.{process_of, specification_of}
use Rattle.behaviour_tree.specs.Over.{AreTermsOf, IsSpecOver}
use Rattle.behaviour_tree.specs.StateView.{environment_of, pair_profile}
use Rattle.behaviour_tree.specs.declared.behaviours.Beh.{Beh}
use Rattle.behaviour_tree.specs.declared.definitions.Process.{Process as Called}
use Rattle.sort_terms.specs.ProfiledTerm.{IsOf}
use Rattle.sort_terms.specs.SortedView.{profiled_in, term_in}
use Rattle.sort_terms.specs.declared.sorted.Sorted.{Sorted}
use Rattle.step_parts.specs.HandedOn.{instance_profiles, profiled_binding, profiled_pairs}
use Rattle.step_parts.proofs.HandedOn.{of_signatures}
use Rattle.step_parts.proofs.BinderLemmas.{bound_closed}
use Rattle.step_taker.specs.Taken.{Ground}
use Rattle.step_taker.specs.Walked.{IsCalled, IsClosedOn}

-- the terms of an instance
pub instance_over : (ground : Ground) (environment : List (ℕ × Sorted)) (b made : Beh)
    → profiles_in made ≡ instance_profiles (profiled_binding (profiled_pairs environment)) b
    → AreTermsOf ground.data_.signature (profiles_in b) → AreTermsOf ground.data_.signature (map pair_profile environment)
    → AreTermsOf ground.data_.signature (profiles_in made)
instance_over ground environment b made e h k =
    subst (AreTermsOf ground.data_.signature) (sym e) (of_signatures ground.data_.signature environment b h k)

module _ (ground : Ground) (is_canon : IsCanon ground.data_ ground.canon) where
  pub keeps_ground : KeepsGround ground.data_.signature ground.canon
  keeps_ground t s h = canon_ground ground.data_ ground.canon t s is_canon h

  -- ---- `let`
  pub let_values_sorted : (bindings : List (Variable × Term)) (b : Behaviour) → IsClosedOn ground (let_be bindings b)
      → AreValues ground.data_.signature (sorts_of (let_variables bindings)) (map ground.canon (let_terms bindings))
  let_values_sorted bindings b closed =
      represented_terms ground.data_.signature ground.canon keeps_ground (let_variables bindings) (let_terms bindings) closed.1

  pub let_environment : (bindings : List (Variable × Term)) (b : Behaviour) (pairs : List (ℕ × Sorted)) → IsClosedOn ground (let_be
      bindings b)
      → environment_of pairs ≡ zip (numbers_of (let_variables bindings)) (map ground.canon (let_terms bindings))
      → AreTermsOf ground.data_.signature (map pair_profile pairs) → IsClosedBy pairs b
  let_environment bindings b pairs closed e of =
      bound_closed ground.data_.signature (length (specification_of ground.spec).gate_names) (specification_of ground.spec).processes
      (let_variables bindings) (map ground.canon (let_terms bindings)) pairs b e of (let_values_sorted bindings b closed) closed.0.0
      closed.2

  module _ (over : IsSpecOver ground.data_.signature ground.spec) where
    put_in : (variables : List Variable) (terms : List Term) (b : Behaviour) → AreValues ground.data_.signature (sorts_of variables)
        terms
        → IsBehaviour ground.data_.signature (length (specification_of ground.spec).gate_names) (specification_of ground.spec).processes
        (variables ++ []) b → IsClosedOn ground (with_values (binding_of variables terms) b)
    put_in = inside ground.data_ (specification_of ground.spec) over.well_formed ground.canon keeps_ground (leaves_in [])

    pub let_closed : (bindings : List (Variable × Term)) (b : Behaviour) → IsClosedOn ground (let_be bindings b)
        → IsClosedOn ground (with_values (binding_of (let_variables bindings) (map ground.canon (let_terms bindings))) b)
    let_closed bindings b closed =
        put_in (let_variables bindings) (map ground.canon (let_terms bindings)) b (let_values_sorted bindings b closed) closed.2

    pub value_closed : (x : Variable) (b : Behaviour) (v : Term) → IsGroundOf ground.data_.signature x.sort v
        → IsClosedOn ground (choose_value x b) → IsClosedOn ground (with_values (binding_of (x ∷ []) (ground.canon v ∷ [])) b)
    value_closed x b v h closed = put_in (x ∷ []) (ground.canon v ∷ []) b (keeps_ground v x.sort h, tt) closed.1

    -- ---- Calls
    abbrev Defined : Process → Type 0
    Defined p =
        IsDefinition ground.data_.signature (length (specification_of ground.spec).gate_names) (specification_of ground.spec).processes
        p.gates
        p.parameters p.exit p.body

    pub call_defined : (called : Called) (values : List Sorted) → IsCalled ground called values → Defined (process_of called)
    call_defined called values h =
        Every-at Defined (specification_of ground.spec).processes h.number (process_of called) over.well_formed.each
        (at_map process_of ground.spec.processes.items h.number called h.there)

    pub call_sorted : (called : Called) (values : List Sorted) → IsCalled ground called values
        → AreValues ground.data_.signature (sorts_of (process_of called).parameters) (map ground.canon (terms_of values))
    call_sorted called values h =
        represented_terms ground.data_.signature ground.canon keeps_ground (process_of called).parameters (terms_of values) h.fitting

    pub call_closed : (called : Called) (values : List Sorted) → IsCalled ground called values
        → IsClosedOn ground (with_values (binding_of (process_of called).parameters (map ground.canon (terms_of values))) (process_of
        called).body)
    call_closed called values h =
        closed_by ground.data_.signature (length (specification_of ground.spec).gate_names) (specification_of ground.spec).processes
        (process_of called).parameters (map ground.canon (terms_of values)) (process_of called).body (call_sorted called values h)
        (call_defined called values h).behaviour

    pub is_called : (number : ℕ) (gates : List ℕ) (called : Called) (values : List Sorted)
        → slice_get ground.spec.processes.items number ≡ Some called → IsClosedOn ground (call number gates (terms_of values))
        → AreTermsOf ground.data_.signature (profiles_of values) → IsCalled ground called values
    is_called number gates called values at closed h =
        let same : closed.1.process ≡ process_of called =
        some_value (sym closed.1.exists ∙ at_map process_of ground.spec.processes.items number called at) in
        record {
          number = number;
          there = at;
          fitting = subst (λ (p : Process). AreTermsIn ground.data_.signature [] p.parameters (terms_of values)) same closed.1.values;
          terms_of_signature = h;
        }

  -- ---- A leaf
  pub leaf_value : (leaves : List Term) (next sort : ℕ) → wrong_leaves ground.data_.signature leaves next (sort ∷ []) ≡ None
      → IsGroundOf ground.data_.signature sort (leaves_in leaves next sort)
  leaf_value leaves next sort e = (leaves_right ground.data_.signature leaves next (sort ∷ []) e).0.0

-- ---- The environment of one variable, and of the parameters of a process
one_distinct : (m : ℕ) → AreDistinct (m ∷ [])
one_distinct m zero zero n e f = refl
one_distinct m zero (suc j) n e f = absurd (none-some n f)
one_distinct m (suc i) zero n e f = absurd (none-some n e)
one_distinct m (suc i) (suc j) n e f = absurd (none-some n f)

module _ (ground : Ground) (is_canon : IsCanon ground.data_ ground.canon) where
  pub value_environment : (x : Variable) (b : Behaviour) (pairs : List (ℕ × Sorted)) (value : Sorted) (v : Term)
      → IsGroundOf ground.data_.signature x.sort v → pairs ≡ (x.number, value) ∷ [] → term_in value ≡ ground.canon v
      → IsOf ground.data_.signature (profiled_in value) → IsClosedOn ground (choose_value x b) → IsClosedBy pairs b
  value_environment x b pairs value v h e same of closed =
      bound_closed ground.data_.signature (length (specification_of ground.spec).gate_names) (specification_of ground.spec).processes
      (x ∷ []) (ground.canon v ∷ []) pairs b
      (ap environment_of e ∙ ap (λ (t : Term). let pair : ℕ × Term = (x.number, t) in pair ∷ []) same)
      (subst (λ (ps : List (ℕ × Sorted)). AreTermsOf ground.data_.signature (map pair_profile ps)) (sym e) (of, tt))
      (keeps_ground ground is_canon v x.sort h, tt) (one_distinct x.number) closed.1

  pub call_environment : (over : IsSpecOver ground.data_.signature ground.spec) (called : Called) (values : List Sorted) (pairs : List (ℕ
      × Sorted))
      → IsCalled ground called values
      → environment_of pairs ≡ zip (numbers_of (process_of called).parameters) (map ground.canon (terms_of values))
      → AreTermsOf ground.data_.signature (map pair_profile pairs) → IsClosedBy pairs (process_of called).body
  call_environment over called values pairs h e of =
      bound_closed ground.data_.signature (length (specification_of ground.spec).gate_names) (specification_of ground.spec).processes
      (process_of called).parameters (map ground.canon (terms_of values)) pairs (process_of called).body e of
      (call_sorted ground is_canon over called values h) (call_defined ground is_canon over called values h).binders.0
      (subst (λ (scope : List Variable). IsBehaviour ground.data_.signature (length (specification_of ground.spec).gate_names)
      (specification_of ground.spec).processes scope (process_of called).body) (sym (append-nil (process_of called).parameters))
      (call_defined ground is_canon over called values h).behaviour)

  -- the terms of the body of a process
  pub body_over : (over : IsSpecOver ground.data_.signature ground.spec) (called : Called) (values : List Sorted) → IsCalled ground
      called values
      → AreTermsOf ground.data_.signature (profiles_in called.body)
  body_over over called values h =
      Every-at (λ (p : Called). AreTermsOf ground.data_.signature (profiles_in p.body)) ground.spec.processes.items h.number called
      over.bodies
      h.there
