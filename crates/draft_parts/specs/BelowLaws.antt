-- Parts below binders, and the drafts of binders below an environment.
use Rattle.std.specs.Prelude.{◌≡◌, ◌+◌, ℕ, suc, List, ◌∷◌, ◌++◌, map, filter_map, zip, slice_get, Some}
use Rattle.lotos_base.specs.Term.{Term, variable}
use Rattle.lotos_base.specs.Equation.{Data, Variable}
use Rattle.lotos_base.specs.Substitution.{substituted, binding}
use Rattle.behaviour_semantics.specs.Behaviour.{Behaviour, guard, choice, parallel, hide, enable, disable, let_be, choose_value, choose_gate, par_gate, call, relabel, Process, Specification, SynchronisationSet, Relabelling, Test, numbers_of, let_variables, let_terms}
use Rattle.behaviour_semantics.specs.Draft as plain
use Rattle.behaviour_semantics.specs.Replacement.{with_values}
use Rattle.behaviour_semantics.specs.Shape.{called, let_bound}
use Rattle.draft_parts.specs.DraftRules.{valued_draft}
use Rattle.draft_parts.specs.HasDrafts.{HasDrafts, all_within, all_relabelled}
use Rattle.draft_parts.specs.RowLaws.{IsWellFormedBelow, setting_over}

-- the pairs that a binder puts before an environment: each variable with the canon of its term, the environment put in
abbrev pub binder_pairs : (Term → Term) → List Variable → List Term → List (ℕ × Term) → List (ℕ × Term)
binder_pairs canon variables terms pairs = zip (numbers_of variables) (map canon (map (substituted (binding pairs)) terms))

-- the parts of a behaviour that is below an environment are below it too
pub record PartsAreBelow (data_ : Data) (canon : Term → Term) (specification : Specification) (scope : List Variable)
    (pairs : List (ℕ × Term)) (base next : ℕ) : Type 0 where
  pub of_guard :
      (test : Test) (b : Behaviour) →
      IsWellFormedBelow data_ canon specification scope pairs base next (guard test b) →
      IsWellFormedBelow data_ canon specification scope pairs base next b
  pub of_choice :
      (b c : Behaviour) →
      IsWellFormedBelow data_ canon specification scope pairs base next (choice b c) →
      IsWellFormedBelow data_ canon specification scope pairs base next b
      × IsWellFormedBelow data_ canon specification scope pairs base next c
  pub of_parallel :
      (meet : SynchronisationSet) (b c : Behaviour) →
      IsWellFormedBelow data_ canon specification scope pairs base next (parallel meet b c) →
      IsWellFormedBelow data_ canon specification scope pairs base next b
      × IsWellFormedBelow data_ canon specification scope pairs base next c
  pub of_hide :
      (gates : List ℕ) (b : Behaviour) →
      IsWellFormedBelow data_ canon specification scope pairs base next (hide gates b) →
      IsWellFormedBelow data_ canon specification scope pairs base next b
  pub of_enable :
      (b : Behaviour) (variables : List Variable) (c : Behaviour) →
      IsWellFormedBelow data_ canon specification scope pairs base next (enable b variables c) →
      IsWellFormedBelow data_ canon specification scope pairs base next b
  pub of_disable :
      (b c : Behaviour) →
      IsWellFormedBelow data_ canon specification scope pairs base next (disable b c) →
      IsWellFormedBelow data_ canon specification scope pairs base next b
      × IsWellFormedBelow data_ canon specification scope pairs base next c
  pub of_gates :
      (g : ℕ) (gates : List ℕ) (b : Behaviour) →
      IsWellFormedBelow data_ canon specification scope pairs base next (choose_gate g gates b) →
      IsWellFormedBelow data_ canon specification scope pairs base next b
  pub of_par :
      (g : ℕ) (gates : List ℕ) (meet : SynchronisationSet) (b : Behaviour) →
      IsWellFormedBelow data_ canon specification scope pairs base next (par_gate g gates meet b) →
      IsWellFormedBelow data_ canon specification scope pairs base next b
  pub of_relabel :
      (renamed : Relabelling) (b : Behaviour) →
      IsWellFormedBelow data_ canon specification scope pairs base next (relabel renamed b) →
      IsWellFormedBelow data_ canon specification scope pairs base next b
  pub of_let :
      (bindings : List (Variable × Term)) (b : Behaviour) →
      IsWellFormedBelow data_ canon specification scope pairs base next (let_be bindings b) →
      IsWellFormedBelow data_ canon specification (let_variables bindings ++ scope)
      (binder_pairs canon (let_variables bindings) (let_terms bindings) pairs ++ pairs) base next b
  pub of_value :
      (x : Variable) (b : Behaviour) →
      IsWellFormedBelow data_ canon specification scope pairs base next (choose_value x b) →
      IsWellFormedBelow data_ canon specification (x ∷ scope) ((x.number, variable (base + next) x.sort) ∷ pairs) base (suc next) b
  pub of_call :
      (number : ℕ) (gates : List ℕ) (arguments : List Term) (process : Process) →
      IsWellFormedBelow data_ canon specification scope pairs base next (call number gates arguments) →
      slice_get specification.processes number ≡ Some process →
      IsWellFormedBelow data_ canon specification process.parameters (binder_pairs canon process.parameters arguments pairs) base next
      process.body

-- the drafts of a binder below an environment are made of those of its part below the environment that it makes
pub record BindersHaveTheirDrafts (data_ : Data) (canon : Term → Term) (specification : Specification) (scope : List Variable)
    (pairs : List (ℕ × Term)) (base next : ℕ) : Type 0 where
  pub of_let :
      (bindings : List (Variable × Term)) (b : Behaviour) (drafts : List plain.Draft) →
      IsWellFormedBelow data_ canon specification scope pairs base next (let_be bindings b) →
      HasDrafts (setting_over data_ canon specification) base next
      (with_values (binding (binder_pairs canon (let_variables bindings) (let_terms bindings) pairs ++ pairs)) b) drafts →
      HasDrafts (setting_over data_ canon specification) base next (with_values (binding pairs) (let_be bindings b))
      (all_within let_bound drafts)
  pub of_value :
      (x : Variable) (b : Behaviour) (drafts : List plain.Draft) →
      IsWellFormedBelow data_ canon specification scope pairs base next (choose_value x b) →
      HasDrafts (setting_over data_ canon specification) base (suc next)
      (with_values (binding ((x.number, variable (base + next) x.sort) ∷ pairs)) b) drafts →
      HasDrafts (setting_over data_ canon specification) base next (with_values (binding pairs) (choose_value x b))
      (filter_map (λ (d : plain.Draft). Some (valued_draft (variable (base + next) x.sort) d)) drafts)
  pub of_call :
      (number : ℕ) (gates : List ℕ) (arguments : List Term) (process : Process) (drafts : List plain.Draft) →
      slice_get specification.processes number ≡ Some process →
      HasDrafts (setting_over data_ canon specification) base next
      (with_values (binding (binder_pairs canon process.parameters arguments pairs)) process.body) drafts →
      HasDrafts (setting_over data_ canon specification) base next (with_values (binding pairs) (call number gates arguments))
      (all_relabelled called (zip process.gates gates) drafts)

-- below every environment
pub record BelowEnvironments : Type 0 where
  pub parts :
      (data_ : Data) (canon : Term → Term) (specification : Specification) (scope : List Variable) (pairs : List (ℕ × Term))
      (base next : ℕ) →
      PartsAreBelow data_ canon specification scope pairs base next
  pub binders :
      (data_ : Data) (canon : Term → Term) (specification : Specification) (scope : List Variable) (pairs : List (ℕ × Term))
      (base next : ℕ) →
      BindersHaveTheirDrafts data_ canon specification scope pairs base next
