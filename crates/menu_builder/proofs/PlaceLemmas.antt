-- Where the parts of a behaviour stand, with the terms in them.
use Rattle.std.proofs.Common.{◌≡◌, ℕ, suc, ◌+◌, List, ◌∷◌, ◌++◌, map, slice_get, Some, sym, subst}
use Rattle.lotos_base.specs.Term.{Term, variable}
use Rattle.lotos_base.specs.Equation.{Variable}
use Rattle.behaviour_semantics.specs.Behaviour.{Behaviour, guard, choice, parallel, hide, enable, disable, let_be, choose_value, choose_gate, par_gate, call, SynchronisationSet, Process, let_variables, let_terms}
use Rattle.sort_terms.specs.EquationView.{variable_of}
use Rattle.sort_terms.specs.ProfiledTerm.{ProfiledTerm, profiled_variable, IsOf}
use Rattle.sort_terms.specs.declared.equations.Variable as code_variable
use Rattle.sort_terms.specs.declared.sorted.Sorted.{Sorted}
use Rattle.term_match.specs.ProfiledInstance.{bare_pairs}
use Rattle.behaviour_tree.specs.BehaviourTerms.{test_profiles, let_profile}
use Rattle.behaviour_tree.specs.BehaviourView.{test_of, let_of}
use Rattle.behaviour_tree.specs.Over.{AreTermsOf}
use Rattle.behaviour_tree.specs.declared.behaviours.Test.{Test}
use Rattle.draft_parts.specs.Environments.{ArePairsOf}
use Rattle.draft_parts.specs.BelowLaws.{PartsAreBelow, binder_pairs}
use Rattle.draft_parts.specs.RowLaws.{IsWellFormedBelow}
use Rattle.draft_parts.proofs.BelowLemmas.{below as environments}
use Rattle.menu_builder.specs.Placed.{Basis, Position, StandsAt}
use Rattle.menu_builder.proofs.ReadyLemmas.{first_part, second_part}

module _ (basis : Basis) (at : Position) (pairs : List (ℕ × ProfiledTerm)) where
  parts : PartsAreBelow basis.data_ basis.canon basis.specification at.scope (bare_pairs pairs) at.base at.next
  parts = environments.parts basis.data_ basis.canon basis.specification at.scope (bare_pairs pairs) at.base at.next

  abbrev pub Stands : Behaviour → List ProfiledTerm → Type 0
  Stands b terms = StandsAt basis at b terms pairs

  abbrev pub OfSignature : List ProfiledTerm → Type 0
  OfSignature terms = AreTermsOf basis.data_.signature terms

  abbrev pub Below : Behaviour → Type 0
  Below b = IsWellFormedBelow basis.data_ basis.canon basis.specification at.scope (bare_pairs pairs) at.base at.next b

  first_terms : (terms others : List ProfiledTerm) → OfSignature (terms ++ others) → OfSignature terms
  first_terms = first_part (IsOf basis.data_.signature)

  second_terms : (terms others : List ProfiledTerm) → OfSignature (terms ++ others) → OfSignature others
  second_terms = second_part (IsOf basis.data_.signature)

  -- ---- Parts in the same scope.
  part : (b c : Behaviour) (terms others : List ProfiledTerm) → Stands b terms → Below c → OfSignature others → Stands c others
  part b c terms others h k of_signature = record { below = k; values = h.values; profiles = of_signature }

  pub guard_part : (test : Test) (b : Behaviour) (terms : List ProfiledTerm)
      → Stands (guard (test_of test) b) (test_profiles test ++ terms) → Stands b terms
  guard_part test b terms h =
      part (guard (test_of test) b) b (test_profiles test ++ terms) terms h (parts.of_guard (test_of test) b h.below) h.profiles.1.1

  pub choice_left : (b c : Behaviour) (terms others : List ProfiledTerm) → Stands (choice b c) (terms ++ others) → Stands b terms
  choice_left b c terms others h =
      part (choice b c) b (terms ++ others) terms h (parts.of_choice b c h.below).0 (first_terms terms others h.profiles)

  pub choice_right : (b c : Behaviour) (terms others : List ProfiledTerm) → Stands (choice b c) (terms ++ others) → Stands c others
  choice_right b c terms others h =
      part (choice b c) c (terms ++ others) others h (parts.of_choice b c h.below).1 (second_terms terms others h.profiles)

  pub parallel_left : (meet : SynchronisationSet) (b c : Behaviour) (terms others : List ProfiledTerm)
      → Stands (parallel meet b c) (terms ++ others) → Stands b terms
  parallel_left meet b c terms others h =
      part (parallel meet b c) b (terms ++ others) terms h (parts.of_parallel meet b c h.below).0 (first_terms terms others h.profiles)

  pub parallel_right : (meet : SynchronisationSet) (b c : Behaviour) (terms others : List ProfiledTerm)
      → Stands (parallel meet b c) (terms ++ others) → Stands c others
  parallel_right meet b c terms others h =
      part (parallel meet b c) c (terms ++ others) others h (parts.of_parallel meet b c h.below).1
      (second_terms terms others h.profiles)

  pub hide_part : (gates : List ℕ) (b : Behaviour) (terms : List ProfiledTerm) → Stands (hide gates b) terms → Stands b terms
  hide_part gates b terms h = part (hide gates b) b terms terms h (parts.of_hide gates b h.below) h.profiles

  pub enable_part : (b : Behaviour) (variables : List Variable) (c : Behaviour) (terms others : List ProfiledTerm)
      → Stands (enable b variables c) (terms ++ others) → Stands b terms
  enable_part b variables c terms others h =
      part (enable b variables c) b (terms ++ others) terms h (parts.of_enable b variables c h.below)
      (first_terms terms others h.profiles)

  pub disable_left : (b c : Behaviour) (terms others : List ProfiledTerm) → Stands (disable b c) (terms ++ others) → Stands b terms
  disable_left b c terms others h =
      part (disable b c) b (terms ++ others) terms h (parts.of_disable b c h.below).0 (first_terms terms others h.profiles)

  pub disable_right : (b c : Behaviour) (terms others : List ProfiledTerm) → Stands (disable b c) (terms ++ others) → Stands c others
  disable_right b c terms others h =
      part (disable b c) c (terms ++ others) others h (parts.of_disable b c h.below).1 (second_terms terms others h.profiles)

  pub gate_part : (g : ℕ) (gates : List ℕ) (b : Behaviour) (terms : List ProfiledTerm) → Stands (choose_gate g gates b) terms
      → Stands b terms
  gate_part g gates b terms h = part (choose_gate g gates b) b terms terms h (parts.of_gates g gates b h.below) h.profiles

  pub par_part : (g : ℕ) (gates : List ℕ) (meet : SynchronisationSet) (b : Behaviour) (terms : List ProfiledTerm)
      → Stands (par_gate g gates meet b) terms → Stands b terms
  par_part g gates meet b terms h = part (par_gate g gates meet b) b terms terms h (parts.of_par g gates meet b h.below) h.profiles

  -- ---- Parts below binders.
  pub let_part : (bindings : List (code_variable.Variable × Sorted)) (b : Behaviour) (terms : List ProfiledTerm)
      (inner : List (ℕ × ProfiledTerm)) → Stands (let_be (map let_of bindings) b) (map let_profile bindings ++ terms)
      → bare_pairs inner
      ≡ binder_pairs basis.canon (let_variables (map let_of bindings)) (let_terms (map let_of bindings)) (bare_pairs pairs)
      ++ bare_pairs pairs
      → ArePairsOf basis.data_.signature inner
      → StandsAt basis (record { base = at.base; next = at.next; scope = let_variables (map let_of bindings) ++ at.scope }) b terms inner
  let_part bindings b terms inner h is values = record {
    below = subst (λ (ps : List (ℕ × Term)). IsWellFormedBelow basis.data_ basis.canon basis.specification
        (let_variables (map let_of bindings) ++ at.scope) ps at.base at.next b) (sym is) (parts.of_let (map let_of bindings) b h.below);
    values = values;
    profiles = second_terms (map let_profile bindings) terms h.profiles;
  }

  pub value_part : (first : ℕ) (x : code_variable.Variable) (b : Behaviour) (terms : List ProfiledTerm)
      (inner : List (ℕ × ProfiledTerm)) → first ≡ at.base + at.next → Stands (choose_value (variable_of x) b) terms
      → inner ≡ (x.number, profiled_variable first x.sort) ∷ pairs
      → StandsAt basis (record { base = at.base; next = suc at.next; scope = variable_of x ∷ at.scope }) b terms inner
  value_part first x b terms inner numbered h is =
      subst (λ (ps : List (ℕ × ProfiledTerm)).
      StandsAt basis (record { base = at.base; next = suc at.next; scope = variable_of x ∷ at.scope })
      b terms ps) (sym is)
      (record {
        below = subst (λ (n : ℕ). IsWellFormedBelow basis.data_ basis.canon basis.specification (variable_of x ∷ at.scope)
            ((x.number, variable n x.sort) ∷ bare_pairs pairs) at.base (suc at.next) b) (sym numbered)
            (parts.of_value (variable_of x) b h.below);
        values = (h.below.formed.0, h.values);
        profiles = h.profiles;
      })

  pub call_part : (number : ℕ) (gates : List ℕ) (arguments : List Term) (process : Process) (terms others : List ProfiledTerm)
      (inner : List (ℕ × ProfiledTerm)) → Stands (call number gates arguments) terms
      → slice_get basis.specification.processes number ≡ Some process
      → bare_pairs inner ≡ binder_pairs basis.canon process.parameters arguments (bare_pairs pairs)
      → ArePairsOf basis.data_.signature inner → OfSignature others
      → StandsAt basis (record { base = at.base; next = at.next; scope = process.parameters }) process.body others inner
  call_part number gates arguments process terms others inner h found is values k = record {
    below = subst (λ (ps : List (ℕ × Term)). IsWellFormedBelow basis.data_ basis.canon basis.specification process.parameters ps at.base
        at.next
        process.body) (sym is) (parts.of_call number gates arguments process h.below found);
    values = values;
    profiles = k;
  }
