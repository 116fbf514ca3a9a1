-- Which variants of shapes fit a form of behaviour.
use Rattle.std.proofs.Common.{◌≡◌, ◌⊎◌, inl, inr, ℕ, List, Some, refl}
use Rattle.lotos_base.specs.Term.{Term}
use Rattle.lotos_base.specs.Equation.{Data, Variable}
use Rattle.behaviour_semantics.specs.Behaviour.{Behaviour, stop, guard, choice, parallel, hide, enable, disable, let_be, choose_gate, call, relabel, Test, SynchronisationSet, Process, Relabelling}
use Rattle.behaviour_semantics.specs.Shape.{Shape, act, guarded, left_side, right_side, both_sides, hidden, enabled, passed, let_bound, at_gate, called, relabelled}
use Rattle.behaviour_semantics.specs.Draft.{Draft, draft_of}
use Rattle.shared_entries.proofs.Shares.{IsBelow}

-- The shape is one of both sides.
abbrev pub IsOfBoth : Shape → Type 0
IsOfBoth s = (l : Shape) × (r : Shape) × (s ≡ both_sides l r)

-- The shape is one at some gate.
abbrev pub IsAtGate : Shape → Type 0
IsAtGate s = (k : ℕ) × (t : Shape) × (s ≡ at_gate k t)

module _ (data_ : Data) (canon : Term → Term) (processes : List Process) where
  pub in_stop : (s : Shape) (draft : Draft) → draft_of data_ canon processes s stop ≡ Some draft → ⊥
  in_stop act draft e = absurd (cc e)
  in_stop _ draft e = absurd (cc e)

  pub in_guard : (test : Test) (b : Behaviour) (s : Shape) (draft : Draft) → draft_of data_ canon processes s (guard test b) ≡ Some draft
      → IsBelow guarded s
  in_guard test b (guarded s) draft e = (s, refl)
  in_guard test b _ draft e = absurd (cc e)

  pub in_choice : (b c : Behaviour) (s : Shape) (draft : Draft) → draft_of data_ canon processes s (choice b c) ≡ Some draft
      → IsBelow left_side s ⊎ IsBelow right_side s
  in_choice b c (left_side s) draft e = inl (s, refl)
  in_choice b c (right_side s) draft e = inr (s, refl)
  in_choice b c _ draft e = absurd (cc e)

  pub in_disable : (b c : Behaviour) (s : Shape) (draft : Draft) → draft_of data_ canon processes s (disable b c) ≡ Some draft
      → IsBelow left_side s ⊎ IsBelow right_side s
  in_disable b c (left_side s) draft e = inl (s, refl)
  in_disable b c (right_side s) draft e = inr (s, refl)
  in_disable b c _ draft e = absurd (cc e)

  pub in_parallel : (meet : SynchronisationSet) (b c : Behaviour) (s : Shape) (draft : Draft)
      → draft_of data_ canon processes s (parallel meet b c) ≡ Some draft
      → IsBelow left_side s ⊎ (IsBelow right_side s ⊎ IsOfBoth s)
  in_parallel meet b c (left_side s) draft e = inl (s, refl)
  in_parallel meet b c (right_side s) draft e = inr (inl (s, refl))
  in_parallel meet b c (both_sides s t) draft e = inr (inr (s, t, refl))
  in_parallel meet b c _ draft e = absurd (cc e)

  pub in_hide : (gates : List ℕ) (b : Behaviour) (s : Shape) (draft : Draft) → draft_of data_ canon processes s (hide gates b) ≡ Some draft
      → IsBelow hidden s
  in_hide gates b (hidden s) draft e = (s, refl)
  in_hide gates b _ draft e = absurd (cc e)

  pub in_enable : (b : Behaviour) (variables : List Variable) (c : Behaviour) (s : Shape) (draft : Draft)
      → draft_of data_ canon processes s (enable b variables c) ≡ Some draft → IsBelow enabled s ⊎ IsBelow passed s
  in_enable b variables c (enabled s) draft e = inl (s, refl)
  in_enable b variables c (passed s) draft e = inr (s, refl)
  in_enable b variables c _ draft e = absurd (cc e)

  pub in_let : (bindings : List (Variable × Term)) (b : Behaviour) (s : Shape) (draft : Draft)
      → draft_of data_ canon processes s (let_be bindings b) ≡ Some draft → IsBelow let_bound s
  in_let bindings b (let_bound s) draft e = (s, refl)
  in_let bindings b _ draft e = absurd (cc e)

  pub in_gates : (g : ℕ) (gates : List ℕ) (b : Behaviour) (s : Shape) (draft : Draft)
      → draft_of data_ canon processes s (choose_gate g gates b) ≡ Some draft → IsAtGate s
  in_gates g gates b (at_gate k s) draft e = (k, s, refl)
  in_gates g gates b _ draft e = absurd (cc e)

  pub in_call : (number : ℕ) (gates : List ℕ) (arguments : List Term) (s : Shape) (draft : Draft)
      → draft_of data_ canon processes s (call number gates arguments) ≡ Some draft → IsBelow called s
  in_call number gates arguments (called s) draft e = (s, refl)
  in_call number gates arguments _ draft e = absurd (cc e)

  pub in_relabel : (pairs : Relabelling) (b : Behaviour) (s : Shape) (draft : Draft)
      → draft_of data_ canon processes s (relabel pairs b) ≡ Some draft → IsBelow relabelled s
  in_relabel pairs b (relabelled s) draft e = (s, refl)
  in_relabel pairs b _ draft e = absurd (cc e)
