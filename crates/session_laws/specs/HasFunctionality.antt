-- When a behaviour has a functionality: the sorts of the values with which it ends, or None for `noexit` (ISO 8807:1989, functionality
-- of behaviour expressions).
use Rattle.std.specs.Prelude.{◌≡◌, ◌⊎◌, ℕ, List, [], ◌∷◌, Option, None, Some, slice_get}
use Rattle.lotos_base.specs.Signature.{Signature}
use Rattle.lotos_base.specs.Sorting.{HasSort}
use Rattle.lotos_base.specs.Term.{Term}
use Rattle.lotos_base.specs.Equation.{Variable}
use Rattle.behaviour_semantics.specs.Behaviour.{Behaviour, stop, exit_with, action, inner_action, guard, choice, parallel, hide, enable, disable, let_be, choose_value, choose_gate, par_gate, call, relabel, Test, Offer, ExitValue, exit_value, any_of, SynchronisationSet, Relabelling, Process, Specification, sorts_of}
use Rattle.behaviour_semantics.specs.WellFormed.{Every}

-- the values of an `exit` have these sorts, one by one
abbrev pub HaveExitSorts : Signature → List ExitValue → List ℕ → Type 0
HaveExitSorts signature [] [] = Unit {0}
HaveExitSorts signature (exit_value t ∷ results) (s ∷ sorts) = HasSort signature t s × HaveExitSorts signature results sorts
HaveExitSorts signature (any_of r ∷ results) (s ∷ sorts) = (r ≡ s) × HaveExitSorts signature results sorts
HaveExitSorts signature _ _ = ⊥

-- Of two behaviours one ends, as with `[]` and `[>`: a side with `noexit` says nothing, and two sides that end do so with the same
-- sorts.
pub data EitherEnds : Option (List ℕ) → Option (List ℕ) → Option (List ℕ) → Type 0 where
  left_never : {right : Option (List ℕ)} → EitherEnds None right right
  right_never : {sorts : List ℕ} → EitherEnds (Some sorts) None (Some sorts)
  ends_alike : {sorts : List ℕ} → EitherEnds (Some sorts) (Some sorts) (Some sorts)

-- Two behaviours end together, as in a parallel: where one side has `noexit`, neither ends.
pub data BothEnd : Option (List ℕ) → Option (List ℕ) → Option (List ℕ) → Type 0 where
  left_keeps : {right : Option (List ℕ)} → BothEnd None right None
  right_keeps : {sorts : List ℕ} → BothEnd (Some sorts) None None
  both_alike : {sorts : List ℕ} → BothEnd (Some sorts) (Some sorts) (Some sorts)

-- The left side of `>>` ends with values for all that the right side accepts, or never.
pub data HandsOver : Option (List ℕ) → List ℕ → Type 0 where
  never_over : {sorts : List ℕ} → HandsOver None sorts
  over_with : {sorts : List ℕ} → HandsOver (Some sorts) sorts

pub data HasFunctionality (signature : Signature) (processes : List Process) : Behaviour → Option (List ℕ) → Type 0 where
  of_stop : HasFunctionality signature processes stop None
  of_exit : {results : List ExitValue} {sorts : List ℕ} → HaveExitSorts signature results sorts →
      HasFunctionality signature processes (exit_with results) (Some sorts)
  of_action : {g : ℕ} {offers : List Offer} {test : Option Test} {b : Behaviour} {f : Option (List ℕ)} →
      HasFunctionality signature processes b f → HasFunctionality signature processes (action g offers test b) f
  of_inner : {b : Behaviour} {f : Option (List ℕ)} →
      HasFunctionality signature processes b f → HasFunctionality signature processes (inner_action b) f
  of_guard : {test : Test} {b : Behaviour} {f : Option (List ℕ)} →
      HasFunctionality signature processes b f → HasFunctionality signature processes (guard test b) f
  of_choice : {b c : Behaviour} {left right f : Option (List ℕ)} →
      HasFunctionality signature processes b left → HasFunctionality signature processes c right → EitherEnds left right f →
      HasFunctionality signature processes (choice b c) f
  of_parallel : {meet : SynchronisationSet} {b c : Behaviour} {left right f : Option (List ℕ)} →
      HasFunctionality signature processes b left → HasFunctionality signature processes c right → BothEnd left right f →
      HasFunctionality signature processes (parallel meet b c) f
  of_hide : {gates : List ℕ} {b : Behaviour} {f : Option (List ℕ)} →
      HasFunctionality signature processes b f → HasFunctionality signature processes (hide gates b) f
  of_enable : {variables : List Variable} {b c : Behaviour} {left f : Option (List ℕ)} →
      HasFunctionality signature processes b left → HandsOver left (sorts_of variables) → HasFunctionality signature processes c f →
      HasFunctionality signature processes (enable b variables c) f
  of_disable : {b c : Behaviour} {left right f : Option (List ℕ)} →
      HasFunctionality signature processes b left → HasFunctionality signature processes c right → EitherEnds left right f →
      HasFunctionality signature processes (disable b c) f
  of_let : {bindings : List (Variable × Term)} {b : Behaviour} {f : Option (List ℕ)} →
      HasFunctionality signature processes b f → HasFunctionality signature processes (let_be bindings b) f
  of_value : {x : Variable} {b : Behaviour} {f : Option (List ℕ)} →
      HasFunctionality signature processes b f → HasFunctionality signature processes (choose_value x b) f
  of_gate : {g : ℕ} {gates : List ℕ} {b : Behaviour} {f : Option (List ℕ)} →
      HasFunctionality signature processes b f → HasFunctionality signature processes (choose_gate g gates b) f
  of_par : {g : ℕ} {gates : List ℕ} {meet : SynchronisationSet} {b : Behaviour} {f : Option (List ℕ)} →
      HasFunctionality signature processes b f → HasFunctionality signature processes (par_gate g gates meet b) f
  -- a call has the functionality that its process declares
  of_call : {number : ℕ} {gates : List ℕ} {arguments : List Term} (process : Process) {f : Option (List ℕ)} →
      slice_get processes number ≡ Some process → process.exit ≡ f →
      HasFunctionality signature processes (call number gates arguments) f
  of_relabel : {pairs : Relabelling} {b : Behaviour} {f : Option (List ℕ)} →
      HasFunctionality signature processes b f → HasFunctionality signature processes (relabel pairs b) f

-- the one functionality is `noexit` or the other one
abbrev pub IsDeclaredOrNone : Option (List ℕ) → Option (List ℕ) → Type 0
IsDeclaredOrNone f declared = (f ≡ None) ⊎ (f ≡ declared)

-- the behaviour has a functionality, which is `noexit` or this one
pub record EndsWithin (signature : Signature) (processes : List Process) (b : Behaviour) (declared : Option (List ℕ)) : Type 0 where
  pub found : Option (List ℕ)
  pub has : HasFunctionality signature processes b found
  pub within : IsDeclaredOrNone found declared

-- The body of each definition ends as it is declared, or never.
pub record AllAgree (signature : Signature) (specification : Specification) : Type 0 where
  pub whole : EndsWithin signature specification.processes specification.body specification.exit
  pub each : Every (λ (p : Process). EndsWithin signature specification.processes p.body p.exit) specification.processes
