-- The drafts of an action and of an `exit` under an environment.
use Rattle.std.specs.Prelude.{ℕ, List, [], map, ◌++◌, Option, None, Some, option_map}
use Rattle.lotos_base.specs.Signature.{Signature}
use Rattle.lotos_base.specs.Term.{Term}
use Rattle.lotos_base.specs.Substitution.{binding}
use Rattle.behaviour_semantics.specs.Draft as plain
use Rattle.behaviour_semantics.specs.Label.{gate_event, exit_event}
use Rattle.behaviour_semantics.specs.Rule.{tests_of}
use Rattle.behaviour_semantics.specs.Shape.{act, quit}
use Rattle.sort_terms.specs.ProfiledTerm.{ProfiledTerm, bare, IsOf}
use Rattle.sort_terms.specs.SortedView.{profiled_in}
use Rattle.term_match.specs.ProfiledInstance.{bare_pairs}
use Rattle.behaviour_tree.specs.BehaviourView.{test_of}
use Rattle.behaviour_tree.specs.declared.behaviours.Test.{Test}
use Rattle.behaviour_tree.specs.declared.behaviours.Offer.{Offer}
use Rattle.behaviour_tree.specs.declared.behaviours.ExitValue.{ExitValue}
use Rattle.draft_parts.specs.Offered.{asked_pairs, offered_at, open_leaves, results_at}

-- the terms of pairs
abbrev pub pair_terms : List (ℕ × ProfiledTerm) → List Term
pair_terms pairs = map (λ (pair : ℕ × ProfiledTerm). bare pair.1) pairs

-- The draft of an action: its test gets the leaves for the variables that are asked for, and the environment for the others.
abbrev pub acted : (Term → Term) → ℕ → List Offer → Option Test → List (ℕ × ProfiledTerm) → ℕ → plain.Draft
acted canon gate offers test pairs first = record {
  shape = act;
  label = gate_event gate (offered_at canon (binding (bare_pairs pairs)) first offers);
  leaves = pair_terms (asked_pairs first offers);
  conditions = tests_of (binding (bare_pairs (asked_pairs first offers ++ pairs))) (option_map test_of test);
}

-- The draft of an `exit`.
abbrev pub ended_with : (Term → Term) → List ExitValue → List (ℕ × ProfiledTerm) → ℕ → plain.Draft
ended_with canon results pairs first = record {
  shape = quit;
  label = exit_event (results_at canon (binding (bare_pairs pairs)) first results);
  leaves = map bare (open_leaves first results);
  conditions = [];
}

-- The two sides of the test are of the signature, if there is one.
abbrev pub HasTests : Signature → Option Test → Type 0
HasTests signature None = Unit {0}
HasTests signature (Some test) = IsOf signature (profiled_in test.left) × IsOf signature (profiled_in test.right)
