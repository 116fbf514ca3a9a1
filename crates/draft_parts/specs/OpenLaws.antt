-- The drafts of actions and of `exit` under an environment are those of their moves.
use Rattle.std.specs.Prelude.{◌≡◌, ◌≤◌, ◌+◌, ℕ, List, map, Option, Some, option_map}
use Rattle.lotos_base.specs.Signature.{Signature}
use Rattle.lotos_base.specs.Term.{Term, variable}
use Rattle.lotos_base.specs.Substitution.{binding}
use Rattle.behaviour_semantics.specs.Behaviour.{Behaviour, action, exit_with, Process, asked_variables}
use Rattle.behaviour_semantics.specs.Draft.{leaves_from, above_variables}
use Rattle.behaviour_semantics.specs.Move.{Move, act_move, quit_move}
use Rattle.behaviour_semantics.specs.Replacement.{with_values}
use Rattle.behaviour_semantics.specs.Shape.{act, quit}
use Rattle.sort_terms.specs.ProfiledTerm.{ProfiledTerm}
use Rattle.term_match.specs.ProfiledInstance.{bare_pairs}
use Rattle.behaviour_tree.specs.BehaviourView.{offer_of, exit_value_of, test_of}
use Rattle.behaviour_tree.specs.declared.behaviours.Test.{Test}
use Rattle.behaviour_tree.specs.declared.behaviours.Offer.{Offer}
use Rattle.behaviour_tree.specs.declared.behaviours.ExitValue.{ExitValue}
use Rattle.draft_parts.specs.EnvironmentLaws.{ArePairsFrom}
use Rattle.draft_parts.specs.DraftRules.{open_draft}
use Rattle.draft_parts.specs.OpenDrafts.{acted, ended_with}

-- the draft of an action is that of its move, where a variable is its own canon
abbrev pub ActionsHaveTheirDrafts : Type 0
ActionsHaveTheirDrafts =
    (signature : Signature) (canon : Term → Term) (processes : List Process) (base next g : ℕ) (offers : List Offer) (test : Option Test)
    (pairs : List (ℕ × ProfiledTerm)) (b : Behaviour) (m : Move) →
    ((n s : ℕ) → canon (variable n s) ≡ variable n s) →
    above_variables (asked_variables (map offer_of offers)) ≤ base →
    ArePairsFrom base (bare_pairs pairs) →
    act_move (record { signature = signature; represent = canon; processes = processes }) (leaves_from base) next
    (with_values (binding (bare_pairs pairs)) (action g (map offer_of offers) (option_map test_of test) b))
    ≡ Some m →
    acted canon g offers test pairs (base + next) ≡ open_draft base next (record { shape = act; move = m })

-- the draft of an `exit` is that of its move
abbrev pub ExitsHaveTheirDrafts : Type 0
ExitsHaveTheirDrafts =
    (signature : Signature) (canon : Term → Term) (processes : List Process) (base next : ℕ) (results : List ExitValue)
    (pairs : List (ℕ × ProfiledTerm)) (m : Move) →
    ((n s : ℕ) → canon (variable n s) ≡ variable n s) →
    quit_move (record { signature = signature; represent = canon; processes = processes }) (leaves_from base) next
    (with_values (binding (bare_pairs pairs)) (exit_with (map exit_value_of results)))
    ≡ Some m →
    ended_with canon results pairs (base + next) ≡ open_draft base next (record { shape = quit; move = m })
