-- Worked cases on the order of shapes and on guardedness.
use Rattle.std.specs.Prelude.{◌≡◌, ℕ, [], ◌∷◌, codes, None}
use Rattle.behaviour_semantics.specs.Behaviour.{Behaviour, stop, inner_action, choice, enable, call, Process}
use Rattle.behaviour_semantics.specs.Shape.{act, quit, guarded, left_side, right_side, both_sides, hidden, enabled, passed, at_gate, called, Before}
use Rattle.behaviour_semantics.specs.Label.{gate_event}
use Rattle.behaviour_semantics.specs.Guardedness.{unguarded_calls, HasEdge, IsCycle, IsGuarded}
use Rattle.behaviour_semantics.specs.Listing.{listed_drafts}
use Rattle.worked_cases.specs.BehaviourSamples.{sample_data, sample_canon, gate_a, gate_b, event}
use Rattle.worked_cases.specs.Showing.{HasMenu, event_line}

-- Left comes before right, right before both, and gates go by position; below, the first difference counts, and an
-- ending left side of `>>` and one that goes on make none.
pub record ShapesStandInOrder : Type 0 where
  pub left_first : Before (left_side act) (right_side act)
  pub right_next : Before (right_side act) (both_sides act act)
  pub left_before_both : Before (left_side quit) (both_sides act act)
  pub by_position : Before (at_gate 0 act) (at_gate 1 act)
  pub left_shape_counts : Before (both_sides (left_side act) (right_side act)) (both_sides (right_side act) (left_side act))
  pub then_right_shape : Before (both_sides act (left_side act)) (both_sides act (right_side act))
  pub one_variant : Before (enabled (left_side quit)) (passed (right_side act))
  pub or_turned : Before (passed (left_side act)) (enabled (right_side quit))
  pub agreeing_left_shapes : Before (both_sides (enabled act) (left_side act)) (both_sides (passed act) (right_side act))
  pub no_order_of_forms : Before (guarded act) (hidden act) → ⊥
  pub not_right_first : Before (right_side act) (left_side act) → ⊥
  pub not_both_first : Before (both_sides act act) (right_side act) → ⊥
  pub not_from_the_last : Before (at_gate 1 act) (at_gate 0 act) → ⊥

-- A process without formal gates and parameters.
abbrev pub process_with_body : Behaviour → Process
process_with_body body = record { name = codes "P"; gates = []; parameters = []; exit = None; body = body }

abbrev pub again : Behaviour
again = call 0 [] []

-- `P := P [] a; stop`, `P := a; P` and `P := a; stop >> P`
abbrev pub at_once : Process
at_once = process_with_body (choice again (event gate_a stop))

abbrev pub after_an_action : Process
after_an_action = process_with_body (event gate_a again)

abbrev pub after_enabling : Process
after_enabling = process_with_body (enable (event gate_a stop) [] again)

-- `P := Q [] a; P` and `Q := b; P`
abbrev pub first_process_of_two : Process
first_process_of_two = process_with_body (choice (call 1 [] []) (event gate_a (call 0 [] [])))

abbrev pub second_of_two : Process
second_of_two = process_with_body (event gate_b (call 0 [] []))

-- An unguarded call makes an edge, and edges alone make no cycle. Calls are listed in the order of the text.
pub record EdgesNeedNotMakeACycle : Type 0 where
  pub edge : HasEdge (first_process_of_two ∷ second_of_two ∷ []) 0 1
  pub guarded : IsGuarded (first_process_of_two ∷ second_of_two ∷ [])
  pub in_text_order : unguarded_calls (choice (call 0 [] []) (call 1 [] [])) ≡ 0 ∷ 1 ∷ []

-- A call below an action and on the right of `>>` is guarded, and one beside them is not. Where calls are guarded there
-- is a menu; the moves of a process that calls itself unguarded cannot be listed, however deep.
pub record CallsAreGuardedByActions : Type 0 where
  pub unguarded : unguarded_calls at_once.body ≡ 0 ∷ []
  pub cycle : IsCycle (at_once ∷ []) 0 (0 ∷ [])
  pub below : unguarded_calls after_an_action.body ≡ []
  pub below_inner : unguarded_calls (inner_action again) ≡ []
  pub behind : unguarded_calls after_enabling.body ≡ []
  pub on_the_left : unguarded_calls (enable again [] stop) ≡ 0 ∷ []
  pub guarded : IsGuarded (after_an_action ∷ after_enabling ∷ [])
  pub menu : HasMenu (after_an_action ∷ []) again (event_line (called act) (gate_event gate_a []) ∷ [])
  pub no_list : (depth : ℕ) → listed_drafts sample_data sample_canon (at_once ∷ []) depth again ≡ None
