-- Worked cases on faults of derivations: what is wrong at one node, which node comes first, values that do not match, and
-- what is asked of labels.
use Rattle.std.specs.Prelude.{◌≡◌, ℕ, List, [], ◌∷◌, codes, Option, None, Some}
use Rattle.lotos_base.specs.Term.{Term}
use Rattle.behaviour_semantics.specs.Behaviour.{Behaviour, stop, exit_with, action, guard, choice, parallel, hide, enable, disable, relabel, let_be, choose_value, choose_gate, call, give, ask, exit_value, Process, no_gates, all_gates, at_gates}
use Rattle.behaviour_semantics.specs.Shape.{Shape, act, quit, guarded, left_side, right_side, both_sides, hidden, enabled, passed, let_bound, with_value, at_gate, called, relabelled}
use Rattle.behaviour_semantics.specs.Fault.{Wrong, not_fitting, bad_value, unmet, Fault, fault_of}
use Rattle.lotos_base.specs.SmallData.{nought}
use Rattle.worked_cases.specs.BehaviourSamples.{sample_data, sample_canon, sample_bool_sort, succ, one, two, truth, falsehood, less, sample_plus, nat, nat_variable, gate_a, gate_b, gate_g, gate_x, offering, event, sample_test}

-- The first fault of a shape with these leaves, over the sample data.
abbrev pub first_fault_of_shape : List Process → Behaviour → Shape → List Term → Option Fault
first_fault_of_shape processes b shape leaves = fault_of sample_data sample_canon processes b (record { shape = shape; leaves = leaves })

abbrev pub at : ℕ → Wrong → Option Fault
at node wrong = Some (record { node = node; wrong = wrong })

-- `g ?x ?y [x lt y]; stop`
abbrev pub in_order : Behaviour
in_order = action gate_g (ask (nat_variable 0) ∷ ask (nat_variable 1) ∷ []) (Some (sample_test (less (nat 0) (nat 1)) truth)) stop

-- At one node, leaves that are too few come first, then the first bad leaf, then the test. A leaf of another sort, one with
-- a variable and one that is no term are bad. The sides of a failing test are canonical, the left one first.
pub record OneNodeHasOneFault : Type 0 where
  pub none : first_fault_of_shape [] in_order act (nought ∷ one ∷ []) ≡ None
  pub another_variant : first_fault_of_shape [] in_order quit (nought ∷ one ∷ []) ≡ at 0 not_fitting
  pub no_leaves : first_fault_of_shape [] in_order act [] ≡ at 0 not_fitting
  pub too_few_before_bad : first_fault_of_shape [] in_order act (truth ∷ []) ≡ at 0 not_fitting
  pub bad_before_the_test : first_fault_of_shape [] in_order act (two ∷ truth ∷ []) ≡ at 0 (bad_value 1)
  pub first_bad_leaf : first_fault_of_shape [] in_order act (truth ∷ falsehood ∷ []) ≡ at 0 (bad_value 0)
  pub not_ground : first_fault_of_shape [] in_order act (nought ∷ nat 7 ∷ []) ≡ at 0 (bad_value 1)
  pub no_term : first_fault_of_shape [] in_order act (succ truth ∷ one ∷ []) ≡ at 0 (bad_value 0)
  pub failing : first_fault_of_shape [] in_order act (sample_plus one one ∷ one ∷ []) ≡ at 0 (unmet falsehood truth)
  pub left_over : first_fault_of_shape [] in_order act (nought ∷ one ∷ two ∷ []) ≡ at 1 not_fitting
  pub left_over_last : first_fault_of_shape [] in_order act (one ∷ nought ∷ two ∷ []) ≡ at 0 (unmet falsehood truth)

-- `[0 = Succ(0)] -> g ?x:Nat; stop`, `hide g in (stop [] g ?x:Nat; stop)`, `choice x:Nat [] g ?y:Nat; stop`,
-- `let x:Nat = 0 + Succ(0) in [x = Succ(Succ(0))] -> stop`, and `choice y in [a, b] [] y; stop`
abbrev pub asking_number : Behaviour
asking_number = offering gate_g (ask (nat_variable 0) ∷ []) stop

abbrev pub never_asking : Behaviour
never_asking = guard (sample_test nought one) asking_number

abbrev pub hidden_question : Behaviour
hidden_question = hide (gate_g ∷ []) (choice stop asking_number)

abbrev pub chosen_and_asked : Behaviour
chosen_and_asked = choose_value (nat_variable 0) (offering gate_g (ask (nat_variable 1) ∷ []) stop)

abbrev pub bound_and_compared : Behaviour
bound_and_compared = let_be ((nat_variable 0, sample_plus nought one) ∷ []) (guard (sample_test (nat 0) two) (event gate_g stop))

abbrev pub one_of_two_gates : Behaviour
one_of_two_gates = choose_gate gate_x (gate_a ∷ gate_b ∷ []) (event gate_x stop)

-- `g ?x:Nat; stop |[g]| g ?y:Nat; stop`
abbrev pub two_askers : Behaviour
two_askers = parallel (at_gates (gate_g ∷ [])) asking_number (offering gate_g (ask (nat_variable 1) ∷ []) stop)

-- `hide a in let x:Nat = 0 in [x = 0] -> choice y in [a, b] [] (stop [] (stop [> g ?x:Nat; stop)) || g ?x:Nat; stop`, and
-- `P || g; stop` where the body of `P` is `exit >> g; stop`, relabelled
abbrev pub numbered_through : Behaviour
numbered_through =
    parallel all_gates
    (hide (gate_a ∷ [])
    (let_be ((nat_variable 0, nought) ∷ [])
    (guard (sample_test (nat 0) nought) (choose_gate gate_x (gate_a ∷ gate_b ∷ []) (choice stop (disable stop asking_number))))))
    asking_number

abbrev pub deep_left : Shape
deep_left = hidden (let_bound (guarded (at_gate 1 (right_side (right_side act)))))

abbrev pub asking_process : Process
asking_process = record {
  name = codes "P";
  gates = [];
  parameters = [];
  exit = None;
  body = relabel ((gate_x, gate_a) ∷ []) (enable (exit_with []) [] (event gate_g stop));
}

abbrev pub called_and_asked : Behaviour
called_and_asked = parallel all_gates (call 0 [] []) (event gate_g stop)

-- The first node in preorder counts: a node before those below it, of which none is looked at then, and the left side
-- before the right one. Nodes and leaves are numbered through. No process and no third gate do not fit.
pub record EarlierNodesComeFirst : Type 0 where
  pub nothing_below : first_fault_of_shape [] never_asking (guarded act) (truth ∷ []) ≡ at 0 (unmet nought one)
  pub below : first_fault_of_shape [] hidden_question (hidden (right_side act)) (truth ∷ []) ≡ at 2 (bad_value 0)
  pub unsuited_above : first_fault_of_shape [] hidden_question (hidden (left_side act)) (truth ∷ []) ≡ at 2 not_fitting
  pub first_leaf : first_fault_of_shape [] chosen_and_asked (with_value act) (truth ∷ truth ∷ []) ≡ at 0 (bad_value 0)
  pub second_leaf : first_fault_of_shape [] chosen_and_asked (with_value act) (nought ∷ truth ∷ []) ≡ at 1 (bad_value 1)
  pub second_too_few : first_fault_of_shape [] chosen_and_asked (with_value act) (nought ∷ []) ≡ at 1 not_fitting
  pub first_too_few : first_fault_of_shape [] chosen_and_asked (with_value quit) [] ≡ at 0 not_fitting
  pub canonical : first_fault_of_shape [] bound_and_compared (let_bound (guarded act)) [] ≡ at 1 (unmet one two)
  pub third_gate : first_fault_of_shape [] one_of_two_gates (at_gate 2 quit) [] ≡ at 0 not_fitting
  pub second_gate : first_fault_of_shape [] one_of_two_gates (at_gate 1 quit) [] ≡ at 1 not_fitting
  pub no_process : first_fault_of_shape [] (call 0 [] []) (called act) [] ≡ at 0 not_fitting
  pub left_before_right : first_fault_of_shape [] two_askers (both_sides act quit) (truth ∷ one ∷ []) ≡ at 1 (bad_value 0)
  pub right : first_fault_of_shape [] two_askers (both_sides act quit) (one ∷ one ∷ []) ≡ at 2 not_fitting
  pub right_leaf : first_fault_of_shape [] two_askers (both_sides act act) (one ∷ truth ∷ []) ≡ at 2 (bad_value 1)
  pub right_too_few : first_fault_of_shape [] two_askers (both_sides act act) (one ∷ []) ≡ at 2 not_fitting
  pub left_over : first_fault_of_shape [] two_askers (both_sides act act) (one ∷ one ∷ one ∷ []) ≡ at 3 not_fitting
  pub left_over_last : first_fault_of_shape [] two_askers (both_sides act act) (one ∷ truth ∷ one ∷ []) ≡ at 2 (bad_value 1)
  pub nodes_count : first_fault_of_shape [] numbered_through (both_sides deep_left act) (one ∷ truth ∷ []) ≡ at 8 (bad_value 1)
  pub nodes_of_a_call : first_fault_of_shape (asking_process ∷ []) called_and_asked
      (both_sides (called (relabelled (enabled quit))) quit) []
      ≡ at 5 not_fitting

-- `g !t !u; stop || g !v !w; stop`
abbrev pub two_givers : Term → Term → Term → Term → Behaviour
two_givers t u v w = parallel all_gates (offering gate_g (give t ∷ give u ∷ []) stop) (offering gate_g (give v ∷ give w ∷ []) stop)

-- Of matched values the first pair that differs counts, at the node of both sides, the left value first.
pub record TheFirstPairThatDiffersCounts : Type 0 where
  pub none : first_fault_of_shape [] (two_givers nought one nought (sample_plus nought one)) (both_sides act act) [] ≡ None
  pub first_pair : first_fault_of_shape [] (two_givers nought one one two) (both_sides act act) [] ≡ at 0 (unmet nought one)
  pub second_pair : first_fault_of_shape [] (two_givers nought (sample_plus one one) nought one) (both_sides act act) []
      ≡ at 0 (unmet two one)
  pub another_sort : first_fault_of_shape [] (two_givers nought one one truth) (both_sides act act) [] ≡ at 0 not_fitting
  pub another_count : first_fault_of_shape [] (parallel all_gates (event gate_g stop) (offering gate_g (give one ∷ []) stop))
      (both_sides act act) [] ≡ at 0 not_fitting
  pub another_gate : first_fault_of_shape [] (parallel all_gates (event gate_g stop) (event gate_a stop)) (both_sides act act) []
      ≡ at 0 not_fitting
  pub no_common_gate : first_fault_of_shape [] (parallel no_gates (event gate_g stop) (event gate_g stop)) (both_sides act act) []
      ≡ at 0 not_fitting
  pub asked_values : first_fault_of_shape [] two_askers (both_sides act act) (one ∷ two ∷ []) ≡ at 0 (unmet one two)

-- `exit(0) >> accept b:Bool in stop`, and `[0 = 1] -> exit(0) >> accept x:Nat in stop`
abbrev pub another_value_passed : Behaviour
another_value_passed =
    enable (exit_with (exit_value nought ∷ [])) (record { name = codes "b"; number = 0; sort = sample_bool_sort } ∷ []) stop

abbrev pub never_passed : Behaviour
never_passed = enable (guard (sample_test nought one) (exit_with (exit_value nought ∷ []))) (nat_variable 0 ∷ []) stop

-- What a node asks of the label below it is looked at only where no node below it has a fault.
pub record LabelsAreLookedAtLast : Type 0 where
  pub alone_at_a_common_gate : first_fault_of_shape [] two_askers (left_side act) (one ∷ []) ≡ at 0 not_fitting
  pub below_before : first_fault_of_shape [] two_askers (left_side act) (truth ∷ []) ≡ at 1 (bad_value 0)
  pub right_alone : first_fault_of_shape [] two_askers (right_side act) (one ∷ []) ≡ at 0 not_fitting
  pub ended_with_another_sort : first_fault_of_shape [] another_value_passed (enabled quit) [] ≡ at 0 not_fitting
  pub not_passed : first_fault_of_shape [] another_value_passed (passed quit) [] ≡ at 0 not_fitting
  pub not_ended : first_fault_of_shape [] (enable (event gate_g stop) [] stop) (enabled act) [] ≡ at 0 not_fitting
  pub passed_on : first_fault_of_shape [] (enable (event gate_g stop) [] stop) (passed act) [] ≡ None
  pub below_before_passing : first_fault_of_shape [] never_passed (passed (guarded quit)) [] ≡ at 1 (unmet nought one)
  pub ended_alone : first_fault_of_shape [] (parallel no_gates (exit_with []) stop) (left_side quit) [] ≡ at 0 not_fitting
