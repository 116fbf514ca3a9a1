-- Worked cases on what is asked and on solving.
use Rattle.std.specs.Prelude.{◌≡◌, [], ◌∷◌, Some}
use Rattle.behaviour_semantics.specs.Behaviour.{Behaviour, Test, stop, action, guard, parallel, choose_value, give, ask, no_gates, at_gates, exit_with}
use Rattle.behaviour_semantics.specs.Label.{gate_event, exit_event}
use Rattle.behaviour_semantics.specs.Shape.{Shape, act, quit, guarded, both_sides, with_value}
use Rattle.lotos_base.specs.SmallData.{nought}
use Rattle.worked_cases.specs.BehaviourSamples.{nat_sort, one, two, truth, less, sample_plus, nat, nat_variable, gate_a, gate_b, gate_g, offering, event, sample_test}
use Rattle.worked_cases.specs.Showing.{HasMenu, Steps, gives, gives_nothing, draft, entry, sample_move, move}

-- `choice x:Nat [] [first] -> [second] -> g; stop`
abbrev pub guarded_twice : Test → Test → Behaviour
guarded_twice first second = choose_value (nat_variable 0) (guard first (guard second (event gate_g stop)))

abbrev pub twice_shape : Shape
twice_shape = with_value (guarded (guarded act))

-- `g ?x:Nat [x = 0]; stop |[g]| g ?y:Nat [y = Succ(0)]; stop`
abbrev pub asking_on_both_sides : Behaviour
asking_on_both_sides =
    parallel (at_gates (gate_g ∷ []))
    (action gate_g (ask (nat_variable 0) ∷ []) (Some (sample_test (nat 0) nought)) stop)
    (action gate_g (ask (nat_variable 1) ∷ []) (Some (sample_test (nat 1) one)) stop)

-- `a; b; stop |[a]| a; stop` and `exit ||| exit`
abbrev pub uneven_sides : Behaviour
uneven_sides = parallel (at_gates (gate_a ∷ [])) (event gate_a (event gate_b stop)) (event gate_a stop)

abbrev pub two_ends : Behaviour
two_ends = parallel no_gates (exit_with []) (exit_with [])

-- What is asked stands in order, a guard before what is below it and a side before the other, and then the values that
-- have to agree. Each side keeps its place in the target.
pub record SidesAndGuardsStandInOrder : Type 0 where
  pub guards :
      sample_move [] (guarded_twice (sample_test (nat 0) nought) (sample_test (nat 0) one)) twice_shape (one ∷ [])
      ≡ move (gate_event gate_g []) stop (sample_test one nought ∷ sample_test one one ∷ []) (nat_sort ∷ [])
  pub sides :
      sample_move [] asking_on_both_sides (both_sides act act) (one ∷ two ∷ [])
      ≡ move (gate_event gate_g (one ∷ [])) (parallel (at_gates (gate_g ∷ [])) stop stop)
      (sample_test one nought ∷ sample_test two one ∷ sample_test one two ∷ []) (nat_sort ∷ nat_sort ∷ [])
  pub places : Steps [] uneven_sides (both_sides act act) [] (gate_event gate_a [])
      (parallel (at_gates (gate_a ∷ [])) (event gate_b stop) stop)
  pub ended : Steps [] two_ends (both_sides quit quit) [] (exit_event []) (parallel no_gates stop stop)

-- `choice x:Nat [] [x = Succ(0)] -> g !x + x; stop`, the same without the offer and with the sides of the test turned,
-- and `choice x, y:Nat [] [x = y + y] -> [y = Succ(0)] -> g; stop`
abbrev pub giving_twice : Behaviour
giving_twice =
    choose_value (nat_variable 0) (guard (sample_test (nat 0) one) (offering gate_g (give (sample_plus (nat 0) (nat 0)) ∷ []) stop))

abbrev pub bare_right_side : Behaviour
bare_right_side = choose_value (nat_variable 0) (guard (sample_test one (nat 0)) (event gate_g stop))

abbrev pub one_after_the_other : Behaviour
one_after_the_other =
    choose_value (nat_variable 0)
    (choose_value (nat_variable 1)
    (guard (sample_test (nat 0) (sample_plus (nat 1) (nat 1))) (guard (sample_test (nat 1) one) (event gate_g stop))))

-- A closed condition counts wherever it stands, a condition that fixes a variable is used wherever it stands and with
-- either side bare, and what is replaced becomes canonical again, in the label and in the leaves.
pub record EachConditionIsTried : Type 0 where
  pub closed_later : HasMenu [] (guarded_twice (sample_test (less (nat 0) two) truth) (sample_test nought one)) (
      gives_nothing (draft twice_shape (gate_event gate_g []) (nat 0 ∷ [])
      (sample_test (less (nat 0) two) truth ∷ sample_test nought one ∷ []))
      ∷ []
      )
  pub replaced_later : HasMenu [] (guarded_twice (sample_test (less (nat 0) two) truth) (sample_test (nat 0) one)) (
      gives
      (draft twice_shape (gate_event gate_g []) (nat 0 ∷ []) (sample_test (less (nat 0) two) truth ∷ sample_test (nat 0) one ∷ []))
      (entry twice_shape (gate_event gate_g []) [] (one ∷ []) [])
      ∷ []
      )
  pub bare_right : HasMenu [] bare_right_side (
      gives
      (draft (with_value (guarded act)) (gate_event gate_g []) (nat 0 ∷ []) (sample_test one (nat 0) ∷ []))
      (entry (with_value (guarded act)) (gate_event gate_g []) [] (one ∷ []) [])
      ∷ []
      )
  pub canonical_label : HasMenu [] giving_twice (
      gives
      (draft (with_value (guarded act)) (gate_event gate_g (sample_plus (nat 0) (nat 0) ∷ [])) (nat 0 ∷ []) (sample_test (nat 0) one ∷ []))
      (entry (with_value (guarded act)) (gate_event gate_g (two ∷ [])) [] (one ∷ []) [])
      ∷ []
      )
  pub canonical_leaves : HasMenu [] one_after_the_other (
      gives
      (draft (with_value twice_shape) (gate_event gate_g []) (nat 0 ∷ nat 1 ∷ [])
      (sample_test (nat 0) (sample_plus (nat 1) (nat 1)) ∷ sample_test (nat 1) one ∷ []))
      (entry (with_value twice_shape) (gate_event gate_g []) [] (two ∷ one ∷ []) [])
      ∷ []
      )
