-- Worked cases on offers, tests and values: equal labels, predicates, matches, choices of values, and conditions.
use Rattle.std.specs.Prelude.{◌≡◌, List, [], ◌∷◌, codes, Some}
use Rattle.lotos_base.specs.Term.{Term, variable}
use Rattle.behaviour_semantics.specs.Behaviour.{Behaviour, stop, exit_with, action, guard, choice, parallel, enable, let_be, choose_value, give, ask, exit_value, at_gates}
use Rattle.behaviour_semantics.specs.Label.{Label, inner_event, gate_event}
use Rattle.behaviour_semantics.specs.Shape.{Shape, act, quit, guarded, left_side, right_side, both_sides, enabled, let_bound, with_value}
use Rattle.behaviour_semantics.specs.Draft.{Draft}
use Rattle.behaviour_semantics.specs.Menu.{Meets}
use Rattle.behaviour_semantics.specs.Solving.{Entry, SolvesTo}
use Rattle.behaviour_semantics.specs.Transition.{Transition}
use Rattle.lotos_base.specs.SmallData.{nought}
use Rattle.worked_cases.specs.BehaviourSamples.{nat_sort, empty_sort, succ, one, two, truth, less, sample_plus, nat, nat_variable, gate_g, gate_h, offering, sample_test, sample_data, sample_canon}
use Rattle.worked_cases.specs.Showing.{FittingShape, HasMenu, Steps, gives, gives_nothing, as_it_is, event_line, sample_move, draft, entry, move}

-- `g !0; stop [] (g ?x:Nat; stop [] g !0; stop)`
abbrev pub equal_labels : Behaviour
equal_labels =
    choice (offering gate_g (give nought ∷ []) stop)
    (choice (offering gate_g (ask (nat_variable 0) ∷ []) stop) (offering gate_g (give nought ∷ []) stop))

-- Equal labels of two shapes are two entries, and a third one has a variable.
pub record EqualLabelsAreTwoEntries : Type 0 where
  pub menu : HasMenu [] equal_labels (
      event_line (left_side act) (gate_event gate_g (nought ∷ []))
      ∷ as_it_is (right_side (left_side act)) (gate_event gate_g (nat 0 ∷ [])) (nat_sort ∷ []) (nat 0 ∷ []) []
      ∷ event_line (right_side (right_side act)) (gate_event gate_g (nought ∷ []))
      ∷ []
      )
  pub step : Steps [] equal_labels (right_side (left_side act)) (one ∷ []) (gate_event gate_g (one ∷ [])) stop

-- `g ?x:Nat [x lt Succ(Succ(0))]; h !x; stop`, and what it becomes with 1
abbrev pub below_two : Behaviour
below_two =
    action gate_g (ask (nat_variable 0) ∷ []) (Some (sample_test (less (nat 0) two) truth)) (offering gate_h (give (nat 0) ∷ []) stop)

abbrev pub with_one : Behaviour
with_one = offering gate_h (give one ∷ []) stop

abbrev pub below_two_entry : Entry
below_two_entry = entry act (gate_event gate_g (nat 0 ∷ [])) (nat_sort ∷ []) (nat 0 ∷ []) (sample_test (less (nat 0) two) truth ∷ [])

-- A selection predicate is kept as a condition, which 1 meets and 2 does not, and is asked of the chosen value, which
-- the rest then has.
pub record APredicateIsKept : Type 0 where
  pub menu : HasMenu [] below_two
      (gives (draft act (gate_event gate_g (nat 0 ∷ [])) (nat 0 ∷ []) (sample_test (less (nat 0) two) truth ∷ []))
      below_two_entry ∷ [])
  pub one_meets : Meets sample_data below_two_entry (one ∷ [])
  pub two_does_not : Meets sample_data below_two_entry (two ∷ []) → ⊥
  pub step : Steps [] below_two act (one ∷ []) (gate_event gate_g (one ∷ [])) with_one
  pub no_step : (label : Label) (target : Behaviour) → Steps [] below_two act (two ∷ []) label target → ⊥
  pub next : HasMenu [] with_one (event_line act (gate_event gate_h (one ∷ [])) ∷ [])

-- `g ?x:Nat; stop |[g]| g !Succ(0) + 0; stop`
abbrev pub matched : Behaviour
matched = parallel (at_gates (gate_g ∷ [])) (offering gate_g (ask (nat_variable 0) ∷ []) stop)
    (offering gate_g (give (sample_plus one nought) ∷ []) stop)

-- A match gives the variable its value, in canonical form. Neither side moves alone.
pub record AMatchGivesTheValue : Type 0 where
  pub menu : HasMenu [] matched (
      gives (draft (both_sides act act) (gate_event gate_g (nat 0 ∷ [])) (nat 0 ∷ []) (sample_test (nat 0) one ∷ []))
      (entry (both_sides act act) (gate_event gate_g (one ∷ [])) [] (one ∷ []) [])
      ∷ []
      )
  pub step : Steps [] matched (both_sides act act) (one ∷ []) (gate_event gate_g (one ∷ [])) (parallel (at_gates (gate_g ∷ [])) stop stop)

-- `g ?x:Nat [x = 0]; stop |[g]| g !Succ(0) + 0; stop`
abbrev pub mismatched : Behaviour
mismatched =
    parallel (at_gates (gate_g ∷ []))
    (action gate_g (ask (nat_variable 0) ∷ []) (Some (sample_test (nat 0) nought)) stop)
    (offering gate_g (give (sample_plus one nought) ∷ []) stop)

abbrev pub mismatched_lines : List FittingShape
mismatched_lines =
    gives_nothing (draft (both_sides act act) (gate_event gate_g (nat 0 ∷ [])) (nat 0 ∷ [])
    (sample_test (nat 0) nought ∷ sample_test (nat 0) one ∷ []))
    ∷ []

-- A selection predicate is still asked after a match has given its variable a value. Here nothing meets both.
pub record APredicateOutlivesAMatch : Type 0 where
  pub menu : HasMenu [] mismatched mismatched_lines
  pub asked :
      sample_move [] mismatched (both_sides act act) (one ∷ [])
      ≡ move (gate_event gate_g (one ∷ [])) (parallel (at_gates (gate_g ∷ [])) stop stop)
      (sample_test one nought ∷ sample_test one (sample_plus one nought) ∷ []) (nat_sort ∷ [])
  pub no_transition : (label : Label) (target : Behaviour) → Transition sample_data [] mismatched label target → ⊥

-- `choice x:E [] g !x; stop` over a sort without terms
abbrev pub over_nothing : Behaviour
over_nothing = choose_value (record { name = codes "x"; number = 0; sort = empty_sort })
    (offering gate_g (give (variable 0 empty_sort) ∷ []) stop)

abbrev pub over_nothing_entry : Entry
over_nothing_entry = entry (with_value act) (gate_event gate_g (variable 0 empty_sort ∷ [])) (empty_sort ∷ []) (variable 0 empty_sort ∷ [])
    []

abbrev pub over_nothing_lines : List FittingShape
over_nothing_lines =
    gives (draft (with_value act) (gate_event gate_g (variable 0 empty_sort ∷ [])) (variable 0 empty_sort ∷ []) []) over_nothing_entry
    ∷ []

-- A value choice over an empty sort has an entry, and the entry has no instance.
pub record AnEmptyChoiceHasNoInstance : Type 0 where
  pub menu : HasMenu [] over_nothing over_nothing_lines
  pub no_instance : (values : List Term) → Meets sample_data over_nothing_entry values → ⊥
  pub no_transition : (label : Label) (target : Behaviour) → Transition sample_data [] over_nothing label target → ⊥

-- `(choice y:Nat [] g !y !Succ(y); stop) |[g]| (choice z:Nat [] g !Succ(z) !z; stop)`
abbrev pub chasing : Behaviour
chasing =
    parallel (at_gates (gate_g ∷ []))
    (choose_value (nat_variable 0) (offering gate_g (give (nat 0) ∷ give (succ (nat 0)) ∷ []) stop))
    (choose_value (nat_variable 1) (offering gate_g (give (succ (nat 1)) ∷ give (nat 1) ∷ []) stop))

abbrev pub chasing_entry : Entry
chasing_entry =
    entry (both_sides (with_value act) (with_value act)) (gate_event gate_g (succ (nat 0) ∷ succ (succ (nat 0)) ∷ [])) (nat_sort ∷ [])
    (succ (nat 0) ∷ nat 0 ∷ [])
    (sample_test (succ (succ (nat 0))) (nat 0) ∷ [])

abbrev pub chasing_lines : List FittingShape
chasing_lines =
    gives
    (draft (both_sides (with_value act) (with_value act)) (gate_event gate_g (nat 0 ∷ succ (nat 0) ∷ [])) (nat 0 ∷ nat 1 ∷ [])
    (sample_test (nat 0) (succ (nat 1)) ∷ sample_test (succ (nat 0)) (nat 1) ∷ []))
    chasing_entry
    ∷ []

-- the draft of this entry, whose variable is a leaf at another number
abbrev pub solved_before : Draft
solved_before =
    draft (both_sides (with_value act) (with_value act)) (gate_event gate_g (succ (nat 0) ∷ succ (succ (nat 0)) ∷ []))
    (succ (nat 0) ∷ nat 0 ∷ [])
    (sample_test (succ (succ (nat 0))) (nat 0) ∷ [])

-- A condition that nobody meets is kept where it is not closed. Solving what is solved changes nothing.
pub record AnUnsolvableConditionIsKept : Type 0 where
  pub menu : HasMenu [] chasing chasing_lines
  pub again : SolvesTo sample_canon solved_before (Some chasing_entry)
  pub no_instance : (values : List Term) → Meets sample_data chasing_entry values → ⊥
  pub asked :
      sample_move [] chasing (both_sides (with_value act) (with_value act)) (one ∷ nought ∷ [])
      ≡ move (gate_event gate_g (one ∷ two ∷ [])) (parallel (at_gates (gate_g ∷ [])) stop stop)
      (sample_test one one ∷ sample_test two nought ∷ [])
      (nat_sort ∷ nat_sort ∷ [])
  pub no_transition : (label : Label) (target : Behaviour) → Transition sample_data [] chasing label target → ⊥

-- `(choice x:Nat [] choice z:Nat [] g !x !Succ(z); stop) |[g]| (choice y:Nat [] choice w:Nat [] g !y !Succ(w); stop)`
abbrev pub two_bare : Behaviour
two_bare =
    parallel (at_gates (gate_g ∷ []))
    (choose_value (nat_variable 0) (choose_value (nat_variable 1) (offering gate_g (give (nat 0) ∷ give (succ (nat 1)) ∷ []) stop)))
    (choose_value (nat_variable 2) (choose_value (nat_variable 3) (offering gate_g (give (nat 2) ∷ give (succ (nat 3)) ∷ []) stop)))

abbrev pub two_bare_shape : Shape
two_bare_shape = both_sides (with_value (with_value act)) (with_value (with_value act))

-- Of two bare variables the later is replaced by the earlier, and those that are left are numbered by their leaves.
pub record TheEarlierVariableStays : Type 0 where
  pub menu : HasMenu [] two_bare (
      gives
      (draft two_bare_shape (gate_event gate_g (nat 0 ∷ succ (nat 1) ∷ [])) (nat 0 ∷ nat 1 ∷ nat 2 ∷ nat 3 ∷ [])
      (sample_test (nat 0) (nat 2) ∷ sample_test (succ (nat 1)) (succ (nat 3)) ∷ []))
      (entry two_bare_shape (gate_event gate_g (nat 0 ∷ succ (nat 1) ∷ [])) (nat_sort ∷ nat_sort ∷ nat_sort ∷ [])
      (nat 0 ∷ nat 1 ∷ nat 0 ∷ nat 2 ∷ [])
      (sample_test (succ (nat 1)) (succ (nat 2)) ∷ []))
      ∷ []
      )

-- `let x:Nat = Succ(0) in g !x + x; stop`; `choice y:Nat [] [y = 0] -> g !y; stop`; `let x:Nat = Succ(0) in g ?x:Nat !x; h !x; stop`,
-- where both x have one number
abbrev pub bound_by_let : Behaviour
bound_by_let = let_be ((nat_variable 0, one) ∷ []) (offering gate_g (give (sample_plus (nat 0) (nat 0)) ∷ []) stop)

abbrev pub guarded_choice : Behaviour
guarded_choice = choose_value (nat_variable 0) (guard (sample_test (nat 0) nought) (offering gate_g (give (nat 0) ∷ []) stop))

abbrev pub bound_twice : Behaviour
bound_twice = let_be ((nat_variable 0, one) ∷ []) (offering gate_g (ask (nat_variable 0) ∷ give (nat 0) ∷ [])
    (offering gate_h (give (nat 0) ∷ []) stop))

-- `let x:Nat = Succ(0) in (exit(Succ(Succ(0))) >> accept x:Nat in g !x; stop)`; `let x:Nat = Succ(0) in choice x:Nat [] g !x; stop`
abbrev pub accepted_again : Behaviour
accepted_again = let_be ((nat_variable 0, one) ∷ []) (enable (exit_with (exit_value two ∷ [])) (nat_variable 0 ∷ [])
    (offering gate_g (give (nat 0) ∷ []) stop))

abbrev pub chosen_again : Behaviour
chosen_again = let_be ((nat_variable 0, one) ∷ []) (choose_value (nat_variable 0) (offering gate_g (give (nat 0) ∷ []) stop))

-- A `let` binds in its body; a guard binds nothing, but it may fix the value of a choice; and `?x` binds in the behaviour after its action,
-- but not in the other offers of that action. An inner `accept`, and an inner choice, hides a name of its number.
pub record ValuesAreBound : Type 0 where
  pub let_menu : HasMenu [] bound_by_let (event_line (let_bound act) (gate_event gate_g (two ∷ [])) ∷ [])
  pub guard_menu : HasMenu [] guarded_choice (
      gives (draft (with_value (guarded act)) (gate_event gate_g (nat 0 ∷ [])) (nat 0 ∷ []) (sample_test (nat 0) nought ∷ []))
      (entry (with_value (guarded act)) (gate_event gate_g (nought ∷ [])) [] (nought ∷ []) [])
      ∷ []
      )
  pub scope_menu : HasMenu [] bound_twice (as_it_is (let_bound act) (gate_event gate_g (nat 0 ∷ one ∷ [])) (nat_sort ∷ []) (nat 0 ∷ []) []
      ∷ [])
  pub scope : Steps [] bound_twice (let_bound act) (two ∷ []) (gate_event gate_g (two ∷ one ∷ [])) (offering gate_h (give two ∷ []) stop)
  pub accept_menu : HasMenu [] accepted_again (event_line (let_bound (enabled quit)) inner_event ∷ [])
  pub accept : Steps [] accepted_again (let_bound (enabled quit)) [] inner_event (offering gate_g (give two ∷ []) stop)
  pub choice_menu : HasMenu [] chosen_again (as_it_is (let_bound (with_value act)) (gate_event gate_g (nat 0 ∷ [])) (nat_sort ∷ [])
      (nat 0 ∷ []) [] ∷ [])
  pub choice_scope : Steps [] chosen_again (let_bound (with_value act)) (two ∷ []) (gate_event gate_g (two ∷ [])) stop
