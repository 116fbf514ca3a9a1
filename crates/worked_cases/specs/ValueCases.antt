-- Worked cases on values: leaves in order, parameters, a `let` with two variables, values in canonical form, and alike
-- behaviours.
use Rattle.std.specs.Prelude.{[], ◌∷◌, codes, None}
use Rattle.lotos_base.specs.Term.{Term, variable}
use Rattle.behaviour_semantics.specs.Behaviour.{Behaviour, stop, exit_with, inner_action, choice, hide, enable, let_be, choose_value, call, relabel, give, ask, exit_value, any_of, Process}
use Rattle.behaviour_semantics.specs.Label.{Label, inner_event, gate_event, exit_event}
use Rattle.behaviour_semantics.specs.Shape.{act, quit, inner_step, hidden, enabled, let_bound, with_value, called, relabelled}
use Rattle.behaviour_semantics.specs.Alike.{Alike}
use Rattle.lotos_base.specs.SmallData.{nought}
use Rattle.worked_cases.specs.BehaviourSamples.{sample_bool_sort, nat_sort, succ, one, two, truth, sample_plus, nat, nat_variable, gate_a, gate_b, gate_g, gate_h, gate_x, offering, event, sample_data}
use Rattle.worked_cases.specs.Showing.{HasMenu, Steps, KeptSteps, as_it_is, event_line}

-- `exit(any Nat, any Bool)`, `g ?x:Nat ?y:Nat; h !x !y; stop` and `choice x:Nat [] g !x ?y:Nat; stop`
abbrev pub two_open_results : Behaviour
two_open_results = exit_with (any_of nat_sort ∷ any_of sample_bool_sort ∷ [])

abbrev pub two_questions : Behaviour
two_questions = offering gate_g (ask (nat_variable 0) ∷ ask (nat_variable 1) ∷ []) (offering gate_h (give (nat 0) ∷ give (nat 1) ∷ []) stop)

abbrev pub a_choice_and_a_question : Behaviour
a_choice_and_a_question = choose_value (nat_variable 0) (offering gate_g (give (nat 0) ∷ ask (nat_variable 1) ∷ []) stop)

-- Leaves stand in order, that of a value choice first. They are as many as the move wants, of the sorts that it wants.
pub record LeavesStandInOrder : Type 0 where
  pub results_menu : HasMenu [] two_open_results
      (as_it_is quit (exit_event (nat 0 ∷ variable 1 sample_bool_sort ∷ [])) (nat_sort ∷ sample_bool_sort ∷ [])
      (nat 0 ∷ variable 1 sample_bool_sort ∷ []) [] ∷ [])
  pub results : Steps [] two_open_results quit (nought ∷ truth ∷ []) (exit_event (nought ∷ truth ∷ [])) stop
  pub questions_menu : HasMenu [] two_questions (as_it_is act (gate_event gate_g (nat 0 ∷ nat 1 ∷ [])) (nat_sort ∷ nat_sort ∷ [])
      (nat 0 ∷ nat 1 ∷ []) [] ∷ [])
  pub questions : Steps [] two_questions act (nought ∷ one ∷ []) (gate_event gate_g (nought ∷ one ∷ []))
      (offering gate_h (give nought ∷ give one ∷ []) stop)
  pub choice_menu : HasMenu [] a_choice_and_a_question (as_it_is (with_value act) (gate_event gate_g (nat 0 ∷ nat 1 ∷ []))
      (nat_sort ∷ nat_sort ∷ []) (nat 0 ∷ nat 1 ∷ []) [] ∷ [])
  pub choice_first : Steps [] a_choice_and_a_question (with_value act) (nought ∷ one ∷ []) (gate_event gate_g (nought ∷ one ∷ [])) stop
  pub not_fewer : (label : Label) (target : Behaviour) → Steps [] two_questions act (nought ∷ []) label target → ⊥
  pub not_more : (label : Label) (target : Behaviour) → Steps [] two_questions act (nought ∷ one ∷ two ∷ []) label target → ⊥
  pub not_another_sort : (label : Label) (target : Behaviour) → Steps [] two_questions act (truth ∷ one ∷ []) label target → ⊥

-- `process P[x](n:Nat) := x !n; x !Succ(n); stop`, its call `P[a](Succ(0))`, and `let m:Nat = Succ(0) in P[a](m)`, where m
-- and n have one number
abbrev pub counting : Process
counting = record {
  name = codes "P";
  gates = gate_x ∷ [];
  parameters = nat_variable 0 ∷ [];
  exit = None;
  body = offering gate_x (give (nat 0) ∷ []) (offering gate_x (give (succ (nat 0)) ∷ []) stop);
}

abbrev pub called_with_one : Behaviour
called_with_one = call 0 (gate_a ∷ []) (one ∷ [])

abbrev pub called_below_let : Behaviour
called_below_let = let_be ((nat_variable 0, one) ∷ []) (call 0 (gate_a ∷ []) (nat 0 ∷ []))

abbrev pub counted_to_two : Behaviour
counted_to_two = relabel ((gate_x, gate_a) ∷ []) (offering gate_x (give two ∷ []) stop)

-- `process P[x](m, n:Nat) := x !m !n; stop` and its call `P[a](Succ(0), 0 + 0)`
abbrev pub handing_two : Process
handing_two = record {
  name = codes "P";
  gates = gate_x ∷ [];
  parameters = nat_variable 0 ∷ nat_variable 1 ∷ [];
  exit = None;
  body = offering gate_x (give (nat 0) ∷ give (nat 1) ∷ []) stop;
}

abbrev pub called_with_two : Behaviour
called_with_two = call 0 (gate_a ∷ []) (one ∷ sample_plus nought nought ∷ [])

-- The parameters of a process have the values of its call, one by one.
pub record ParametersGetTheirValues : Type 0 where
  pub menu : HasMenu (counting ∷ []) called_with_one (event_line (called act) (gate_event gate_a (one ∷ [])) ∷ [])
  pub step : Steps (counting ∷ []) called_with_one (called act) [] (gate_event gate_a (one ∷ [])) counted_to_two
  pub next : HasMenu (counting ∷ []) counted_to_two (event_line (relabelled act) (gate_event gate_a (two ∷ [])) ∷ [])
  pub two_menu : HasMenu (handing_two ∷ []) called_with_two (event_line (called act) (gate_event gate_a (one ∷ nought ∷ [])) ∷ [])
  pub below_let_menu : HasMenu (counting ∷ []) called_below_let (event_line (let_bound (called act)) (gate_event gate_a (one ∷ [])) ∷ [])
  pub below_let : Steps (counting ∷ []) called_below_let (let_bound (called act)) [] (gate_event gate_a (one ∷ [])) counted_to_two

-- `let x:Nat = Succ(0), y:Nat = Succ(Succ(0)) in g !x !y; stop`, and with `let x:Nat = y, y:Nat = x in` before the action
abbrev pub bound_together : Behaviour
bound_together = let_be ((nat_variable 0, one) ∷ (nat_variable 1, two) ∷ []) (offering gate_g (give (nat 0) ∷ give (nat 1) ∷ []) stop)

abbrev pub swapped_by_let : Behaviour
swapped_by_let =
    let_be ((nat_variable 0, one) ∷ (nat_variable 1, two) ∷ [])
    (let_be ((nat_variable 0, nat 1) ∷ (nat_variable 1, nat 0) ∷ []) (offering gate_g (give (nat 0) ∷ give (nat 1) ∷ []) stop))

-- The variables of one `let` get their values one by one and together.
pub record LetBindsTogether : Type 0 where
  pub in_order : HasMenu [] bound_together (event_line (let_bound act) (gate_event gate_g (one ∷ two ∷ [])) ∷ [])
  pub menu : HasMenu [] swapped_by_let (event_line (let_bound (let_bound act)) (gate_event gate_g (two ∷ one ∷ [])) ∷ [])
  pub step : Steps [] swapped_by_let (let_bound (let_bound act)) [] (gate_event gate_g (two ∷ one ∷ [])) stop

-- `h !v; stop`
abbrev pub giving_value : Term → Behaviour
giving_value v = offering gate_h (give v ∷ []) stop

-- `Succ(0) + 0`, which is 1
abbrev pub sum : Term
sum = sample_plus one nought

-- `g ?x:Nat; h !x; stop`, `let x:Nat = Succ(0) + 0 in b; h !x; stop`, `choice x:Nat [] b; h !x; stop`,
-- `exit(Succ(0) + 0) >> accept x:Nat in h !x; stop`, `exit(Succ(0) + 0, any Nat)`, `P[a](Succ(0) + 0)` and
-- `b; h !Succ(0) + 0; stop`
abbrev pub asking_and_giving : Behaviour
asking_and_giving = offering gate_g (ask (nat_variable 0) ∷ []) (giving_value (nat 0))

abbrev pub binding_and_giving : Behaviour
binding_and_giving = let_be ((nat_variable 0, sum) ∷ []) (event gate_b (giving_value (nat 0)))

abbrev pub choosing_and_giving : Behaviour
choosing_and_giving = choose_value (nat_variable 0) (event gate_b (giving_value (nat 0)))

abbrev pub accepting_and_giving : Behaviour
accepting_and_giving = enable (exit_with (exit_value sum ∷ [])) (nat_variable 0 ∷ []) (giving_value (nat 0))

abbrev pub ending_with_sums : Behaviour
ending_with_sums = exit_with (exit_value sum ∷ any_of nat_sort ∷ [])

abbrev pub called_with_a_sum : Behaviour
called_with_a_sum = call 0 (gate_a ∷ []) (sum ∷ [])

abbrev pub giving_a_sum : Behaviour
giving_a_sum = event gate_b (giving_value sum)

-- Each value that is bound, and each value of a label, is put in canonical form; a term of the text that no variable
-- is bound to stays as it is written. With values as they are given nothing changes.
pub record BoundValuesAreCanonical : Type 0 where
  pub question : KeptSteps [] asking_and_giving act (sum ∷ []) (gate_event gate_g (one ∷ [])) (giving_value one)
  pub question_as_given : Steps [] asking_and_giving act (sum ∷ []) (gate_event gate_g (sum ∷ [])) (giving_value sum)
  pub binding : KeptSteps [] binding_and_giving (let_bound act) [] (gate_event gate_b []) (giving_value one)
  pub binding_as_given : Steps [] binding_and_giving (let_bound act) [] (gate_event gate_b []) (giving_value sum)
  pub choosing : KeptSteps [] choosing_and_giving (with_value act) (sum ∷ []) (gate_event gate_b []) (giving_value one)
  pub choosing_as_given : Steps [] choosing_and_giving (with_value act) (sum ∷ []) (gate_event gate_b []) (giving_value sum)
  pub accepting : KeptSteps [] accepting_and_giving (enabled quit) [] inner_event (giving_value one)
  pub accepting_as_given : Steps [] accepting_and_giving (enabled quit) [] inner_event (giving_value sum)
  pub calling : KeptSteps (counting ∷ []) called_with_a_sum (called act) [] (gate_event gate_a (one ∷ [])) counted_to_two
  pub calling_as_given :
      Steps (counting ∷ []) called_with_a_sum (called act) [] (gate_event gate_a (sum ∷ []))
      (relabel ((gate_x, gate_a) ∷ []) (offering gate_x (give (succ sum) ∷ []) stop))
  pub ending : KeptSteps [] ending_with_sums quit (sum ∷ []) (exit_event (one ∷ one ∷ [])) stop
  pub ending_as_given : Steps [] ending_with_sums quit (sum ∷ []) (exit_event (sum ∷ sum ∷ [])) stop
  pub given : KeptSteps [] (giving_value sum) act [] (gate_event gate_h (one ∷ [])) stop
  pub written : KeptSteps [] giving_a_sum act [] (gate_event gate_b []) (giving_value sum)

-- `let x:Nat = 0 in exit(x)` and `hide a in exit(Succ(0))`
abbrev pub ending_below_let : Behaviour
ending_below_let = let_be ((nat_variable 0, nought) ∷ []) (exit_with (exit_value (nat 0) ∷ []))

abbrev pub ending_under_hide : Behaviour
ending_under_hide = hide (gate_a ∷ []) (exit_with (exit_value one ∷ []))

-- `relabel a for x in exit(Succ(0))`, `relabel a for x in (i; stop)` and `relabel a for x in (x !Succ(0); stop)`
abbrev pub relabelled_end : Behaviour
relabelled_end = relabel ((gate_x, gate_a) ∷ []) (exit_with (exit_value one ∷ []))

abbrev pub relabelled_inner_event : Behaviour
relabelled_inner_event = relabel ((gate_x, gate_a) ∷ []) (inner_action stop)

abbrev pub relabelled_value : Behaviour
relabelled_value = relabel ((gate_x, gate_a) ∷ []) (offering gate_x (give one ∷ []) stop)

-- The values of an `exit` have terms put in, and stay under `hide` and under a relabelling, as those of an action do.
pub record ValuesOfLabelsStay : Type 0 where
  pub bound_menu : HasMenu [] ending_below_let (event_line (let_bound quit) (exit_event (nought ∷ [])) ∷ [])
  pub hidden_menu : HasMenu [] ending_under_hide (event_line (hidden quit) (exit_event (one ∷ [])) ∷ [])
  pub under_hide : Steps [] ending_under_hide (hidden quit) [] (exit_event (one ∷ [])) (hide (gate_a ∷ []) stop)
  pub relabelled_end_menu : HasMenu [] relabelled_end (event_line (relabelled quit) (exit_event (one ∷ [])) ∷ [])
  pub relabelled_end_step : Steps [] relabelled_end (relabelled quit) [] (exit_event (one ∷ [])) stop
  pub relabelled_inner_step : Steps [] relabelled_inner_event (relabelled inner_step) [] inner_event stop
  pub relabelled_value_step : Steps [] relabelled_value (relabelled act) [] (gate_event gate_a (one ∷ [])) stop

-- `g ?x:Nat; h !t; stop`
abbrev pub asking_before : Term → Behaviour
asking_before t = offering gate_g (ask (nat_variable 0) ∷ []) (giving_value t)

-- Behaviours are alike where their terms are equal, also with variables, and are not where a value, an order, a gate or
-- a kind of offer differs.
pub record AlikeBehavioursHaveEqualTerms : Type 0 where
  pub closed : Alike sample_data (giving_value sum) (giving_value one)
  pub with_variables : Alike sample_data (asking_before (sample_plus (nat 0) nought)) (asking_before (nat 0))
  pub not_another_value : Alike sample_data (giving_value nought) (giving_value one) → ⊥
  pub not_another_variable : Alike sample_data (asking_before (nat 0)) (asking_before one) → ⊥
  pub not_swapped : Alike sample_data (choice (event gate_a stop) (event gate_b stop)) (choice (event gate_b stop) (event gate_a stop)) → ⊥
  pub not_another_offer : Alike sample_data (offering gate_h (ask (nat_variable 0) ∷ []) stop) (giving_value one) → ⊥
  pub not_another_argument : Alike sample_data (call 0 [] (nought ∷ [])) (call 0 [] (one ∷ [])) → ⊥
  pub not_another_form : Alike sample_data stop (inner_action stop) → ⊥
  pub not_fewer_offers : Alike sample_data (giving_value one) (event gate_h stop) → ⊥
