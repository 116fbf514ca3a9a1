-- Worked cases on what is not well formed.
use Rattle.std.specs.Prelude.{ℕ, List, [], ◌∷◌, codes, Some}
use Rattle.lotos_base.specs.Term.{variable}
use Rattle.behaviour_semantics.specs.Behaviour.{Behaviour, stop, exit_with, guard, let_be, choose_value, par_gate, call, relabel, give, ask, exit_value, any_of, no_gates, Process}
use Rattle.behaviour_semantics.specs.WellFormed.{IsClosedBehaviour, IsSpecification}
use Rattle.lotos_base.specs.SmallData.{nought}
use Rattle.worked_cases.specs.BehaviourSamples.{sample_bool_sort, succ, one, truth, nat, nat_variable, gate_a, gate_b, gate_g, gate_x, gate_z, offering, event, sample_test, sample_signature}
use Rattle.worked_cases.specs.Showing.{sample_specification}
use Rattle.worked_cases.specs.ValueCases.{counting}

-- The behaviour is closed and well formed where the cases stand, with these processes.
abbrev pub IsWellFormedCase : List Process → Behaviour → Type 0
IsWellFormedCase processes b = IsClosedBehaviour sample_signature (sample_specification processes) b

-- The first gate without a name, and the first number that is no sort.
abbrev pub unnamed_gate : ℕ
unnamed_gate = 7

abbrev pub no_sort : ℕ
no_sort = 3

-- Each of these is not well formed, for the reason that its name says.
pub record WhatIsNotWellFormed : Type 0 where
  pub unnamed : IsWellFormedCase [] (event unnamed_gate stop) → ⊥
  pub free_variable : IsWellFormedCase [] (offering gate_g (give (nat 0) ∷ []) stop) → ⊥
  pub ill_sorted_term : IsWellFormedCase [] (offering gate_g (give (succ truth) ∷ []) stop) → ⊥
  pub unknown_sort : IsWellFormedCase [] (choose_value (record { name = codes "x"; number = 0; sort = no_sort }) stop) → ⊥
  pub unknown_question : IsWellFormedCase [] (offering gate_g (ask (record { name = codes "x"; number = 0; sort = no_sort }) ∷ []) stop) → ⊥
  pub unknown_result : IsWellFormedCase [] (exit_with (any_of no_sort ∷ [])) → ⊥
  -- the innermost variable with a number counts, here one of sort Nat
  pub hidden_variable : IsWellFormedCase [] (let_be ((record { name = codes "x"; number = 0; sort = sample_bool_sort }, truth) ∷ [])
      (choose_value (nat_variable 0) (exit_with (exit_value (variable 0 sample_bool_sort) ∷ [])))) → ⊥
  pub offer_in_its_own_scope : IsWellFormedCase [] (offering gate_g (ask (nat_variable 0) ∷ give (nat 0) ∷ []) stop) → ⊥
  pub let_in_its_own_scope : IsWellFormedCase [] (let_be ((nat_variable 0, nat 0) ∷ []) stop) → ⊥
  pub let_of_another_sort : IsWellFormedCase [] (let_be ((nat_variable 0, truth) ∷ []) stop) → ⊥
  pub asked_twice : IsWellFormedCase [] (offering gate_g (ask (nat_variable 0) ∷ ask (nat_variable 0) ∷ []) stop) → ⊥
  pub test_of_two_sorts : IsWellFormedCase [] (guard (sample_test nought truth) stop) → ⊥
  pub no_copies : IsWellFormedCase [] (par_gate gate_z [] no_gates (event gate_z stop)) → ⊥
  pub formal_gate_twice : IsWellFormedCase [] (relabel ((gate_x, gate_a) ∷ (gate_x, gate_b) ∷ []) stop) → ⊥
  pub missing_process : IsWellFormedCase [] (call 0 [] []) → ⊥
  pub fewer_gates : IsWellFormedCase (counting ∷ []) (call 0 [] (one ∷ [])) → ⊥
  pub fewer_values : IsWellFormedCase (counting ∷ []) (call 0 (gate_a ∷ []) []) → ⊥
  pub value_of_another_sort : IsWellFormedCase (counting ∷ []) (call 0 (gate_a ∷ []) (truth ∷ [])) → ⊥
  pub no_functionality : IsSpecification sample_signature (record (sample_specification []) { exit = Some (no_sort ∷ []) }) → ⊥
  pub process_with_one_gate_twice : IsSpecification sample_signature
      (sample_specification (record counting { gates = gate_x ∷ gate_x ∷ [] } ∷ [])) → ⊥
  pub parameter_twice : IsSpecification sample_signature (sample_specification
      (record counting { parameters = nat_variable 0 ∷ nat_variable 0 ∷ [] } ∷ [])) → ⊥
