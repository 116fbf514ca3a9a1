-- The rows of the forms with one part.
use Rattle.std.proofs.Common.{◌≡◌, ℕ, suc, List, [], ◌∷◌, map, zip, slice_get, Option, None, Some, option_map, option_and_then, refl, ap, ◌∙◌}
use Rattle.lotos_base.specs.Equation.{Variable}
use Rattle.lotos_base.specs.Term.{Term}
use Rattle.behaviour_semantics.specs.Behaviour.{Behaviour, call, choice, choose_gate, choose_value, disable, enable, guard, hide, let_be, parallel, Process, relabel, Relabelling, SynchronisationSet, Test, let_terms, let_variables}
use Rattle.behaviour_semantics.specs.Derives.{leaves_in}
use Rattle.behaviour_semantics.specs.Fault.{at_node, first_of_two, first_unmet, not_fitting, unless_there, wrong_leaves}
use Rattle.behaviour_semantics.specs.Move.{after_leaf, asking, disabling, hiding, Move, relabelling, Setting}
use Rattle.behaviour_semantics.specs.Replacement.{binding_of, with_values}
use Rattle.behaviour_semantics.specs.Shape.{at_gate, called, enabled, guarded, hidden, left_side, let_bound, passed, relabelled, right_side, Shape, with_value}
use Rattle.step_taker.proofs.RowLemmas.{handed_on, mapped_on}
use Rattle.step_taker.specs.Rows.{alone_row, asks_nothing, disabling_row, enabling_row, free_row, hiding_row, passing_row, relabelling_row, same_row}
use Rattle.step_taker.specs.Stands.{fault_at_stand, HasRow, move_at, Row, stand, Stand}

module _ (setting : Setting) (leaves : List Term) (s : Shape) (n k : ℕ) where
  abbrev Has : Stand → Stand → Row → Type 0
  Has whole part row = HasRow setting leaves whole part row

  pub guard_row : (test : Test) (b : Behaviour) → Has (stand (guard test b) (guarded s) n k) (stand b s (suc n) k)
      (free_row (first_unmet setting.represent (test ∷ [])) (λ m. Some (asking test m)))
  guard_row test b = record { fault = refl; move = mapped_on (asking test) (move_at setting leaves (stand b s (suc n) k)) }

  pub left_row : (b c : Behaviour) → Has (stand (choice b c) (left_side s) n k) (stand b s (suc n) k) same_row
  left_row b c = record { fault = refl; move = handed_on (move_at setting leaves (stand b s (suc n) k)) }

  pub right_row : (b c : Behaviour) → Has (stand (choice b c) (right_side s) n k) (stand c s (suc n) k) same_row
  right_row b c = record { fault = refl; move = handed_on (move_at setting leaves (stand c s (suc n) k)) }

  pub left_alone_row : (meet : SynchronisationSet) (b c : Behaviour)
      → Has (stand (parallel meet b c) (left_side s) n k) (stand b s (suc n) k)
      (alone_row meet (λ target. parallel meet target c))
  left_alone_row meet b c = record { fault = refl; move = refl }

  pub right_alone_row : (meet : SynchronisationSet) (b c : Behaviour)
      → Has (stand (parallel meet b c) (right_side s) n k) (stand c s (suc n) k)
      (alone_row meet (λ target. parallel meet b target))
  right_alone_row meet b c = record { fault = refl; move = refl }

  pub disabled_row : (b c : Behaviour) → Has (stand (disable b c) (left_side s) n k) (stand b s (suc n) k)
      (disabling_row c)
  disabled_row b c = record { fault = refl; move = mapped_on (disabling c) (move_at setting leaves (stand b s (suc n) k)) }

  pub undisabled_row : (b c : Behaviour) → Has (stand (disable b c) (right_side s) n k) (stand c s (suc n) k)
      same_row
  undisabled_row b c = record { fault = refl; move = handed_on (move_at setting leaves (stand c s (suc n) k)) }

  pub hide_row : (gates : List ℕ) (b : Behaviour) → Has (stand (hide gates b) (hidden s) n k) (stand b s (suc n) k)
      (hiding_row gates)
  hide_row gates b = record { fault = refl; move = mapped_on (hiding gates) (move_at setting leaves (stand b s (suc n) k)) }

  pub enabled_row : (b : Behaviour) (variables : List Variable) (c : Behaviour)
      → Has (stand (enable b variables c) (enabled s) n k) (stand b s (suc n) k)
      (enabling_row setting.signature variables c)
  enabled_row b variables c = record { fault = refl; move = refl }

  pub passed_row : (b : Behaviour) (variables : List Variable) (c : Behaviour)
      → Has (stand (enable b variables c) (passed s) n k) (stand b s (suc n) k)
      (passing_row variables c)
  passed_row b variables c = record { fault = refl; move = refl }

  pub let_row : (bindings : List (Variable × Term)) (b : Behaviour)
      → Has (stand (let_be bindings b) (let_bound s) n k)
      (stand (with_values (binding_of (let_variables bindings) (map setting.represent (let_terms bindings))) b) s (suc n) k)
      same_row
  let_row bindings b = record {
    fault = refl;
    move = handed_on (move_at setting leaves (stand (with_values (binding_of (let_variables bindings) (map setting.represent (let_terms
        bindings))) b) s (suc n) k));
  }

  pub value_row : (x : Variable) (b : Behaviour)
      → Has (stand (choose_value x b) (with_value s) n k)
      (stand (with_values (binding_of (x ∷ []) (setting.represent (leaves_in leaves k x.sort) ∷ [])) b) s (suc n) (suc k))
      (free_row (wrong_leaves setting.signature leaves k (x.sort ∷ [])) (λ m. Some (after_leaf x.sort m)))
  value_row x b = record {
    fault = refl;
    move = mapped_on (after_leaf x.sort) (move_at setting leaves (stand (with_values (binding_of (x ∷ []) (setting.represent (leaves_in
        leaves k x.sort) ∷ [])) b) s (suc n) (suc k)));
  }

  pub gate_row : (position g : ℕ) (gates : List ℕ) (b : Behaviour) (a : ℕ) → slice_get gates position ≡ Some a
      → Has (stand (choose_gate g gates b) (at_gate position s) n k) (stand b s (suc n) k)
      (relabelling_row ((g, a) ∷ []))
  gate_row position g gates b a e = record {
    fault = ap (λ (o : Option ℕ). first_of_two (at_node n (unless_there (option_map (λ (a : ℕ). b) o)))
        (first_of_two (option_and_then (λ (c : Behaviour). fault_at_stand setting leaves (stand c s (suc n) k))
        (option_map (λ (a : ℕ). b) o))
        (at_node n (option_and_then (λ (m : Move). asks_nothing m.label)
        (option_and_then (λ (c : Behaviour). move_at setting leaves (stand c s (suc n) k)) (option_map (λ (a : ℕ). b) o)))))) e;
    move = ap (option_and_then (λ (a : ℕ). option_map (relabelling ((g, a) ∷ [])) (move_at setting leaves (stand b s (suc n) k)))) e
        ∙ mapped_on (relabelling ((g, a) ∷ [])) (move_at setting leaves (stand b s (suc n) k));
  }

  abbrev pub body_of : List Term → Process → Behaviour
  body_of arguments process = with_values (binding_of process.parameters (map setting.represent arguments)) process.body

  pub call_row : (number : ℕ) (gates : List ℕ) (arguments : List Term) (process : Process) → slice_get setting.processes number ≡ Some
      process
      → Has (stand (call number gates arguments) (called s) n k) (stand (body_of arguments process) s (suc n) k)
      (relabelling_row (zip process.gates gates))
  call_row number gates arguments process e = record {
    fault = ap (λ (o : Option Process). first_of_two (at_node n (unless_there (option_map (body_of arguments) o)))
        (first_of_two (option_and_then (λ (c : Behaviour). fault_at_stand setting leaves (stand c s (suc n) k))
        (option_map (body_of arguments)
        o))
        (at_node n (option_and_then (λ (m : Move). asks_nothing m.label)
        (option_and_then (λ (c : Behaviour). move_at setting leaves (stand c s (suc n) k)) (option_map (body_of arguments) o)))))) e;
    move = ap (option_and_then (λ (p : Process). option_map (relabelling (zip p.gates gates))
        (move_at setting leaves (stand (body_of arguments p) s (suc n) k)))) e
        ∙ mapped_on (relabelling (zip process.gates gates)) (move_at setting leaves (stand (body_of arguments process) s (suc n) k));
  }

  pub relabel_row : (pairs : Relabelling) (b : Behaviour) → Has (stand (relabel pairs b) (relabelled s) n k) (stand b s (suc n) k)
      (relabelling_row pairs)
  relabel_row pairs b = record { fault = refl; move = mapped_on (relabelling pairs) (move_at setting leaves (stand b s (suc n) k)) }

  -- a gate and a process that are not there
  pub no_gate : (position g : ℕ) (gates : List ℕ) (b : Behaviour) → slice_get gates position ≡ None
      → fault_at_stand setting leaves (stand (choose_gate g gates b) (at_gate position s) n k) ≡ Some (record {
        node = n;
        wrong =
            not_fitting;
      })
  no_gate position g gates b e =
      ap (λ (o : Option ℕ). first_of_two (at_node n (unless_there (option_map (λ (a : ℕ). b) o)))
      (first_of_two (option_and_then (λ (c : Behaviour). fault_at_stand setting leaves (stand c s (suc n) k)) (option_map (λ (a : ℕ). b) o))
      (at_node n (option_and_then (λ (m : Move). asks_nothing m.label)
      (option_and_then (λ (c : Behaviour). move_at setting leaves (stand c s (suc n) k)) (option_map (λ (a : ℕ). b) o)))))) e

  pub no_process : (number : ℕ) (gates : List ℕ) (arguments : List Term) → slice_get setting.processes number ≡ None
      → fault_at_stand setting leaves (stand (call number gates arguments) (called s) n k) ≡ Some (record { node = n; wrong = not_fitting })
  no_process number gates arguments e =
      ap (λ (o : Option Process). first_of_two (at_node n (unless_there (option_map (body_of arguments) o)))
      (first_of_two (option_and_then (λ (c : Behaviour). fault_at_stand setting leaves (stand c s (suc n) k)) (option_map (body_of
      arguments) o))
      (at_node n (option_and_then (λ (m : Move). asks_nothing m.label)
      (option_and_then (λ (c : Behaviour). move_at setting leaves (stand c s (suc n) k)) (option_map (body_of arguments) o)))))) e
