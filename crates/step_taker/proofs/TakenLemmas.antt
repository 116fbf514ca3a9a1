-- From the walk through the whole state to the answer of a step.
use Rattle.std.proofs.Common.{◌≡◌, ◌≤◌, ◌+◌, ℕ, suc, List, [], ◌∷◌, length, Bool, true, false, nat_lt, if◌then◌else◌, Option, None, Some, refl, ap, sym, ◌∙◌, subst, arith, ltb-false}
use Rattle.lotos_base.specs.Canon.{IsCanon}
use Rattle.lotos_base.specs.Term.{Term}
use Rattle.behaviour_semantics.specs.Behaviour.{Behaviour}
use Rattle.behaviour_semantics.specs.Fault.{at_node, Fault, first_of_two, left_over, not_fitting, size, Wrong}
use Rattle.behaviour_semantics.specs.Label as plain
use Rattle.behaviour_semantics.specs.Move.{Move}
use Rattle.behaviour_semantics.proofs.FaultLemmas.{values_of}
use Rattle.sort_terms.specs.declared.sorted.Sorted.{Sorted}
use Rattle.behaviour_tree.specs.BehaviourView.{terms_of}
use Rattle.behaviour_tree.specs.Closed.{IsClosedNode}
use Rattle.behaviour_tree.specs.DefinitionView.{specification_of}
use Rattle.behaviour_tree.specs.MoveView.{derivation_of, label_of, shape_of}
use Rattle.behaviour_tree.specs.Over.{AreTermsOf, IsSpecOver}
use Rattle.behaviour_tree.specs.StateView.{node_profiles, stands_for, state_of}
use Rattle.behaviour_tree.specs.declared.moves.Derivation.{Derivation}
use Rattle.behaviour_tree.specs.declared.states.Node.{Node}
use Rattle.behaviour_tree.specs.declared.states.State.{State}
use Rattle.step_parts.specs.StepFaults.{IsWrongTold, UnlessMemory}
use Rattle.step_parts.specs.declared.faults.StepFault.{StepFault}
use Rattle.step_parts.proofs.CheckedLemmas.{unless_more}
use Rattle.step_parts.proofs.TargetLemmas.{closed_state}
use Rattle.step_taker.specs.Stands.{move_at, stand, Stand}
use Rattle.step_taker.specs.Taken.{Ground, IsStepFault, IsTaken, setting_on}
use Rattle.step_taker.specs.Walked.{IsClosedOn, IsFirstStepFault, IsMoved}
use Rattle.step_taker.specs.declared.moved.Moved.{Moved}
use Rattle.step_taker.proofs.GoodLemmas.{moved_sound, target_closed}

same_length : (leaves : List Sorted) → length (terms_of leaves) ≡ length leaves
same_length [] = refl
same_length (v ∷ leaves) = ap suc (same_length leaves)

-- leaves that are left over, and leaves that are not
left_wrong : (b : Bool) (s : ℕ) (w : Wrong) → (if b then Some not_fitting else None) ≡ Some w
    → (if b then at_node s (Some not_fitting) else None) ≡ Some (record { node = s; wrong = w })
left_wrong true s w e = ap (at_node s) e
left_wrong false s w e = absurd (cc e)

none_more : (b : Bool) (w : Wrong) → (if b then Some w else None) ≡ None → b ≡ false
none_more true w e = absurd (cc e)
none_more false w e = refl

module _ (ground : Ground) (state : State) (derivation : Derivation) where
  abbrev leaves : List Term
  leaves = terms_of derivation.leaves.items

  -- the whole
  abbrev pub root : Stand
  root = stand (state_of state) (shape_of derivation.shape) 0 0

  abbrev first : Option Fault → Option Move → Option Fault
  first faults moves = first_of_two faults (left_over (derivation_of derivation) moves)

  pub root_told : (fault : StepFault) → UnlessMemory (IsFirstStepFault ground leaves root) fault
      → UnlessMemory (IsStepFault ground state derivation) fault
  root_told =
      unless_more (IsFirstStepFault ground leaves root) (IsStepFault ground state derivation) (λ fault h. record {
        first = h.first;
        is = ap (λ (faults : Option Fault). first faults (move_at (setting_on ground) leaves root)) h.is;
        told = h.told;
      })

  module _ (moved : Moved) (m : IsMoved ground leaves root moved) where
    same_test : nat_lt moved.behind.leaf (length derivation.leaves.items) ≡ nat_lt (length m.move.sorts) (length leaves)
    same_test =
        ap (λ (k : ℕ). nat_lt k (length derivation.leaves.items)) (m.leaf_behind ∙ none (length m.move.sorts))
        ∙ ap (nat_lt (length m.move.sorts)) (sym (same_length derivation.leaves.items))
      where
        none : (k : ℕ) → 0 + k ≡ k
        none k = omega arith

    pub left_told : (fault : StepFault)
        → UnlessMemory (IsWrongTold (0 + size (shape_of derivation.shape)) (if nat_lt moved.behind.leaf (length derivation.leaves.items)
        then Some not_fitting
        else None)) fault → UnlessMemory (IsStepFault ground state derivation) fault
    left_told =
        unless_more (IsWrongTold (0 + size (shape_of derivation.shape)) (if nat_lt moved.behind.leaf (length derivation.leaves.items)
        then Some not_fitting
        else None)) (IsStepFault ground state derivation) (λ fault h. record {
          first = record { node = 0 + size (shape_of derivation.shape); wrong = h.what };
          is = ap (λ (faults : Option Fault). first faults (move_at (setting_on ground) leaves root)) m.faultless
              ∙ ap (λ (moves : Option Move). first None moves) m.is
              ∙ left_wrong (nat_lt (length m.move.sorts) (length leaves)) (size (shape_of derivation.shape)) h.what
              (ap (λ (b : Bool). if b then Some not_fitting else None) (sym same_test) ∙ h.is)
              ∙ ap (λ (k : ℕ). let f : Fault = record { node = k; wrong = h.what } in Some f) (sym (none (size (shape_of
              derivation.shape))));
          told = h.told;
        })
      where
        none : (k : ℕ) → 0 + k ≡ k
        none k = omega arith

    module _ (is_canon : IsCanon ground.data_ ground.canon) (over : IsSpecOver ground.data_.signature ground.spec)
        (closed : IsClosedOn ground (state_of state)) where
      target_good : IsClosedOn ground (stands_for moved.target.value)
      target_good = target_closed ground is_canon over leaves root (omega arith) closed moved m

      pub target_state : IsClosedNode moved.target.value
      target_state = closed_state ground.data_.signature (specification_of ground.spec) moved.target.value m.parts target_good

      pub taken : (if nat_lt moved.behind.leaf (length derivation.leaves.items) then Some not_fitting else None) ≡ None → (target :
          State) (own : Node)
          → target.node ≡ own → stands_for own ≡ stands_for moved.target.value
          → node_profiles own ≡ node_profiles moved.target.value → (IsClosedNode moved.target.value → IsClosedNode own)
          → IsTaken ground state derivation moved.label target
      taken none target own same stands profiles still_closed =
          let sound = moved_sound ground is_canon over leaves root (omega arith) closed moved m in
          let few : length leaves ≤ length m.move.sorts =
          ltb-false (length m.move.sorts) (length leaves) (sym same_test ∙ none_more (nat_lt moved.behind.leaf (length
          derivation.leaves.items)) not_fitting none) in
          let enough : 0 + length m.move.sorts ≤ length leaves = sound.enough in
          record {
            keeps = record {
              asked = m.move.asked;
              sorts = m.move.sorts;
              move = m.is ∙ ap (λ (l : plain.Label). let n : Move = record m.move { label = l } in Some n) (sym m.label)
                  ∙ ap (λ (b : Behaviour). let n : Move = record m.move { label = label_of moved.label; target = b } in Some n)
                  (sym m.target ∙ sym (ap stands_for same ∙ stands));
              leaves = values_of ground.data_.signature m.move.sorts leaves (omega (arith, few, enough)) sound.supplied;
              holds = sound.holds;
            };
            values = m.values;
            over = record {
              closed = subst (λ (b : Behaviour). IsClosedOn ground b) (sym (ap stands_for same ∙ stands)) target_good;
              terms = subst (AreTermsOf ground.data_.signature) (sym (ap node_profiles same ∙ profiles)) m.terms;
            };
            closed = subst (λ (node : Node). IsClosedNode node) (sym same) (still_closed target_state);
          }
