-- What a move in a closed behaviour is: its label is closed, its target is closed and well formed, and its leaves are there.
use Rattle.std.proofs.Common.{◌≡◌, ◌≤◌, ℕ, List, length, Option, None, Some, sym, subst}
use Rattle.lotos_base.specs.Canon.{IsCanon}
use Rattle.lotos_base.specs.Term.{Term}
use Rattle.behaviour_semantics.specs.Behaviour.{Behaviour}
use Rattle.behaviour_semantics.specs.Derives.{leaves_in}
use Rattle.behaviour_semantics.specs.Fault.{Fault}
use Rattle.behaviour_semantics.specs.Label as plain
use Rattle.behaviour_semantics.specs.Move.{Move}
use Rattle.behaviour_semantics.specs.WellFormed.{IsClosedLabel}
use Rattle.behaviour_semantics.proofs.ClosedTargets.{good_moves}
use Rattle.behaviour_semantics.proofs.FaultLemmas.{same_faults}
use Rattle.behaviour_semantics.proofs.FaultParts.{faulty, Same, Sound, sound}
use Rattle.behaviour_semantics.proofs.FaultRows.{keeps}
use Rattle.behaviour_semantics.proofs.OptionLemmas.{some_value}
use Rattle.behaviour_tree.specs.DefinitionView.{specification_of}
use Rattle.behaviour_tree.specs.MoveView.{label_of}
use Rattle.behaviour_tree.specs.Over.{IsSpecOver}
use Rattle.behaviour_tree.specs.StateView.{stands_for}
use Rattle.step_taker.specs.Stands.{fault_at_stand, move_at, Stand}
use Rattle.step_taker.specs.Taken.{Ground, setting_on}
use Rattle.step_taker.specs.Walked.{IsClosedOn, IsMoved}
use Rattle.step_taker.specs.declared.moved.Moved.{Moved}

module _ (ground : Ground) (is_canon : IsCanon ground.data_ ground.canon) (over : IsSpecOver ground.data_.signature ground.spec)
    (leaves : List Term) (place : Stand) (within : place.next ≤ length leaves) (closed : IsClosedOn ground place.behaviour) where
  beside : Same ground.data_ leaves place.next (fault_at_stand (setting_on ground) leaves place) (move_at (setting_on ground) leaves place)
  beside =
      same_faults ground.data_ (specification_of ground.spec) over.well_formed ground.canon is_canon leaves place.shape place.number
      place.next
      within place.behaviour closed

  sound_by : {o : Option Fault} {p : Option Move} → Same ground.data_ leaves place.next o p → o ≡ None → (m : Move) → p ≡ Some m
      → Sound ground.data_ leaves place.next m
  sound_by (faulty f none) e m at = absurd (cc e)
  sound_by (sound n s) e m at = subst (Sound ground.data_ leaves place.next) (some_value at) s

  pub moved_sound : (moved : Moved) (m : IsMoved ground leaves place moved) → Sound ground.data_ leaves place.next m.move
  moved_sound moved m = sound_by beside m.faultless m.move m.is

  pub leaves_enough : (moved : Moved) (m : IsMoved ground leaves place moved) → moved.behind.leaf ≤ length leaves
  leaves_enough moved m = subst (λ (k : ℕ). k ≤ length leaves) (sym m.leaf_behind) (moved_sound moved m).enough

  good : (moved : Moved) (m : IsMoved ground leaves place moved)
      → IsClosedLabel ground.data_.signature (specification_of ground.spec) m.move.label × IsClosedOn ground m.move.target
  good moved m =
      good_moves ground.data_ (specification_of ground.spec) over.well_formed ground.canon
      (keeps ground.data_ (specification_of ground.spec) over.well_formed ground.canon is_canon leaves) (leaves_in leaves) place.shape
      place.next
      place.behaviour m.move closed m.is (moved_sound moved m).supplied

  pub label_closed : (moved : Moved) → IsMoved ground leaves place moved
      → IsClosedLabel ground.data_.signature (specification_of ground.spec) (label_of moved.label)
  label_closed moved m =
      subst (λ (l : plain.Label). IsClosedLabel ground.data_.signature (specification_of ground.spec) l) (sym m.label) (good moved m).0

  pub target_closed : (moved : Moved) → IsMoved ground leaves place moved → IsClosedOn ground (stands_for moved.target.value)
  target_closed moved m = subst (λ (b : Behaviour). IsClosedOn ground b) (sym m.target) (good moved m).1
