-- Places of a walk: what stands there, and what stands below.
use Rattle.std.proofs.Common.{◌≡◌, ℕ, suc, List, Some, IsErrAnd, Result, Ok, Err, refl, sym, ◌∙◌, subst}
use Rattle.lotos_base.specs.Term.{Term}
use Rattle.behaviour_semantics.specs.Behaviour.{Behaviour, par_gate, SynchronisationSet}
use Rattle.behaviour_semantics.specs.Fault.{not_fitting, own_wrong, size}
use Rattle.behaviour_semantics.specs.Move.{opened}
use Rattle.behaviour_semantics.specs.Rule.{copies}
use Rattle.behaviour_semantics.specs.Shape as plain
use Rattle.step_parts.specs.StepFaults.{kept_number, TellsWrong, UnlessMemory}
use Rattle.step_parts.specs.declared.faults.At.{At}
use Rattle.step_parts.specs.declared.faults.StepFault.{StepFault}
use Rattle.step_parts.specs.declared.faults.StepFault.TheVariants as step_fault
use Rattle.step_parts.proofs.CheckedLemmas.{no_memory, unless_more}
use Rattle.step_taker.specs.Stands.{fault_at_stand, stand, Stand}
use Rattle.step_taker.specs.Taken.{Ground, setting_on}
use Rattle.step_taker.specs.Walked.{IsPartBelow, IsFirstStepFault, IsMoved, IsThere, IsWalked}
use Rattle.step_taker.specs.declared.moved.Moved.{Moved}
use Rattle.step_taker.proofs.MisfitLemmas.{faults_of_copies, misfits, moves_of_copies}
use Rattle.step_taker.proofs.WalkLemmas.{same_place, told_fault}

-- the same place of an equal behaviour, and of an equal shape
pub of_behaviour : (place : Stand) (b c : Behaviour) (s : plain.Shape) (at : At) → c ≡ b → IsThere place b s at → IsThere place c s at
of_behaviour place b c s at e there =
    record { behaviour = e ∙ there.behaviour; same_shape = there.same_shape; node = there.node; leaf = there.leaf }

pub of_shape : (place : Stand) (b : Behaviour) (s t : plain.Shape) (at : At) → t ≡ s → IsThere place b s at → IsThere place b t at
of_shape place b s t at e there =
    record { behaviour = there.behaviour; same_shape = e ∙ there.same_shape; node = there.node; leaf = there.leaf }

-- a part that stands one node below
pub below_there : (place : Stand) (b c : Behaviour) (s t : plain.Shape) (at below : At) → IsThere place b s at
    → ((n : ℕ) → at.node ≡ kept_number n → below.node ≡ kept_number (suc n)) → (k : ℕ) → below.leaf ≡ k
    → IsThere (stand c t (suc place.number) k) c t below
below_there place b c s t at below there node k leaf =
    record { behaviour = refl; same_shape = refl; node = node place.number there.node; leaf = leaf }

-- the same of a part with a behaviour and a shape that are equal to those
pub part_there : (place : Stand) (b c d : Behaviour) (s t u : plain.Shape) (at below : At) → IsThere place b s at → d ≡ c → u ≡ t
    → ((n : ℕ) → at.node ≡ kept_number n → below.node ≡ kept_number (suc n)) → (k : ℕ) → below.leaf ≡ k
    → IsThere (stand c t (suc place.number) k) d u below
part_there place b c d s t u at below there e f node k leaf =
    record { behaviour = e; same_shape = f; node = node place.number there.node; leaf = leaf }

-- a part that stands one node below is below
pub is_below : (b c : Behaviour) (s t : plain.Shape) (n k : ℕ) → size s ≡ suc (size t) → IsPartBelow (stand b s n k) (stand c t (suc n) k)
is_below b c s t n k e = record { number = refl; sizes = e; next = refl }

module _ (ground : Ground) (leaves : List Term) (place : Stand) (b : Behaviour) (s : plain.Shape) (at : At) (there : IsThere place b s
    at) where
  pub there_walked : (result : Result Moved StepFault) → IsWalked ground leaves (stand b s place.number at.leaf) result
      → IsWalked ground leaves place result
  there_walked result h =
      subst (λ (p : Stand). IsWalked ground leaves p result) (same_place place b s at.leaf there.behaviour there.same_shape there.leaf) h

  pub there_refused : (fault : StepFault) → UnlessMemory (IsFirstStepFault ground leaves (stand b s place.number at.leaf)) fault
      → UnlessMemory (IsFirstStepFault ground leaves place) fault
  there_refused fault h =
      subst (λ (p : Stand). UnlessMemory (IsFirstStepFault ground leaves p) fault) (same_place place b s at.leaf there.behaviour
      there.same_shape there.leaf) h

  pub misfit_there : (fault : StepFault) → own_wrong (setting_on ground) leaves s at.leaf (opened b) ≡ Some not_fitting
      → ((n : ℕ) → at.node ≡ kept_number n → TellsWrong n not_fitting fault) → UnlessMemory (IsFirstStepFault ground leaves place) fault
  misfit_there fault e told =
      there_refused fault (told_fault ground leaves (stand b s place.number at.leaf) not_fitting fault
      (misfits (setting_on ground) leaves s place.number at.leaf b e) (told place.number there.node))

  -- a part that is not there
  pub absent_there : (fault : StepFault)
      → fault_at_stand (setting_on ground) leaves (stand b s place.number at.leaf)
      ≡ Some (record { node = place.number; wrong = not_fitting })
      → ((n : ℕ) → at.node ≡ kept_number n → TellsWrong n not_fitting fault) → UnlessMemory (IsFirstStepFault ground leaves place) fault
  absent_there fault e told =
      there_refused fault (told_fault ground leaves (stand b s place.number at.leaf) not_fitting fault e (told place.number there.node))

-- Want of memory, and a refusal that is handed on.
pub memory_walked : (ground : Ground) (leaves : List Term) (place : Stand) (result : Result Moved StepFault)
    → IsErrAnd result (λ e. e ≡ step_fault.NoMemory) → IsWalked ground leaves place result
memory_walked ground leaves place (Ok moved) is = absurd is
memory_walked ground leaves place (Err fault) is = no_memory (IsFirstStepFault ground leaves place) fault is

pub refusal_walked : (ground : Ground) (leaves : List Term) (place : Stand) (result : Result Moved StepFault) (fault : StepFault)
    → IsErrAnd result (λ e. e ≡ fault) → UnlessMemory (IsFirstStepFault ground leaves place) fault → IsWalked ground leaves place result
refusal_walked ground leaves place (Ok moved) fault is told = absurd is
refusal_walked ground leaves place (Err e) fault is told =
    subst (λ (f : StepFault). UnlessMemory (IsFirstStepFault ground leaves place) f) (sym is) told

-- The answer for the copies of a gate `par` is that for it.
copies_moved : (ground : Ground) (leaves : List Term) (g : ℕ) (gates : List ℕ) (meet : SynchronisationSet) (b : Behaviour) (s :
    plain.Shape)
    (n k : ℕ) (moved : Moved) → IsMoved ground leaves (stand (copies g gates meet b) s n k) moved
    → IsMoved ground leaves (stand (par_gate g gates meet b) s n k) moved
copies_moved ground leaves g gates meet b s n k moved m = record {
  move = m.move;
  is = sym (moves_of_copies (setting_on ground) leaves g gates meet b s n k) ∙ m.is;
  faultless = sym (faults_of_copies (setting_on ground) leaves g gates meet b s n k) ∙ m.faultless;
  label = m.label;
  target = m.target;
  node_behind = m.node_behind;
  leaf_behind = m.leaf_behind;
  parts = m.parts;
  terms = m.terms;
  values = m.values;
}

pub copies_walked : (ground : Ground) (leaves : List Term) (g : ℕ) (gates : List ℕ) (meet : SynchronisationSet) (b : Behaviour) (s :
    plain.Shape)
    (n k : ℕ) (result : Result Moved StepFault) → IsWalked ground leaves (stand (copies g gates meet b) s n k) result
    → IsWalked ground leaves (stand (par_gate g gates meet b) s n k) result
copies_walked ground leaves g gates meet b s n k (Ok moved) m = copies_moved ground leaves g gates meet b s n k moved m
copies_walked ground leaves g gates meet b s n k (Err fault) h =
    unless_more (IsFirstStepFault ground leaves (stand (copies g gates meet b) s n k))
    (IsFirstStepFault ground leaves (stand (par_gate g gates
    meet b) s n k))
    (λ f first. record {
      first = first.first;
      is = sym (faults_of_copies (setting_on ground) leaves g gates meet b s n k) ∙ first.is;
      told = first.told;
    }) fault h
