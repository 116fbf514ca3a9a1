-- Both sides of a parallel: from the answers for the sides to that for the whole.
use Rattle.std.proofs.Common.{◌≡◌, ℕ, suc, ◌+◌, List, ◌++◌, length, None, ap, sym, ◌∙◌, subst, arith}
use Rattle.std.proofs.lemmas.List.{length-append}
use Rattle.lotos_base.specs.Term.{Term}
use Rattle.behaviour_semantics.specs.Behaviour.{Behaviour, parallel, SynchronisationSet}
use Rattle.behaviour_semantics.specs.Fault.{match_wrong, size}
use Rattle.behaviour_semantics.specs.Label as plain
use Rattle.behaviour_semantics.specs.Shape as plain_shape
use Rattle.behaviour_tree.specs.MoveView.{label_of}
use Rattle.behaviour_tree.specs.StateView.{stands_for}
use Rattle.step_parts.specs.StepFaults.{IsWrongTold, kept_number, UnlessMemory}
use Rattle.step_parts.specs.declared.faults.StepFault.{StepFault}
use Rattle.step_parts.proofs.CheckedLemmas.{unless_more}
use Rattle.step_taker.specs.Stands.{stand}
use Rattle.step_taker.specs.Taken.{Ground, setting_on}
use Rattle.step_taker.specs.Walked.{IsFirstStepFault, IsMoved}
use Rattle.step_taker.specs.declared.moved.Moved.{Moved}
use Rattle.step_taker.proofs.MadeLemmas.{IsOver}
use Rattle.step_taker.proofs.SidesLemmas.{joined, left_fault, match_fault, moved_together, none_matched, right_fault}

module _ (ground : Ground) (leaves : List Term) (meet : SynchronisationSet) (b c : Behaviour) (s t : plain_shape.Shape) (n k : ℕ) where
  pub left_told : (fault : StepFault) → UnlessMemory (IsFirstStepFault ground leaves (stand b s (suc n) k)) fault
      → UnlessMemory (IsFirstStepFault ground leaves (stand (parallel meet b c) (plain_shape.both_sides s t) n k)) fault
  left_told =
      unless_more (IsFirstStepFault ground leaves (stand b s (suc n) k))
      (IsFirstStepFault ground leaves (stand (parallel meet b c) (plain_shape.both_sides s t) n k)) (λ fault h. record {
        first = h.first;
        is = left_fault (setting_on ground) leaves meet b c s t n k h.first h.is;
        told = h.told;
      })

  module _ (first : Moved) (l : IsMoved ground leaves (stand b s (suc n) k) first) where
    told_right : (fault : StepFault) → UnlessMemory (IsFirstStepFault ground leaves
        (stand c t (suc (n + size s)) (k + length l.move.sorts)))
        fault
        → UnlessMemory (IsFirstStepFault ground leaves (stand (parallel meet b c) (plain_shape.both_sides s t) n k)) fault
    told_right =
        unless_more (IsFirstStepFault ground leaves (stand c t (suc (n + size s)) (k + length l.move.sorts)))
        (IsFirstStepFault ground leaves (stand (parallel meet b c) (plain_shape.both_sides s t) n k)) (λ fault h. record {
          first = h.first;
          is = right_fault (setting_on ground) leaves meet b c s t n k l.faultless l.move l.is h.first h.is;
          told = h.told;
        })

    pub right_told : (fault : StepFault) → UnlessMemory (IsFirstStepFault ground leaves (stand c t (suc (n + size s)) first.behind.leaf))
        fault
        → UnlessMemory (IsFirstStepFault ground leaves (stand (parallel meet b c) (plain_shape.both_sides s t) n k)) fault
    right_told fault h =
        told_right fault (subst (λ (next : ℕ). UnlessMemory (IsFirstStepFault ground leaves (stand c t (suc (n + size s)) next)) fault)
        l.leaf_behind h)

    module _ (second : Moved) (r : IsMoved ground leaves (stand c t (suc (n + size s)) (k + length l.move.sorts)) second) where
      same_match : match_wrong (setting_on ground) meet l.move.label r.move.label
          ≡ match_wrong (setting_on ground) meet (label_of first.label) (label_of second.label)
      same_match =
          ap (λ (x : plain.Label). match_wrong (setting_on ground) meet x r.move.label) (sym l.label)
          ∙ ap (λ (x : plain.Label). match_wrong (setting_on ground) meet (label_of first.label) x) (sym r.label)

      matched_told : (fault : StepFault)
          → UnlessMemory (IsWrongTold n (match_wrong (setting_on ground) meet (label_of first.label) (label_of second.label))) fault
          → UnlessMemory (IsFirstStepFault ground leaves (stand (parallel meet b c) (plain_shape.both_sides s t) n k)) fault
      matched_told =
          unless_more (IsWrongTold n (match_wrong (setting_on ground) meet (label_of first.label) (label_of second.label)))
          (IsFirstStepFault ground leaves (stand (parallel meet b c) (plain_shape.both_sides s t) n k)) (λ fault h. record {
            first = record { node = n; wrong = h.what };
            is = match_fault (setting_on ground) leaves meet b c s t n k l.faultless l.move l.is r.faultless r.move r.is h.what
                (same_match ∙ h.is);
            told = h.told;
          })

      made_together : (made : Moved) → match_wrong (setting_on ground) meet (label_of first.label) (label_of second.label) ≡ None
          → label_of made.label ≡ label_of first.label
          → stands_for made.target.value ≡ parallel meet (stands_for first.target.value) (stands_for second.target.value) → made.behind ≡
          second.behind
          → IsOver ground made → IsMoved ground leaves (stand (parallel meet b c) (plain_shape.both_sides s t) n k) made
      made_together made e same target behind over = record {
        move = joined (setting_on ground) leaves meet b c s t n k l.faultless l.move l.is r.faultless r.move r.is;
        is = moved_together (setting_on ground) leaves meet b c s t n k l.faultless l.move l.is r.faultless r.move r.is (same_match ∙ e);
        faultless = none_matched (setting_on ground) leaves meet b c s t n k l.faultless l.move l.is r.faultless r.move r.is (same_match
            ∙ e);
        label = same ∙ l.label;
        target = target ∙ ap (λ (x : Behaviour). parallel meet x (stands_for second.target.value)) l.target
            ∙ ap (λ (x : Behaviour). parallel meet l.move.target x) r.target;
        node_behind = ap (λ at. at.node) behind ∙ r.node_behind
            ∙ ap kept_number (nodes n (size s) (size t));
        leaf_behind = ap (λ at. at.leaf) behind ∙ r.leaf_behind
            ∙ ends k (length l.move.sorts) (length r.move.sorts) (length (l.move.sorts ++ r.move.sorts))
            (length-append l.move.sorts r.move.sorts);
        parts = over.parts;
        terms = over.terms;
        values = over.values;
      }
        where
          nodes : (a i j : ℕ) → suc (a + i) + j ≡ a + suc (i + j)
          nodes a i j = omega arith

          ends : (a i j l : ℕ) → l ≡ i + j → (a + i) + j ≡ a + l
          ends a i j l e = omega arith

    there : (second : Moved) → IsMoved ground leaves (stand c t (suc (n + size s)) first.behind.leaf) second
        → IsMoved ground leaves (stand c t (suc (n + size s)) (k + length l.move.sorts)) second
    there second r = subst (λ (next : ℕ). IsMoved ground leaves (stand c t (suc (n + size s)) next) second) l.leaf_behind r

    pub match_told : (second : Moved) → IsMoved ground leaves (stand c t (suc (n + size s)) first.behind.leaf) second → (fault :
        StepFault)
        → UnlessMemory (IsWrongTold n (match_wrong (setting_on ground) meet (label_of first.label) (label_of second.label))) fault
        → UnlessMemory (IsFirstStepFault ground leaves (stand (parallel meet b c) (plain_shape.both_sides s t) n k)) fault
    match_told second r fault h = matched_told second (there second r) fault h

    pub both_made : (second : Moved) → IsMoved ground leaves (stand c t (suc (n + size s)) first.behind.leaf) second → (made : Moved)
        → match_wrong (setting_on ground) meet (label_of first.label) (label_of second.label) ≡ None
        → label_of made.label ≡ label_of first.label
        → stands_for made.target.value ≡ parallel meet (stands_for first.target.value) (stands_for second.target.value) → made.behind ≡
        second.behind
        → IsOver ground made → IsMoved ground leaves (stand (parallel meet b c) (plain_shape.both_sides s t) n k) made
    both_made second r made e same target behind over = made_together second (there second r) made e same target behind over
