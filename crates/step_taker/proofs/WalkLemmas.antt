-- What answers for nodes with one part come to, from those for the part.
use Rattle.std.proofs.Common.{◌≡◌, ℕ, ◌+◌, List, length, None, Some, Result, Ok, Err, refl, ap, sym, ◌∙◌, arith}
use Rattle.lotos_base.specs.Term.{Term}
use Rattle.behaviour_semantics.specs.Behaviour.{Behaviour}
use Rattle.behaviour_semantics.specs.Fault.{not_fitting, size, Wrong}
use Rattle.behaviour_semantics.specs.Label.{Label}
use Rattle.behaviour_semantics.specs.Move.{Move}
use Rattle.behaviour_semantics.specs.Shape as plain
use Rattle.behaviour_tree.specs.MoveView.{label_of}
use Rattle.behaviour_tree.specs.Over.{AreTermsOf}
use Rattle.behaviour_tree.specs.StateView.{node_profiles, stands_for}
use Rattle.step_parts.specs.HandedOn.{label_profiles}
use Rattle.step_parts.specs.StepFaults.{IsWrongTold, kept_number, TellsWrong, UnlessMemory}
use Rattle.step_parts.specs.TargetNodes.{HasClosedParts}
use Rattle.step_parts.specs.declared.faults.StepFault.{StepFault}
use Rattle.step_parts.proofs.CheckedLemmas.{unless_more, unless_told}
use Rattle.step_taker.specs.Stands.{fault_at_stand, HasRow, Row, stand, Stand}
use Rattle.step_taker.specs.Taken.{Ground, setting_on}
use Rattle.step_taker.specs.Walked.{IsPartBelow, IsFirstStepFault, IsMoved, IsWalked}
use Rattle.step_taker.specs.declared.moved.Moved.{Moved}
use Rattle.step_taker.proofs.RowLemmas.{label_fault, moved_after, no_fault, own_fault, part_fault}

-- a place whose behaviour and shape are known
pub same_place : (place : Stand) (b : Behaviour) (s : plain.Shape) (k : ℕ) → b ≡ place.behaviour → s ≡ place.shape → k ≡ place.next
    → stand b s place.number k ≡ place
same_place place b s k e f h =
    ap (λ (x : Behaviour). stand x s place.number k) e ∙ ap (λ (x : plain.Shape). stand place.behaviour x place.number k) f
    ∙ ap (λ (x : ℕ). stand place.behaviour place.shape place.number x) h

-- a refusal that tells the fault of a node
pub told_fault : (ground : Ground) (leaves : List Term) (place : Stand) (w : Wrong) (fault : StepFault)
    → fault_at_stand (setting_on ground) leaves place ≡ Some (record { node = place.number; wrong = w }) → TellsWrong place.number w fault
    → UnlessMemory (IsFirstStepFault ground leaves place) fault
told_fault ground leaves place w fault is told =
    unless_told (IsFirstStepFault ground leaves place) fault (record {
      first = record { node = place.number; wrong = w };
      is = is;
      told = told;
    })

-- What is made of the move of a part: a move of the whole, or what the walk needs to know of it.
pub record IsMade (ground : Ground) (whole part : Stand) (moved made : Moved) (m n : Move) : Type 0 where
  pub label : label_of made.label ≡ n.label
  pub target : stands_for made.target.value ≡ n.target
  pub behind : made.behind ≡ moved.behind
  pub nodes : whole.number + size whole.shape ≡ part.number + size part.shape
  pub leaves : whole.next + length n.sorts ≡ part.next + length m.sorts
  pub parts : HasClosedParts made.target.value
  pub terms : AreTermsOf ground.data_.signature (node_profiles made.target.value)
  pub values : AreTermsOf ground.data_.signature (label_profiles made.label)

-- the nodes of a whole that stands above its part
pub nodes_below : (whole part : Stand) → IsPartBelow whole part → whole.number + size whole.shape ≡ part.number + size part.shape
nodes_below whole part below = omega (arith, below.number, below.sizes)

module _ (ground : Ground) (leaves : List Term) (whole part : Stand) (row : Row) (has : HasRow (setting_on ground) leaves whole part row)
  where
    pub walked_own : (fault : StepFault) → UnlessMemory (IsWrongTold whole.number row.own) fault
        → UnlessMemory (IsFirstStepFault ground leaves whole) fault
    walked_own =
        unless_more (IsWrongTold whole.number row.own) (IsFirstStepFault ground leaves whole) (λ fault h. record {
          first = record { node = whole.number; wrong = h.what };
          is = own_fault (setting_on ground) leaves whole part row has h.what h.is;
          told = h.told;
        })

    pub walked_part : row.own ≡ None → (fault : StepFault) → UnlessMemory (IsFirstStepFault ground leaves part) fault
        → UnlessMemory (IsFirstStepFault ground leaves whole) fault
    walked_part e =
        unless_more (IsFirstStepFault ground leaves part) (IsFirstStepFault ground leaves whole) (λ fault h. record {
          first = h.first;
          is = part_fault (setting_on ground) leaves whole part row has e h.first h.is;
          told = h.told;
        })

    module _ (e : row.own ≡ None) (moved : Moved) (m : IsMoved ground leaves part moved) where
      same_label : row.label m.move.label ≡ row.label (label_of moved.label)
      same_label = ap row.label (sym m.label)

      pub walked_label : (fault : StepFault) → UnlessMemory (IsWrongTold whole.number (row.label (label_of moved.label))) fault
          → UnlessMemory (IsFirstStepFault ground leaves whole) fault
      walked_label =
          unless_more (IsWrongTold whole.number (row.label (label_of moved.label))) (IsFirstStepFault ground leaves whole) (λ fault h.
          record {
            first = record { node = whole.number; wrong = h.what };
            is = label_fault (setting_on ground) leaves whole part row has e m.faultless m.move m.is h.what (same_label ∙ h.is);
            told = h.told;
          })

      -- a label that does not suit the rule
      pub walked_misfit : (fault : StepFault) → row.label (label_of moved.label) ≡ Some not_fitting → TellsWrong whole.number not_fitting
          fault
          → UnlessMemory (IsFirstStepFault ground leaves whole) fault
      walked_misfit fault is told =
          told_fault ground leaves whole not_fitting fault
          (label_fault (setting_on ground) leaves whole part row has e m.faultless m.move m.is not_fitting (same_label ∙ is)) told

      pub walked_made : (made : Moved) (n : Move) → row.label (label_of moved.label) ≡ None → row.after m.move ≡ Some n
          → IsMade ground whole part moved made m.move n → IsMoved ground leaves whole made
      walked_made made n quiet after is = record {
        move = n;
        is = moved_after (setting_on ground) leaves whole part row has m.move n m.is after;
        faultless = no_fault (setting_on ground) leaves whole part row has e m.faultless m.move m.is (same_label ∙ quiet);
        label = is.label;
        target = is.target;
        node_behind = ap (λ behind. behind.node) is.behind ∙ m.node_behind ∙ ap kept_number (sym is.nodes);
        leaf_behind = ap (λ behind. behind.leaf) is.behind ∙ m.leaf_behind ∙ sym is.leaves;
        parts = is.parts;
        terms = is.terms;
        values = is.values;
      }

      -- the move of the part as that of the whole
      pub walked_same : (n : Move) → row.label (label_of moved.label) ≡ None → row.after m.move ≡ Some n
          → m.move.label ≡ n.label → m.move.target ≡ n.target → whole.number + size whole.shape ≡ part.number + size part.shape
          → whole.next + length n.sorts ≡ part.next + length m.move.sorts → IsMoved ground leaves whole moved
      walked_same n quiet after l t nodes sorts =
          walked_made moved n quiet after (record {
            label = m.label ∙ l;
            target = m.target ∙ t;
            behind = refl;
            nodes = nodes;
            leaves = sorts;
            parts = m.parts;
            terms = m.terms;
            values = m.values;
          })

-- An answer for the part that is handed on, where nothing is asked of the label, and the move is that of the part with other
-- equations and sorts.
pub walked_on : (ground : Ground) (leaves : List Term) (whole part : Stand) (row : Row) → HasRow (setting_on ground) leaves whole
    part row
    → row.own ≡ None → ((l : Label) → row.label l ≡ None) → (f : Move → Move) → ((m : Move) → row.after m ≡ Some (f m))
    → ((m : Move) → m.label ≡ (f m).label) → ((m : Move) → m.target ≡ (f m).target)
    → whole.number + size whole.shape ≡ part.number + size part.shape
    → ((m : Move) → whole.next + length (f m).sorts ≡ part.next + length m.sorts)
    → (result : Result Moved StepFault) → IsWalked ground leaves part result → IsWalked ground leaves whole result
walked_on ground leaves whole part row has own quiet f after l t nodes sorts (Ok moved) m =
    walked_same ground leaves whole part row has own moved m (f m.move) (quiet (label_of moved.label)) (after m.move) (l m.move) (t
    m.move)
    nodes (sorts m.move)
walked_on ground leaves whole part row has own quiet f after l t nodes sorts (Err fault) h =
    walked_part ground leaves whole part row has own fault h
