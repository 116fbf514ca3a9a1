-- What each rule of the dynamic semantics makes of the draft of a part, without its target.
use Rattle.std.specs.Prelude.{ℕ, List, ◌∷◌, Option, None, Some, if◌then◌else◌}
use Rattle.lotos_base.specs.Signature.{Signature}
use Rattle.lotos_base.specs.Term.{Term}
use Rattle.behaviour_semantics.specs.Behaviour.{Test, SynchronisationSet, Relabelling}
use Rattle.behaviour_semantics.specs.Label.{Label, inner_event, gate_event, exit_event, label_under}
use Rattle.behaviour_semantics.specs.Rule.{moves_alone, have_sorts, move_together, hidden_label}
use Rattle.behaviour_semantics.specs.Shape.{Shape, guarded, hidden, enabled, passed, with_value}
use Rattle.behaviour_semantics.specs.Move.{taken}
use Rattle.behaviour_semantics.specs.Draft.{Draft, leaves_from}
use Rattle.behaviour_semantics.specs.Join.{both_drafts}
use Rattle.behaviour_semantics.specs.Listing.{ShapedMove}

-- The draft that a move makes whose leaves are variables: leaf number `k` is the variable `base + k`, and the first leaf has
-- the number `next`.
abbrev pub open_draft : ℕ → ℕ → ShapedMove → Draft
open_draft base next x = record {
  shape = x.shape;
  label = x.move.label;
  leaves = taken (leaves_from base) next x.move.sorts;
  conditions = x.move.asked;
}

-- The draft below a variant of shapes.
abbrev pub draft_within : (Shape → Shape) → Draft → Draft
draft_within variant d = record d { shape = variant d.shape }

-- Below a guard its test comes before the conditions.
abbrev pub guarded_draft : Test → Draft → Draft
guarded_draft test d = record d { shape = guarded d.shape; conditions = test ∷ d.conditions }

-- A side of a parallel that moves alone.
abbrev pub alone_draft : SynchronisationSet → (Shape → Shape) → Draft → Option Draft
alone_draft meet variant d = if moves_alone meet d.label then Some (draft_within variant d) else None

-- Both sides of a parallel.
abbrev pub together_draft : Signature → SynchronisationSet → Draft → Draft → Option Draft
together_draft signature meet d e = if move_together signature meet d.label e.label then Some (both_drafts d e) else None

-- Under `hide`.
abbrev pub hidden_draft : List ℕ → Draft → Draft
hidden_draft gates d = record d { shape = hidden d.shape; label = hidden_label gates d.label }

-- A left side of `>>` that ended.
abbrev pub ended_draft : Draft → Draft
ended_draft d = record d { shape = enabled d.shape; label = inner_event }

-- A left side of `>>` that ends with these values, or one that goes on.
abbrev pub enable_by : Signature → List ℕ → Draft → Label → Option Draft
enable_by signature sorts d inner_event = Some (draft_within passed d)
enable_by signature sorts d (gate_event g values) = Some (draft_within passed d)
enable_by signature sorts d (exit_event values) =
    if have_sorts signature values sorts then Some (ended_draft d) else None

abbrev pub enable_draft : Signature → List ℕ → Draft → Option Draft
enable_draft signature sorts d = enable_by signature sorts d d.label

-- One more leaf, before those of the part.
abbrev pub valued_draft : Term → Draft → Draft
valued_draft leaf d = record d { shape = with_value d.shape; leaves = leaf ∷ d.leaves }

-- Under a relabelling.
abbrev pub relabelled_draft : (Shape → Shape) → Relabelling → Draft → Draft
relabelled_draft variant pairs d = record d { shape = variant d.shape; label = label_under pairs d.label }
