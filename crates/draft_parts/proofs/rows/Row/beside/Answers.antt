use Rattle.std.proofs.Common.{refl}
use Rattle.behaviour_tree.specs.BehaviourView.{meet_of}
use Rattle.draft_parts.specs.Lists.{plain_drafts}
use Rattle.draft_parts.proofs.RowDraftLemmas.{row_extended, side_by, beside_these}
use Rattle.draft_parts.proofs.rows.Row.beside.Goals as goal

pub returns-then-is_met_by_one : goal.returns-then-is_met_by_one
returns-then-is_met_by_one c = λ signature h k.
    row_extended signature (meet_of c.args.meet.now) c.args.first c.args.self _ c.args.lefts.items refl c.in_ok-lefts.ensures
    (c.if-is_met_by_one.ensures refl) h k

pub returns : goal.returns
returns c = λ signature h k.
    side_by signature c.args.first c.of.result _ c.in_ok-made.made.items
    (beside_these signature (meet_of c.args.meet.now) c.args.first (plain_drafts c.args.lefts.items) _ c.in_ok-rights.rights.items
    c.in_ok-made.made.items (c.in_ok-rights.ensures signature k) (λ over. c.in_ok-made.ensures signature h over))
    (λ over. c.of.ensures signature over c.args.first)
