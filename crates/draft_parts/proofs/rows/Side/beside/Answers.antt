use Rattle.std.proofs.Common.{sym, subst}
use Rattle.std.proofs.lemmas.Result.{IfOk-weaker}
use Rattle.behaviour_tree.specs.BehaviourView.{meet_of}
use Rattle.draft_parts.specs.HasDrafts.{beside_drafts}
use Rattle.draft_parts.specs.Lists.{plain_drafts}
use Rattle.draft_parts.specs.RowDrafts.{IsRowSideOf, IsThisSide, side_drafts}
use Rattle.draft_parts.specs.declared.rows.Side.{Side}
use Rattle.draft_parts.proofs.RowDraftLemmas.{side_by}
use Rattle.draft_parts.proofs.rows.Side.beside.Goals as goal

pub returns-in_ok-made-in-Drafts : goal.returns-in_ok-made-in-Drafts
returns-in_ok-made-in-Drafts c = λ signature h.
    subst (λ (side : Side). IsRowSideOf signature side
    → IsThisSide signature c.args.first (beside_drafts signature (meet_of c.args.meet.now)
    c.args.first (plain_drafts c.args.lefts.items) (side_drafts c.args.first side)) c.of.result) (sym c.in-Drafts.is)
    (λ k. side_by signature c.args.first c.of.result _ c.in_ok-made-in-Drafts.made.items (c.in_ok-made-in-Drafts.ensures signature h k)
    (λ over. c.of.ensures signature over c.args.first))

pub returns-in-Met : goal.returns-in-Met
returns-in-Met c =
    IfOk-weaker c.beside-in-Met.result _ _ (λ made e signature h.
    subst (λ (side : Side). IsRowSideOf signature side
    → IsThisSide signature c.args.first (beside_drafts signature (meet_of c.args.meet.now)
    c.args.first (plain_drafts c.args.lefts.items) (side_drafts c.args.first side)) made) (sym c.in-Met.is) (e signature h))
    c.beside-in-Met.ensures
