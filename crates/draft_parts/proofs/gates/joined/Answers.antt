use Rattle.std.proofs.Common.{Bool, if◌then◌else◌, sym, subst}
use Rattle.std.proofs.lemmas.Result.{IfOk-weaker}
use Rattle.behaviour_tree.specs.BehaviourView.{meet_of}
use Rattle.draft_parts.specs.HasDrafts.{beside_drafts}
use Rattle.draft_parts.specs.Lists.{plain_drafts}
use Rattle.draft_parts.specs.RowDrafts.{IsThisSide, side_drafts}
use Rattle.draft_parts.proofs.gates.joined.Goals as goal

pub returns-then-last : goal.returns-then-last
returns-then-last c = λ signature h k.
    subst (λ (b : Bool). IsThisSide signature c.args.first (if b then plain_drafts c.args.lefts.items else beside_drafts signature
    (meet_of c.args.meet.now) c.args.first (plain_drafts c.args.lefts.items) (side_drafts c.args.first c.args.rest)) c.of.result)
    (sym c.if-last.true) (c.of.ensures signature h c.args.first)

pub returns : goal.returns
returns c =
    IfOk-weaker c.beside.result _ _ (λ made e signature h k.
    subst (λ (b : Bool). IsThisSide signature c.args.first (if b then plain_drafts c.args.lefts.items else beside_drafts signature
    (meet_of c.args.meet.now) c.args.first (plain_drafts c.args.lefts.items) (side_drafts c.args.first c.args.rest)) made)
    (sym c.if-last.false) (e signature h k)) c.beside.ensures
