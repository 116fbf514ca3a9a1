use Rattle.std.proofs.Common.{subst, sym}
use Rattle.std.proofs.lemmas.Result.{IfOk-weaker}
use Rattle.behaviour_tree.specs.BehaviourView.{meet_of}
use Rattle.draft_parts.specs.Lists.{AreMadeBy}
use Rattle.draft_parts.specs.RuleView.{made_by}
use Rattle.draft_parts.specs.VariantView.{variant_of}
use Rattle.draft_parts.specs.declared.rule.Rule.{Rule}
use Rattle.draft_parts.proofs.MadeLemmas.{rest_alone}
use Rattle.draft_parts.proofs.rule.Rule.apply_to_all.Goals as goal

pub returns-in-Below : goal.returns-in-Below
returns-in-Below c =
    IfOk-weaker c.all_below.result _ _ (λ made e signature r h.
    subst (λ (rule : Rule). AreMadeBy signature (made_by signature rule) c.args.drafts.items made.items) (sym c.in-Below.is)
    (e signature h)) c.all_below.ensures

pub returns-in-Alone : goal.returns-in-Alone
returns-in-Alone c =
    IfOk-weaker c.all_below-in-Alone.result _ _ (λ made e signature r h.
    subst (λ (rule : Rule). AreMadeBy signature (made_by signature rule) c.args.drafts.items made.items) (sym c.in-Alone.is)
    (rest_alone signature (meet_of c.in-Alone.meet.now) (variant_of c.in-Alone.variant) c.args.drafts.items c.alone_drafts.result.items
    made.items c.alone_drafts.ensures h (e signature))) c.all_below-in-Alone.ensures
