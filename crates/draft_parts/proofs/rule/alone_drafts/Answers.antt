use Rattle.std.proofs.Common.{rules, ◌∙◌}
use Rattle.std.proofs.lemmas.Fn.{filter_same}
use Rattle.behaviour_semantics.specs.Rule.{moves_alone}
use Rattle.behaviour_tree.specs.BehaviourView.{meet_of}
use Rattle.behaviour_tree.specs.MoveView.{label_of}
use Rattle.event_offers.specs.declared.drafts.Draft.{Draft}
use Rattle.draft_parts.proofs.PartingLemmas.{alone_filtered}
use Rattle.draft_parts.proofs.rule.alone_drafts.Goals as goal

pub returns : goal.returns
returns c =
    filter_same _ (λ (d : Draft). moves_alone (meet_of c.args.meet.now) (label_of d.label)) _ (λ x b f k. search rules) _ _
    c.retain.ensures.filtered
    ∙ alone_filtered (meet_of c.args.meet.now) c.args.drafts.items
