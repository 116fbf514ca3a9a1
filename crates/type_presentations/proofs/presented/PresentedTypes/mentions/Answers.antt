use Rattle.std.proofs.Common.{ap}
use Rattle.lotos_base.specs.WrittenView.{placed_name_of}
use Rattle.type_definitions.specs.Flattened.{mention_of}
use Rattle.type_presentations.specs.MentionView.{mentioned_of, mentions_of}
use Rattle.type_presentations.proofs.JoinedLemmas.{due_next}
use Rattle.type_presentations.specs.PresentedView.{presented_in}
use Rattle.type_presentations.proofs.PresentedLemmas.{one_mention_more, made_so_far, mapped_and_last}
use Rattle.type_presentations.proofs.presented.PresentedTypes.mentions.Goals as goal

pub loop-named-preserved : goal.loop-named-preserved
loop-named-preserved c = (
  made_so_far (mentions_of c.loop-named.made.items) (mentions_of c.push.new.self.items) _ _ _
      (mention_of (presented_in c.args.self.now) (placed_name_of c.named-item.result))
      (mapped_and_last mentioned_of c.loop-named.made.items c.push.new.self.items _ _ c.in_ok-push.ensures.items
      (ap (λ p. record { at = placed_name_of c.named-item.result; presentation = p }) c.in_ok-named.ensures.presentation))
      (due_next c.args.names.now c.loop-named.named-index c.named-item.result placed_name_of (mention_of (presented_in c.args.self.now))
      c.loop-named-test.true c.named-item.is)
      c.loop-named.invariant.0,
  one_mention_more c.loop-named.made.items c.push.new.self.items _ c.in_ok-push.ensures.items c.loop-named.invariant.1
      c.in_ok-named.ensures.sound,
)
