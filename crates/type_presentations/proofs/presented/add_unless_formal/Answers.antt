use Rattle.type_presentations.proofs.PresentedLemmas.{one_mention_more}
use Rattle.type_presentations.proofs.presented.add_unless_formal.Goals as goal

pub returns-clause-sound : goal.returns-clause-sound
returns-clause-sound c = λ are.
    one_mention_more c.args.made.now.items c.push.new.self.items _ c.in_ok-push.ensures.items are c.requires
