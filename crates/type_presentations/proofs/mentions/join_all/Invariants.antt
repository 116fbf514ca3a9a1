use Rattle.std.proofs.Common.{drop}
use Rattle.type_presentations.specs.MentionView.{mentions_of}
use Rattle.type_presentations.proofs.MentionLemmas.{IsOnTheWay}
use Rattle.type_presentations.proofs.mentions.join_all.Given as goal

abbrev pub invariant-loop-mention : goal.invariant-loop-mention
invariant-loop-mention l = IsOnTheWay l.union (mentions_of (drop l.mention-index l.mentions)) (mentions_of l.mentions)
