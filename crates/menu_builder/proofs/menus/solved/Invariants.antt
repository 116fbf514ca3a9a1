use Rattle.std.proofs.Common.{length}
use Rattle.draft_parts.specs.HandedOn.{KeepsData}
use Rattle.menu_builder.proofs.SolvedLemmas.{AreHalfSolved}
use Rattle.menu_builder.proofs.menus.solved.Given as goal

abbrev pub invariant-loop-draft : goal.invariant-loop-draft
invariant-loop-draft g l = record {
  half : AreHalfSolved (g.D.Deciding.known_data l.fn.decider).signature (g.D.Deciding.canon l.fn.decider) l.base l.fn.drafts.items
      l.rest.items l.entries.items;
  same_known : KeepsData g.D.Deciding.known_data g.D.Deciding.canon l.fn.decider l.decider;
}

abbrev pub decreases-loop-draft : goal.decreases-loop-draft
decreases-loop-draft g l = length l.rest.items
