use Rattle.draft_parts.specs.DraftRules.{draft_within}
use Rattle.menu_builder.specs.SharedShapes.{AreShared, below_all}
use Rattle.draft_parts.proofs.PutLemmas.{ArePutSoFar}
use Rattle.menu_builder.proofs.choices.put_below_path.Given as goal

abbrev pub invariant-loop-i : goal.invariant-loop-i
invariant-loop-i l = record {
  put : ArePutSoFar (draft_within (below_all l.path)) l.fn.drafts.items l.drafts.items l.i;
  shared : AreShared l.shapes.items;
}
