use Rattle.draft_parts.specs.DraftRules.{draft_within}
use Rattle.draft_parts.specs.VariantView.{variant_of}
use Rattle.draft_parts.proofs.PutLemmas.{ArePutSoFar}
use Rattle.draft_parts.proofs.rule.put_all_below.Given as goal

abbrev pub invariant-loop-i : goal.invariant-loop-i
invariant-loop-i l = ArePutSoFar (draft_within (variant_of l.variant)) l.fn.drafts.items l.drafts.items l.i
