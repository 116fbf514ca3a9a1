use Rattle.draft_parts.proofs.DraftRuleLemmas.{rules_make}
use Rattle.draft_parts.proofs.laws.rules_make_the_drafts.Goals as goal

pub returns : goal.returns
returns c = rules_make
