use Rattle.draft_parts.proofs.BothListLemmas.{both_are_drafts}
use Rattle.draft_parts.proofs.draft_list_laws.both_lists_are_the_drafts.Goals as goal

pub returns : goal.returns
returns c = both_are_drafts
