use Rattle.draft_parts.proofs.RuleListLemmas.{rule_lists}
use Rattle.draft_parts.proofs.draft_list_laws.rule_lists_are_the_drafts.Goals as goal

pub returns : goal.returns
returns c = rule_lists
