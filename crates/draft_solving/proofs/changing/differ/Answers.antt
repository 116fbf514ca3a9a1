use Rattle.sort_terms.specs.SortedView.{term_in}
use Rattle.draft_solving.proofs.ChangingLemmas.{differ_told}
use Rattle.draft_solving.proofs.changing.differ.Goals as goal

pub returns : goal.returns
returns c = differ_told c.same.result (term_in c.args.condition.now.0) (term_in c.args.condition.now.1) c.same.ensures
