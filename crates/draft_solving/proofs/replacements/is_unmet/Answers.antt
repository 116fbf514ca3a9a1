use Rattle.std.proofs.Common.{ap, sym, ◌∙◌, Bool, not, ◌&&◌}
use Rattle.lotos_base.specs.Tests.{term_eq}
use Rattle.sort_terms.specs.SortedView.{term_in}
use Rattle.draft_solving.proofs.ChangingLemmas.{differ_told}
use Rattle.draft_solving.proofs.replacements.is_unmet.Goals as goal

pub returns : goal.returns
returns c =
    differ_told c.same.result (term_in c.args.condition.now.0) (term_in c.args.condition.now.1) c.same.ensures
    ∙ ap (λ (b : Bool). b && not (term_eq (term_in c.args.condition.now.0) (term_in c.args.condition.now.1)))
    (sym c.if-not-is_closed.false ∙ c.is_closed.ensures)
