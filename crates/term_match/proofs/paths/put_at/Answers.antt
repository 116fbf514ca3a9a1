use Rattle.sort_terms.specs.SortedView.{profiled_in}
use Rattle.std.proofs.lemmas.Result.{IfOk-weaker}
use Rattle.term_match.proofs.PathLemmas.{replaced_none, replaced_plain}
use Rattle.term_match.proofs.paths.put_at.Goals as goal

pub returns-clause-none : goal.returns-clause-none
returns-clause-none c =
    IfOk-weaker c.replacement.result _ _
    (λ o e. replaced_none c.args.path.now (profiled_in c.args.part.now) (profiled_in c.args.term.now) o e) c.replacement.ensures

pub returns-clause-plain : goal.returns-clause-plain
returns-clause-plain c =
    IfOk-weaker c.replacement.result _ _
    (λ o e. replaced_plain c.args.path.now (profiled_in c.args.part.now) (profiled_in c.args.term.now) o e) c.replacement.ensures
