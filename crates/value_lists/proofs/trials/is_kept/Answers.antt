-- By what the first match says.
use Rattle.sort_terms.specs.TermView.{profiled_of}
use Rattle.value_lists.proofs.CodeLemmas.{told_none, told_some}
use Rattle.value_lists.proofs.trials.is_kept.Goals as goal

pub returns-in-None : goal.returns-in-None
returns-in-None c =
    told_none c.args.rules.now (profiled_of c.args.term.now) c.in_ok-found.found c.in_ok-found.ensures c.in-None.is

pub returns-in-Some : goal.returns-in-Some
returns-in-Some c =
    told_some c.args.rules.now (profiled_of c.args.term.now) c.in_ok-found.found c.in-Some.field-0 c.in_ok-found.ensures c.in-Some.is
