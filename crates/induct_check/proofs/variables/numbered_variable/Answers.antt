use Rattle.std.proofs.Common.{sym, subst}
use Rattle.lotos_base.specs.Name.{spelling}
use Rattle.sort_terms.specs.Reading.{IsSortNamed}
use Rattle.induct_parts.proofs.Outcomes.{match_none_at}
use Rattle.induct_check.proofs.variables.numbered_variable.Goals as goal

pub returns-in_default : goal.returns-in_default
returns-in_default c = λ s named.
    match_none_at _ _ c.in_ok-sort.field-0 c.in_default.is c.in_ok-sort.ensures s
    (subst (λ signature. IsSortNamed signature s (spelling c.args.written.now.sort)) (sym c.requires.reader) named)
