use Rattle.std.proofs.Common.{map, subst}
use Rattle.std.specs.Prelude.{IfOk}
use Rattle.std.specs.Option.{ForSome}
use Rattle.sort_terms.specs.Operations.{operation_of}
use Rattle.scope_parts.specs.TermsView.{IsTruthAmong}
use Rattle.scope_parts.proofs.constants.truth_for.Goals as goal

pub returns-in-Some-clause-known : goal.returns-in-Some-clause-known
returns-in-Some-clause-known c =
    subst (λ ops. IfOk c.true_of_sort.result (λ truth. ForSome truth (IsTruthAmong (map operation_of ops)))) c.ops.ensures
    c.true_of_sort.ensures.known
