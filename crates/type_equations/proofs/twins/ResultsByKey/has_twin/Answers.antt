use Rattle.std.proofs.Common.{◌∙◌, ap}
use Rattle.sort_terms.specs.Operations.{operation_of}
use Rattle.type_equations.specs.OtherResults.{has_other}
use Rattle.type_equations.proofs.twins.ResultsByKey.has_twin.Goals as goal

pub returns : goal.returns
returns c =
    λ operations tell. c.is_other_known.ensures
    ∙ ap (λ known. has_other known c.args.op.now.result) (c.copied.ensures ∙ c.get.ensures.value)
    ∙ tell c.in_ok-key.key (operation_of c.args.op.now) c.in_ok-key.ensures
