use Rattle.std.proofs.Common.{◌∙◌, ap, not, nat_eq}
use Rattle.std.specs.Prelude.{◌||◌}
use Rattle.sort_terms.specs.Operations.{operation_of}
use Rattle.type_equations.specs.OtherResults.{has_other}
use Rattle.type_equations.proofs.TwinLemmas.{one_more}
use Rattle.type_equations.proofs.twins.ResultsByKey.add.Goals as goal

pub returns : goal.returns
returns c =
    λ operations. one_more operations c.args.self.now (record { by_key = c.insert.new.self }) (operation_of c.args.op.now) c.in_ok-key.key
    c.common_result.result c.in_ok-key.ensures c.in_ok-insert.ensures.updates.0
    (λ one. c.common_result.ensures one
    ∙ ap (λ known. has_other known one || not (nat_eq one c.args.op.now.result)) (c.copied-known.ensures ∙ c.get.ensures.value))
