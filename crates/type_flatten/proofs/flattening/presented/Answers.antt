use Rattle.std.proofs.lemmas.Result.{err_from_is_err_and}
use Rattle.std.proofs.Common.{List, subst}
use Rattle.type_definitions.specs.Union.{Mentioned}
use Rattle.type_definitions.specs.TypeView.{declared_types_of}
use Rattle.type_flatten.specs.FlatView.{ArePresentedBehind, AreRefusedBehind}
use Rattle.type_flatten.proofs.flattening.presented.Goals as goal

pub returns-in_err-present_all : goal.returns-in_err-present_all
returns-in_err-present_all c =
    let p = err_from_is_err_and c.from_residual.result c.from_residual.ensures.1 in
    rw (p.1, p.2)
    (subst (λ (done : List Mentioned). AreRefusedBehind done (declared_types_of c.args.texts.now) c.in_err-present_all.field-0.0)
    c.new-types.ensures.presented c.in_err-present_all.ensures)

pub returns : goal.returns
returns c =
    subst (λ (done : List Mentioned). ArePresentedBehind done (declared_types_of c.args.texts.now) c.present_all.new.types)
    c.new-types.ensures.presented c.in_ok-present_all.ensures
