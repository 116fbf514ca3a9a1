use Rattle.std.proofs.lemmas.Result.{MatchResult-weaker, err_from_is_err_and}
use Rattle.type_definitions.specs.TypeView.{declared_types_of}
use Rattle.type_presentations.specs.PresentedView.{presented_in}
use Rattle.type_flatten.proofs.AllTypesLemmas.{type_refused, data_united, not_united}
use Rattle.type_flatten.proofs.flattening.data_of_types.Goals as goal

pub united-requires : goal.united-requires
united-requires c = c.in_ok-types.ensures.sound

pub returns-in_err-types : goal.returns-in_err-types
returns-in_err-types c =
    let p = err_from_is_err_and c.from_residual.result c.from_residual.ensures.1 in
    rw (p.1, p.2) (type_refused (declared_types_of c.args.texts.now) c.in_err-types.field-0.0 c.in_err-types.ensures)

pub returns : goal.returns
returns c =
    MatchResult-weaker c.united.result c.united.ensures
    (λ flat united.
    data_united (declared_types_of c.args.texts.now) (presented_in c.in_ok-types.types) flat c.in_ok-types.ensures.all_presented united)
    (λ fault refused.
    not_united (declared_types_of c.args.texts.now) (presented_in c.in_ok-types.types) fault c.in_ok-types.ensures.all_presented refused)
