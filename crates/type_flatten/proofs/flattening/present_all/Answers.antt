use Rattle.std.proofs.Common.{◌+◌, List, drop, ap}
use Rattle.std.proofs.lemmas.Result.{err_from_is_err_and}
use Rattle.std.proofs.lemmas.List.{drop_all}
use Rattle.lotos_base.proofs.Pieces.{next_member}
use Rattle.type_definitions.specs.TypeView.{declared_type_of, declared_types_of}
use Rattle.type_definitions.specs.declared.type_texts.TypeText.{TypeText}
use Rattle.type_presentations.specs.PresentedView.{presented_in}
use Rattle.type_flatten.proofs.AllTypesLemmas.{at_the_start, presented_next, refused_next, all_there}
use Rattle.type_flatten.proofs.flattening.present_all.Goals as goal

pub loop-text-init : goal.loop-text-init
loop-text-init c = record {
  sound = c.requires;
  way = at_the_start (presented_in c.args.types.now) (declared_types_of c.args.texts.now);
}

pub present-requires : goal.present-requires
present-requires c = c.loop-text.invariant.sound

pub returns-in_err-present : goal.returns-in_err-present
returns-in_err-present c =
    let p = err_from_is_err_and c.from_residual.result c.from_residual.ensures.1 in
    rw (p.1, p.2)
    (refused_next (presented_in c.args.types.now) (presented_in c.loop-text.types) (declared_type_of c.text-item.result)
    (declared_types_of (drop c.loop-text.text-index c.args.texts.now))
    (declared_types_of (drop (c.loop-text.text-index + 1) c.args.texts.now)) (declared_types_of c.args.texts.now)
    c.in_err-present.field-0.0 c.loop-text.invariant.way
    (ap (λ (ts : List TypeText). declared_types_of ts)
    (next_member c.args.texts.now c.loop-text.text-index c.text-item.result c.loop-text-test.true c.text-item.is))
    c.in_err-present.ensures)

pub loop-text-preserved : goal.loop-text-preserved
loop-text-preserved c = record {
  sound = c.in_ok-present.ensures.sound;
  way = presented_next (presented_in c.args.types.now) (presented_in c.loop-text.types) (declared_type_of c.text-item.result)
      (declared_types_of (drop c.loop-text.text-index c.args.texts.now))
      (declared_types_of (drop (c.loop-text.text-index + 1) c.args.texts.now)) (declared_types_of c.args.texts.now)
      c.present.new.types c.loop-text.invariant.way
      (ap (λ (ts : List TypeText). declared_types_of ts)
      (next_member c.args.texts.now c.loop-text.text-index c.text-item.result c.loop-text-test.true c.text-item.is))
      c.in_ok-present.ensures;
}

pub returns : goal.returns
returns c = record {
  all_presented = all_there (presented_in c.args.types.now) (presented_in c.loop-text.types)
      (declared_types_of (drop c.loop-text.text-index c.args.texts.now)) (declared_types_of c.args.texts.now)
      c.loop-text.invariant.way
      (ap (λ (ts : List TypeText). declared_types_of ts) (drop_all c.loop-text.text-index c.args.texts.now c.loop-text-test.false));
  sound = c.loop-text.invariant.sound;
}
