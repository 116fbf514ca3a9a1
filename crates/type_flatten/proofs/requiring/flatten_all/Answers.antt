use Rattle.std.proofs.Common.{◌+◌, List, [], drop, ap}
use Rattle.std.proofs.lemmas.List.{drop_all}
use Rattle.lotos_base.proofs.Pieces.{next_member}
use Rattle.type_definitions.specs.TypeView.{declared_type_of, declared_types_of}
use Rattle.type_definitions.specs.declared.type_texts.TypeText.{TypeText}
use Rattle.type_flatten.proofs.AllFormalLemmas.{all_on_the_way, next_on_the_way}
use Rattle.type_flatten.proofs.requiring.flatten_all.Goals as goal

pub loop-text-init : goal.loop-text-init
loop-text-init c = record {
  all = [];
  way = λ final h. h;
  types_are = c.requires.types;
  required_are = c.requires.required;
}

pub flatten_next-requires : goal.flatten_next-requires
flatten_next-requires c =
    (c.loop-text.invariant.all, c.loop-text.invariant.types_are, c.loop-text.invariant.required_are)

pub loop-text-preserved : goal.loop-text-preserved
loop-text-preserved c =
    let way = c.loop-text.invariant in
    next_on_the_way (declared_types_of (drop c.loop-text.text-index c.args.texts.now))
    (declared_types_of (drop (c.loop-text.text-index + 1) c.args.texts.now)) (declared_types_of c.args.texts.now)
    (declared_type_of c.text-item.result) c.loop-text.types c.flatten_next.new.types c.loop-text.required c.flatten_next.new.required way
    (ap (λ (ts : List TypeText). declared_types_of ts)
    (next_member c.args.texts.now c.loop-text.text-index c.text-item.result c.loop-text-test.true c.text-item.is))
    (c.in_ok-flatten_next.ensures way.all way.types_are way.required_are)

pub returns : goal.returns
returns c =
    all_on_the_way (declared_types_of (drop c.loop-text.text-index c.args.texts.now)) (declared_types_of c.args.texts.now)
    c.loop-text.types c.loop-text.required c.loop-text.invariant
    (ap (λ (ts : List TypeText). declared_types_of ts) (drop_all c.loop-text.text-index c.args.texts.now c.loop-text-test.false))
