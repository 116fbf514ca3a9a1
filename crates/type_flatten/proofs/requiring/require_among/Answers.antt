use Rattle.std.proofs.Common.{refl}
use Rattle.type_definitions.specs.TypeView.{declared_types_of}
use Rattle.type_flatten.proofs.AllFormalLemmas.{required_in_text_order}
use Rattle.type_flatten.proofs.requiring.require_among.Goals as goal

pub flatten_all-requires : goal.flatten_all-requires
flatten_all-requires c = record { types = c.requires.types; required = c.requires.required }

pub united-requires : goal.united-requires
united-requires c = c.in_ok-flatten_all.ensures.types_are.sound

pub returns : goal.returns
returns c =
    required_in_text_order (declared_types_of c.args.texts.now) c.flatten_all.new.types c.flatten_all.new.required _
    c.in_ok-flatten_all.ensures c.in_ok-united.ensures.none refl
