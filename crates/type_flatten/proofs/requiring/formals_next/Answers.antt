use Rattle.std.proofs.Common.{List, refl}
use Rattle.std.proofs.lemmas.Result.{IfOk-weaker}
use Rattle.type_definitions.specs.FormalEquations.{FlattenedType}
use Rattle.type_definitions.specs.Requirements.{flattened_with}
use Rattle.type_definitions.specs.TypeView.{declared_type_of}
use Rattle.type_presentations.specs.EquationListView.{equations_in}
use Rattle.type_presentations.specs.PresentationView.{presentation_of}
use Rattle.type_flatten.proofs.requiring.formals_next.Goals as goal

pub require_next-requires : goal.require_next-requires
require_next-requires c = record { sound = c.requires.sound; types = c.requires.types }

pub formals_of_type-requires : goal.formals_of_type-requires
formals_of_type-requires c = record {
  sound = c.requires.sound.0;
  within = c.requires.sound.1;
  types = (c.requires.types.0, (declared_type_of c.args.text.now).name, c.requires.types.1, c.requires.types.2);
}

pub returns : goal.returns
returns c =
    IfOk-weaker c.formals_of_type.result _ _
    (λ list h. λ (all : List FlattenedType) are presented is.
    let t = declared_type_of c.args.text.now in
    let p = presentation_of c.args.presentation.now in
    let new = flattened_with all t p (equations_in list) in record {
      has = h all t.name are presented;
      required_are = c.in_ok-require_next.ensures all new are presented refl refl is;
    }) c.formals_of_type.ensures
