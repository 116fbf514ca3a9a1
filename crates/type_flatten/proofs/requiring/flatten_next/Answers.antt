use Rattle.std.proofs.Common.{List, refl, subst}
use Rattle.type_definitions.specs.Flattened.{IsPresentation}
use Rattle.type_definitions.specs.FormalEquations.{FlattenedType}
use Rattle.type_definitions.specs.Requirements.{flattened_with}
use Rattle.type_definitions.specs.TypeView.{declared_type_of}
use Rattle.type_definitions.specs.Union.{Mentioned}
use Rattle.type_presentations.specs.EquationListView.{equations_in}
use Rattle.type_presentations.specs.PresentationView.{presentation_of}
use Rattle.type_flatten.proofs.requiring.flatten_next.Goals as goal

pub presentation_of_type-requires : goal.presentation_of_type-requires
presentation_of_type-requires c = c.requires.1.sound

pub formals_next-requires : goal.formals_next-requires
formals_next-requires c =
    let all = c.requires.0 in
    let are = c.requires.1 in
    let t = declared_type_of c.args.text.now in
    let p = presentation_of c.in_ok-presentation.presentation in record {
      sound = (c.in_ok-presentation.ensures.sound, c.in_ok-presentation.ensures.within);
      types = (
        all,
        are,
        subst (λ (ms : List Mentioned). IsPresentation ms t.name t.body p) are.types_are c.in_ok-presentation.ensures.presented,
        c.requires.2,
      );
    }

pub add-requires : goal.add-requires
add-requires c =
    let all = c.requires.0 in
    let are = c.requires.1 in
    let t = declared_type_of c.args.text.now in
    let p = presentation_of c.in_ok-presentation.presentation in record {
      types = (all, are);
      presentation = (c.in_ok-presentation.ensures.sound, c.in_ok-presentation.ensures.within);
      formals = (c.in_ok-formals.ensures all are
          (subst (λ (ms : List Mentioned). IsPresentation ms t.name t.body p) are.types_are c.in_ok-presentation.ensures.presented)
          c.requires.2).has.over;
    }

pub returns : goal.returns
returns c = λ (all : List FlattenedType) are is.
    let t = declared_type_of c.args.text.now in
    let p = presentation_of c.in_ok-presentation.presentation in
    let formals = equations_in c.in_ok-formals.formals in
    let presented =
    subst (λ (ms : List Mentioned). IsPresentation ms t.name t.body p) are.types_are c.in_ok-presentation.ensures.presented in
    let next = c.in_ok-formals.ensures all are presented is in
    let new = flattened_with all t p formals in record {
      presentation = p;
      formals = formals;
      presented = presented;
      are = next.has.are;
      types_are = c.in_ok-add.ensures all new are refl refl;
      required_are = next.required_are;
    }
