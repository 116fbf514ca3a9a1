use Rattle.std.proofs.Common.{List, ap}
use Rattle.type_definitions.specs.FormalEquations.{FlattenedType}
use Rattle.type_definitions.specs.Presentation.{Presentation}
use Rattle.type_definitions.specs.TypeView.{declared_type_of, type_body_of}
use Rattle.type_actualisation.proofs.BodyLemmas.{nothing_of_extension, nothing_of_renaming, required_of_actualisation}
use Rattle.type_actualisation.proofs.type_formals.required_of_type.Goals as goal

pub returns-in-Library : goal.returns-in-Library
returns-in-Library c = λ (all : List FlattenedType) (p : Presentation) are presented informal.
    nothing_of_extension all (declared_type_of c.args.text.now).name p _ _ _ c.new.result (ap type_body_of c.in-Library.is)
    c.new.ensures.keyed c.new.ensures.equations

pub returns-in-Extends : goal.returns-in-Extends
returns-in-Extends c = λ (all : List FlattenedType) (p : Presentation) are presented informal.
    nothing_of_extension all (declared_type_of c.args.text.now).name p _ _ _ c.new-in-Extends.result (ap type_body_of c.in-Extends.is)
    c.new-in-Extends.ensures.keyed c.new-in-Extends.ensures.equations

pub returns-in-Renames : goal.returns-in-Renames
returns-in-Renames c = λ (all : List FlattenedType) (p : Presentation) are presented informal.
    nothing_of_renaming all (declared_type_of c.args.text.now).name p _ _ _ c.new-in-Renames.result (ap type_body_of c.in-Renames.is)
    c.new-in-Renames.ensures.keyed c.new-in-Renames.ensures.equations

pub actualised_formals-requires : goal.actualised_formals-requires
actualised_formals-requires c =
    record { types = c.requires; keyed = c.new-list.ensures.keyed; nothing = c.new-list.ensures.equations }

pub returns-in_ok-actualised_formals-in-Actualises : goal.returns-in_ok-actualised_formals-in-Actualises
returns-in_ok-actualised_formals-in-Actualises c = λ (all : List FlattenedType) (p : Presentation) are presented informal.
    required_of_actualisation all (declared_type_of c.args.text.now).name p _ _ _ _ _ _ _ _ c.actualised_formals.new.list
    (ap type_body_of c.in-Actualises.is) c.as_slice-given.ensures.value c.as_slice-sorts.ensures.value c.as_slice-ops.ensures.value
    informal presented (c.in_ok-actualised_formals-in-Actualises.ensures all are)
