use Rattle.std.proofs.Common.{ℕ, List, [], ap, refl, sym, subst}
use Rattle.std.proofs.lemmas.Result.{IfOk-weaker}
use Rattle.syntax_trees.specs.WrittenItem.{WrittenTypeBody}
use Rattle.type_definitions.specs.FormalEquations.{FlattenedType, no_more_formals}
use Rattle.type_definitions.specs.TypeView.{type_body_of}
use Rattle.type_presentations.specs.PresentationView.{presentation_of}
use Rattle.type_actualisation.specs.FormalTypesView.{HasFormals}
use Rattle.type_actualisation.proofs.BodyLemmas.{extension_asked, formals_of_actualisation, formals_of_extension, formals_of_renaming, presented_as}
use Rattle.type_actualisation.proofs.FormalListLemmas.{none_over}
use Rattle.type_actualisation.proofs.type_formals.formals_of_type.Goals as goal

pub returns-in-Library : goal.returns-in-Library
returns-in-Library c = λ (all : List FlattenedType) (name : List ℕ) are presented.
    let p = presentation_of c.args.presentation.now in
    subst (λ (b : WrittenTypeBody). HasFormals all p b c.new.result) (sym (ap type_body_of c.in-Library.is))
    (record {
      are = ([], no_more_formals, sym c.new.ensures.equations);
      over = none_over p.signature c.new.result c.new.ensures.keyed c.new.ensures.equations;
    })

pub extended_formals-requires : goal.extended_formals-requires
extended_formals-requires c = record {
  sound = c.requires.sound;
  within = c.requires.within;
  types = extension_asked c.args.types.now c.requires.types.0 c.requires.types.1 (presentation_of c.args.presentation.now) _
      c.deref.result.now _ _ c.requires.types.2 (ap type_body_of c.in-Extends.is) c.deref.ensures.value c.requires.types.3;
}

pub returns-in-Extends : goal.returns-in-Extends
returns-in-Extends c =
    IfOk-weaker c.extended_formals.result _ _
    (λ list h. λ (all : List FlattenedType) (name : List ℕ) are presented.
    formals_of_extension c.args.types.now all name (presentation_of c.args.presentation.now) _ c.deref.result.now _ _ _ list
    (ap type_body_of c.in-Extends.is) c.deref.ensures.value refl h are presented) c.extended_formals.ensures

pub renamed_formals-requires : goal.renamed_formals-requires
renamed_formals-requires c =
    let all = c.requires.types.0 in
    let name = c.requires.types.1 in
    let p = presentation_of c.args.presentation.now in
    (all, name, _, c.requires.types.2, presented_as all name p _ _ (ap type_body_of c.in-Renames.is) c.requires.types.3)

pub returns-in-Renames : goal.returns-in-Renames
returns-in-Renames c =
    IfOk-weaker c.renamed_formals.result _ _
    (λ list h. λ (all : List FlattenedType) (name : List ℕ) are presented.
    formals_of_renaming c.args.types.now all name (presentation_of c.args.presentation.now) _ _ _ list
    (ap type_body_of c.in-Renames.is) h are presented) c.renamed_formals.ensures

pub actual_formals-requires : goal.actual_formals-requires
actual_formals-requires c = (c.requires.types.0, c.requires.types.2)

pub returns-in-Actualises : goal.returns-in-Actualises
returns-in-Actualises c =
    IfOk-weaker c.actual_formals.result _ _
    (λ list h. λ (all : List FlattenedType) (name : List ℕ) are presented.
    formals_of_actualisation c.args.types.now all name (presentation_of c.args.presentation.now) _ _ c.deref-in-Actualises.result.now _ _
    list (ap type_body_of c.in-Actualises.is) c.deref-in-Actualises.ensures.value h are presented) c.actual_formals.ensures
