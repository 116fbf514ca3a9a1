use Rattle.std.proofs.Common.{◌≡◌, ◌∙◌, List, length, refl, sym, subst}
use Rattle.std.proofs.lemmas.List.{length-map}
use Rattle.type_definitions.specs.Flattened.{declared_with}
use Rattle.type_definitions.specs.FormalEquations.{FlattenedType}
use Rattle.type_definitions.specs.TypeView.{declared_type_of}
use Rattle.type_presentations.specs.PresentationView.{presentation_of}
use Rattle.type_actualisation.proofs.TypesLemmas.{as_many_lists, names_of, with_one_type}
use Rattle.type_actualisation.proofs.formal_types.FormalTypes.add.Goals as goal

pub add-requires : goal.add-requires
add-requires c = record { sound = c.requires.types.1.sound; presentation = c.requires.presentation }

pub returns : goal.returns
returns c = λ (all : List FlattenedType) (t : FlattenedType) are is formals.
    let as_many : length (names_of all) ≡ length c.args.self.now.formals.items =
    length-map all (λ (x : FlattenedType). x.mentioned.at.name) ∙ as_many_lists all c.args.self.now.formals.items are.formals in
    with_one_type all t c.args.self.now _ (declared_with (declared_type_of c.args.text.now) (presentation_of c.args.presentation)) _ are is
    c.in_ok-add.ensures.presented c.in_ok-add.ensures.sound
    (c.in_ok-add-2.ensures (names_of all) are.names
    (as_many ∙ sym c.args.self.now.formals.ok.0 ∙ sym c.len-count.ensures))
    c.in_ok-push.ensures.items refl formals c.requires.formals
