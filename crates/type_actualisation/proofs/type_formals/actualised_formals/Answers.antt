use Rattle.std.proofs.Common.{◌≡◌, List, ap, subst, ◌∙◌}
use Rattle.std.proofs.lemmas.Result.{on_ok_weaker}
use Rattle.lotos_base.specs.Name.{spelling}
use Rattle.lotos_base.specs.WrittenView.{placed_name_of}
use Rattle.syntax_trees.specs.TreeViews.{pairs_of, placed_names_of}
use Rattle.type_definitions.specs.Actualisation.{Actualising, actualisation}
use Rattle.type_definitions.specs.Flattened.{mentions_with}
use Rattle.type_definitions.specs.FormalEquations.{FlattenedType, formals_named, mentioned_in}
use Rattle.type_definitions.specs.Presentation.{Presentation}
use Rattle.type_definitions.specs.Requirements.{actualised_images}
use Rattle.type_definitions.specs.Union.{Mentioned, union_of}
use Rattle.type_presentations.specs.PresentationView.{presentation_of}
use Rattle.type_actualisation.specs.FormalTypesView.{HasOver, actualising_in, actualising_over}
use Rattle.type_actualisation.proofs.type_formals.actualised_formals.Goals as goal

pub union_of_actuals-requires : goal.union_of_actuals-requires
union_of_actuals-requires c = c.requires.types.1.sound

pub images_over-requires : goal.images_over-requires
images_over-requires c = record {
  types = c.requires.types;
  actual = (c.in_ok-actual.ensures.sound, c.in_ok-actual.ensures.within);
  keyed = c.requires.keyed;
  nothing = c.requires.nothing;
}

pub returns : goal.returns
returns c =
    on_ok_weaker c.images_over.result
    (λ h. λ (all : List FlattenedType) are.
    let at = placed_name_of c.args.base.now in
    let names = placed_names_of c.args.actuals.now in
    let name = spelling c.args.type_name.now in
    let pairs = pairs_of c.args.pairs.now.sorts.now c.args.pairs.now.ops.now in
    let actual = presentation_of c.in_ok-actual.actual in
    let actual_is : actual ≡ union_of (mentions_with (mentioned_in all) names) =
    c.in_ok-actual.ensures.made ∙ ap (λ (ms : List Mentioned). union_of (mentions_with ms names)) are.types_are in
    let whole : actualising_over all at actual name pairs ≡ actualising_in all at names name pairs =
    ap (λ (q : Presentation). actualising_over all at q name pairs) actual_is in
    subst (λ (b : Actualising).
    HasOver (actualised_images b (formals_named all at.name)) (actualisation b) c.images_over.new.list) whole (h all are))
    c.images_over.ensures
