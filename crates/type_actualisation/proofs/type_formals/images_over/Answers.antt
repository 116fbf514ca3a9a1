use Rattle.std.proofs.Common.{◌≡◌, ℕ, List, ◌++◌, map, ap, subst, ◌∙◌}
use Rattle.lotos_base.specs.Equation.{Equation}
use Rattle.lotos_base.specs.Name.{spelling}
use Rattle.lotos_base.specs.WrittenView.{placed_name_of}
use Rattle.syntax_trees.specs.TreeViews.{pairs_of}
use Rattle.type_actualisation.proofs.MapLemmas.{base_goes}
use Rattle.type_definitions.specs.Actualisation.{Actualising, actualisation, actualised_operation, actualised_sort}
use Rattle.type_definitions.specs.Flattened.{presentation_named}
use Rattle.type_definitions.specs.FormalEquations.{FlattenedType, formals_named, mentioned_in}
use Rattle.type_definitions.specs.Images.{equation_image}
use Rattle.type_definitions.specs.Presentation.{Presentation}
use Rattle.type_definitions.specs.ProfiledImage.{number_in}
use Rattle.type_definitions.specs.Requirements.{actualised_images}
use Rattle.type_presentations.specs.EquationListView.{equations_in}
use Rattle.type_presentations.specs.PresentationView.{presentation_of}
use Rattle.type_actualisation.specs.FormalLists.{AreMoved}
use Rattle.type_actualisation.specs.FormalTypesView.{HasOver, actualising_over}
use Rattle.type_actualisation.proofs.FormalListLemmas.{images_as, map_as, none_over}
use Rattle.type_actualisation.proofs.OneFormalLemmas.{put_together}
use Rattle.type_actualisation.proofs.TypesLemmas.{over_found, presentation_is}
use Rattle.type_actualisation.proofs.type_formals.images_over.Goals as goal

pub formals_named-requires : goal.formals_named-requires
formals_named-requires c = c.requires.types

pub named-requires : goal.named-requires
named-requires c = c.requires.types.1.sound

pub actualise_into-requires : goal.actualise_into-requires
actualise_into-requires c = record {
  sound = c.in_ok-actualised.ensures.sound.0;
  within = c.in_ok-actualised.ensures.sound.1;
  actual_sound = c.requires.actual.0;
  actual_within = c.requires.actual.1;
}

pub append_images-requires : goal.append_images-requires
append_images-requires c =
    let all = c.requires.types.0 in
    let are = c.requires.types.1 in
    let base = presentation_of c.in_ok-actualised.actualised.now in
    let a =
    put_together (placed_name_of c.args.base.now) base (presentation_of c.args.actual.now) (spelling c.args.type_name.now)
    (pairs_of c.args.pairs.now.sorts.now c.args.pairs.now.ops.now) in
    let made = c.in_ok-numbers.ensures in (
      base.signature,
      (actualisation a).signature,
      record {
        maps = map_as base.signature (actualisation a).signature (number_in c.as_slice-sorts.result.now)
            (number_in c.as_slice-ops.result.now) (actualised_sort a) (actualised_operation a)
            (λ n. ap (λ (ns : List ℕ). number_in ns n) c.as_slice-sorts.ensures.value ∙ made.1.sorts n)
            (λ n. ap (λ (ns : List ℕ). number_in ns n) c.as_slice-ops.ensures.value ∙ made.1.operations n) (base_goes a made.1.has);
        profiles_are = ap (λ (p : Presentation). p.signature.operations) made.0.made;
        formals = over_found all c.args.types.now (spelling c.args.base.now.1) c.in_ok-actualised.actualised.now
            c.in_ok-formals.formals.now are c.in_ok-actualised.ensures.presentation (c.in_ok-formals.ensures all are);
      },
      none_over (actualisation a).signature c.args.list.now c.requires.keyed c.requires.nothing,
    )

pub returns : goal.returns
returns c = λ (all : List FlattenedType) are.
    let at = placed_name_of c.args.base.now in
    let name = spelling c.args.type_name.now in
    let pairs = pairs_of c.args.pairs.now.sorts.now c.args.pairs.now.ops.now in
    let base = presentation_of c.in_ok-actualised.actualised.now in
    let actual = presentation_of c.args.actual.now in
    let a : Actualising = put_together at base actual name pairs in
    let made = c.in_ok-numbers.ensures in
    let base_is : base ≡ presentation_named (mentioned_in all) (spelling c.args.base.now.1) =
    presentation_is all c.args.types.now (spelling c.args.base.now.1) c.in_ok-actualised.actualised.now are
    c.in_ok-actualised.ensures.presentation in
    let whole : a ≡ actualising_over all at actual name pairs =
    ap (λ (p : Presentation). put_together at p actual name pairs) base_is in
    let named = c.in_ok-formals.ensures all are in
    let moved : AreMoved base.signature (actualisation a).signature c.in_ok-formals.formals.now c.as_slice-sorts.result.now
    c.as_slice-ops.result.now c.actualise_into.new.actual.ops =
    record {
      maps = map_as base.signature (actualisation a).signature (number_in c.as_slice-sorts.result.now)
          (number_in c.as_slice-ops.result.now) (actualised_sort a) (actualised_operation a)
          (λ n. ap (λ (ns : List ℕ). number_in ns n) c.as_slice-sorts.ensures.value ∙ made.1.sorts n)
          (λ n. ap (λ (ns : List ℕ). number_in ns n) c.as_slice-ops.ensures.value ∙ made.1.operations n) (base_goes a made.1.has);
      profiles_are = ap (λ (p : Presentation). p.signature.operations) made.0.made;
      formals = over_found all c.args.types.now (spelling c.args.base.now.1) c.in_ok-actualised.actualised.now
          c.in_ok-formals.formals.now are c.in_ok-actualised.ensures.presentation named;
    } in
    let images : equations_in c.append_images.new.list ≡ actualised_images a (equations_in c.in_ok-formals.formals.now) =
    c.in_ok-append_images.ensures.equations
    ∙ ap (λ (es : List Equation).
    es ++ map (equation_image (number_in c.as_slice-sorts.result.now) (number_in c.as_slice-ops.result.now))
    (equations_in c.in_ok-formals.formals.now)) c.requires.nothing
    ∙ images_as (number_in c.as_slice-sorts.result.now) (number_in c.as_slice-ops.result.now) (actualised_sort a)
    (actualised_operation a) (λ n. ap (λ (ns : List ℕ). number_in ns n) c.as_slice-sorts.ensures.value ∙ made.1.sorts n)
    (λ n. ap (λ (ns : List ℕ). number_in ns n) c.as_slice-ops.ensures.value ∙ made.1.operations n)
    (equations_in c.in_ok-formals.formals.now) in
    subst (λ (b : Actualising).
    HasOver (actualised_images b (formals_named all (spelling c.args.base.now.1))) (actualisation b) c.append_images.new.list) whole (
      images ∙ ap (λ (es : List Equation). actualised_images a es) named.0,
      c.in_ok-append_images.ensures.over base.signature (actualisation a).signature moved
          (none_over (actualisation a).signature c.args.list.now c.requires.keyed c.requires.nothing),
    )
