use Rattle.std.proofs.Common.{◌≡◌, ℕ, ◌+◌, List, [], ◌∷◌, ◌++◌, length, map, take, ap, sym, refl, ◌∙◌, arith}
use Rattle.std.specs.Prelude.{Option}
use Rattle.std.proofs.lemmas.List.{map-append}
use Rattle.std.proofs.lemmas.Result.{err_from_is_err_and}
use Rattle.lotos_base.proofs.Pieces.{take_whole}
use Rattle.lotos_base.specs.Signature.{Sort}
use Rattle.syntax_trees.specs.WrittenItem.{WrittenPairs}
use Rattle.sort_terms.specs.Operations.{sort_of}
use Rattle.sort_terms.specs.WellFormedTest.{are_one_sort}
use Rattle.sort_terms.specs.declared.operations.Sort.{Sort as CodeSort}
use Rattle.type_definitions.specs.TypeFault.{TypeFault, double_sort}
use Rattle.type_definitions.specs.Presentation.{Presentation, is_too_large}
use Rattle.type_definitions.specs.Renaming.{clash_among, pair_for, renamed_sort, renamed_presentation}
use Rattle.type_definitions.proofs.HoldsLemmas.{holds_weaker}
use Rattle.type_definitions.proofs.WalkLemmas.{looked_on, looked_at, none_of, so_far}
use Rattle.type_presentations.specs.Growth.{with_one_sort}
use Rattle.type_renaming.specs.Clashes.{sort_clash}
use Rattle.type_renaming.specs.Parts.{sorts_alone}
use Rattle.type_renaming.specs.RenamerView.{sort_pairs_in, type_name_in}
use Rattle.type_renaming.proofs.ClashLemmas.{one_by_one, differs_from_earlier}
use Rattle.type_renaming.proofs.PairLemmas.{sorts_turned}
use Rattle.type_renaming.proofs.PartLemmas.{sorts_are_few}
use Rattle.type_renaming.proofs.sorts.rename_sorts.Goals as goal

-- all clashes behind earlier sorts
abbrev clashes : List ℕ → WrittenPairs → List Sort → List Sort → Option TypeFault
clashes t ps earlier xs =
    clash_among (λ (one : Sort) (other : Sort). are_one_sort (renamed_sort t ps one) (renamed_sort t ps other))
    (λ (s : Sort). pair_for ps.sort_pairs s.name) double_sort earlier xs

-- one more sort
grown : (t : List ℕ) (ps : WrittenPairs) (xs ys : List Sort) (s : Sort) (p q : Presentation)
    → p ≡ renamed_presentation (sorts_alone xs) t ps
    → q ≡ with_one_sort p (renamed_sort t ps s) → ys ≡ xs ++ s ∷ [] → q ≡ renamed_presentation (sorts_alone ys) t ps
grown t ps xs ys s p q is more longer =
    more ∙ ap (λ (r : Presentation). with_one_sort r (renamed_sort t ps s)) is
    ∙ ap (λ (zs : List Sort). sorts_alone zs) (sym (map-append (renamed_sort t ps) xs (s ∷ [])))
    ∙ ap (λ (zs : List Sort). renamed_presentation (sorts_alone zs) t ps) (sym longer)

pub loop-number-init : goal.loop-number-init
loop-number-init c = (c.new-renamed.ensures.sound, c.new-renamed.ensures.nothing, refl)

pub add_image-requires-clause-within : goal.add_image-requires-clause-within
add_image-requires-clause-within c =
    ap (λ (p : Presentation). is_too_large p) c.loop-number.invariant.1
    ∙ sorts_are_few (type_name_in c.args.renamer.now) (sort_pairs_in c.args.renamer.now) sort_of c.args.base.now c.loop-number.number
    c.requires.few

pub add_image-requires-clause-images : goal.add_image-requires-clause-images
add_image-requires-clause-images c = ap (λ (p : Presentation). p.signature.sorts) c.loop-number.invariant.1

pub add_image-requires-clause-apart : goal.add_image-requires-clause-apart
add_image-requires-clause-apart c =
    differs_from_earlier are_one_sort sorts_turned sort_of c.args.base.now c.loop-number.number c.index-base-number.result
    c.loop-number-test.true c.index-base-number.is c.requires.apart

pub loop-number-preserved : goal.loop-number-preserved
loop-number-preserved c =
    let t = type_name_in c.args.renamer.now in
    let ps = sort_pairs_in c.args.renamer.now in
    let added = c.in_ok-add_image.ensures in (
      added.2,
      grown t ps (map sort_of (take c.loop-number.number c.args.base.now)) (map sort_of (take (c.loop-number.number + 1) c.args.base.now))
          (sort_of c.index-base-number.result) _ _ c.loop-number.invariant.1 added.1
          (so_far sort_of c.args.base.now c.loop-number.number c.index-base-number.result c.loop-number-test.true c.index-base-number.is),
      sym (looked_on (sort_clash t ps) (clashes t ps) sort_of
          (one_by_one (λ (one : Sort) (other : Sort). are_one_sort (renamed_sort t ps one) (renamed_sort t ps other))
          (λ (s : Sort). pair_for ps.sort_pairs s.name) double_sort)
          c.args.base.now c.loop-number.number c.index-base-number.result c.loop-number-test.true c.index-base-number.is added.0)
          ∙ c.loop-number.invariant.2,
    )

pub returns-in_err-add_image : goal.returns-in_err-add_image
returns-in_err-add_image c =
    let t = type_name_in c.args.renamer.now in
    let ps = sort_pairs_in c.args.renamer.now in
    let e = err_from_is_err_and c.from_residual.result c.from_residual.ensures.1 in
    rw (e.1, e.2)
    (holds_weaker _ _ c.in_err-add_image.field-0.0
    (λ f found.
    sym c.loop-number.invariant.2
    ∙ looked_at (sort_clash t ps) (clashes t ps) sort_of
    (one_by_one (λ (one : Sort) (other : Sort). are_one_sort (renamed_sort t ps one) (renamed_sort t ps other))
    (λ (s : Sort). pair_for ps.sort_pairs s.name) double_sort)
    c.args.base.now c.loop-number.number c.index-base-number.result f c.loop-number-test.true c.index-base-number.is found)
    c.in_err-add_image.ensures)

pub returns : goal.returns
returns c =
    let t = type_name_in c.args.renamer.now in
    let ps = sort_pairs_in c.args.renamer.now in
    let all : c.loop-number.number ≡ length c.args.base.now = omega arith in
    let made =
    c.loop-number.invariant.1
    ∙ ap (λ (ss : List CodeSort). renamed_presentation (sorts_alone (map sort_of ss)) t ps)
    (take_whole c.args.base.now c.loop-number.number all) in (
      sym c.loop-number.invariant.2
          ∙ ap (λ (ss : List Sort). clashes t ps (map sort_of (take c.loop-number.number c.args.base.now)) ss)
          (none_of sort_of c.args.base.now c.loop-number.number (omega (arith, c.loop-number-test.false))),
      made,
      c.loop-number.invariant.0,
      ap (λ (p : Presentation). is_too_large p) c.loop-number.invariant.1
          ∙ sorts_are_few t ps sort_of c.args.base.now c.loop-number.number c.requires.few,
    )
