use Rattle.std.proofs.Common.{◌≡◌, ℕ, ◌+◌, List, [], ◌∷◌, ◌++◌, length, map, take, ap, sym, refl, ◌∙◌, arith}
use Rattle.std.specs.Prelude.{Option}
use Rattle.std.specs.List.{list_any}
use Rattle.std.specs.declared.rc.Rc.{Rc}
use Rattle.std.specs.declared.alloc.Global.{Global}
use Rattle.std.proofs.lemmas.List.{map-append}
use Rattle.std.proofs.lemmas.Result.{err_from_is_err_and}
use Rattle.lotos_base.proofs.Pieces.{take_whole}
use Rattle.lotos_base.specs.Signature.{Operation}
use Rattle.syntax_trees.specs.WrittenItem.{WrittenPairs}
use Rattle.sort_terms.specs.Operations.{operation_of}
use Rattle.sort_terms.specs.WellFormedTest.{are_one_operation, has_known_sorts}
use Rattle.sort_terms.specs.declared.operations.Op.{Op}
use Rattle.type_definitions.specs.TypeFault.{TypeFault, double_operation}
use Rattle.type_definitions.specs.Presentation.{Presentation, is_too_large}
use Rattle.type_definitions.specs.Renaming.{clash_among, pair_for, renamed_operation}
use Rattle.type_definitions.proofs.HoldsLemmas.{holds_weaker}
use Rattle.type_definitions.proofs.WalkLemmas.{looked_on, looked_at, none_of, so_far}
use Rattle.type_presentations.specs.PresentationView.{presentation_of}
use Rattle.type_presentations.specs.Growth.{with_one_operation}
use Rattle.type_renaming.specs.Clashes.{operation_clash}
use Rattle.type_renaming.specs.Parts.{with_these_operations}
use Rattle.type_renaming.specs.RenamerView.{operation_pairs_in, type_name_in}
use Rattle.type_renaming.proofs.ClashLemmas.{one_by_one, differs_from_earlier}
use Rattle.type_renaming.proofs.PairLemmas.{operations_turned}
use Rattle.type_renaming.proofs.PartLemmas.{shared, operations_are_few, member_is_known, with_no_operations}
use Rattle.type_renaming.proofs.operations.rename_ops.Goals as goal

-- all clashes behind earlier operations
abbrev clashes : List ℕ → WrittenPairs → List Operation → List Operation → Option TypeFault
clashes t ps earlier xs =
    clash_among (λ (one : Operation) (other : Operation). are_one_operation (renamed_operation t ps one) (renamed_operation t ps other))
    (λ (o : Operation). pair_for ps.operation_pairs o.name) double_operation earlier xs

-- one more operation
grown : (t : List ℕ) (ps : WrittenPairs) (xs ys : List Operation) (one o : Operation) (start p q : Presentation)
    → p ≡ with_these_operations start (map (renamed_operation t ps) xs) → one ≡ o → q ≡ with_one_operation p (renamed_operation t ps one)
    → ys ≡ xs ++ o ∷ [] → q ≡ with_these_operations start (map (renamed_operation t ps) ys)
grown t ps xs ys one o start p q is same more longer =
    more ∙ ap (λ (r : Presentation). with_one_operation r (renamed_operation t ps one)) is
    ∙ ap (λ (r : Operation). with_these_operations start (map (renamed_operation t ps) xs ++ renamed_operation t ps r ∷ [])) same
    ∙ ap (λ (zs : List Operation). with_these_operations start zs) (sym (map-append (renamed_operation t ps) xs (o ∷ [])))
    ∙ ap (λ (zs : List Operation). with_these_operations start (map (renamed_operation t ps) zs)) (sym longer)

pub loop-number-init : goal.loop-number-init
loop-number-init c = (c.requires.sound, with_no_operations (presentation_of c.args.renamed.now) c.requires.none, refl)

pub add_image-requires-clause-within : goal.add_image-requires-clause-within
add_image-requires-clause-within c =
    ap (λ (p : Presentation). is_too_large p) c.loop-number.invariant.1
    ∙ operations_are_few (type_name_in c.args.renamer.now) (operation_pairs_in c.args.renamer.now)
    (presentation_of c.args.renamed.now) shared c.args.base.now c.loop-number.number c.requires.within c.requires.few

pub add_image-requires-clause-images : goal.add_image-requires-clause-images
add_image-requires-clause-images c = ap (λ (p : Presentation). p.signature.operations) c.loop-number.invariant.1

pub add_image-requires-clause-known : goal.add_image-requires-clause-known
add_image-requires-clause-known c =
    ap (λ (p : Presentation). has_known_sorts (length p.signature.sorts) (operation_of c.deref.result.now)) c.loop-number.invariant.1
    ∙ ap (λ (o : Op). has_known_sorts (length (presentation_of c.args.renamed.now).signature.sorts) (operation_of o)) c.deref.ensures
    ∙ member_is_known (length (presentation_of c.args.renamed.now).signature.sorts) shared c.args.base.now c.loop-number.number
    c.index-base-number.result c.loop-number-test.true c.index-base-number.is c.requires.known

pub add_image-requires-clause-apart : goal.add_image-requires-clause-apart
add_image-requires-clause-apart c =
    ap (λ (o : Op). list_any (are_one_operation (operation_of o)) (map shared (take c.loop-number.number c.args.base.now)))
    c.deref.ensures
    ∙ differs_from_earlier are_one_operation operations_turned shared c.args.base.now c.loop-number.number c.index-base-number.result
    c.loop-number-test.true c.index-base-number.is c.requires.apart

pub loop-number-preserved : goal.loop-number-preserved
loop-number-preserved c =
    let t = type_name_in c.args.renamer.now in
    let ps = operation_pairs_in c.args.renamer.now in
    let same = ap (λ (o : Op). operation_of o) c.deref.ensures in
    let added = c.in_ok-add_image.ensures in (
      added.2,
      grown t ps (map shared (take c.loop-number.number c.args.base.now)) (map shared (take (c.loop-number.number + 1) c.args.base.now))
          (operation_of c.deref.result.now) (shared c.index-base-number.result) (presentation_of c.args.renamed.now) _ _
          c.loop-number.invariant.1 same added.1
          (so_far shared c.args.base.now c.loop-number.number c.index-base-number.result c.loop-number-test.true c.index-base-number.is),
      sym (looked_on (operation_clash t ps) (clashes t ps) shared
          (one_by_one (λ (one : Operation) (other : Operation). are_one_operation (renamed_operation t ps one)
          (renamed_operation t ps other))
          (λ (o : Operation). pair_for ps.operation_pairs o.name) double_operation)
          c.args.base.now c.loop-number.number c.index-base-number.result c.loop-number-test.true c.index-base-number.is
          (ap (λ (o : Operation). operation_clash t ps (map shared (take c.loop-number.number c.args.base.now)) o) (sym same) ∙ added.0))
          ∙ c.loop-number.invariant.2,
    )

pub returns-in_err-add_image : goal.returns-in_err-add_image
returns-in_err-add_image c =
    let t = type_name_in c.args.renamer.now in
    let ps = operation_pairs_in c.args.renamer.now in
    let same = ap (λ (o : Op). operation_of o) c.deref.ensures in
    let e = err_from_is_err_and c.from_residual.result c.from_residual.ensures.1 in
    rw (e.1, e.2)
    (holds_weaker _ _ c.in_err-add_image.field-0.0
    (λ f found.
    sym c.loop-number.invariant.2
    ∙ looked_at (operation_clash t ps) (clashes t ps) shared
    (one_by_one (λ (one : Operation) (other : Operation). are_one_operation (renamed_operation t ps one) (renamed_operation t ps other))
    (λ (o : Operation). pair_for ps.operation_pairs o.name) double_operation)
    c.args.base.now c.loop-number.number c.index-base-number.result f c.loop-number-test.true c.index-base-number.is
    (ap (λ (o : Operation). operation_clash t ps (map shared (take c.loop-number.number c.args.base.now)) o) (sym same) ∙ found))
    c.in_err-add_image.ensures)

pub returns : goal.returns
returns c =
    let t = type_name_in c.args.renamer.now in
    let ps = operation_pairs_in c.args.renamer.now in
    let all : c.loop-number.number ≡ length c.args.base.now = omega arith in (
      sym c.loop-number.invariant.2
          ∙ ap (λ (os : List Operation). clashes t ps (map shared (take c.loop-number.number c.args.base.now)) os)
          (none_of shared c.args.base.now c.loop-number.number (omega (arith, c.loop-number-test.false))),
      c.loop-number.invariant.1
          ∙ ap (λ (os : List (Rc Op Global)). with_these_operations (presentation_of c.args.renamed.now) (map (renamed_operation t ps)
          (map shared os)))
          (take_whole c.args.base.now c.loop-number.number all),
      c.loop-number.invariant.0,
      ap (λ (p : Presentation). is_too_large p) c.loop-number.invariant.1
          ∙ operations_are_few t ps (presentation_of c.args.renamed.now) shared c.args.base.now c.loop-number.number c.requires.within
          c.requires.few,
    )
