use Rattle.std.proofs.Common.{◌≡◌, ℕ, Bool, List, ◌∷◌, ◌++◌, [], length, map, ap, sym, ◌∙◌}
use Rattle.std.specs.Prelude.{true, false, not}
use Rattle.std.specs.List.{list_any}
use Rattle.lotos_base.specs.Signature.{Operation}
use Rattle.sort_terms.specs.Operations.{operation_of}
use Rattle.type_renaming.proofs.PartLemmas.{shared, image_is_known}
use Rattle.sort_terms.specs.WellFormedTest.{all_differ, are_one_operation, has_known_sorts}
use Rattle.syntax_trees.specs.WrittenItem.{WrittenPairs}
use Rattle.type_definitions.specs.TypeFault.{double_operation}
use Rattle.type_definitions.specs.Presentation.{Presentation}
use Rattle.type_definitions.specs.Renaming.{pair_for, renamed_operation}
use Rattle.type_presentations.specs.PresentationView.{presentation_of}
use Rattle.type_presentations.specs.Growth.{with_one_operation}
use Rattle.type_presentations.proofs.GrowthLemmas.{operations_differ}
use Rattle.type_renaming.specs.RenamerView.{operation_pairs_in, type_name_in}
use Rattle.type_renaming.proofs.ClashLemmas.{second_is, no_clash, from_either_side}
use Rattle.type_renaming.proofs.PairLemmas.{operations_turned}
use Rattle.type_renaming.proofs.operations.add_image.Goals as goal

-- whether the image is that of an earlier operation too
told : (t : List ℕ) (ps : WrittenPairs) (p : Presentation) (earlier : List Operation) (image s : Operation) (b : Bool)
    → all_differ are_one_operation p.signature.operations ≡ true → p.signature.operations ≡ map (renamed_operation t ps) earlier
    → image ≡ renamed_operation t ps s → not (all_differ are_one_operation (p.signature.operations ++ image ∷ [])) ≡ b
    → list_any (are_one_operation (renamed_operation t ps s)) (map (renamed_operation t ps) earlier) ≡ b
told t ps p earlier image s b apart images is clash =
    sym (ap (λ (x : Operation). list_any (are_one_operation x) (map (renamed_operation t ps) earlier)) is)
    ∙ sym (ap (λ (xs : List Operation). list_any (are_one_operation image) xs) images)
    ∙ second_is are_one_operation operations_turned p.signature.operations image b apart clash

pub op_clash-requires-clause-clash : goal.op_clash-requires-clause-clash
op_clash-requires-clause-clash c =
    told (type_name_in c.args.renamer.now) (operation_pairs_in c.args.renamer.now) (presentation_of c.args.renamed.now)
    (map shared c.args.earlier.now) (operation_of c.in_ok-image.image) (operation_of c.args.op.now) true
    (operations_differ (presentation_of c.args.renamed.now).signature c.requires.sound.data_.signature) c.requires.images
    c.in_ok-image.ensures (c.in_ok-is_second.ensures.clash ∙ c.if-is_second.true)

pub grow_by_op-requires-clause-known : goal.grow_by_op-requires-clause-known
grow_by_op-requires-clause-known c =
    let bound = length (presentation_of c.args.renamed.now).signature.sorts in
    ap (λ (o : Operation). has_known_sorts bound o) c.in_ok-image.ensures
    ∙ image_is_known bound (type_name_in c.args.renamer.now) (operation_pairs_in c.args.renamer.now) (operation_of c.args.op.now)
    ∙ c.requires.known

pub returns : goal.returns
returns c =
    let t = type_name_in c.args.renamer.now in
    let ps = operation_pairs_in c.args.renamer.now in
    let grown = c.in_ok-is_second.ensures.grown c.if-is_second.false in (
      no_clash (λ (one : Operation) (other : Operation). are_one_operation (renamed_operation t ps one) (renamed_operation t ps other))
          (λ (o : Operation). pair_for ps.operation_pairs o.name) double_operation (map shared c.args.earlier.now)
          (operation_of c.args.op.now)
          (from_either_side are_one_operation operations_turned (renamed_operation t ps) (map shared c.args.earlier.now)
          (operation_of c.args.op.now)
          ∙ told t ps (presentation_of c.args.renamed.now) (map shared c.args.earlier.now) (operation_of c.in_ok-image.image)
          (operation_of c.args.op.now) false
          (operations_differ (presentation_of c.args.renamed.now).signature c.requires.sound.data_.signature) c.requires.images
          c.in_ok-image.ensures (c.in_ok-is_second.ensures.clash ∙ c.if-is_second.false)),
      grown.0 ∙ ap (λ (o : Operation). with_one_operation (presentation_of c.args.renamed.now) o) c.in_ok-image.ensures,
      grown.1,
    )
