use Rattle.std.proofs.Common.{◌≡◌, ℕ, Bool, List, ◌∷◌, ◌++◌, [], map, ap, sym, ◌∙◌}
use Rattle.std.specs.Prelude.{true, false, not}
use Rattle.std.specs.List.{list_any}
use Rattle.lotos_base.specs.Signature.{Sort}
use Rattle.sort_terms.specs.Operations.{sort_of}
use Rattle.sort_terms.specs.WellFormedTest.{all_differ, are_one_sort}
use Rattle.syntax_trees.specs.WrittenItem.{WrittenPairs}
use Rattle.type_definitions.specs.TypeFault.{double_sort}
use Rattle.type_definitions.specs.Presentation.{Presentation}
use Rattle.type_definitions.specs.Renaming.{pair_for, renamed_sort}
use Rattle.type_presentations.specs.PresentationView.{presentation_of}
use Rattle.type_presentations.specs.Growth.{with_one_sort}
use Rattle.type_presentations.proofs.GrowthLemmas.{sorts_differ}
use Rattle.type_renaming.specs.RenamerView.{sort_pairs_in, type_name_in}
use Rattle.type_renaming.proofs.ClashLemmas.{second_is, no_clash, from_either_side}
use Rattle.type_renaming.proofs.PairLemmas.{sorts_turned}
use Rattle.type_renaming.proofs.sorts.add_image.Goals as goal

-- whether the image is that of an earlier sort too
told : (t : List ℕ) (ps : WrittenPairs) (p : Presentation) (earlier : List Sort) (image s : Sort) (b : Bool)
    → all_differ are_one_sort p.signature.sorts ≡ true → p.signature.sorts ≡ map (renamed_sort t ps) earlier
    → image ≡ renamed_sort t ps s → not (all_differ are_one_sort (p.signature.sorts ++ image ∷ [])) ≡ b
    → list_any (are_one_sort (renamed_sort t ps s)) (map (renamed_sort t ps) earlier) ≡ b
told t ps p earlier image s b apart images is clash =
    sym (ap (λ (x : Sort). list_any (are_one_sort x) (map (renamed_sort t ps) earlier)) is)
    ∙ sym (ap (λ (xs : List Sort). list_any (are_one_sort image) xs) images)
    ∙ second_is are_one_sort sorts_turned p.signature.sorts image b apart clash

pub sort_clash-requires-clause-clash : goal.sort_clash-requires-clause-clash
sort_clash-requires-clause-clash c =
    told (type_name_in c.args.renamer.now) (sort_pairs_in c.args.renamer.now) (presentation_of c.args.renamed.now)
    (map sort_of c.args.earlier.now) (sort_of c.in_ok-image.image) (sort_of c.args.sort.now) true
    (sorts_differ (presentation_of c.args.renamed.now).signature c.requires.sound.data_.signature) c.requires.images
    c.in_ok-image.ensures (c.in_ok-is_second.ensures.clash ∙ c.if-is_second.true)

pub returns : goal.returns
returns c =
    let t = type_name_in c.args.renamer.now in
    let ps = sort_pairs_in c.args.renamer.now in
    let grown = c.in_ok-is_second.ensures.grown c.if-is_second.false in (
      no_clash (λ (one : Sort) (other : Sort). are_one_sort (renamed_sort t ps one) (renamed_sort t ps other))
          (λ (s : Sort). pair_for ps.sort_pairs s.name) double_sort (map sort_of c.args.earlier.now) (sort_of c.args.sort.now)
          (from_either_side are_one_sort sorts_turned (renamed_sort t ps) (map sort_of c.args.earlier.now) (sort_of c.args.sort.now)
          ∙ told t ps (presentation_of c.args.renamed.now) (map sort_of c.args.earlier.now) (sort_of c.in_ok-image.image)
          (sort_of c.args.sort.now) false
          (sorts_differ (presentation_of c.args.renamed.now).signature c.requires.sound.data_.signature) c.requires.images
          c.in_ok-image.ensures (c.in_ok-is_second.ensures.clash ∙ c.if-is_second.false)),
      grown.0 ∙ ap (λ (s : Sort). with_one_sort (presentation_of c.args.renamed.now) s) c.in_ok-image.ensures,
      grown.1,
    )
