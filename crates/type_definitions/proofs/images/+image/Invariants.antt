use Rattle.std.proofs.Common.{◌≡◌, map, take, ◌+◌, ◌*◌}
use Rattle.sort_terms.specs.Operations.{operation_of}
use Rattle.sort_terms.specs.TermView.{all_profiled}
use Rattle.type_definitions.specs.ProfiledImage.{number_in, profiled_images}
use Rattle.sort_terms.specs.TermSize.{size_of, sizes_of}
use Rattle.type_definitions.proofs.images.+image.Given as goal

abbrev pub decreases-image_of : goal.decreases-image_of
decreases-image_of l = 2 * size_of l.term.now

abbrev pub decreases-images_of : goal.decreases-images_of
decreases-images_of l = 2 * sizes_of l.terms.now.items + 1

abbrev pub invariant-images_of-loop-term : goal.invariant-images_of-loop-term
invariant-images_of-loop-term l =
    all_profiled l.made.items
    ≡ profiled_images (number_in l.sorts) (number_in l.ops) (map (λ p. operation_of p.value) l.profiles)
    (all_profiled (take l.term-index l.term-items))
