use Rattle.std.proofs.Common.{map, ap, arith}
use Rattle.sort_terms.specs.Operations.{operation_of}
use Rattle.type_definitions.specs.ProfiledImage.{number_in}
use Rattle.type_definitions.proofs.ImageLemmas.{images_more}
use Rattle.sort_terms.specs.TermSize.{sizes_of}
use Rattle.sort_terms.proofs.SizeLemmas.{size_above, size_within}
use Rattle.type_definitions.proofs.images.+image.Goals as goal

pub images_of-loop-term-preserved : goal.images_of-loop-term-preserved
images_of-loop-term-preserved t c =
    images_more (number_in c.args.sorts.now) (number_in c.args.ops.now) (map (λ p. operation_of p.value) c.args.profiles.now)
    c.deref-term-items.result.now c.loop-term.made.items c.push.new.self.items c.loop-term.term-index c.term-item.result
    c.in_ok-image_of.field-0 c.loop-term-test.true c.term-item.is c.in_ok-push.ensures.items c.loop-term.invariant
    c.in_ok-image_of.ensures

-- the arguments are smaller than the term, and the members than the list
pub image_of-images_of-requires : goal.image_of-images_of-requires
image_of-images_of-requires t c =
    let size = size_above c.args.term.now c.in-Node.op c.in-Node.profile c.in-Node.arguments c.items.result.now.items c.in-Node.is
    c.items.ensures in
    (omega (arith, c.decreases, size), tt)

pub images_of-image_of-requires : goal.images_of-image_of-requires
images_of-image_of-requires t c =
    let size = size_within c.deref-term-items.result.now c.loop-term.term-index c.term-item.result c.loop-term-test.true c.term-item.is in
    let same = ap sizes_of c.deref-term-items.ensures.value in
    (omega (arith, c.decreases, size, same), tt)
