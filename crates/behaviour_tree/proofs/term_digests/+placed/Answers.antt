use Rattle.std.proofs.Common.{ap, arith, sym, ◌∙◌, subst}
use Rattle.lotos_base.proofs.SubstitutionLemmas.{substituted_ground}
use Rattle.lotos_base.specs.Sorting.{IsGround}
use Rattle.behaviour_tree.specs.Placings.{values_of}
use Rattle.behaviour_tree.specs.TermDigests.{digest_behind}
use Rattle.sort_terms.specs.TermSize.{sizes_of}
use Rattle.sort_terms.specs.TermView.{term_of}
use Rattle.sort_terms.specs.declared.terms.Term.{Term}
use Rattle.sort_terms.proofs.SizeLemmas.{size_above, size_within}
use Rattle.behaviour_tree.proofs.term_digests.+placed.Goals as goal

-- nothing is put into an operation that is known to have no variable
pub placed_behind-returns-then-facts : goal.placed_behind-returns-then-facts
placed_behind-returns-then-facts t c =
    c.digest_behind-then-facts.ensures
    ∙ ap (digest_behind c.args.before) (sym (substituted_ground (values_of c.args.here.now) (term_of c.args.term.now)
    (subst (λ (u : Term). IsGround (term_of u)) (sym c.in-Node.is) (c.facts.ensures.0 c.if-facts.true))))

-- the arguments are smaller than the term, and the members than the list
pub placed_behind-placed_digests-requires : goal.placed_behind-placed_digests-requires
placed_behind-placed_digests-requires t c =
    let size = size_above c.args.term.now c.in-Node.op c.in-Node.profile c.in-Node.arguments c.items.result.now.items c.in-Node.is
    c.items.ensures in
    (omega (arith, c.decreases, size), tt)

pub placed_digests-placed_behind-digest-requires : goal.placed_digests-placed_behind-digest-requires
placed_digests-placed_behind-digest-requires t c =
    let size = size_within c.deref-term-items.result.now c.loop-term.term-index c.term-item.result c.loop-term-test.true c.term-item.is in
    let same = ap sizes_of c.deref-term-items.ensures.value in
    (omega (arith, c.decreases, size, same), tt)
