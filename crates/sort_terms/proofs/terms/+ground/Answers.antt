use Rattle.std.proofs.Common.{List, refl, sym, ◌∙◌, subst, ap, arith}
use Rattle.lotos_base.specs.Sorting.{AreGround, IsGround}
use Rattle.sort_terms.specs.TermSize.{sizes_of}
use Rattle.sort_terms.proofs.SizeLemmas.{size_above, size_within}
use Rattle.sort_terms.specs.TermView.{term_of, bare_terms_of}
use Rattle.sort_terms.specs.declared.terms.Term.{Term}
use Rattle.sort_terms.proofs.TermListLemmas.{ground_more, ground_at}
use Rattle.sort_terms.proofs.terms.+ground.Goals as goal

-- a term that is not ground
pub are_ground-returns-then-not-is_ground : goal.are_ground-returns-then-not-is_ground
are_ground-returns-then-not-is_ground t c = (
  (λ h. cc),
  (λ all. sym c.if-not-is_ground.true ∙ c.is_ground.ensures.1
      (ground_at c.deref-term-items.result.now c.loop-term.term-index c.term-item.result c.loop-term-test.true c.term-item.is
      (subst (λ (ts : List Term). AreGround (bare_terms_of ts)) (sym c.deref-term-items.ensures.value) all))),
)

pub are_ground-loop-term-preserved : goal.are_ground-loop-term-preserved
are_ground-loop-term-preserved t c =
    ground_more c.deref-term-items.result.now c.loop-term.term-index c.term-item.result c.loop-term-test.true c.term-item.is
    c.loop-term.invariant
    (c.is_ground.ensures.0 c.if-not-is_ground.false)

-- arguments that are known to have no variable
pub Term::is_ground-returns-then-facts : goal.Term::is_ground-returns-then-facts
Term::is_ground-returns-then-facts t c =
    ((λ h. subst (λ (u : Term). IsGround (term_of u)) (sym c.in-Node.is) (c.facts.ensures.0 c.if-facts.true)), (λ h. refl))

-- the arguments are smaller than the term, and the members than the list
pub Term::is_ground-are_ground-requires : goal.Term::is_ground-are_ground-requires
Term::is_ground-are_ground-requires t c =
    let size = size_above c.args.self.now c.in-Node.op c.in-Node.profile c.in-Node.arguments c.items.result.now.items c.in-Node.is
    c.items.ensures in
    (omega (arith, c.decreases, size), tt)

pub are_ground-is_ground-requires : goal.are_ground-is_ground-requires
are_ground-is_ground-requires t c =
    let size = size_within c.deref-term-items.result.now c.loop-term.term-index c.term-item.result c.loop-term-test.true c.term-item.is in
    let same = ap sizes_of c.deref-term-items.ensures.value in
    (omega (arith, c.decreases, size, same), tt)
