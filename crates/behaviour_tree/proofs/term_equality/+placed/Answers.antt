use Rattle.std.proofs.Common.{subst, sym, ◌∙◌, arith}
use Rattle.lotos_base.specs.Sorting.{IsGround}
use Rattle.lotos_base.proofs.SubstitutionLemmas.{substituted_ground}
use Rattle.sort_terms.specs.TermView.{term_of}
use Rattle.sort_terms.specs.declared.terms.Term.{Term}
use Rattle.sort_terms.proofs.SizeLemmas.{size_above, size_within}
use Rattle.behaviour_tree.specs.Placings.{values_of}
use Rattle.behaviour_tree.proofs.TermLists.{one_length, one_at, one_more}
use Rattle.behaviour_tree.proofs.term_equality.+placed.Goals as goal

-- lists of different lengths
pub are_placed-returns-then-len : goal.are_placed-returns-then-len
are_placed-returns-then-len t c = (
  (λ h. cc),
  (λ same. absurd (c.if-len.true (c.len.ensures ∙ c.args.terms.now.ok.0
      ∙ one_length (values_of c.args.placing.now) c.args.terms.now.items c.args.others.now.items same
      ∙ sym c.args.others.now.ok.0 ∙ sym c.len-2.ensures))),
)

-- two members that differ
pub are_placed-returns-then-not-is_placed : goal.are_placed-returns-then-not-is_placed
are_placed-returns-then-not-is_placed t c = (
  (λ h. cc),
  (λ same. sym c.if-not-is_placed.true ∙ c.is_placed.ensures.1
      (one_at (values_of c.args.placing.now) c.args.terms.now.items c.args.others.now.items c.loop-i.i c.index.result.now
      c.index-in-loop-i.result.now (omega arith) c.index.ensures c.index-in-loop-i.ensures same)),
)

pub are_placed-loop-i-preserved : goal.are_placed-loop-i-preserved
are_placed-loop-i-preserved t c =
    one_more (values_of c.args.placing.now) c.args.terms.now.items c.args.others.now.items c.loop-i.i c.index.result.now
    c.index-in-loop-i.result.now (omega arith) (omega arith) c.index.ensures c.index-in-loop-i.ensures c.loop-i.invariant
    (c.is_placed.ensures.0 c.if-not-is_placed.false)

-- what is known to have no variable stays itself
pub is_placed-returns-then-facts : goal.is_placed-returns-then-facts
is_placed-returns-then-facts t c =
    let ground = subst (λ (u : Term). IsGround (term_of u)) (sym c.in-Node.is) (c.facts.ensures.0 c.if-facts.true) in
    let stays = substituted_ground (values_of c.args.placing.now) (term_of c.args.other.now) ground in
    ((λ h. c.same-then-facts.ensures.0 h ∙ sym stays), (λ same. c.same-then-facts.ensures.1 (same ∙ stays)))

-- the arguments are smaller than the term, and the members than the list
pub is_placed-are_placed-requires : goal.is_placed-are_placed-requires
is_placed-are_placed-requires t c =
    let size = size_above c.args.other.now c.in-Node.op c.in-Node.profile c.in-Node.arguments c.items-then-f-op.result.now.items
    c.in-Node.is c.items-then-f-op.ensures in
    (omega (arith, c.decreases, size), tt)

pub are_placed-is_placed-requires : goal.are_placed-is_placed-requires
are_placed-is_placed-requires t c =
    let size = size_within c.args.others.now.items c.loop-i.i c.index-in-loop-i.result.now (omega arith) c.index-in-loop-i.ensures in
    (omega (arith, c.decreases, size), tt)
