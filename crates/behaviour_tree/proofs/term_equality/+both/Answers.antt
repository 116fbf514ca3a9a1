use Rattle.std.proofs.Common.{subst, sym, ◌∙◌, arith}
use Rattle.lotos_base.specs.Sorting.{IsGround}
use Rattle.lotos_base.proofs.SubstitutionLemmas.{substituted_ground}
use Rattle.sort_terms.specs.TermView.{term_of}
use Rattle.sort_terms.specs.declared.terms.Term.{Term}
use Rattle.sort_terms.proofs.SizeLemmas.{size_above, size_within}
use Rattle.behaviour_tree.specs.Placings.{values_of}
use Rattle.behaviour_tree.proofs.TermLists.{both_length, both_at, both_more}
use Rattle.behaviour_tree.proofs.term_equality.+both.Goals as goal

-- lists of different lengths
pub all_same_terms-returns-then-len : goal.all_same_terms-returns-then-len
all_same_terms-returns-then-len t c = (
  (λ h. cc),
  (λ same. absurd (c.if-len.true (c.len.ensures ∙ c.args.terms.now.ok.0
      ∙ both_length (values_of c.args.here.now) (values_of c.args.there.now) c.args.terms.now.items c.args.others.now.items same
      ∙ sym c.args.others.now.ok.0 ∙ sym c.len-2.ensures))),
)

-- two members that differ
pub all_same_terms-returns-then-not-same_terms : goal.all_same_terms-returns-then-not-same_terms
all_same_terms-returns-then-not-same_terms t c = (
  (λ h. cc),
  (λ same. sym c.if-not-same_terms.true ∙ c.same_terms.ensures.1
      (both_at (values_of c.args.here.now) (values_of c.args.there.now) c.args.terms.now.items c.args.others.now.items c.loop-i.i
      c.index.result.now c.index-in-loop-i.result.now (omega arith) c.index.ensures c.index-in-loop-i.ensures same)),
)

pub all_same_terms-loop-i-preserved : goal.all_same_terms-loop-i-preserved
all_same_terms-loop-i-preserved t c =
    both_more (values_of c.args.here.now) (values_of c.args.there.now) c.args.terms.now.items c.args.others.now.items c.loop-i.i
    c.index.result.now c.index-in-loop-i.result.now (omega arith) (omega arith) c.index.ensures c.index-in-loop-i.ensures
    c.loop-i.invariant (c.same_terms.ensures.0 c.if-not-same_terms.false)

-- what is known to have no variable stays itself
pub same_terms-returns-then-facts : goal.same_terms-returns-then-facts
same_terms-returns-then-facts t c =
    let ground = subst (λ (u : Term). IsGround (term_of u)) (sym c.in-Node.is) (c.facts.ensures.0 c.if-facts.true) in
    let stays = substituted_ground (values_of c.args.here.now) (term_of c.args.term.now) ground in
    ((λ h. stays ∙ c.is_placed-then-facts.ensures.0 h), (λ same. c.is_placed-then-facts.ensures.1 (sym stays ∙ same)))

-- the arguments are smaller than the term, and the members than the list
pub same_terms-all_same_terms-requires : goal.same_terms-all_same_terms-requires
same_terms-all_same_terms-requires t c =
    let size = size_above c.args.term.now c.in-Node.op c.in-Node.profile c.in-Node.arguments c.items.result.now.items c.in-Node.is
    c.items.ensures in
    (omega (arith, c.decreases, size), tt)

pub all_same_terms-same_terms-requires : goal.all_same_terms-same_terms-requires
all_same_terms-same_terms-requires t c =
    let size = size_within c.args.terms.now.items c.loop-i.i c.index.result.now (omega arith) c.index.ensures in
    (omega (arith, c.decreases, size), tt)
