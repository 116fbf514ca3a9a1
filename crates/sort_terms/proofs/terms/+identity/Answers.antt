use Rattle.std.proofs.Common.{sym, ◌∙◌, ◌≡◌, arith, subst, take}
use Rattle.sort_terms.specs.Likenesses.{IsBelow, Tells}
use Rattle.sort_terms.specs.TermSize.{size_of}
use Rattle.sort_terms.specs.TermView.{term_of, bare_terms_of}
use Rattle.sort_terms.proofs.SizeLemmas.{size_within}
use Rattle.sort_terms.proofs.TermListLemmas.{same_length, same_at, same_more, same_by_last}
use Rattle.sort_terms.proofs.terms.+identity.Goals as goal

-- ---- The loop over last arguments

pub Term::same-compared-requires : goal.Term::same-compared-requires
Term::same-compared-requires t c = (omega (arith, c.decreases, c.loop-same.invariant.0), tt)

pub Term::same-returns-in-Decided : goal.Term::same-returns-in-Decided
Term::same-returns-in-Decided t c =
    let tells = subst (Tells (term_of c.loop-same.one.now) (term_of c.loop-same.two.now)) c.in-Decided.is c.compared.ensures.tells in
    (λ yes. c.loop-same.invariant.1.0 (tells.0 yes), λ same. tells.1 (c.loop-same.invariant.1.1 same))

pub Term::same-loop-same-smaller : goal.Term::same-loop-same-smaller
Term::same-loop-same-smaller t c = subst (IsBelow (size_of c.loop-same.one.now)) c.in-ByLast.is c.compared.ensures.below

pub Term::same-loop-same-preserved : goal.Term::same-loop-same-preserved
Term::same-loop-same-preserved t c =
    let tells = subst (Tells (term_of c.loop-same.one.now) (term_of c.loop-same.two.now)) c.in-ByLast.is c.compared.ensures.tells in
    let below = subst (IsBelow (size_of c.loop-same.one.now)) c.in-ByLast.is c.compared.ensures.below in
    let inner = c.loop-same.invariant in
    (omega (arith, below, inner.0), (λ same. inner.1.0 (tells.0 same), λ same. tells.1 (inner.1.1 same)))

-- ---- Lists

-- of different lengths
pub same_but_last-returns-then-len-clause-tells : goal.same_but_last-returns-then-len-clause-tells
same_but_last-returns-then-len-clause-tells t c = (
  (λ h. cc),
  (λ same. absurd (c.if-len.true (c.len.ensures ∙ c.args.terms.now.ok.0 ∙ same_length c.args.terms.now.items c.args.others.now.items same
      ∙ sym c.args.others.now.ok.0 ∙ sym c.len-2.ensures))),
)

-- a member is smaller than the list
pub same_but_last-same-requires : goal.same_but_last-same-requires
same_but_last-same-requires t c =
    let size = size_within c.args.terms.now.items c.loop-i.i c.index.result.now (omega arith) c.index.ensures in
    (omega (arith, c.decreases, size), tt)

-- two members that differ
pub same_but_last-returns-then-not-same-clause-tells : goal.same_but_last-returns-then-not-same-clause-tells
same_but_last-returns-then-not-same-clause-tells t c = (
  (λ h. cc),
  (λ same. sym c.if-not-same.true ∙ c.same.ensures.1
      (same_at c.args.terms.now.items c.args.others.now.items c.loop-i.i c.index.result.now c.index-in-loop-i.result.now
      (omega arith) c.index.ensures c.index-in-loop-i.ensures same)),
)

pub same_but_last-loop-i-preserved : goal.same_but_last-loop-i-preserved
same_but_last-loop-i-preserved t c =
    same_more c.args.terms.now.items c.args.others.now.items c.loop-i.i c.index.result.now c.index-in-loop-i.result.now (omega arith)
    (omega arith) c.index.ensures c.index-in-loop-i.ensures c.loop-i.invariant (c.same.ensures.0 c.if-not-same.false)

-- all but the last ones are identical
pub same_but_last-returns-clause-tells : goal.same_but_last-returns-clause-tells
same_but_last-returns-clause-tells t c =
    let before = subst (λ n. bare_terms_of (take n c.args.terms.now.items) ≡ bare_terms_of (take n c.args.others.now.items)) end
    c.loop-i.invariant in
    same_by_last c.args.terms.now.items c.args.others.now.items c.in-Some.last c.index-2.result.now c.index-3.result.now
    (omega (arith, c.in-Some.ensures, c.len-3.ensures, c.args.terms.now.ok.0))
    (omega (
      arith,
      c.in-Some.ensures,
      c.len-3.ensures,
      c.len.ensures,
      c.len-2.ensures,
      c.if-len.false,
      c.args.terms.now.ok.0,
      c.args.others.now.ok.0,
    ))
    c.index-2.ensures c.index-3.ensures before
  where
    end : c.loop-i.i ≡ c.in-Some.last
    end = omega (arith, c.loop-i-test.false, c.loop-i.auto)

pub same_but_last-returns-clause-below : goal.same_but_last-returns-clause-below
same_but_last-returns-clause-below t c =
    let size = size_within c.args.terms.now.items c.in-Some.last c.index-2.result.now
    (omega (arith, c.in-Some.ensures, c.len-3.ensures, c.args.terms.now.ok.0)) c.index-2.ensures in
    omega (arith, size)
