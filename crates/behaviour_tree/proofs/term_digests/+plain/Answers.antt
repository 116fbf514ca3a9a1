use Rattle.std.proofs.Common.{◌≡◌, ◌+◌, arith, ap, length, sym, take, ◌∙◌}
use Rattle.behaviour_tree.specs.TermDigests.{arguments_digest, digest_behind}
use Rattle.behaviour_tree.proofs.TermDigestLemmas.{by_last, one_more}
use Rattle.sort_terms.proofs.SizeLemmas.{size_above, size_within}
use Rattle.sort_terms.specs.TermView.{term_of, bare_terms_of}
use Rattle.behaviour_tree.proofs.term_digests.+plain.Goals as goal

pub first_digests-digest_behind-digest-requires : goal.first_digests-digest_behind-digest-requires
first_digests-digest_behind-digest-requires t c =
    let size = size_within c.args.terms.now.items c.loop-i.i c.index.result.now (omega (arith, c.requires)) c.index.ensures in
    (omega (arith, c.decreases, size), tt)

pub first_digests-loop-i-preserved : goal.first_digests-loop-i-preserved
first_digests-loop-i-preserved t c =
    c.digest_behind-digest.ensures ∙ ap (λ d. digest_behind d (term_of c.index.result.now)) c.loop-i.invariant
    ∙ sym (one_more c.args.before c.args.terms.now.items c.loop-i.i c.index.result.now (omega (arith, c.requires)) c.index.ensures)

-- ---- The loop over last arguments

pub digest_behind-loop-left-smaller : goal.digest_behind-loop-left-smaller
digest_behind-loop-left-smaller t c =
    let items = c.items-terms.result.now.items in
    let size = size_above c.loop-left.left.now c.in-Node.op c.in-Node.profile c.in-Node.arguments items c.in-Node.is
    c.items-terms.ensures in
    let part = size_within items c.in-Some.last c.index-left.result.now
    (omega (arith, c.in-Some.ensures, c.len.ensures, c.items-terms.result.now.ok.0)) c.index-left.ensures in
    omega (arith, size, part)

pub digest_behind-loop-left-preserved : goal.digest_behind-loop-left-preserved
digest_behind-loop-left-preserved t c =
    let items = c.items-terms.result.now.items in
    let last = c.in-Some.last in
    let one = c.index-left.result.now in
    let whole : last + 1 ≡ length items = omega (arith, c.in-Some.ensures, c.len.ensures, c.items-terms.result.now.ok.0) in
    let size = size_above c.loop-left.left.now c.in-Node.op c.in-Node.profile c.in-Node.arguments items c.in-Node.is
    c.items-terms.ensures in
    let part = size_within items last one (omega (arith, whole)) c.index-left.ensures in (
      omega (arith, size, part, c.loop-left.invariant.0),
      ap (λ d. digest_behind d (term_of one)) (c.first_digests-digest.ensures
          ∙ ap (λ d. arguments_digest d (bare_terms_of (take last items))) c.mix-digest.ensures)
          ∙ by_last c.loop-left.digest c.in-Node.op c.loop-left.left.now c.in-Node.profile c.in-Node.arguments items last one c.in-Node.is
          c.items-terms.ensures whole c.index-left.ensures
          ∙ c.loop-left.invariant.1,
    )
