use Rattle.std.proofs.Common.{◌≡◌, ◌≤◌, ◌+◌, ◌*◌, take}
use Rattle.sort_terms.specs.TermSize.{size_of, sizes_of}
use Rattle.sort_terms.specs.TermView.{term_of, bare_terms_of}
use Rattle.behaviour_tree.specs.TermDigests.{arguments_digest, digest_behind}
use Rattle.behaviour_tree.proofs.term_digests.+plain.Given as goal

abbrev pub decreases-digest_behind : goal.decreases-digest_behind
decreases-digest_behind l = 2 * size_of l.term.now

abbrev pub decreases-first_digests : goal.decreases-first_digests
decreases-first_digests l = 2 * sizes_of l.terms.now.items + 1

-- the digest of the term is that of what is left
abbrev pub invariant-digest_behind-loop-left : goal.invariant-digest_behind-loop-left
invariant-digest_behind-loop-left l =
    (size_of l.left ≤ size_of l.term) × (digest_behind l.digest (term_of l.left) ≡ digest_behind l.before (term_of l.term))

abbrev pub decreases-digest_behind-loop-left : goal.decreases-digest_behind-loop-left
decreases-digest_behind-loop-left l = size_of l.left

abbrev pub invariant-first_digests-loop-i : goal.invariant-first_digests-loop-i
invariant-first_digests-loop-i l = l.digest ≡ arguments_digest l.before (bare_terms_of (take l.i l.terms.items))
