use Rattle.std.proofs.Common.{◌≡◌, ◌+◌, ◌*◌, ◌≤◌, take, ◌↔◌}
use Rattle.sort_terms.specs.TermSize.{size_of, sizes_of}
use Rattle.sort_terms.specs.TermView.{term_of, bare_terms_of}
use Rattle.sort_terms.proofs.terms.+identity.Given as goal

abbrev pub decreases-Term::same : goal.decreases-Term::same
decreases-Term::same l = 3 * size_of l.self.now + 1

abbrev pub decreases-compared : goal.decreases-compared
decreases-compared l = 3 * size_of l.one.now

abbrev pub decreases-same_but_last : goal.decreases-same_but_last
decreases-same_but_last l = 3 * sizes_of l.terms.now.items + 2

-- the terms are identical where the two that are left are
abbrev pub invariant-Term::same-loop-same : goal.invariant-Term::same-loop-same
invariant-Term::same-loop-same l =
    (size_of l.one ≤ size_of l.self) × ((term_of l.one ≡ term_of l.two) ↔ (term_of l.self ≡ term_of l.other))

abbrev pub decreases-Term::same-loop-same : goal.decreases-Term::same-loop-same
decreases-Term::same-loop-same l = size_of l.one

abbrev pub invariant-same_but_last-loop-i : goal.invariant-same_but_last-loop-i
invariant-same_but_last-loop-i l = bare_terms_of (take l.i l.terms.items) ≡ bare_terms_of (take l.i l.others.items)
