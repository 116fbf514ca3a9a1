use Rattle.std.proofs.Common.{◌≡◌, ◌++◌, drop, ◌+◌, ◌*◌}
use Rattle.sort_terms.specs.TermView.{bare_terms_of}
use Rattle.type_presentations.specs.EquationKeys.{terms_key}
use Rattle.sort_terms.specs.TermSize.{size_of, sizes_of}
use Rattle.type_presentations.proofs.equation_keys.+keys.Given as goal

abbrev pub decreases-push_term : goal.decreases-push_term
decreases-push_term l = 2 * size_of l.term.now

abbrev pub decreases-push_terms : goal.decreases-push_terms
decreases-push_terms l = 2 * sizes_of l.terms.now.items + 1

abbrev pub invariant-push_terms-loop-term : goal.invariant-push_terms-loop-term
invariant-push_terms-loop-term l =
    l.key.items ++ terms_key (bare_terms_of (drop l.term-index l.term-items)) ≡ l.fn.key.items ++ terms_key (bare_terms_of l.term-items)
