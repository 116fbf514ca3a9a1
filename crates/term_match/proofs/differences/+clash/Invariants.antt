use Rattle.std.proofs.Common.{◌≡◌, drop, ◌+◌, ◌*◌}
use Rattle.sort_terms.specs.TermSize.{size_of, sizes_of}
use Rattle.sort_terms.specs.TermView.{all_profiled}
use Rattle.term_match.specs.Disagreement.{terms_clash}
use Rattle.term_match.proofs.differences.+clash.Given as goal

abbrev pub decreases-clash : goal.decreases-clash
decreases-clash l = 2 * size_of l.left.now

abbrev pub decreases-clash_in : goal.decreases-clash_in
decreases-clash_in l = 2 * sizes_of l.terms.now.items + 1

abbrev pub invariant-clash_in-loop-i : goal.invariant-clash_in-loop-i
invariant-clash_in-loop-i l =
    terms_clash (all_profiled l.terms.items) (all_profiled l.others.items)
    ≡ terms_clash (all_profiled (drop l.i l.terms.items)) (all_profiled (drop l.i l.others.items))
