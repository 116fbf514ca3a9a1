use Rattle.std.proofs.Common.{sym, subst}
use Rattle.sort_terms.specs.ProfiledTerm.{ProfiledTerm, FitsProfiles}
use Rattle.sort_terms.specs.TermView.{profiled_of}
use Rattle.term_match.proofs.SearchLemmas.{found_member}
use Rattle.term_match.proofs.matching.copies.Goals as goal

pub of-requires : goal.of-requires
of-requires c =
    subst (λ (p : ProfiledTerm). FitsProfiles p) (sym c.in_ok-copy.ensures)
    (c.requires c.loop-number-item.result.0 (profiled_of c.loop-number-item.result.1.now) (
      c.loop-number.number-index,
      found_member c.args.found.now c.loop-number.number-index c.loop-number-item.result
          c.loop-number-test.true c.loop-number-item.is,
    ))
