use Rattle.std.proofs.Common.{subst, sym}
use Rattle.sort_terms.specs.Known.{HoldOfAll}
use Rattle.sort_terms.specs.ProfiledTerm.{all_bare}
use Rattle.sort_terms.specs.TermView.{all_profiled}
use Rattle.sort_terms.specs.declared.facts.Facts.{Facts}
use Rattle.sort_terms.proofs.FactLemmas.{nothing_holds_all}
use Rattle.sort_terms.proofs.terms.Arguments.put_in_place.Goals as goal

-- nothing is known of the others
pub invariant_of-self : goal.invariant_of-self
invariant_of-self c =
    subst (λ (facts : Facts). HoldOfAll facts (all_bare (all_profiled c.replace-list.new.dest.items)))
    (sym c.nothing-self-inside.ensures) (nothing_holds_all (all_bare (all_profiled c.replace-list.new.dest.items)))
