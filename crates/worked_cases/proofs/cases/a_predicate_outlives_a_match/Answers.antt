use Rattle.std.proofs.Common.{[], refl}
use Rattle.behaviour_semantics.specs.Solving.{unsolvable, replacing}
use Rattle.worked_cases.specs.Showing.{HasMenu}
use Rattle.worked_cases.specs.OfferCases.{mismatched, mismatched_lines}
use Rattle.worked_cases.proofs.ShownMenus.{menu, no_transition}
use Rattle.worked_cases.proofs.cases.a_predicate_outlives_a_match.Goals as goal

shown : HasMenu [] mismatched mismatched_lines
shown = menu _ _ 9 _ refl refl refl (replacing _ _ _ refl refl (unsolvable _ refl), tt)

pub returns : goal.returns
returns c = record {
  menu = shown;
  asked = refl;
  no_transition = no_transition [] mismatched mismatched_lines shown (λ e values listed meets. absurd (cc listed.1));
}
