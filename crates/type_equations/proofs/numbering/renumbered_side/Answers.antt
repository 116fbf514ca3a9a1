use Rattle.std.proofs.Common.{◌≡◌, ap, sym, subst, ◌∙◌}
use Rattle.sort_terms.specs.ProfiledTerm.{ProfiledTerm, FitsProfiles}
use Rattle.sort_terms.specs.SortedView.{profiled_in}
use Rattle.sort_terms.specs.TermView.{profiled_of}
use Rattle.sort_terms.specs.declared.terms.Term.{Term}
use Rattle.type_equations.specs.ProfiledNumbering.{profiled_renumbered}
use Rattle.type_equations.proofs.NumberingLemmas.{numbered_fits}
use Rattle.type_equations.proofs.numbering.renumbered_side.Goals as goal
use Rattle.type_equations.proofs.numbering.renumbered_side.Goals.{In_ok-made}

made_is : (c : In_ok-made) → profiled_of c.in_ok-made.made ≡ profiled_renumbered c.args.order.now.keys (profiled_in c.args.side.now)
made_is c = c.in_ok-made.ensures ∙ ap (λ (t : Term). profiled_renumbered c.args.order.now.keys (profiled_of t)) c.term.ensures

pub of-requires : goal.of-requires
of-requires c =
    subst (λ (p : ProfiledTerm). FitsProfiles p) (sym (made_is (goal.at.of-requires c).In_ok-made))
    (numbered_fits c.args.order.now.keys (profiled_in c.args.side.now) c.args.side.now.fits)

pub returns : goal.returns
returns c = ap (λ (t : Term). profiled_of t) c.of.ensures ∙ made_is (goal.at.returns c).In_ok-made
