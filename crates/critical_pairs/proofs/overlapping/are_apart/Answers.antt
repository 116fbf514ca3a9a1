use Rattle.std.proofs.Common.{◌≡◌, Bor, true, ap, sym, ◌∙◌}
use Rattle.std.specs.Prelude.{Option, Some}
use Rattle.std.specs.Option.{option_map}
use Rattle.sort_terms.specs.SortedView.{profiled_in}
use Rattle.sort_terms.specs.TermView.{profiled_of}
use Rattle.sort_terms.specs.declared.terms.Term.{Term}
use Rattle.term_match.specs.Disagreement.{clashes}
use Rattle.term_match.specs.ProfiledPath.{profiled_subterm}
use Rattle.path_order.specs.RuleSides.{sides_of}
use Rattle.critical_pairs.proofs.PlaceLemmas.{clash_apart}
use Rattle.critical_pairs.proofs.overlapping.are_apart.Goals as goal

pub returns-in-Some : goal.returns-in-Some
returns-in-Some c = λ is.
    let is_part : profiled_subterm c.args.path.now (profiled_in c.args.first.now.left) ≡ Some (profiled_of c.in-Some.part.now) =
    sym (ap (λ (o : Option (Bor Term)). option_map (λ (t : Bor Term). profiled_of t.now) o) (sym c.in-Some.is)
    ∙ c.part_at.ensures ∙ ap (λ (t : Term). profiled_subterm c.args.path.now (profiled_of t)) c.term.ensures) in
    let clash : clashes (profiled_of c.in-Some.part.now) (profiled_in c.args.second.now.left) ≡ true =
    (λ i. clashes (profiled_of c.in-Some.part.now) (profiled_of (sym c.term-in-Some.ensures i))) ∙ sym c.clash.ensures ∙ is in
    clash_apart (sides_of c.args.first.now) (sides_of c.args.second.now) c.args.path.now (profiled_of c.in-Some.part.now) is_part clash
