use Rattle.std.proofs.Common.{◌≡◌, ap, sym, ◌∙◌}
use Rattle.std.specs.Prelude.{Option, Some}
use Rattle.std.specs.Option.{option_map}
use Rattle.sort_terms.specs.ProfiledTerm.{head_sort}
use Rattle.sort_terms.specs.SortedView.{profiled_in}
use Rattle.sort_terms.specs.TermView.{profiled_of}
use Rattle.sort_terms.specs.declared.terms.Term.{Term}
use Rattle.term_match.specs.ProfiledPath.{profiled_subterm, profiled_put_at}
use Rattle.term_match.proofs.PathLemmas.{put_fits}
use Rattle.term_match.proofs.paths.replacement.Goals as goal

pub of-requires : goal.of-requires
of-requires c =
    let found : profiled_subterm c.args.path.now (profiled_in c.args.term.now) ≡ Some (profiled_of c.in-Some.old.now) =
    sym (c.in-Some.ensures ∙ ap (λ (t : Term). profiled_subterm c.args.path.now (profiled_of t)) c.term.ensures) in
    let sorts : head_sort (profiled_in c.args.part.now) ≡ head_sort (profiled_of c.in-Some.old.now) =
    c.args.part.now.headed ∙ sym c.sort-2.ensures ∙ sym c.if-sort.false ∙ c.sort.ensures in
    let put : profiled_put_at c.args.path.now (profiled_in c.args.part.now) (profiled_in c.args.term.now) ≡ Some
    (profiled_of c.in-Some-2.whole) =
    sym (ap (λ (o : Option Term). option_map profiled_of o) (sym c.in-Some-2.is) ∙ c.in_ok-whole.ensures
    ∙ (λ i. profiled_put_at c.args.path.now (profiled_of (c.term-3.ensures i)) (profiled_of (c.term-2.ensures i)))) in
    (put_fits c.args.path.now (profiled_in c.args.part.now) (profiled_in c.args.term.now) (profiled_of c.in-Some.old.now)
    (profiled_of c.in-Some-2.whole) c.args.term.now.fits c.args.part.now.fits found sorts put).0
