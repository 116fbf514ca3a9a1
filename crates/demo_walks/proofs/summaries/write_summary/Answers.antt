use Rattle.std.proofs.Common.{ap, ◌∙◌, subst}
use Rattle.history_lines.specs.HandedOn.{book_canon, Spec}
use Rattle.sort_terms.specs.EquationView.{data_of}
use Rattle.sort_terms.specs.SignatureView.{signature_of}
use Rattle.sort_terms.specs.declared.equations.Flat.{Flat}
use Rattle.demo_walks.specs.DemoWalk.{AreWalkValues}
use Rattle.demo_walks.specs.WalkView.{AreGivenValues, walk_values_of, written_summary}
use Rattle.demo_walks.proofs.SummaryLemmas.{appended, summary_is}
use Rattle.demo_walks.proofs.summaries.write_summary.Goals as goal

pub walk-requires-clause-given : goal.walk-requires-clause-given
walk-requires-clause-given g c =
    subst (λ (f : Flat). AreGivenValues (signature_of f.signature) c.in_ok-values.values) c.flat.ensures c.in_ok-values.ensures.given

pub returns : goal.returns
returns g c = (
  written_summary c.walk.new.data.flat c.walk.new.session.spec c.args.cells c.walk.new.tally,
  appended c.args.into.now.items c.extend_from_slice.new.self.items c.as_slice.result.now c.push_summary.new.into.items
      c.new-text.result.items _ _ c.in_ok-extend_from_slice.ensures.items c.as_slice.ensures.value c.in_ok-push_summary.ensures
      c.new-text.ensures.items
      (ap (λ (f : Flat). written_summary f c.spec.result.now c.args.cells c.walk.new.tally) c.flat-2.ensures
      ∙ ap (λ (s : Spec). written_summary c.walk.new.data.flat s c.args.cells c.walk.new.tally) c.spec.ensures),
  summary_is g.M.MenuMaker.suits (data_of c.args.book.now.flat) c.walk.new.data.flat (book_canon c.args.book.now)
      (book_canon c.walk.new.data) c.args.session.now c.walk.new.session c.walk.new.tally
      (walk_values_of c.in_ok-values.values) c.args.cells
      c.requires.at_start
      (subst (λ (f : Flat). AreWalkValues (signature_of f.signature) (walk_values_of c.in_ok-values.values)) c.flat.ensures
      c.in_ok-values.ensures.read)
      c.in_ok-walk.ensures.leads c.in_ok-walk.ensures.same_spec c.in_ok-walk.ensures.same_known.same_data
      c.in_ok-walk.ensures.same_known.same_canon
      c.in_ok-walk.ensures.on_walk_after,
)
