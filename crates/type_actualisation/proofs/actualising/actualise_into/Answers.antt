use Rattle.std.proofs.Common.{refl, sym}
use Rattle.std.proofs.lemmas.Result.{MatchResult-weaker, err_from_is_err_and}
use Rattle.lotos_base.specs.Name.{spelling}
use Rattle.lotos_base.specs.WrittenView.{placed_name_of}
use Rattle.syntax_trees.specs.TreeViews.{pairs_of}
use Rattle.type_definitions.specs.declared.type_faults.TypeFault.TheVariants.{NoMemory}
use Rattle.type_presentations.specs.PresentationView.{presentation_of}
use Rattle.type_renaming.specs.Actuals.{actualising_with}
use Rattle.type_actualisation.proofs.PairLemmas.{actualised, first_refused, later_refused, refused}
use Rattle.type_actualisation.proofs.actualising.actualise_into.Goals as goal

pub returns-in_err-formals : goal.returns-in_err-formals
returns-in_err-formals c =
    let e = err_from_is_err_and c.from_residual.result c.from_residual.ensures.1 in
    let a =
    actualising_with (placed_name_of c.args.mention.now) (presentation_of c.args.base.now) (presentation_of c.args.actual.now)
    (spelling c.args.type_name.now) (pairs_of c.args.sort_pairs.now c.args.op_pairs.now) in
    rw (e.1, e.2) (refused a NoMemory tt)

pub index_of_sorts-requires : goal.index_of_sorts-requires
index_of_sorts-requires c = c.in_ok-formals.ensures

pub returns-in_err-pairs : goal.returns-in_err-pairs
returns-in_err-pairs c =
    let e = err_from_is_err_and c.from_residual-in_err-pairs.result c.from_residual-in_err-pairs.ensures.1 in
    let a =
    actualising_with (placed_name_of c.args.mention.now) (presentation_of c.args.base.now) (presentation_of c.args.actual.now)
    (spelling c.args.type_name.now) (pairs_of c.args.sort_pairs.now c.args.op_pairs.now) in
    rw (e.1, e.2) (first_refused a c.in_err-pairs.field-0.0 c.in_err-pairs.ensures.found)

pub with_ops-requires-clause-sorts : goal.with_ops-requires-clause-sorts
with_ops-requires-clause-sorts c =
    let a =
    actualising_with (placed_name_of c.args.mention.now) (presentation_of c.args.base.now) (presentation_of c.args.actual.now)
    (spelling c.args.type_name.now) (pairs_of c.args.sort_pairs.now c.args.op_pairs.now) in (
      a,
      record {
        base_is = refl;
        actual_is = refl;
        sorts_are = record {
          at_is = refl;
          name_is = refl;
          pairs_are = sym c.in_ok-pairs.ensures.are;
          formals_are = c.in_ok-formals.ensures;
        };
        pairs_are = refl;
      },
    )

pub returns : goal.returns
returns c =
    let a =
    actualising_with (placed_name_of c.args.mention.now) (presentation_of c.args.base.now) (presentation_of c.args.actual.now)
    (spelling c.args.type_name.now) (pairs_of c.args.sort_pairs.now c.args.op_pairs.now) in
    MatchResult-weaker c.with_ops.result
    (c.with_ops.ensures a (record {
      base_is = refl;
      actual_is = refl;
      sorts_are = record {
        at_is = refl;
        name_is = refl;
        pairs_are = sym c.in_ok-pairs.ensures.are;
        formals_are = c.in_ok-formals.ensures;
      };
      pairs_are = refl;
    }))
    (λ numbers is. (actualised a c.with_ops.new.actual c.in_ok-pairs.ensures.none is.0, is.1))
    (λ fault refused. later_refused a fault c.in_ok-pairs.ensures.none refused)
