use Rattle.std.proofs.Common.{ℕ, List, sym}
use Rattle.lotos_base.specs.WrittenTerm.{PlacedName}
use Rattle.syntax_trees.specs.TreeViews.{placed_names_of}
use Rattle.syntax_trees.specs.WrittenItem.{WrittenPairs}
use Rattle.type_definitions.specs.FormalEquations.{FlattenedType, mentioned_formals}
use Rattle.type_definitions.specs.Presentation.{Presentation}
use Rattle.type_actualisation.proofs.FormalListLemmas.{larger_formals}
use Rattle.type_actualisation.proofs.OneFormalLemmas.{actualisation_larger}
use Rattle.type_actualisation.proofs.type_formals.actual_formals.Goals as goal

pub union_named-requires : goal.union_named-requires
union_named-requires c = c.requires

pub returns : goal.returns
returns c = λ (all : List FlattenedType) (name : List ℕ) (base : PlacedName) (pairs : WrittenPairs) (p : Presentation) are presented.
    let actuals = placed_names_of c.args.actuals.now in
    let is = c.in_ok-union.ensures all are in
    record {
      are = sym is.formals_are;
      over = larger_formals (mentioned_formals all actuals).presentation.signature p.signature c.in_ok-union.union.equations
          (actualisation_larger all name base actuals pairs p presented) is.formals;
    }
