use Rattle.std.proofs.Common.{ap, sym, ◌∙◌}
use Rattle.std.specs.Prelude.{Option}
use Rattle.lotos_base.specs.Name.{spelling}
use Rattle.syntax_trees.specs.TreeViews.{pair_of}
use Rattle.syntax_trees.specs.WrittenItem.{WrittenPair}
use Rattle.type_renaming.specs.Clashes.{giving}
use Rattle.type_renaming.proofs.PairLemmas.{same_name, gives, gives_another}
use Rattle.type_renaming.proofs.renamer.Renamer.giver.Goals as goal

pub returns-in_default : goal.returns-in_default
returns-in_default c =
    ap (λ (o : Option WrittenPair). giving o (spelling c.args.name.now)) (rw c.in_default.is at c.in_ok-found.ensures)

pub returns-then-is_given : goal.returns-then-is_given
returns-then-is_given c =
    sym (ap (λ (o : Option WrittenPair). giving o (spelling c.args.name.now)) (sym (rw c.in-Some.is at c.in_ok-found.ensures))
    ∙ gives (pair_of c.in-Some.pair.now) (spelling c.args.name.now)
    (sym (same_name c.in-Some.pair.now.given c.args.name.now c.same-is_given.result c.same-is_given.ensures) ∙ c.if-is_given.true))

pub returns : goal.returns
returns c =
    sym (ap (λ (o : Option WrittenPair). giving o (spelling c.args.name.now)) (sym (rw c.in-Some.is at c.in_ok-found.ensures))
    ∙ gives_another (pair_of c.in-Some.pair.now) (spelling c.args.name.now)
    (sym (same_name c.in-Some.pair.now.given c.args.name.now c.same-is_given.result c.same-is_given.ensures) ∙ c.if-is_given.false))
