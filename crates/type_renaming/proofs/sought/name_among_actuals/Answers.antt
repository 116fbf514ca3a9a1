use Rattle.std.proofs.Common.{Option, ap, sym, ◌∙◌}
use Rattle.std.specs.Option.{option_map}
use Rattle.lotos_base.specs.Name.{spelling}
use Rattle.syntax_trees.specs.TreeViews.{pair_of}
use Rattle.syntax_trees.specs.WrittenItem.{WrittenPair}
use Rattle.type_definitions.specs.Actualisation.{actual_name}
use Rattle.type_renaming.proofs.sought.name_among_actuals.Goals as goal

pub returns-in_default : goal.returns-in_default
returns-in_default c =
    c.in_ok-own.ensures
    ∙ ap (λ (o : Option WrittenPair). actual_name (spelling c.args.name.now) o)
    (sym (ap (λ o. option_map (λ p. pair_of p.now) o) c.in_default.is) ∙ c.in_ok-found.ensures)

pub returns : goal.returns
returns c =
    c.in_ok-given.ensures
    ∙ ap (λ (o : Option WrittenPair). actual_name (spelling c.args.name.now) o)
    (sym (ap (λ o. option_map (λ p. pair_of p.now) o) c.in-Some.is) ∙ c.in_ok-found.ensures)
