use Rattle.std.proofs.Common.{Option, ap, sym, ◌∙◌}
use Rattle.std.specs.Option.{option_map}
use Rattle.lotos_base.specs.Name.{spelling}
use Rattle.syntax_trees.specs.TreeViews.{pair_of}
use Rattle.syntax_trees.specs.declared.items.PairText.{PairText}
use Rattle.type_presentations.proofs.NameLemmas.{named_of}
use Rattle.type_presentations.specs.PairIndexView.{pairs_in}
use Rattle.type_presentations.specs.PairNames.{old_names}
use Rattle.type_presentations.proofs.PairLemmas.{old_name, seen, looked_up, pair_at, no_pair}
use Rattle.type_presentations.proofs.pair_index.PairIndex.pair_for.Goals as goal

pub returns-in-Some : goal.returns-in-Some
returns-in-Some c =
    let n =
    named_of old_name (pairs_in c.args.self.now) (spelling c.args.name.now) c.in_ok-found.found
    (c.in_ok-found.ensures (old_names (pairs_in c.args.self.now)) c.args.self.now.found_by_old_names) in
    seen c.get.result ∙ ap (λ (o : Option PairText). option_map pair_of o)
    (looked_up c.get.result c.args.self.now.pairs.now c.in-Some.number c.get.ensures.lookup.0 c.get.ensures.lookup.1)
    ∙ pair_at c.args.self.now.pairs.now (spelling c.args.name.now) c.in-Some.number (n.first c.in-Some.number c.in-Some.is)

pub returns-in-None : goal.returns-in-None
returns-in-None c =
    let n =
    named_of old_name (pairs_in c.args.self.now) (spelling c.args.name.now) c.in_ok-found.found
    (c.in_ok-found.ensures (old_names (pairs_in c.args.self.now)) c.args.self.now.found_by_old_names) in
    sym (no_pair (pairs_in c.args.self.now) (spelling c.args.name.now) (n.none c.in-None.is))
