use Rattle.std.proofs.Common.{ℕ, List, ap, sym, ◌∙◌}
use Rattle.std.specs.Prelude.{Some}
use Rattle.lotos_base.specs.Name.{spelling}
use Rattle.lotos_base.specs.WrittenView.{text_place_of}
use Rattle.syntax_trees.specs.TreeViews.{pair_of}
use Rattle.lotos_base.specs.Signature.{Sort}
use Rattle.type_presentations.proofs.NameLemmas.{named_of}
use Rattle.type_definitions.specs.TypeFault.{unknown_sort}
use Rattle.type_presentations.specs.PairNames.{names_of_sorts}
use Rattle.type_presentations.proofs.PairLemmas.{old_sort_unknown}
use Rattle.type_presentations.proofs.checking.look_at_sort_pair.Goals as goal

pub returns-in_default : goal.returns-in_default
returns-in_default c = λ signature earlier unshared sorts olds news.
    let n =
    named_of (λ (s : Sort). s.name) signature.sorts (spelling c.args.pair.now.replaced.1) c.in_ok-named.named
    (c.in_ok-named.ensures (names_of_sorts signature) sorts) in
    old_sort_unknown signature earlier unshared (pair_of c.args.pair.now) (n.none c.in_default.is)
    ∙ ap (λ (name : List ℕ). Some (unknown_sort (text_place_of c.args.pair.now.replaced.0) (Some name))) (sym c.in_ok-copy.ensures)

pub returns : goal.returns
returns c = λ signature earlier unshared sorts olds news.
    let n =
    named_of (λ (s : Sort). s.name) signature.sorts (spelling c.args.pair.now.replaced.1) c.in_ok-named.named
    (c.in_ok-named.ensures (names_of_sorts signature) sorts) in
    c.look_at_names.ensures signature earlier unshared (n.there c.in-Some.field-0 c.in-Some.is) olds news
