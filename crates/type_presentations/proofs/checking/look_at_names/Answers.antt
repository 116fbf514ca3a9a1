use Rattle.std.proofs.Common.{ℕ, List, ap, sym, ◌∙◌}
use Rattle.std.specs.Prelude.{Some}
use Rattle.lotos_base.specs.Name.{spelling}
use Rattle.lotos_base.specs.WrittenView.{text_place_of}
use Rattle.syntax_trees.specs.TreeViews.{pair_of}
use Rattle.type_presentations.proofs.NameLemmas.{named_of}
use Rattle.type_definitions.specs.TypeFault.{double_sort}
use Rattle.type_presentations.specs.PairNames.{old_names, new_names}
use Rattle.type_presentations.proofs.PairLemmas.{old_name, new_name, old_sort_listed, new_sort_taken, sort_pair_fine}
use Rattle.type_presentations.proofs.checking.look_at_names.Goals as goal

pub returns-in-Some : goal.returns-in-Some
returns-in-Some c = λ signature earlier unshared there olds news.
    let n =
    named_of old_name earlier (spelling c.args.pair.now.replaced.1) c.in_ok-listed.listed
    (c.in_ok-listed.ensures (old_names earlier) olds) in
    old_sort_listed signature earlier unshared (pair_of c.args.pair.now) there (n.there c.in-Some.field-0 c.in-Some.is)
    ∙ ap (λ (name : List ℕ). Some (double_sort (text_place_of c.args.pair.now.place) name)) (sym c.in_ok-copy.ensures)

pub returns-in-Some-taken : goal.returns-in-Some-taken
returns-in-Some-taken c = λ signature earlier unshared there olds news.
    let n =
    named_of old_name earlier (spelling c.args.pair.now.replaced.1) c.in_ok-listed.listed
    (c.in_ok-listed.ensures (old_names earlier) olds) in
    let m =
    named_of new_name unshared (spelling c.args.pair.now.given) c.in_ok-taken.taken (c.in_ok-taken.ensures (new_names unshared) news) in
    new_sort_taken signature earlier unshared (pair_of c.args.pair.now) there (n.none c.in_default.is)
    (m.there c.in-Some-taken.field-0 c.in-Some-taken.is)
    ∙ ap (λ (name : List ℕ). Some (double_sort (text_place_of c.args.pair.now.place) name)) (sym c.in_ok-copy-2.ensures)

pub returns : goal.returns
returns c = λ signature earlier unshared there olds news.
    let n =
    named_of old_name earlier (spelling c.args.pair.now.replaced.1) c.in_ok-listed.listed
    (c.in_ok-listed.ensures (old_names earlier) olds) in
    let m =
    named_of new_name unshared (spelling c.args.pair.now.given) c.in_ok-taken.taken (c.in_ok-taken.ensures (new_names unshared) news) in
    sort_pair_fine signature earlier unshared (pair_of c.args.pair.now) there (n.none c.in_default.is) (m.none c.in_default-taken.is)
