use Rattle.std.proofs.Common.{◌<◌, sym, arith}
use Rattle.std.specs.Prelude.{◌^◌}
use Rattle.lotos_base.specs.Name.{spelling}
use Rattle.lotos_base.specs.Signature.{Sort}
use Rattle.type_presentations.proofs.NameLemmas.{named_of}
use Rattle.type_presentations.specs.PairNames.{names_of_sorts}
use Rattle.type_renaming.proofs.SortActuals.{position_few}
use Rattle.type_renaming.proofs.actual_sorts.sort_number.Goals as goal

pub overflow_cast-result : goal.overflow_cast-result
overflow_cast-result c =
    let small : c.in-Some.position < 2 ^ 32 =
    position_few c.requires.0 (spelling c.args.name.now) c.in_ok-found.found c.in-Some.position (2 ^ 32)
    (c.in_ok-found.ensures c.requires.0 c.requires.1) c.in-Some.is c.requires.2 in
    omega (arith, small)

pub returns-in_default : goal.returns-in_default
returns-in_default c = λ p has.
    let n =
    named_of (λ (s : Sort). s.name) p.signature.sorts (spelling c.args.name.now) c.in_ok-found.found
    (c.in_ok-found.ensures (names_of_sorts p.signature) has) in
    n.none c.in_default.is

pub returns : goal.returns
returns c = λ p has.
    let n =
    named_of (λ (s : Sort). s.name) p.signature.sorts (spelling c.args.name.now) c.in_ok-found.found
    (c.in_ok-found.ensures (names_of_sorts p.signature) has) in
    (n.there c.in-Some.position c.in-Some.is, sym (n.first c.in-Some.position c.in-Some.is))
