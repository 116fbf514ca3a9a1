use Rattle.std.proofs.Common.{ℕ, ◌<◌, ◌^◌, List, ap, sym, ◌∙◌, rules}
use Rattle.std.specs.Prelude.{Some}
use Rattle.lotos_base.specs.Name.{spelling}
use Rattle.lotos_base.specs.WrittenView.{text_place_of, placed_name_of}
use Rattle.lotos_base.specs.Signature.{Sort}
use Rattle.type_presentations.proofs.NameLemmas.{named_of}
use Rattle.type_definitions.specs.TypeFault.{unknown_sort}
use Rattle.type_presentations.specs.DeclaredOperation.{sort_names}
use Rattle.type_presentations.proofs.DeclareLemmas.{sort_is_known, sort_is_unknown, number_within}
use Rattle.type_presentations.proofs.sort_numbers.sort_named.Goals as goal

pub returns-in_default : goal.returns-in_default
returns-in_default c = λ p has.
    let n =
    named_of (λ (s : Sort). s.name) p.signature.sorts (spelling c.args.named.now.1) c.in_ok-found.found
    (c.in_ok-found.ensures (sort_names p) has) in
    sort_is_unknown p (placed_name_of c.args.named.now) (n.none c.in_default.is)
    ∙ ap (λ (name : List ℕ). Some (unknown_sort (text_place_of c.args.named.now.0) (Some name))) (sym c.in_ok-copy.ensures)

pub returns : goal.returns
returns c = λ p has.
    let n =
    named_of (λ (s : Sort). s.name) p.signature.sorts (spelling c.args.named.now.1) c.in_ok-found.found
    (c.in_ok-found.ensures (sort_names p) has) in
    (sort_is_known p (placed_name_of c.args.named.now) (n.there c.in-Some.number c.in-Some.is), sym (n.first c.in-Some.number c.in-Some.is))

pub overflow_cast-result : goal.overflow_cast-result
overflow_cast-result c =
    let small : c.in-Some.number < 2 ^ 32 =
    number_within c.requires.0 (spelling c.args.named.now.1) c.in-Some.number (2 ^ 32) c.in_ok-found.found c.in-Some.is
    (c.in_ok-found.ensures c.requires.0 c.requires.1) c.requires.2 in
    search rules
