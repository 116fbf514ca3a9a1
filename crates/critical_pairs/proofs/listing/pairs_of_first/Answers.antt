use Rattle.std.proofs.Common.{◌≡◌, ◌<◌, ◌-◌, ◌+◌, List, [], map, length, get_or, ap, sym, ◌∙◌, subst, arith}
use Rattle.sort_terms.specs.TermView.{term_of}
use Rattle.sort_terms.specs.SortedView.{term_in}
use Rattle.sort_terms.specs.declared.terms.Term.{Term}
use Rattle.path_order.specs.RulesView.{plain_rules_in}
use Rattle.path_order.specs.declared.rule.Rule.{Rule}
use Rattle.critical_pairs.specs.Extended.{paths_in}
use Rattle.critical_pairs.specs.NodePlaces.{node_places}
use Rattle.critical_pairs.specs.PairView.{node_place_of}
use Rattle.critical_pairs.proofs.ExtendLemmas.{extended_nothing}
use Rattle.critical_pairs.proofs.RuleLemmas.{plain_many, places_paths, places_of_rule, candidate_within, second_more, no_more}
use Rattle.critical_pairs.proofs.listing.pairs_of_first.Goals as goal

pub loop-second-init : goal.loop-second-init
loop-second-init c = record {
  within = omega arith;
  listed = λ rule is. extended_nothing c.args.rules.now c.args.found.items;
}

pub pairs_of_two-requires-clause-second : goal.pairs_of_two-requires-clause-second
pairs_of_two-requires-clause-second c =
    let within = candidate_within (plain_rules_in c.args.rules.now) c.loop-second.next c.in-Some.second
    (map node_place_of c.as_slice.result.now) c.next_candidate.result c.in-Some.is c.next_candidate.ensures in
    let many = plain_many c.args.rules.now.rules.items in
    omega (arith, within.1, many)

pub overflow_add-next : goal.overflow_add-next
overflow_add-next c =
    let within = candidate_within (plain_rules_in c.args.rules.now) c.loop-second.next c.in-Some.second
    (map node_place_of c.as_slice.result.now) c.next_candidate.result c.in-Some.is c.next_candidate.ensures in
    let many = plain_many c.args.rules.now.rules.items in
    omega (arith, within.1, many, c.args.rules.now.rules.ok.0, c.args.rules.now.rules.ok.1, c.args.rules.now.rules.small)

pub loop-second-smaller : goal.loop-second-smaller
loop-second-smaller c =
    let within = candidate_within (plain_rules_in c.args.rules.now) c.loop-second.next c.in-Some.second
    (map node_place_of c.as_slice.result.now) c.next_candidate.result c.in-Some.is c.next_candidate.ensures in
    let many = plain_many c.args.rules.now.rules.items in
    let less : length c.args.rules.now.rules.items - (c.in-Some.second + 1) < length c.args.rules.now.rules.items - c.loop-second.next =
    omega (arith, within.0, within.1, many) in
    less

pub loop-second-preserved : goal.loop-second-preserved
loop-second-preserved c =
    let within = candidate_within (plain_rules_in c.args.rules.now) c.loop-second.next c.in-Some.second
    (map node_place_of c.as_slice.result.now) c.next_candidate.result c.in-Some.is c.next_candidate.ensures in
    let many = plain_many c.args.rules.now.rules.items in
    let at = subst (λ (xs : List Rule). c.index-list-first.result ≡ get_or xs c.args.first c.index-list-first.result) c.list.ensures
    c.index-list-first.is in
    let are : map node_place_of c.as_slice.result.now ≡ node_places [] (term_in c.index-list-first.result.left) =
    ap (map node_place_of) c.as_slice.ensures.value ∙ c.in_ok-places.ensures
    ∙ ap (λ (t : Term). node_places [] (term_of t)) c.term.ensures
    ∙ ap (λ (r : Rule). node_places [] (term_in r.left)) (sym c.index-list-first.is) in
    let also : map node_place_of c.as_slice-in-Some.result.now ≡ node_places [] (term_in c.index-list-first.result.left) =
    ap (map node_place_of) c.as_slice-in-Some.ensures.value ∙ c.in_ok-places.ensures
    ∙ ap (λ (t : Term). node_places [] (term_of t)) c.term.ensures
    ∙ ap (λ (r : Rule). node_places [] (term_in r.left)) (sym c.index-list-first.is) in
    record {
      within = omega (arith, within.1, many);
      listed = λ rule is.
          second_more c.args.rules.now c.args.first rule c.loop-second.next c.in-Some.second (map node_place_of c.as_slice.result.now)
          (paths_in c.as_slice-in-Some.result.now) c.next_candidate.result c.args.found.items c.loop-second.found.items
          c.in_ok-found.found.items is
          (sym (places_of_rule c.args.rules.now c.args.first c.index-list-first.result rule c.as_slice.result.now c.requires.first at are
          is))
          (places_paths c.as_slice-in-Some.result.now rule.left
          (places_of_rule c.args.rules.now c.args.first c.index-list-first.result rule c.as_slice-in-Some.result.now c.requires.first at
          also is))
          c.in-Some.is c.next_candidate.ensures (c.loop-second.invariant.listed rule is) c.in_ok-found.ensures;
    }

pub returns : goal.returns
returns c = λ rule is.
    let at = subst (λ (xs : List Rule). c.index-list-first.result ≡ get_or xs c.args.first c.index-list-first.result) c.list.ensures
    c.index-list-first.is in
    let are : map node_place_of c.as_slice.result.now ≡ node_places [] (term_in c.index-list-first.result.left) =
    ap (map node_place_of) c.as_slice.ensures.value ∙ c.in_ok-places.ensures
    ∙ ap (λ (t : Term). node_places [] (term_of t)) c.term.ensures
    ∙ ap (λ (r : Rule). node_places [] (term_in r.left)) (sym c.index-list-first.is) in
    no_more c.args.rules.now c.args.first rule c.loop-second.next (map node_place_of c.as_slice.result.now) c.next_candidate.result
    c.args.found.items c.loop-second.found.items is
    (sym (places_of_rule c.args.rules.now c.args.first c.index-list-first.result rule c.as_slice.result.now c.requires.first at are is))
    c.in_default.is c.next_candidate.ensures c.loop-second.invariant.within (c.loop-second.invariant.listed rule is)
