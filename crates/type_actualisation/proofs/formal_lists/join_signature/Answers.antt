use Rattle.std.proofs.Common.{◌∙◌, ℕ, List, ap, refl, sym, ltb-false}
use Rattle.type_definitions.specs.ProfiledImage.{number_in}
use Rattle.type_definitions.specs.Presentation.{presentation_limit}
use Rattle.type_presentations.proofs.SizeLemmas.{within_limits}
use Rattle.type_presentations.specs.OperationListView.{operations_in}
use Rattle.type_presentations.specs.PresentationView.{presentation_of}
use Rattle.type_presentations.specs.SortListView.{sorts_in}
use Rattle.type_presentations.proofs.JoinLemmas.{maps_of_union}
use Rattle.type_presentations.proofs.JoinSteps.{operations_came, sorts_came}
use Rattle.type_presentations.proofs.UnionLemmas.{few_together}
use Rattle.type_actualisation.specs.FormalLists.{with_members}
use Rattle.type_actualisation.proofs.formal_lists.join_signature.Goals as goal

pub join-requires : goal.join-requires
join-requires c = record {
  keyed = c.requires.sort_keys;
  few = few_together presentation_limit _ _ refl c.requires.few_sorts
      (within_limits (presentation_of c.args.other.now) c.requires.other_within).sorts;
}

pub join-requires-2 : goal.join-requires-2
join-requires-2 c = record {
  keyed = c.requires.op_keys;
  few = few_together presentation_limit _ _ refl c.requires.few_ops
      (within_limits (presentation_of c.args.other.now) c.requires.other_within).operations;
}

pub returns : goal.returns
returns c =
    let p = with_members (sorts_in c.args.sorts.now) (operations_in c.args.ops.now) in
    let q = presentation_of c.args.other.now in
    let sorts = c.in_ok-joined_sorts.joined_sorts.numbers.items in
    let ops = c.in_ok-joined_ops.joined_ops.numbers.items in
    let taken = c.as_slice-sort_numbers.result.now in
    let came =
    sorts_came p q taken sorts (sorts_in c.join.new.self) c.in_ok-joined_sorts.joined_sorts.clash
    c.as_slice-sort_numbers.ensures.value c.in_ok-joined_sorts.ensures.members c.in_ok-joined_sorts.ensures.numbers
    c.in_ok-joined_sorts.ensures.clash in
    let those =
    operations_came p q taken ops ops (operations_in c.join-2.new.self) c.in_ok-joined_ops.joined_ops.clash refl
    c.in_ok-joined_ops.ensures.members c.in_ok-joined_ops.ensures.numbers c.in_ok-joined_ops.ensures.clash in
    let maps =
    maps_of_union p q taken ops (sorts_in c.join.new.self) (operations_in c.join-2.new.self) came.these came.numbered those.these
    those.numbered in
    record {
      sorts_are = came.these;
      operations_are = maps.profiles_are;
      sort_keys = c.in_ok-joined_sorts.ensures.keyed;
      operation_keys = c.in_ok-joined_ops.ensures.keyed;
      few_sorts = ltb-false _ _ (sym c.is_past_limit-are_many_sorts.ensures ∙ c.if-are_many_sorts.false);
      few_operations = ltb-false _ _ (sym c.is_past_limit-are_many_ops.ensures ∙ c.if-are_many_ops.false);
      sorts_go = λ n. ap (λ (ns : List ℕ). number_in ns n) (sym c.as_slice-sort_numbers.ensures.value) ∙ maps.sorts_are n;
      operations_go = maps.operations_are;
    }
