use Rattle.std.proofs.Common.{refl}
use Rattle.type_definitions.specs.Presentation.{presentation_limit}
use Rattle.type_presentations.specs.SortListView.{sorts_in}
use Rattle.type_presentations.specs.OperationListView.{operations_in}
use Rattle.type_presentations.specs.PresentationView.{presentation_of}
use Rattle.type_presentations.proofs.SizeLemmas.{within_limits}
use Rattle.type_presentations.specs.JoiningView.{in_one}
use Rattle.type_presentations.proofs.UnionLemmas.{few_together}
use Rattle.type_presentations.proofs.JoinSteps.{profiles_kept, both_together, operations_came, sorts_came}
use Rattle.type_presentations.proofs.unions.put_together.Goals as goal

pub join-requires : goal.join-requires
join-requires c =
    let first =
    in_one c.args.sorts.now c.args.ops.now c.args.equations.now c.args.formal_sorts.now c.args.formal_ops.now in record {
      keyed = c.requires.sound.sorts;
      few = few_together presentation_limit _ _ refl (within_limits (presentation_of first) c.requires.within).sorts
          (within_limits (presentation_of c.args.other.now) c.requires.other_within).sorts;
    }

pub join-requires-2 : goal.join-requires-2
join-requires-2 c =
    let first =
    in_one c.args.sorts.now c.args.ops.now c.args.equations.now c.args.formal_sorts.now c.args.formal_ops.now in record {
      keyed = c.requires.sound.ops;
      few = few_together presentation_limit _ _ refl (within_limits (presentation_of first) c.requires.within).operations
          (within_limits (presentation_of c.args.other.now) c.requires.other_within).operations;
    }

pub join-requires-3 : goal.join-requires-3
join-requires-3 c =
    let first =
    in_one c.args.sorts.now c.args.ops.now c.args.equations.now c.args.formal_sorts.now c.args.formal_ops.now in
    let p = presentation_of first in
    let q = presentation_of c.args.other.now in
    let sorts = c.as_slice-sort_numbers.result.now in
    let ops = c.as_slice-op_numbers.result.now in record {
      keyed = c.requires.sound.equations;
      keeps = profiles_kept p q sorts ops (sorts_in c.join.new.self) (operations_in c.join-2.new.self)
          c.in_ok-joined_sorts.joined_sorts.clash c.in_ok-joined_ops.joined_ops.clash
          c.args.other.now.equations.equations.items
          (sorts_came p q sorts c.in_ok-joined_sorts.joined_sorts.numbers.items (sorts_in c.join.new.self)
          c.in_ok-joined_sorts.joined_sorts.clash c.as_slice-sort_numbers.ensures.value c.in_ok-joined_sorts.ensures.members
          c.in_ok-joined_sorts.ensures.numbers c.in_ok-joined_sorts.ensures.clash)
          (operations_came p q sorts ops c.in_ok-joined_ops.joined_ops.numbers.items (operations_in c.join-2.new.self)
          c.in_ok-joined_ops.joined_ops.clash c.as_slice-op_numbers.ensures.value c.in_ok-joined_ops.ensures.members
          c.in_ok-joined_ops.ensures.numbers c.in_ok-joined_ops.ensures.clash)
          c.requires.other_sound.sides;
    }

pub join-requires-4 : goal.join-requires-4
join-requires-4 c = record { known = c.requires.sound.formal_sorts }

pub join-requires-5 : goal.join-requires-5
join-requires-5 c = record { known = c.requires.sound.formal_ops }

pub returns : goal.returns
returns c =
    let first =
    in_one c.args.sorts.now c.args.ops.now c.args.equations.now c.args.formal_sorts.now c.args.formal_ops.now in
    let new =
    in_one c.join.new.self c.join-2.new.self c.join-3.new.self c.join-4.new.self c.join-5.new.self in
    let p = presentation_of first in
    let q = presentation_of c.args.other.now in
    let sorts = c.as_slice-sort_numbers.result.now in
    let ops = c.as_slice-op_numbers.result.now in
    both_together p q sorts ops c.args.equations.now.equations.items c.args.other.now.equations.equations.items new _
    (record {
      first = c.requires.sound.data_;
      second = c.requires.other_sound.data_;
      first_sides = c.requires.sound.sides;
      second_sides = c.requires.other_sound.sides;
      sides_come = c.in_ok-join.ensures.sides;
      keyed = record {
        sorts = c.in_ok-joined_sorts.ensures.keyed;
        ops = c.in_ok-joined_ops.ensures.keyed;
        equations = c.in_ok-join.ensures.keyed;
        formal_sorts = c.in_ok-join-2.ensures.known;
        formal_ops = c.in_ok-join-3.ensures.known;
      };
    })
    (record {
      sorts_came =
          sorts_came p q sorts c.in_ok-joined_sorts.joined_sorts.numbers.items (sorts_in c.join.new.self)
          c.in_ok-joined_sorts.joined_sorts.clash c.as_slice-sort_numbers.ensures.value c.in_ok-joined_sorts.ensures.members
          c.in_ok-joined_sorts.ensures.numbers c.in_ok-joined_sorts.ensures.clash;
      operations_came =
          operations_came p q sorts ops c.in_ok-joined_ops.joined_ops.numbers.items (operations_in c.join-2.new.self)
          c.in_ok-joined_ops.joined_ops.clash c.as_slice-op_numbers.ensures.value c.in_ok-joined_ops.ensures.members
          c.in_ok-joined_ops.ensures.numbers c.in_ok-joined_ops.ensures.clash;
      rest_came = record {
        equations = c.in_ok-join.ensures.equations;
        formal_sorts = c.in_ok-join-2.ensures.marks;
        formal_operations = c.in_ok-join-3.ensures.marks;
      };
    })
