use Rattle.type_definitions.specs.FormalEquations.{WithFormals}
use Rattle.type_presentations.specs.PresentationView.{presentation_of}
use Rattle.type_presentations.specs.OperationListView.{operations_in}
use Rattle.type_presentations.proofs.UnionData.{keep_by_lists}
use Rattle.type_actualisation.proofs.FormalListLemmas.{joined_as, maps_by, union_joined}
use Rattle.type_actualisation.proofs.formal_lists.FormalUnion.join.Goals as goal

pub join_signature-requires : goal.join_signature-requires
join_signature-requires c =
    let is = c.requires.union.1 in
    record {
      sort_keys = is.sort_keys;
      op_keys = is.operation_keys;
      few_sorts = is.few_sorts;
      few_ops = is.few_operations;
      other_within = c.requires.sound.1;
    }

pub join-requires : goal.join-requires
join-requires c =
    let w = c.requires.union.0 in
    let q = presentation_of c.args.other.now in
    let have =
    joined_as w c.args.self.now q c.join_signature.new.sorts c.join_signature.new.ops c.in_ok-numbers.numbers c.requires.union.1
    c.in_ok-numbers.ensures in
    record {
      keyed = c.requires.union.1.formals.keyed;
      keeps = keep_by_lists w.presentation q c.as_slice-sorts.result.now c.as_slice-ops.result.now
          (operations_in c.join_signature.new.ops) c.args.coming.now.equations.items
          (maps_by w.presentation q c.join_signature.new.sorts c.join_signature.new.ops c.in_ok-numbers.numbers
          c.as_slice-sorts.result.now c.as_slice-ops.result.now have c.as_slice-sorts.ensures.value c.as_slice-ops.ensures.value)
          c.requires.coming.sides;
    }

pub returns : goal.returns
returns c = λ (w : WithFormals) is.
    let q = presentation_of c.args.other.now in
    let have =
    joined_as w c.args.self.now q c.join_signature.new.sorts c.join_signature.new.ops c.in_ok-numbers.numbers is
    c.in_ok-numbers.ensures in
    union_joined w c.args.self.now
    (record { sorts = c.join_signature.new.sorts; ops = c.join_signature.new.ops; equations = c.join.new.self }) c.args.other.now
    c.args.coming.now c.in_ok-numbers.numbers c.as_slice-sorts.result.now c.as_slice-ops.result.now is have
    c.as_slice-sorts.ensures.value c.as_slice-ops.ensures.value c.requires.coming c.in_ok-join.ensures.keyed
    c.in_ok-join.ensures.equations c.in_ok-join.ensures.sides
