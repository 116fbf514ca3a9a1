use Rattle.type_definitions.specs.FormalEquations.{FlattenedType, WithFormals}
use Rattle.type_definitions.specs.Union.{joined_presentation}
use Rattle.type_presentations.specs.PresentationView.{presentation_of}
use Rattle.type_presentations.proofs.UnionSignatures.{union_is_larger}
use Rattle.type_actualisation.proofs.FormalListLemmas.{joined_as, larger_formals, maps_by, moved_into, union_required}
use Rattle.type_actualisation.proofs.formal_lists.FormalUnion.require.Goals as goal

pub join_signature-requires : goal.join_signature-requires
join_signature-requires c =
    let is = c.requires.union.1 in
    record {
      sort_keys = is.sort_keys;
      op_keys = is.operation_keys;
      few_sorts = is.few_sorts;
      few_ops = is.few_operations;
      other_within = c.requires.sound.1;
    }

pub append_images-requires : goal.append_images-requires
append_images-requires c =
    let w = c.requires.union.0 in
    let is = c.requires.union.1 in
    let q = presentation_of c.args.other.now in
    let have =
    joined_as w c.args.self.now q c.join_signature.new.sorts c.join_signature.new.ops c.in_ok-numbers.numbers is
    c.in_ok-numbers.ensures in (
      q.signature,
      (joined_presentation w.presentation q).signature,
      moved_into w.presentation q c.args.required.now c.join_signature.new.ops c.as_slice-sorts.result.now c.as_slice-ops.result.now
          (maps_by w.presentation q c.join_signature.new.sorts c.join_signature.new.ops c.in_ok-numbers.numbers
          c.as_slice-sorts.result.now c.as_slice-ops.result.now have c.as_slice-sorts.ensures.value c.as_slice-ops.ensures.value)
          c.requires.coming,
      larger_formals w.presentation.signature (joined_presentation w.presentation q).signature c.args.self.now.equations
          (union_is_larger w.presentation q) is.formals,
    )

pub returns : goal.returns
returns c = λ (w : WithFormals) (t : FlattenedType) is presented required.
    let q = presentation_of c.args.other.now in
    let have =
    joined_as w c.args.self.now q c.join_signature.new.sorts c.join_signature.new.ops c.in_ok-numbers.numbers is
    c.in_ok-numbers.ensures in
    union_required w t c.args.self.now
    (record { sorts = c.join_signature.new.sorts; ops = c.join_signature.new.ops; equations = c.append_images.new.list })
    c.args.other.now c.args.required.now c.in_ok-numbers.numbers c.as_slice-sorts.result.now c.as_slice-ops.result.now is have
    c.as_slice-sorts.ensures.value c.as_slice-ops.ensures.value c.requires.coming presented required
    c.in_ok-append_images.ensures.equations c.in_ok-append_images.ensures.over
