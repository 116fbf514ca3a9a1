use Rattle.std.proofs.Common.{◌≡◌, [], map, drop}
use Rattle.std.specs.Str.{bytes_eq}
use Rattle.sort_terms.specs.Operations.{operation_of}
use Rattle.type_definitions.specs.Presentation.{with_new}
use Rattle.type_presentations.specs.Keys.{profile_key}
use Rattle.type_presentations.proofs.KeySetLemmas.{items_of}
use Rattle.type_renaming.proofs.profile_index.ProfileIndex.of.Given as goal

abbrev pub invariant-loop-op : goal.invariant-loop-op
invariant-loop-op l =
    with_new bytes_eq (items_of l.profiles.keys) (map profile_key (map (λ op. operation_of op.value) (drop l.op-index l.ops)))
    ≡ with_new bytes_eq [] (map profile_key (map (λ op. operation_of op.value) l.ops))
