use Rattle.std.proofs.Common.{List, map, take}
use Rattle.lotos_base.specs.WrittenView.{placed_name_of}
use Rattle.type_definitions.specs.FormalEquations.{FlattenedType, mentioned_formals}
use Rattle.type_actualisation.specs.FormalLists.{IsUnionWith}
use Rattle.type_actualisation.specs.FormalTypesView.{AreFormalTypes}
use Rattle.type_actualisation.proofs.formal_types.FormalTypes.join_all.Given as goal

abbrev pub invariant-loop-named : goal.invariant-loop-named
invariant-loop-named l = (all : List FlattenedType) → AreFormalTypes all l.self
    → IsUnionWith (mentioned_formals all (map placed_name_of (take l.named-index l.names))) l.union
