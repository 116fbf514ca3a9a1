use Rattle.std.proofs.Common.{drop}
use Rattle.type_definitions.specs.TypeView.{declared_types_of}
use Rattle.type_flatten.proofs.AllFormalLemmas.{AreOnTheWay}
use Rattle.type_flatten.proofs.requiring.flatten_all.Given as goal

abbrev pub invariant-loop-text : goal.invariant-loop-text
invariant-loop-text l =
    AreOnTheWay (declared_types_of (drop l.text-index l.texts)) (declared_types_of l.texts) l.types l.required
