use Rattle.std.proofs.Common.{drop}
use Rattle.type_definitions.specs.TypeView.{declared_types_of}
use Rattle.type_presentations.specs.PresentedView.{AreSoundTypes, presented_in}
use Rattle.type_flatten.proofs.AllTypesLemmas.{IsOnTheWay}
use Rattle.type_flatten.proofs.flattening.present_all.Given as goal

abbrev pub invariant-loop-text : goal.invariant-loop-text
invariant-loop-text l = record {
  sound : AreSoundTypes l.types;
  way : IsOnTheWay (presented_in l.fn.types) (presented_in l.types) (declared_types_of (drop l.text-index l.texts))
      (declared_types_of l.texts);
}
