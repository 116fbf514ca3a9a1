use Rattle.std.proofs.Common.{List, map, sym, subst}
use Rattle.type_presentations.specs.NamesView.{HasNames}
use Rattle.type_presentations.specs.PresentedView.{IsSoundPresentation, presented_of}
use Rattle.type_presentations.specs.declared.presented.PresentedType.{PresentedType}
use Rattle.type_presentations.proofs.PresentedLemmas.{none_mentioned, names_of}
use Rattle.type_presentations.proofs.presented.PresentedTypes.new.Goals as goal

pub returns-clause-sound : goal.returns-clause-sound
returns-clause-sound c = record {
  names = subst (λ (ts : List PresentedType). HasNames c.new-2.result (names_of (map presented_of ts))) (sym c.new.ensures.items)
      c.new-2.ensures;
  each = none_mentioned (λ (t : PresentedType). IsSoundPresentation t.presentation) _ c.new.ensures.items;
  nothing_there = c.new-3.ensures.nothing;
  nothing_sound = (c.new-3.ensures.sound, c.new-3.ensures.within);
}
