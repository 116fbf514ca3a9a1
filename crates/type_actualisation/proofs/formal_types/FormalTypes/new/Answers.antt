use Rattle.std.proofs.Common.{List, [], map, sym, subst, ap, ◌∙◌}
use Rattle.type_presentations.specs.declared.equation_list.EquationList.{EquationList}
use Rattle.type_actualisation.specs.FormalTypesView.{AreAllFormals}
use Rattle.type_actualisation.proofs.formal_types.FormalTypes.new.Goals as goal

pub returns : goal.returns
returns c = record {
  types_are = c.new.ensures.presented;
  sound = c.new.ensures.sound;
  names = c.new-3.ensures;
  formals = subst (λ (ls : List EquationList). AreAllFormals [] ls) (sym c.new-2.ensures.items) tt;
  none_there = c.new-4.ensures.equations;
  none_keyed = c.new-4.ensures.keyed;
}
