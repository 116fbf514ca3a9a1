use Rattle.std.proofs.Common.{refl}
use Rattle.type_presentations.specs.declared.equation_list.EquationList.{EquationList}
use Rattle.type_presentations.specs.declared.presentations.Presentation.{Presentation}
use Rattle.type_actualisation.proofs.BroughtLemmas.{keep, comes_to, sound_then}
use Rattle.type_actualisation.proofs.equation_bringing.bring_equations.Goals as goal

-- the presentation with these equations
abbrev with_list : Presentation → EquationList → Presentation
with_list p list = record {
  sorts = p.sorts;
  ops = p.ops;
  equations = list;
  formal_sorts = p.formal_sorts;
  formal_ops = p.formal_ops;
}

pub join-requires-clause-keyed : goal.join-requires-clause-keyed
join-requires-clause-keyed c = c.requires.1.keyed.equations

pub join-requires-clause-keeps : goal.join-requires-clause-keeps
join-requires-clause-keeps c =
    keep c.requires.0 c.args.base.now c.args.presentation.now c.args.sorts.now c.args.ops.now c.requires.1

pub returns : goal.returns
returns c = λ a is.
    let new = with_list c.args.presentation.now c.join.new.self in
    let comes =
    comes_to a c.args.base.now c.args.presentation.now new c.args.sorts.now c.args.ops.now is refl refl refl refl
    c.in_ok-join.ensures.equations in (
      comes,
      sound_then a c.args.base.now c.args.presentation.now new c.args.sorts.now c.args.ops.now is refl refl refl refl
          c.in_ok-join.ensures.keyed comes c.in_ok-join.ensures.sides,
    )
