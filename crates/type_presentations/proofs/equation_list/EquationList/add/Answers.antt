use Rattle.std.proofs.Common.{◌≡◌, ◌++◌, ◌∷◌, [], map, ap, ◌∙◌, sym, refl, List}
use Rattle.std.specs.Str.{bytes_eq}
use Rattle.lotos_base.specs.Equation.{Equation}
use Rattle.sort_terms.specs.EquationView.{equation_of}
use Rattle.type_definitions.specs.Presentation.{with_new}
use Rattle.type_presentations.specs.EquationKeys.{equation_key as key_of_equation}
use Rattle.type_presentations.specs.EquationListView.{equations_in}
use Rattle.type_presentations.proofs.EquationListLemmas.{equation_came, pushed, sides_of_pushed}
use Rattle.type_presentations.proofs.equation_list.EquationList.add.Goals as goal

pub returns-then-placed-clause-keyed : goal.returns-then-placed-clause-keyed
returns-then-placed-clause-keyed c =
    let a =
    equation_came (equations_in c.args.self.now) (equation_of c.args.equation) _ _ _ _ c.in_ok-equation_key.ensures c.requires.keyed
    c.in_ok-placed.ensures.keys c.in_ok-placed.ensures.is_new in
    a.appended
    ∙ ap (λ (equations : List Equation). with_new bytes_eq [] (map key_of_equation equations))
    (sym (pushed c.args.self.now.equations.items c.push.new.self.items c.args.equation c.in_ok-push.ensures.items))

pub returns-then-placed-clause-equations : goal.returns-then-placed-clause-equations
returns-then-placed-clause-equations c =
    let a =
    equation_came (equations_in c.args.self.now) (equation_of c.args.equation) _ _ _ _ c.in_ok-equation_key.ensures c.requires.keyed
    c.in_ok-placed.ensures.keys c.in_ok-placed.ensures.is_new in
    pushed c.args.self.now.equations.items c.push.new.self.items c.args.equation c.in_ok-push.ensures.items
    ∙ sym (a.grown c.if-placed.true)

pub returns-then-placed-clause-sides : goal.returns-then-placed-clause-sides
returns-then-placed-clause-sides c =
    λ signature have has.
    sides_of_pushed signature c.args.self.now.equations.items c.push.new.self.items c.args.equation c.in_ok-push.ensures.items have has

pub returns-clause-keyed : goal.returns-clause-keyed
returns-clause-keyed c =
    let a =
    equation_came (equations_in c.args.self.now) (equation_of c.args.equation) _ _ _ _ c.in_ok-equation_key.ensures c.requires.keyed
    c.in_ok-placed.ensures.keys c.in_ok-placed.ensures.is_new in
    a.unchanged c.if-placed.false

pub returns-clause-equations : goal.returns-clause-equations
returns-clause-equations c =
    let a =
    equation_came (equations_in c.args.self.now) (equation_of c.args.equation) _ _ _ _ c.in_ok-equation_key.ensures c.requires.keyed
    c.in_ok-placed.ensures.keys c.in_ok-placed.ensures.is_new in
    sym (a.stays c.if-placed.false)
