use Rattle.std.proofs.Common.{◌≡◌, ◌++◌, ◌∷◌, [], map, ap, ◌∙◌, sym, refl, List}
use Rattle.std.specs.Str.{bytes_eq}
use Rattle.lotos_base.specs.Equation.{Equation}
use Rattle.sort_terms.specs.EquationView.{equation_of}
use Rattle.type_definitions.specs.Presentation.{with_new}
use Rattle.type_presentations.specs.EquationKeys.{equation_key as key_of_equation}
use Rattle.type_presentations.specs.EquationListView.{equations_in}
use Rattle.type_presentations.proofs.EquationListLemmas.{equation_came, pushed, sides_of_pushed}
use Rattle.type_presentations.proofs.equation_list.EquationList.append.Goals as goal

pub returns-clause-keyed : goal.returns-clause-keyed
returns-clause-keyed c =
    let a =
    equation_came (equations_in c.args.self.now) (equation_of c.args.equation) _ _ _ _ c.in_ok-equation_key.ensures c.requires.keyed
    c.in_ok-add.ensures.keys c.in_ok-add.ensures.is_new in
    a.appended
    ∙ ap (λ (equations : List Equation). with_new bytes_eq [] (map key_of_equation equations))
    (sym (pushed c.args.self.now.equations.items c.push.new.self.items c.args.equation c.in_ok-push.ensures.items))

pub returns-clause-equations : goal.returns-clause-equations
returns-clause-equations c =
    pushed c.args.self.now.equations.items c.push.new.self.items c.args.equation c.in_ok-push.ensures.items

pub returns-clause-sides : goal.returns-clause-sides
returns-clause-sides c =
    λ signature have has.
    sides_of_pushed signature c.args.self.now.equations.items c.push.new.self.items c.args.equation c.in_ok-push.ensures.items have has
