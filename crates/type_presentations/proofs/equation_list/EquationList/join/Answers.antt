use Rattle.std.proofs.Common.{◌≡◌, ◌∷◌, [], ◌+◌, map, drop, ap, ◌∙◌, sym, refl, List, subst}
use Rattle.lotos_base.specs.Signature.{Operation}
use Rattle.lotos_base.specs.Equation.{Equation}
use Rattle.sort_terms.specs.EquationView.{equation_of}
use Rattle.sort_terms.specs.ProfiledTerm.{ProfiledTerm, IsOf}
use Rattle.type_definitions.specs.Presentation.{is_same_equation, with_new}
use Rattle.type_definitions.specs.Images.{equation_image}
use Rattle.sort_terms.specs.SortedView.{profiled_in}
use Rattle.sort_terms.specs.declared.equations.Equation.{Equation as CodeEquation}
use Rattle.type_definitions.specs.ProfiledImage.{KeepsProfiles, number_in, profiled_image}
use Rattle.type_presentations.proofs.JoinedLemmas.{due_next, none_due}
use Rattle.type_presentations.specs.EquationListView.{equations_in}
use Rattle.lotos_base.proofs.Members.{read_member_of}
use Rattle.type_presentations.proofs.equation_list.EquationList.join.Goals as goal

pub loop-equation-init : goal.loop-equation-init
loop-equation-init c = (c.requires.keyed, refl, λ signature have images. have)

pub image_of_equation-requires : goal.image_of_equation-requires
image_of_equation-requires c =
    let keeps =
    c.requires.keeps c.loop-equation.equation-index c.equation-item.result
    (read_member_of c.as_slice-equation-items.result.now c.args.other.now.equations.items c.loop-equation.equation-index
    c.equation-item.result c.as_slice-equation-items.ensures.value c.loop-equation-test.true c.equation-item.is) in record {
      left = subst (λ (os : List Operation).
          KeepsProfiles (number_in c.args.sorts.now) (number_in c.args.ops.now) os (profiled_in c.equation-item.result.left))
          (sym c.ops-shared.ensures) keeps.0;
      right = subst (λ (os : List Operation).
          KeepsProfiles (number_in c.args.sorts.now) (number_in c.args.ops.now) os (profiled_in c.equation-item.result.right))
          (sym c.ops-shared.ensures) keeps.1;
    }

pub loop-equation-preserved : goal.loop-equation-preserved
loop-equation-preserved c = (
  c.in_ok-add.ensures.keyed,
  ap (λ (equations : List Equation). with_new is_same_equation equations
      (map (equation_image (number_in c.args.sorts.now) (number_in c.args.ops.now))
      (map equation_of (drop (c.loop-equation.equation-index + 1) c.as_slice-equation-items.result.now))))
      (c.in_ok-add.ensures.equations
      ∙ ap (λ (e : Equation). with_new is_same_equation (equations_in c.loop-equation.self) (e ∷ [])) c.in_ok-image.ensures.image)
      ∙ ap (λ (equations : List Equation). with_new is_same_equation (equations_in c.loop-equation.self) equations)
      (sym (due_next c.as_slice-equation-items.result.now c.loop-equation.equation-index c.equation-item.result equation_of
      (equation_image (number_in c.args.sorts.now) (number_in c.args.ops.now)) c.loop-equation-test.true c.equation-item.is))
      ∙ c.loop-equation.invariant.1,
  λ signature have images.
      let these =
      images c.loop-equation.equation-index c.equation-item.result
      (read_member_of c.as_slice-equation-items.result.now c.args.other.now.equations.items c.loop-equation.equation-index
      c.equation-item.result c.as_slice-equation-items.ensures.value c.loop-equation-test.true c.equation-item.is) in
      c.in_ok-add.ensures.sides signature (c.loop-equation.invariant.2 signature have images) (
        subst (λ (t : ProfiledTerm). IsOf signature t) (sym c.in_ok-image.ensures.left)
            (subst (λ (os : List Operation).
            IsOf signature (profiled_image (number_in c.args.sorts.now) (number_in c.args.ops.now) os
            (profiled_in c.equation-item.result.left)))
            (sym c.ops-shared.ensures) these.0),
        subst (λ (t : ProfiledTerm). IsOf signature t) (sym c.in_ok-image.ensures.right)
            (subst (λ (os : List Operation).
            IsOf signature (profiled_image (number_in c.args.sorts.now) (number_in c.args.ops.now) os
            (profiled_in c.equation-item.result.right)))
            (sym c.ops-shared.ensures) these.1),
      ),
)

pub returns-clause-equations : goal.returns-clause-equations
returns-clause-equations c =
    ap (λ (equations : List Equation). with_new is_same_equation (equations_in c.loop-equation.self) equations)
    (sym (none_due c.as_slice-equation-items.result.now c.loop-equation.equation-index equation_of
    (equation_image (number_in c.args.sorts.now) (number_in c.args.ops.now)) c.loop-equation-test.false))
    ∙ c.loop-equation.invariant.1
    ∙ ap (λ (es : List CodeEquation). with_new is_same_equation (equations_in c.args.self.now)
    (map (equation_image (number_in c.args.sorts.now) (number_in c.args.ops.now)) (map equation_of es)))
    c.as_slice-equation-items.ensures.value

pub returns-clause-sides : goal.returns-clause-sides
returns-clause-sides c = c.loop-equation.invariant.2
