use Rattle.std.proofs.Common.{◌≡◌, ◌++◌, List, length, map, ap, sym, subst, ◌∙◌, arith}
use Rattle.std.proofs.lemmas.List.{append-nil}
use Rattle.lotos_base.proofs.Members.{at_map, read_member_of}
use Rattle.lotos_base.proofs.Pieces.{take_whole}
use Rattle.lotos_base.specs.Equation.{Equation, IsEquationOver}
use Rattle.sort_terms.specs.EquationView.{equation_of}
use Rattle.sort_terms.specs.SortedView.{profiled_in}
use Rattle.sort_terms.specs.declared.equations.Equation.{Equation as CodeEquation}
use Rattle.type_definitions.specs.Images.{equation_image}
use Rattle.type_definitions.specs.ProfiledImage.{number_in}
use Rattle.type_presentations.proofs.EquationImageLemmas.{image_over}
use Rattle.type_presentations.specs.EquationListView.{equations_in}
use Rattle.type_actualisation.proofs.FormalListLemmas.{grown_images, one_more_formal, side_keeps, side_over}
use Rattle.type_actualisation.proofs.formal_lists.append_images.Goals as goal

pub loop-equation-init : goal.loop-equation-init
loop-equation-init c =
    (c.requires.3.keyed, sym (append-nil (equations_in c.args.list.now)), λ old new moved are. are)

pub image_of_equation-requires : goal.image_of_equation-requires
image_of_equation-requires c =
    let old = c.requires.0 in
    let new = c.requires.1 in
    let moved = c.requires.2 in
    let sides =
    moved.formals.sides c.loop-equation.equation-index c.equation-item.result
    (read_member_of c.equations-equations.result.now c.args.coming.now.equations.items c.loop-equation.equation-index
    c.equation-item.result c.equations-equations.ensures.same c.loop-equation-test.true c.equation-item.is) in
    record {
      left = side_keeps old new c.args.sorts.now c.args.ops.now _ (profiled_in c.equation-item.result.left) moved.maps
          (c.ops-shared.ensures ∙ moved.profiles_are) sides.0;
      right = side_keeps old new c.args.sorts.now c.args.ops.now _ (profiled_in c.equation-item.result.right) moved.maps
          (c.ops-shared.ensures ∙ moved.profiles_are) sides.1;
    }

pub append-requires : goal.append-requires
append-requires c = record { keyed = c.loop-equation.invariant.0 }

pub loop-equation-preserved : goal.loop-equation-preserved
loop-equation-preserved c = (
  c.in_ok-append.ensures.keyed,
  grown_images (equation_image (number_in c.args.sorts.now) (number_in c.args.ops.now)) equation_of (equations_in c.args.list.now)
      (equations_in c.loop-equation.list) (equations_in c.append.new.self) c.equations-equations.result.now
      c.loop-equation.equation-index c.equation-item.result (equation_of c.in_ok-image.image) c.loop-equation-test.true
      c.equation-item.is c.loop-equation.invariant.1 c.in_ok-append.ensures.equations c.in_ok-image.ensures.image,
  λ old new moved are.
      let e = c.equation-item.result in
      let found =
      read_member_of c.equations-equations.result.now c.args.coming.now.equations.items c.loop-equation.equation-index
      c.equation-item.result c.equations-equations.ensures.same c.loop-equation-test.true c.equation-item.is in
      let sides = moved.formals.sides c.loop-equation.equation-index e found in
      one_more_formal new c.loop-equation.list c.append.new.self c.in_ok-image.image (c.loop-equation.invariant.2 old new moved are)
      c.in_ok-append.ensures.keyed c.in_ok-append.ensures.equations
      (subst (λ (x : Equation). IsEquationOver new x) (sym c.in_ok-image.ensures.image)
      (image_over old new (number_in c.args.sorts.now) (number_in c.args.ops.now) (equation_of e) moved.maps
      (moved.formals.over (equation_of e)
      (c.loop-equation.equation-index, at_map equation_of c.args.coming.now.equations.items c.loop-equation.equation-index e found)))) (
        side_over old new c.args.sorts.now c.args.ops.now _ (profiled_in e.left) (profiled_in c.in_ok-image.image.left) moved.maps
            (c.ops-shared.ensures ∙ moved.profiles_are) sides.0 c.in_ok-image.ensures.left,
        side_over old new c.args.sorts.now c.args.ops.now _ (profiled_in e.right) (profiled_in c.in_ok-image.image.right) moved.maps
            (c.ops-shared.ensures ∙ moved.profiles_are) sides.1 c.in_ok-image.ensures.right,
      )
      c.in_ok-append.ensures.sides,
)

pub returns-clause-equations : goal.returns-clause-equations
returns-clause-equations c =
    let image : List Equation → List Equation =
    λ es. equations_in c.args.list.now ++ map (equation_image (number_in c.args.sorts.now) (number_in c.args.ops.now)) es in
    let all : c.loop-equation.equation-index ≡ length c.equations-equations.result.now = omega arith in
    c.loop-equation.invariant.1
    ∙ ap (λ (es : List CodeEquation). image (map equation_of es))
    (take_whole c.equations-equations.result.now c.loop-equation.equation-index all)
    ∙ ap image c.equations-equations.ensures.equations

pub returns-clause-over : goal.returns-clause-over
returns-clause-over c = c.loop-equation.invariant.2
