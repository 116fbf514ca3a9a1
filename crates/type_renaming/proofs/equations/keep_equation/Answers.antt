use Rattle.std.proofs.Common.{◌≡◌, ℕ, List, ap, sym, subst, ◌∙◌}
use Rattle.lotos_base.specs.Signature.{Signature, Operation}
use Rattle.lotos_base.specs.Equation.{Equation, IsEquationOver}
use Rattle.sort_terms.specs.EquationView.{equation_of}
use Rattle.sort_terms.specs.ProfiledTerm.{ProfiledTerm, IsOf}
use Rattle.sort_terms.specs.SortedView.{profiled_in}
use Rattle.type_definitions.specs.ImageLaws.{IsSignatureMap}
use Rattle.type_definitions.specs.ProfiledImage.{number_in, profiled_image, KeepsProfiles}
use Rattle.type_definitions.proofs.ImageLemmas.{image_of_signature, keeps_profiles}
use Rattle.type_definitions.specs.DeclaredEquations.{with_equation}
use Rattle.type_presentations.specs.PresentationView.{presentation_of}
use Rattle.type_presentations.proofs.EquationImageLemmas.{image_over}
use Rattle.type_renaming.proofs.KeptLemmas.{is_signature_map, equation_stays}
use Rattle.type_renaming.proofs.equations.keep_equation.Goals as goal

-- the image of a side, over a list that is that of the new operations
side_over : (old new : Signature) (sorts numbers : List ℕ) (operations : List Operation) (side image : ProfiledTerm)
    → IsSignatureMap old new (number_in sorts) (number_in numbers) → operations ≡ new.operations → IsOf old side
    → image ≡ profiled_image (number_in sorts) (number_in numbers) operations side → IsOf new image
side_over old new sorts numbers operations side image m are of is =
    subst (λ (t : ProfiledTerm). IsOf new t) (sym is)
    (subst (λ (os : List Operation). IsOf new (profiled_image (number_in sorts) (number_in numbers) os side)) (sym are)
    (image_of_signature old new (number_in sorts) (number_in numbers) side m of))

side_keeps : (old new : Signature) (sorts numbers : List ℕ) (operations : List Operation) (side : ProfiledTerm)
    → IsSignatureMap old new (number_in sorts) (number_in numbers) → operations ≡ new.operations → IsOf old side
    → KeepsProfiles (number_in sorts) (number_in numbers) operations side
side_keeps old new sorts numbers operations side m are of =
    subst (λ (os : List Operation). KeepsProfiles (number_in sorts) (number_in numbers) os side) (sym are)
    (keeps_profiles old new (number_in sorts) (number_in numbers) side m of)

pub image_of_equation-requires-clause-left : goal.image_of_equation-requires-clause-left
image_of_equation-requires-clause-left c =
    let old = (presentation_of c.args.base.now).signature in
    let new = (presentation_of c.args.renamed.now).signature in
    side_keeps old new c.args.sorts.now c.args.ops.now _ (profiled_in c.args.equation.now.left)
    (is_signature_map old new c.args.sorts.now c.args.ops.now c.requires.whole.data_.signature c.requires.profiles c.requires.same)
    c.ops.ensures c.requires.sides.0

pub image_of_equation-requires-clause-right : goal.image_of_equation-requires-clause-right
image_of_equation-requires-clause-right c =
    let old = (presentation_of c.args.base.now).signature in
    let new = (presentation_of c.args.renamed.now).signature in
    side_keeps old new c.args.sorts.now c.args.ops.now _ (profiled_in c.args.equation.now.right)
    (is_signature_map old new c.args.sorts.now c.args.ops.now c.requires.whole.data_.signature c.requires.profiles c.requires.same)
    c.ops.ensures c.requires.sides.1

pub grow_by_equation-requires-clause-over : goal.grow_by_equation-requires-clause-over
grow_by_equation-requires-clause-over c =
    let old = (presentation_of c.args.base.now).signature in
    let new = (presentation_of c.args.renamed.now).signature in
    subst (λ (e : Equation). IsEquationOver new e) (sym c.in_ok-image.ensures.image)
    (image_over old new (number_in c.args.sorts.now) (number_in c.args.ops.now) (equation_of c.args.equation.now)
    (is_signature_map old new c.args.sorts.now c.args.ops.now c.requires.whole.data_.signature c.requires.profiles c.requires.same)
    c.requires.over)

pub grow_by_equation-requires-clause-left : goal.grow_by_equation-requires-clause-left
grow_by_equation-requires-clause-left c =
    let old = (presentation_of c.args.base.now).signature in
    let new = (presentation_of c.args.renamed.now).signature in
    side_over old new c.args.sorts.now c.args.ops.now _ (profiled_in c.args.equation.now.left) (profiled_in c.in_ok-image.image.left)
    (is_signature_map old new c.args.sorts.now c.args.ops.now c.requires.whole.data_.signature c.requires.profiles c.requires.same)
    c.ops.ensures c.requires.sides.0 c.in_ok-image.ensures.left

pub grow_by_equation-requires-clause-right : goal.grow_by_equation-requires-clause-right
grow_by_equation-requires-clause-right c =
    let old = (presentation_of c.args.base.now).signature in
    let new = (presentation_of c.args.renamed.now).signature in
    side_over old new c.args.sorts.now c.args.ops.now _ (profiled_in c.args.equation.now.right) (profiled_in c.in_ok-image.image.right)
    (is_signature_map old new c.args.sorts.now c.args.ops.now c.requires.whole.data_.signature c.requires.profiles c.requires.same)
    c.ops.ensures c.requires.sides.1 c.in_ok-image.ensures.right

pub returns-clause-kept : goal.returns-clause-kept
returns-clause-kept c =
    c.in_ok-grow_by_equation.ensures.grown
    ∙ ap (λ (e : Equation). with_equation (presentation_of c.args.renamed.now) e)
    (c.in_ok-image.ensures.image
    ∙ equation_stays (presentation_of c.args.base.now).signature c.args.sorts.now c.args.ops.now (equation_of c.args.equation.now)
    c.requires.same c.requires.over)
