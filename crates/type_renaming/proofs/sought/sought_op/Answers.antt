use Rattle.std.proofs.Common.{List, ℕ, ap, ◌∙◌}
use Rattle.lotos_base.specs.Name.{spelling}
use Rattle.sort_terms.specs.Operations.{operation_of}
use Rattle.lotos_base.specs.Signature.{Operation}
use Rattle.type_definitions.specs.Images.{operation_image}
use Rattle.type_definitions.specs.ProfiledImage.{number_in}
use Rattle.type_renaming.proofs.sought.sought_op.Goals as goal

abbrev with_name : List ℕ → Operation → Operation
with_name name o = record { name = name; form = o.form; arguments = o.arguments; result = o.result; origin = o.origin }

pub returns : goal.returns
returns c =
    ap (λ (o : Operation). with_name (spelling c.in_ok-image-2.field-0) o) c.in_ok-image.ensures
    ∙ ap (λ (n : List ℕ). with_name n (operation_image (number_in c.args.sorts.now) (operation_of c.args.op.now))) c.in_ok-image-2.ensures
