-- What becomes of an equation that is well formed over one signature under maps to another one.
use Rattle.std.specs.Prelude.{◌≡◌, ℕ}
use Rattle.lotos_base.specs.Signature.{Signature}
use Rattle.lotos_base.specs.Equation.{Equation, IsEquationOver}
use Rattle.type_definitions.specs.Images.{equation_image}
use Rattle.type_definitions.specs.ImageLaws.{IsSignatureMap}

pub record EquationImagesAreWellFormed : Type 0 where
  -- its image is well formed over the other one
  pub images : (old new : Signature) (to_sort to_operation : ℕ → ℕ) (equation : Equation)
      → IsSignatureMap old new to_sort to_operation → IsEquationOver old equation
      → IsEquationOver new (equation_image to_sort to_operation equation)
  -- where the numbers stay, so does the equation
  pub same_numbers : (equation : Equation) → equation_image (λ n. n) (λ n. n) equation ≡ equation
