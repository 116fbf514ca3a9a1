-- The data of a presentation in code.
use Rattle.std.proofs.Common.{◌≡◌, List, map, ap, sym, ◌∙◌, subst}
use Rattle.lotos_base.specs.Signature.{Signature}
use Rattle.lotos_base.specs.Equation.{Data, IsWellFormedData}
use Rattle.sort_terms.specs.EquationView.{equation_of, data_of as data_in}
use Rattle.sort_terms.specs.SignatureView.{signature_of}
use Rattle.sort_terms.specs.declared.equations.Equation.{Equation as CodeEquation}
use Rattle.sort_terms.specs.declared.equations.Flat.{Flat}
use Rattle.type_definitions.specs.Flattened.{flattened_data_of}
use Rattle.type_presentations.specs.EquationListView.{HaveSidesOf}
use Rattle.type_presentations.specs.PresentationView.{presentation_of, IsSound}
use Rattle.type_presentations.specs.declared.presentations.Presentation.{Presentation}
use Rattle.type_flatten.specs.FlatView.{AreDataOf}

pub data_made : (p : Presentation) (flat : Flat) → signature_of flat.signature ≡ (presentation_of p).signature
    → flat.equations.items ≡ p.equations.equations.items → IsSound p → AreDataOf (presentation_of p) flat
data_made p flat signature equations sound =
    let whole : Signature → List CodeEquation → Data =
    λ s es. record { signature = s; equations = map equation_of es } in
    let same : data_in flat ≡ flattened_data_of (presentation_of p) =
    ap (λ (s : Signature). whole s flat.equations.items) signature
    ∙ ap (λ (es : List CodeEquation). whole (presentation_of p).signature es) equations in record {
      same = same;
      well_formed = subst (λ (d : Data). IsWellFormedData d) (sym same) sound.data_;
      sides =
          subst (λ (s : Signature). HaveSidesOf s flat.equations.items) (sym signature)
          (subst (λ (es : List CodeEquation). HaveSidesOf (presentation_of p).signature es) (sym equations) sound.sides);
    }
