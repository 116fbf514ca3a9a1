-- The texts of labels without variables are read back as these labels.
use Rattle.std.specs.Prelude.{◌≡◌, ℕ, List}
use Rattle.lotos_base.specs.Signature.{Signature, IsWellFormedSignature}
use Rattle.behaviour_semantics.specs.Behaviour.{Specification}
use Rattle.behaviour_semantics.specs.Label.{Label}
use Rattle.behaviour_semantics.specs.WellFormed.{Every, IsClosedLabel}
use Rattle.session_histories.specs.HandedOn.{label_text}
use Rattle.session_laws.specs.TextNames.{IsWordSpelling, HasTextNames}
use Rattle.declaration_laws.specs.VisibleGates.{IsOneOf, IsAt}
use Rattle.declaration_laws.specs.DeclaredGates.{HasDistinctGates}
use Rattle.session_laws.specs.LabelReading.{IsLabelReading}

-- The names have the form that texts have, infix operations have two arguments, and no two gates that the specification declares
-- have one name. So it is with an accepted specification.
pub record HasReadableNames (signature : Signature) (specification : Specification) : Type 0 where
  pub well_formed : IsWellFormedSignature signature
  pub spelled : HasTextNames signature
  pub gates : Every IsWordSpelling specification.gate_names
  pub distinct : HasDistinctGates specification

-- The label has no variables: its values are ground terms of the signature, and its gate is one that the specification declares.
pub record IsPlainLabel (signature : Signature) (specification : Specification) (label : Label) : Type 0 where
  pub closed : IsClosedLabel signature specification label
  pub is_at : IsAt (IsOneOf specification.gates) label

-- a text, whatever it is, is read as one label at most
abbrev pub LabelTextsAreReadOnce : Type 0
LabelTextsAreReadOnce =
    (signature : Signature) (specification : Specification) (text : List ℕ) (one other : Label)
    → HasDistinctGates specification
    → IsLabelReading signature specification text one
    → IsLabelReading signature specification text other
    → one ≡ other

pub record LabelTextsAreReadBack : Type 0 where
  -- the text of a label is read as this label
  pub read :
      (signature : Signature) (specification : Specification) (label : Label) →
      HasReadableNames signature specification →
      IsPlainLabel signature specification label →
      IsLabelReading signature specification (label_text signature specification.gate_names label) label
  -- so two labels that are printed alike are one
  pub apart :
      (signature : Signature) (specification : Specification) (one other : Label) →
      HasReadableNames signature specification →
      IsPlainLabel signature specification one →
      IsPlainLabel signature specification other →
      label_text signature specification.gate_names one ≡ label_text signature specification.gate_names other →
      one ≡ other
