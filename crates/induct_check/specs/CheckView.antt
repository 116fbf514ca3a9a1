-- What it is for the text of a certificate to be right, and which of two faults is told.
use Rattle.std.specs.Prelude.{◌≡◌, ◌⊎◌, ℕ, List, Option, None, Some}
use Rattle.induct_parts.specs.HandedOn.{Lemma, Certificate, IsCertified, Theory}
use Rattle.induct_parts.specs.FaultView.{HoldsAtLine}
use Rattle.induct_parts.specs.SettingView.{AllCovered}
use Rattle.induct_parts.specs.declared.at_line.AtLine.{AtLine}
use Rattle.induct_parts.specs.declared.line_fault.LineFault.TheVariants.{BadLine}
use Rattle.induct_check.specs.TextFaults.{IsReadAsInduction, Stop, ComesBeforeStop}

-- The text is read as a right certificate, whose lemmas are these, and the sort of each of its covers is covered.
pub record IsCertifiedText (theory : Theory) (text : List ℕ) (lemmas : List Lemma) : Type 0 where
  pub certificate : Certificate
  pub read : IsReadAsInduction theory.data_.signature text certificate
  pub right : IsCertified theory certificate
  pub covered : AllCovered theory.data_.signature theory.rules certificate.covers
  pub lemmas_are : certificate.lemmas ≡ lemmas

-- The first of a stop and a fault of what was read.
abbrev pub IsFirstOf : Option Stop → AtLine → AtLine → Type 0
IsFirstOf None at told = told ≡ at
IsFirstOf (Some stop) at told =
    (HoldsAtLine (ComesBeforeStop stop) at × (told ≡ at))
    ⊎ ((¬ HoldsAtLine (ComesBeforeStop stop) at) × (told.line ≡ stop.line) × (told.fault ≡ BadLine))
