-- What a yes to a certificate of induction means: each of its lemmas holds by induction over the data of the specification, the
-- sort of each of its covers is covered, and each requirement that is printed as met holds.
use Rattle.std.specs.Prelude.{◌≡◌, ℕ, List, [], ◌∷◌, ◌++◌, Option, None, Some, slice_get}
use Rattle.lotos_base.specs.Equation.{Equation}
use Rattle.line_server.specs.Writing.{WritesAll}
use Rattle.certificate_verbs.specs.HandedOn.{Acceptance, IsAccepted, asked_acceptance, ShelfState, GotFile, Gives, goes_on, Lemma}
use Rattle.certificate_verbs.specs.HandedOn.{HoldsByInduction, IsMetBy, stated, CommandLine, Induced, induction}
use Rattle.certificate_verbs.specs.Inducing.{IsReport}
use Rattle.certificate_verbs.specs.declared.ended.Ended.{Ended}
use Rattle.certificate_verbs.specs.declared.ended.Ended.TheVariants.{Done}
use Rattle.lotos_top.specs.Run.{Streams}

-- The specification is accepted with the first ones of the files that the shelf gave, and the last file is the certificate, whose
-- report this is. All ground instances of its lemmas, and of the requirements that they meet, are equalities that the equations
-- of the specification derive.
pub record IsFoundInductive (i : Induced) (files : List GotFile) (report : List ℕ) : Type 0 where
  pub one : Acceptance
  pub files_of_one : List GotFile
  pub accepted : IsAccepted (asked_acceptance i.spec None []) files_of_one (goes_on one)
  pub text : List ℕ
  pub all_files : files ≡ files_of_one ++ (record { name = i.proofs; bytes = text } ∷ [])
  pub is_report : IsReport i.spec one text report
  pub lemmas_hold :
      (k : ℕ) (lemma : Lemma) → slice_get is_report.lemmas k ≡ Some lemma → HoldsByInduction one.data_ lemma.statement
  pub met_hold :
      (equation : Equation) (k : ℕ) → IsMetBy is_report.lemmas equation k → HoldsByInduction one.data_ (stated equation)

-- the shelf gave these files, what is found is so, and the report is written
pub record SaysInductive (i : Induced) (shelf shelf_after : ShelfState) (before after : Streams) : Type 0 where
  pub files : List GotFile
  pub gave : Gives shelf shelf_after files
  pub report : List ℕ
  pub found : IsFoundInductive i files report
  pub writes : WritesAll before.output.bytes after.output.bytes report

-- A yes to a certificate means that its lemmas hold: wherever the answer is that the work is done, this was found, and the report
-- is written.
abbrev pub YesMeansInductive : Option CommandLine → (shelf shelf_after : ShelfState) → (before after : Streams) → Ended → Type 0
YesMeansInductive line shelf shelf_after before after answer =
    (i : Induced) → line ≡ Some (induction i) → answer ≡ Done → SaysInductive i shelf shelf_after before after
