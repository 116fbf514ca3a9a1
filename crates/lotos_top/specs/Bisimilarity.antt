-- What a yes to a certificate of bisimulation means: the two specifications are strongly bisimilar, and do the same.
use Rattle.std.specs.Prelude.{◌≡◌, ℕ, List, [], ◌∷◌, ◌++◌, Option, None, Some}
use Rattle.lotos_base.specs.Term.{Term}
use Rattle.line_server.specs.Writing.{WritesAll}
use Rattle.certificate_verbs.specs.HandedOn.{Acceptance, IsAccepted, asked_acceptance, ShelfState, GotFile, Gives, goes_on, ArePairLines}
use Rattle.certificate_verbs.specs.HandedOn.{CommandLine, Compared, bisimilarity, CertificateLine, AreShownBisimilar, DoTheSame}
use Rattle.certificate_verbs.specs.HandedOn.{AreSameData}
use Rattle.certificate_verbs.specs.Certificates.{bisimilar_text}
use Rattle.certificate_verbs.specs.Comparing.{comparison_by}
use Rattle.certificate_verbs.specs.NormalForms.{AreNormalForms}
use Rattle.certificate_verbs.specs.declared.ended.Ended.{Ended}
use Rattle.certificate_verbs.specs.declared.ended.Ended.TheVariants.{Done}
use Rattle.lotos_top.specs.Run.{Streams}

-- The two specifications are accepted with the first ones of the files that the shelf gave; their data are the same; the last file
-- is the certificate; its pairs are a strong bisimulation with the pair of the two behaviours in which the specifications begin;
-- and what the one does from there, the other one does too.
pub record AreFoundBisimilar (c : Compared) (files : List GotFile) (number : ℕ) : Type 0 where
  pub one : Acceptance
  pub other : Acceptance
  pub files_of_one : List GotFile
  pub files_of_other : List GotFile
  pub one_accepted : IsAccepted (asked_acceptance c.spec None []) files_of_one (goes_on one)
  pub other_accepted : IsAccepted (asked_acceptance c.other None []) files_of_other (goes_on other)
  pub same : AreSameData one.data_ other.data_
  pub text : List ℕ
  pub lines : List CertificateLine
  pub certificate : ArePairLines text lines
  pub all_files : files ≡ files_of_one ++ (files_of_other ++ (record { name = c.pairs; bytes = text } ∷ []))
  pub canon : Term → Term
  pub canonical : AreNormalForms one canon
  pub bisimilar : AreShownBisimilar (comparison_by canon one other) lines number
  pub alike : DoTheSame (comparison_by canon one other)

-- the shelf gave these files, what is found is so, and the line that says it is written
pub record SaysBisimilar (c : Compared) (shelf shelf_after : ShelfState) (before after : Streams) : Type 0 where
  pub files : List GotFile
  pub gave : Gives shelf shelf_after files
  pub number : ℕ
  pub found : AreFoundBisimilar c files number
  pub writes : WritesAll before.output.bytes after.output.bytes (bisimilar_text number)

-- A yes to a certificate means that the two specifications are strongly bisimilar: wherever the answer is that the work is done,
-- this was found, and the line that says so is written.
abbrev pub YesMeansBisimilar : Option CommandLine → (shelf shelf_after : ShelfState) → (before after : Streams) → Ended → Type 0
YesMeansBisimilar line shelf shelf_after before after answer =
    (c : Compared) → line ≡ Some (bisimilarity c) → answer ≡ Done → SaysBisimilar c shelf shelf_after before after
