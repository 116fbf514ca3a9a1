-- The work of a line of words: which files are got for it, and what is done in the end.
use Rattle.std.specs.Prelude.{◌≡◌, ℕ, [], Option, Some, None, codes}
use Rattle.certificate_verbs.specs.HandedOn.{AcceptsText, Part, Then, Has, Telling, Beginning, demo_text, IsSummary, CommandLine, check}
use Rattle.certificate_verbs.specs.HandedOn.{session, demonstration, flattening, bisimilarity, induction, usage_text}
use Rattle.certificate_verbs.specs.Finishing.{Print, print, Finish, prints, serves, refusal_printed}
use Rattle.certificate_verbs.specs.Comparing.{ChecksCertificate}
use Rattle.certificate_verbs.specs.Inducing.{ChecksInduction}
use Rattle.certificate_verbs.specs.declared.ended.Ended.TheVariants.{Done, WordsRefused}
use Rattle.lotos_top.specs.Opening.{opening_text}
use Rattle.lotos_top.specs.Parts.{Finds, OpensSession, OpensAsked, WithoutFiles}
use Rattle.lotos_top.specs.Flattening.{FlattensSpecification}

-- the summary of the walk through a session that begins so
abbrev pub IsSummaryPrinted : ℕ → Beginning → Finish → Type 0
IsSummaryPrinted cells begun (serves other) = ⊥
IsSummaryPrinted cells begun (prints p) = IsSummary begun.basis begun.progress.situation cells p.text × (p.status ≡ Done)

-- the text of a demonstration is accepted as one with the name `demo`, and its walk is summed up
abbrev pub Demonstrates : ℕ → Part Print Finish
Demonstrates cells =
    WithoutFiles (Then (Telling (refusal_printed (codes "demo") None) (OpensSession (AcceptsText (demo_text cells) None [])))
    (λ begun. Finds (IsSummaryPrinted cells begun)))

-- words that are no line, and each line
abbrev pub work_of : Option CommandLine → Part Print Finish
work_of None = Has (prints (print usage_text WordsRefused))
work_of (Some (check asked)) = Then (OpensAsked asked) (λ begun. Has (prints (print (opening_text begun) Done)))
work_of (Some (session asked)) = Then (OpensAsked asked) (λ begun. Has (serves begun))
work_of (Some (demonstration cells)) = Demonstrates cells
work_of (Some (flattening spec order)) = FlattensSpecification spec order
work_of (Some (bisimilarity c)) = ChecksCertificate c
work_of (Some (induction i)) = ChecksInduction i
