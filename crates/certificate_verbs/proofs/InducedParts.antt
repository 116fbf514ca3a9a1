-- What comes of the words that check a certificate of induction: how they stop, and how they go on.
use Rattle.std.proofs.Common.{◌≡◌, inr, ℕ, List, [], ◌∷◌, ◌++◌, None, refl, ap, ◌∙◌}
use Rattle.command_words.specs.HandedOn.{Acceptance, IsAccepted, asked_acceptance, GotFile, goes_on, stops, Has, GetsFile}
use Rattle.command_words.specs.Words.{Induced}
use Rattle.certificate_verbs.specs.Comparing.{AcceptsNamed}
use Rattle.certificate_verbs.specs.Finishing.{Print, print, Finish, prints}
use Rattle.certificate_verbs.specs.Inducing.{IsReport, IsRefusedBy, induction_refused, ChecksProofs, ReportsThen, ProvesThen, ChecksInduction}
use Rattle.certificate_verbs.specs.declared.ended.Ended.TheVariants.{Done}
use Rattle.certificate_verbs.proofs.ComparedParts.{IsRefusal, then_refuses, has_refuses, looks_refuses, named_refuses, gets_refuses, went_on, joined_none, joined_one, got_file}

-- ---- How they stop

reports_refuse : (spec : List ℕ) (one : Acceptance) (text : List ℕ) (files : List GotFile) (p : Print)
    → ReportsThen spec one text files (stops p) → IsRefusal p.status
reports_refuse spec one text =
    then_refuses (ChecksProofs spec one text) (λ report. Has (prints (print report Done)))
    (looks_refuses (IsReport spec one text) (IsRefusedBy one text) (induction_refused one.data_.signature) (λ r. inr refl))
    (λ report. has_refuses (prints (print report Done)))

pub induces_refuses : (i : Induced) (files : List GotFile) (p : Print) → ChecksInduction i files (stops p) → IsRefusal p.status
induces_refuses i =
    then_refuses (AcceptsNamed i.spec) (λ one. ProvesThen i.spec one i.proofs) (named_refuses i.spec)
    (λ one. then_refuses (GetsFile i.proofs) (λ text. ReportsThen i.spec one text) (gets_refuses i.proofs)
    (λ text. reports_refuse i.spec one text))

-- ---- How they go on

-- what was printed, and for what
pub record IsInduced (i : Induced) (files : List GotFile) (finish : Finish) : Type 0 where
  pub report : List ℕ
  pub finishes : finish ≡ prints (print report Done)
  pub one : Acceptance
  pub files_of_one : List GotFile
  pub accepted : IsAccepted (asked_acceptance i.spec None []) files_of_one (goes_on one)
  pub text : List ℕ
  pub all_files : files ≡ files_of_one ++ (record { name = i.proofs; bytes = text } ∷ [])
  pub is_report : IsReport i.spec one text report

pub induces_on : (i : Induced) (files : List GotFile) (finish : Finish) → ChecksInduction i files (goes_on finish)
    → IsInduced i files finish
induces_on i files finish came =
    let one = went_on (AcceptsNamed i.spec) (λ x. ProvesThen i.spec x i.proofs) files finish came in
    let text = went_on (GetsFile i.proofs) (λ x. ReportsThen i.spec one.a x) one.later finish one.then_ in
    let last = went_on (ChecksProofs i.spec one.a text.a) (λ x. Has (prints (print x Done))) text.later finish text.then_ in
    record {
      report = last.a;
      finishes = last.then_.1;
      one = one.a;
      files_of_one = one.got;
      accepted = one.first;
      text = text.a;
      all_files = one.all_files
          ∙ ap (λ (it : List GotFile). one.got ++ it)
          (text.all_files
          ∙ joined_one text.got text.later (record { name = i.proofs; bytes = text.a } ∷ []) (got_file text.first)
          (last.all_files ∙ joined_none last.got last.later last.first.0 last.then_.0));
      is_report = last.first.1;
    }
