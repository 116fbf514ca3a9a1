-- What comes of the words that check a certificate of induction, and what a yes means.
use Rattle.std.proofs.Common.{◌≡◌, List, Option, sym, subst}
use Rattle.lotos_base.specs.Equation.{Data}
use Rattle.certificate_verbs.proofs.HandedOn.{renamed_holds}
use Rattle.certificate_verbs.specs.HandedOn.{Did, ShelfState, GotFile, Gives, Comes, goes_on, unread, stops, wants_memory, AllLemmasHold, stated}
use Rattle.certificate_verbs.specs.HandedOn.{CommandLine, Induced}
use Rattle.certificate_verbs.specs.Finishing.{Print, print, Finish}
use Rattle.certificate_verbs.specs.Inducing.{ChecksInduction}
use Rattle.certificate_verbs.specs.declared.ended.Ended.{Ended}
use Rattle.certificate_verbs.specs.declared.ended.Ended.TheVariants.{Done}
use Rattle.certificate_verbs.proofs.ComparedParts.{no_refusal}
use Rattle.certificate_verbs.proofs.InducedParts.{induces_refuses, IsInduced, induces_on}
use Rattle.lotos_top.specs.Induction.{IsFoundInductive, SaysInductive, YesMeansInductive}
use Rattle.lotos_top.specs.Run.{Streams, FollowsFromWork, Ran}
use Rattle.lotos_top.specs.Work.{work_of}
use Rattle.lotos_top.proofs.BisimilarityLemmas.{yes_printed, no_yes}

-- ---- What it means

found_inductive : (i : Induced) (files : List GotFile) (finish : Finish) (it : IsInduced i files finish)
    → IsFoundInductive i files it.report
found_inductive i files finish it = record {
  one = it.one;
  files_of_one = it.files_of_one;
  accepted = it.accepted;
  text = it.text;
  all_files = it.all_files;
  is_report = it.is_report;
  lemmas_hold = hold;
  met_hold = λ equation k met.
      renamed_holds it.one.data_ met.lemma.statement (stated equation) met.renamed (hold k met.lemma met.is_lemma);
}
  where
    hold : AllLemmasHold it.one.data_ it.is_report.lemmas
    hold = subst (λ (d : Data). AllLemmasHold d it.is_report.lemmas) it.is_report.checked.theory_is.data_is it.is_report.checked.hold

says_inductive : (i : Induced) (shelf between shelf_after : ShelfState) (before after : Streams) (answer : Ended)
    (comes : Comes Print Finish) → Did shelf between (ChecksInduction i) comes
    → FollowsFromWork comes between shelf_after before after answer → answer ≡ Done → SaysInductive i shelf shelf_after before after
says_inductive i shelf between shelf_after before after answer (goes_on finish) did follows done =
    let it = induces_on i did.0 finish did.2 in
    let printed = subst (λ (f : Finish). FollowsFromWork (goes_on f) between shelf_after before after answer) it.finishes follows in
    record {
      files = did.0;
      gave = subst (λ (s : ShelfState). Gives shelf s did.0) (sym printed.shelf_kept) did.1;
      report = it.report;
      found = found_inductive i did.0 finish it;
      writes = yes_printed (print it.report Done) before.output after.output answer printed.writes done;
    }
says_inductive i shelf between shelf_after before after answer (unread name) did follows done =
    absurd (cc (no_yes _ before.output after.output answer follows.writes done))
says_inductive i shelf between shelf_after before after answer (stops p) did follows done =
    absurd (no_refusal p.status (induces_refuses i did.0 p did.2) (no_yes p before.output after.output answer follows.writes done))
says_inductive i shelf between shelf_after before after answer wants_memory did follows done = absurd (cc (follows.is, done))

pub yes_means_inductive : (line : Option CommandLine) (shelf shelf_after : ShelfState) (before after : Streams) (answer : Ended)
    → Ran line shelf shelf_after before after answer → YesMeansInductive line shelf shelf_after before after answer
yes_means_inductive line shelf shelf_after before after answer ran = λ i is done.
    says_inductive i shelf ran.between shelf_after before after answer ran.comes
    (subst (λ (it : Option CommandLine). Did shelf ran.between (work_of it) ran.comes) is ran.did) ran.follows done
