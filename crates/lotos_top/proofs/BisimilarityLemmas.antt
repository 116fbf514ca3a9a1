-- What comes of the words that check a certificate of bisimulation, and what a yes means.
use Rattle.std.proofs.Common.{◌≡◌, List, Option, sym, ◌∙◌, subst}
use Rattle.lotos_base.specs.Outside.{Stream}
use Rattle.line_server.specs.Writing.{WritesAll}
use Rattle.certificate_verbs.specs.HandedOn.{Did, ShelfState, GotFile, Gives, Comes, goes_on, unread, stops, wants_memory, CommandLine}
use Rattle.certificate_verbs.specs.HandedOn.{Compared, AcceptedCertificatesShowBisimilarity, AcceptedStartsDoTheSame}
use Rattle.certificate_verbs.specs.Certificates.{bisimilar_printed}
use Rattle.certificate_verbs.specs.Comparing.{comparison_by, ChecksCertificate}
use Rattle.certificate_verbs.specs.Finishing.{Print, Finish}
use Rattle.certificate_verbs.specs.declared.ended.Ended.{Ended}
use Rattle.certificate_verbs.specs.declared.ended.Ended.TheVariants.{Done}
use Rattle.certificate_verbs.proofs.ComparedParts.{checks_refuses, IsYes, checks_on, no_refusal}
use Rattle.lotos_top.specs.Bisimilarity.{AreFoundBisimilar, SaysBisimilar, YesMeansBisimilar}
use Rattle.lotos_top.specs.Run.{Streams, Writes, whole, in_part, nothing, FollowsFromWork, Ran}
use Rattle.lotos_top.specs.Work.{work_of}

-- ---- A run

pub yes_printed : (p : Print) (before after : Stream) (answer : Ended) → Writes p before after answer → answer ≡ Done
    → WritesAll before.bytes after.bytes p.text
yes_printed p before after answer (whole is wrote same) done = wrote
yes_printed p before after answer (in_part is wrote rises) done = absurd (cc (is, done))
yes_printed p before after answer (nothing is same) done = absurd (cc (is, done))

pub no_yes : (p : Print) (before after : Stream) (answer : Ended) → Writes p before after answer → answer ≡ Done → p.status ≡ Done
no_yes p before after answer (whole is wrote same) done = sym is ∙ done
no_yes p before after answer (in_part is wrote rises) done = absurd (cc (is, done))
no_yes p before after answer (nothing is same) done = absurd (cc (is, done))

module _ (shows : AcceptedCertificatesShowBisimilarity) (same_doings : AcceptedStartsDoTheSame) where
  found_so : (c : Compared) (files : List GotFile) (finish : Finish) (answer : IsYes c files finish) → AreFoundBisimilar c files answer.number
  found_so c files finish answer = record {
    one = answer.one;
    other = answer.other;
    files_of_one = answer.files_of_one;
    files_of_other = answer.files_of_other;
    one_accepted = answer.one_accepted;
    other_accepted = answer.other_accepted;
    same = answer.same;
    text = answer.text;
    lines = answer.lines;
    certificate = answer.certificate;
    all_files = answer.all_files;
    canon = answer.judged.canon;
    canonical = answer.judged.canonical;
    bisimilar =
        shows (comparison_by answer.judged.canon answer.one answer.other) answer.lines answer.number answer.judged.comparable answer.judged.comes_to;
    alike =
        same_doings (comparison_by answer.judged.canon answer.one answer.other) answer.lines answer.number answer.judged.comparable answer.judged.comes_to;
  }

  says : (c : Compared) (shelf between shelf_after : ShelfState) (before after : Streams) (answer : Ended) (comes : Comes Print Finish)
      → Did shelf between (ChecksCertificate c) comes → FollowsFromWork comes between shelf_after before after answer → answer ≡ Done
      → SaysBisimilar c shelf shelf_after before after
  says c shelf between shelf_after before after answer (goes_on finish) did follows done =
      let shown = checks_on c did.0 finish did.2 in
      let printed = subst (λ (it : Finish). FollowsFromWork (goes_on it) between shelf_after before after answer) shown.finishes follows in
      record {
        files = did.0;
        gave = subst (λ (it : ShelfState). Gives shelf it did.0) (sym printed.shelf_kept) did.1;
        number = shown.number;
        found = found_so c did.0 finish shown;
        writes = yes_printed (bisimilar_printed shown.number) before.output after.output answer printed.writes done;
      }
  says c shelf between shelf_after before after answer (unread name) did follows done =
      absurd (cc (no_yes _ before.output after.output answer follows.writes done))
  says c shelf between shelf_after before after answer (stops p) did follows done =
      absurd (no_refusal p.status (checks_refuses c did.0 p did.2)
      (no_yes p before.output after.output answer follows.writes done))
  says c shelf between shelf_after before after answer wants_memory did follows done = absurd (cc (follows.is, done))

  pub yes_means : (line : Option CommandLine) (shelf shelf_after : ShelfState) (before after : Streams) (answer : Ended)
      → Ran line shelf shelf_after before after answer → YesMeansBisimilar line shelf shelf_after before after answer
  yes_means line shelf shelf_after before after answer ran = λ c is done.
      says c shelf ran.between shelf_after before after answer ran.comes
      (subst (λ (it : Option CommandLine). Did shelf ran.between (work_of it) ran.comes) is ran.did) ran.follows done
