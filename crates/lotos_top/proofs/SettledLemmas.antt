-- What a run does over texts that its shelf tells.
use Rattle.std.proofs.Common.{◌≡◌, ◌⊎◌, inl, inr, ℕ, List, Option, None, Some, refl, sym, ◌∙◌, subst}
use Rattle.lotos_base.specs.Counts.{Rises}
use Rattle.lotos_base.specs.Outside.{Texts}
use Rattle.certificate_verbs.specs.HandedOn.{ShelfState, GotFile, AreGotFrom, Refused, Asked, Acceptance, IsAccepted, got_from, ComesOfPart}
use Rattle.certificate_verbs.specs.HandedOn.{ComesOver, Did, Comes, goes_on, unread, stops, wants_memory, Then, Has, Lacks, Beginning}
use Rattle.certificate_verbs.specs.HandedOn.{FirstFaultsAreOne, RightOnesHaveNoFault, RequirementsAreMetOnce, MetIsNotOpen, CommandLine}
use Rattle.certificate_verbs.specs.HandedOn.{check, session, demonstration, flattening, bisimilarity, Compared, induction, Induced}
use Rattle.certificate_verbs.specs.HandedOn.{CertificatesComeToOneThing}
use Rattle.certificate_verbs.proofs.HandedOn.{part_comes_over, outcomes_over_texts_are_one}
use Rattle.certificate_verbs.specs.Comparing.{IsOneCheck}
use Rattle.certificate_verbs.specs.Inducing.{IsOneInduction}
use Rattle.certificate_verbs.specs.Finishing.{Print, print, Finish, prints, serves, refusal_printed}
use Rattle.certificate_verbs.specs.declared.ended.Ended.{Ended}
use Rattle.certificate_verbs.specs.declared.ended.Ended.TheVariants.{Done, NoMemory}
use Rattle.certificate_verbs.proofs.OneInduction.{inductions_over_texts_are_one}
use Rattle.certificate_verbs.proofs.OneCertificate.{checks_over_texts_are_one}
use Rattle.certificate_verbs.proofs.PartLemmas.{got_alone}
use Rattle.lotos_top.specs.Flattening.{IsByFounding}
use Rattle.lotos_top.specs.Opening.{SessionBegins, opening_text}
use Rattle.lotos_top.specs.Run.{Streams, FollowsFromWork, Ran}
use Rattle.lotos_top.specs.Settled.{WorkOver, IsFinishFor, IsByAcceptance, AsksFor, DoesWorkOver, IsSettled}
use Rattle.lotos_top.specs.Parts.{OpensAsked}
use Rattle.lotos_top.specs.Work.{work_of}
use Rattle.lotos_top.proofs.FlatteningLemmas.{flattens_over}
use Rattle.lotos_top.proofs.RunLemmas.{did_texts, follows_rise, rises_on}
use Rattle.lotos_top.proofs.WorkLemmas.{opened_on, opened_unread, opened_stops}

-- ---- What a line asks for

-- what comes of the acceptance where this comes of the opening
over_opened : (texts : Texts) (asked : Asked) (files : List GotFile) (begun : Beginning) → OpensAsked asked files (goes_on begun)
    → AreGotFrom (got_from texts) files → (outcome : Comes Refused Acceptance) → ComesOver texts asked outcome
    → (acceptance : Acceptance) × SessionBegins acceptance begun × (outcome ≡ goes_on acceptance)
over_opened texts asked files begun opens got outcome over =
    let opened = opened_on (IsAccepted asked) files begun opens in (
      opened.acceptance,
      opened.begins,
      outcomes_over_texts_are_one texts asked outcome (goes_on opened.acceptance) over
          (record { files = files; came = opened.accepted; got_files = got; lacks = tt }),
    )

over_unread : (texts : Texts) (asked : Asked) (files : List GotFile) (name : List ℕ) → OpensAsked asked files (unread name)
    → AreGotFrom (got_from texts) files → got_from texts name ≡ None → (outcome : Comes Refused Acceptance) → ComesOver texts asked outcome
    → outcome ≡ unread name
over_unread texts asked files name opens got lacks outcome over =
    outcomes_over_texts_are_one texts asked outcome (unread name) over
    (record { files = files; came = opened_unread (IsAccepted asked) files name opens; got_files = got; lacks = lacks })

over_stopped : (texts : Texts) (asked : Asked) (files : List GotFile) (p : Print) → OpensAsked asked files (stops p)
    → AreGotFrom (got_from texts) files → (outcome : Comes Refused Acceptance) → ComesOver texts asked outcome
    → (r : Refused) × (p ≡ refusal_printed asked.spec asked.order r) × (outcome ≡ stops r)
over_stopped texts asked files p opens got outcome over = (
  opens.0,
  opens.2,
  outcomes_over_texts_are_one texts asked outcome (stops opens.0) over
      (record { files = files; came = opened_stops (IsAccepted asked) files opens.0 opens.1; got_files = got; lacks = tt }),
)

-- what comes of a line that asks for a specification and then has this finish
module _ (texts : Texts) (line : Option CommandLine) (asked : Asked) (finish_of : Beginning → Finish)
    (is_finish : (begun : Beginning) → IsFinishFor line asked begun (finish_of begun)) where
  by_opening : (files : List GotFile) (comes : Comes Print Finish)
      → Then (OpensAsked asked) (λ (it : Beginning). Has (finish_of it)) files comes → AreGotFrom (got_from texts) files
      → Lacks (got_from texts) comes → (outcome : Comes Refused Acceptance) → ComesOver texts asked outcome
      → IsByAcceptance line asked outcome comes
  by_opening files (goes_on finish) (inl ended) got lacks outcome over = absurd ended
  by_opening files (goes_on finish) (inr then_) got lacks outcome over =
      let here : OpensAsked asked files (goes_on then_.0) =
      subst (λ (it : List GotFile). OpensAsked asked it (goes_on then_.0))
      (sym (got_alone files then_.1 then_.2 then_.5 then_.4.0)) then_.3 in
      let opened = over_opened texts asked files then_.0 here got outcome over in
      subst (λ (it : Comes Refused Acceptance). IsByAcceptance line asked it (goes_on finish)) (sym opened.2) (
        then_.0,
        opened.1,
        subst (λ (it : Finish). IsFinishFor line asked then_.0 it) (sym then_.4.1) (is_finish then_.0),
      )
  by_opening files (unread name) (inl ended) got lacks outcome over =
      subst (λ (it : Comes Refused Acceptance). IsByAcceptance line asked it (unread name))
      (sym (over_unread texts asked files name ended got lacks outcome over)) refl
  by_opening files (unread name) (inr then_) got lacks outcome over = absurd then_.4
  by_opening files (stops p) (inl ended) got lacks outcome over =
      let stopped = over_stopped texts asked files p ended got outcome over in
      subst (λ (it : Comes Refused Acceptance). IsByAcceptance line asked it (stops p)) (sym stopped.2) stopped.1
  by_opening files (stops p) (inr then_) got lacks outcome over = absurd then_.4
  by_opening files wants_memory then_ got lacks outcome over = absurd lacks

by_acceptance : (texts : Texts) (line : Option CommandLine) (comes : Comes Print Finish) → WorkOver texts line comes → (asked : Asked)
    (outcome : Comes Refused Acceptance) → AsksFor line asked → ComesOver texts asked outcome → IsByAcceptance line asked outcome comes
by_acceptance texts None comes work asked outcome asks over = absurd asks
by_acceptance texts (Some (check one)) comes work asked outcome asks over =
    subst (λ (it : Asked). IsByAcceptance (Some (check one)) it outcome comes) asks
    (by_opening texts (Some (check one)) one (λ (it : Beginning). prints (print (opening_text it) Done))
    (λ begun. (refl, refl)) work.files comes
    work.came work.got_files work.lacks outcome (subst (λ (it : Asked). ComesOver texts it outcome) (sym asks) over))
by_acceptance texts (Some (session one)) comes work asked outcome asks over =
    subst (λ (it : Asked). IsByAcceptance (Some (session one)) it outcome comes) asks
    (by_opening texts (Some (session one)) one (λ (it : Beginning). serves it) (λ begun. (refl, refl)) work.files comes
    work.came work.got_files work.lacks outcome (subst (λ (it : Asked). ComesOver texts it outcome) (sym asks) over))
by_acceptance texts (Some (demonstration cells)) comes work asked outcome asks over = absurd asks
by_acceptance texts (Some (flattening spec order)) comes work asked outcome asks over = absurd asks
by_acceptance texts (Some (bisimilarity c)) comes work asked outcome asks over = absurd asks
by_acceptance texts (Some (induction i)) comes work asked outcome asks over = absurd asks

by_founding : (texts : Texts) (line : Option CommandLine) (comes : Comes Print Finish) → WorkOver texts line comes → (spec : List ℕ)
    (order : Option (List ℕ)) → line ≡ Some (flattening spec order) → IsByFounding texts spec order comes
by_founding texts line comes work spec order is = λ outcome over.
    flattens_over texts spec order comes
    (subst (λ (it : Option CommandLine). ComesOfPart texts (work_of it) comes) is work) outcome over

by_certificate : CertificatesComeToOneThing → (texts : Texts) (line : Option CommandLine) (comes : Comes Print Finish)
    → WorkOver texts line comes → (c : Compared) → line ≡ Some (bisimilarity c) → IsOneCheck texts c comes
by_certificate once texts line comes work c is = λ other over.
    checks_over_texts_are_one once texts c comes other
    (subst (λ (it : Option CommandLine). ComesOfPart texts (work_of it) comes) is work) over

by_induction : FirstFaultsAreOne → RightOnesHaveNoFault → RequirementsAreMetOnce → MetIsNotOpen → (texts : Texts)
    (line : Option CommandLine) (comes : Comes Print Finish) → WorkOver texts line comes → (i : Induced) → line ≡ Some (induction i)
    → IsOneInduction texts i comes
by_induction one none met open_ texts line comes work i is = λ other over.
    inductions_over_texts_are_one one none met open_ texts i comes other
    (subst (λ (it : Option CommandLine). ComesOfPart texts (work_of it) comes) is work) over

-- ---- What a run did

-- the laws by which one thing comes of certificates
pub record CertificateLaws : Type 0 where
  pub once : CertificatesComeToOneThing
  pub one_fault : FirstFaultsAreOne
  pub no_fault : RightOnesHaveNoFault
  pub met_once : RequirementsAreMetOnce
  pub not_open : MetIsNotOpen

does : CertificateLaws → (texts : Texts) (line : Option CommandLine) (shelf between shelf_after : ShelfState)
    (before after : Streams) (answer : Ended) (comes : Comes Print Finish) → shelf.texts ≡ Some texts → Did shelf between (work_of line) comes → WorkOver texts line comes
    → FollowsFromWork comes between shelf_after before after answer → DoesWorkOver texts line shelf_after before after answer
does laws texts line shelf between shelf_after before after answer comes told did work follows = record {
  comes = comes;
  work = work;
  by_acceptance = by_acceptance texts line comes work;
  by_founding = by_founding texts line comes work;
  by_certificate = by_certificate laws.once texts line comes work;
  by_induction = by_induction laws.one_fault laws.no_fault laws.met_once laws.not_open texts line comes work;
  between = between;
  texts_between = did_texts shelf between (work_of line) comes did ∙ told;
  follows = follows;
}

settled_by : CertificateLaws → (line : Option CommandLine) (shelf between shelf_after : ShelfState) (before after : Streams)
    (answer : Ended) (texts : Texts) → shelf.texts ≡ Some texts → (¬ Rises shelf.faults between.faults) → (comes : Comes Print Finish)
    → Did shelf between (work_of line) comes → FollowsFromWork comes between shelf_after before after answer
    → (answer ≡ NoMemory) ⊎ DoesWorkOver texts line shelf_after before after answer
settled_by laws line shelf between shelf_after before after answer texts told steady (goes_on finish) did follows =
    inr (does laws texts line shelf between shelf_after before after answer (goes_on finish) told did
    (part_comes_over texts (work_of line) shelf between (goes_on finish) told steady tt did) follows)
settled_by laws line shelf between shelf_after before after answer texts told steady (unread name) did follows =
    inr (does laws texts line shelf between shelf_after before after answer (unread name) told did
    (part_comes_over texts (work_of line) shelf between (unread name) told steady tt did) follows)
settled_by laws line shelf between shelf_after before after answer texts told steady (stops p) did follows =
    inr (does laws texts line shelf between shelf_after before after answer (stops p) told did
    (part_comes_over texts (work_of line) shelf between (stops p) told steady tt did) follows)
settled_by laws line shelf between shelf_after before after answer texts told steady wants_memory did follows = inl follows.is

pub settled : CertificateLaws → (line : Option CommandLine) (shelf shelf_after : ShelfState) (before after : Streams)
    (answer : Ended) → Ran line shelf shelf_after before after answer → IsSettled line shelf shelf_after before after answer
settled laws line shelf shelf_after before after answer ran = λ texts told steady.
    settled_by laws line shelf ran.between shelf_after before after answer texts told
    (λ rises.
    steady (rises_on shelf.faults ran.between.faults shelf_after.faults
    (follows_rise ran.comes ran.between shelf_after before after answer ran.follows) rises)) ran.comes ran.did ran.follows
