-- One thing comes of the work on an accepted specification.
use Rattle.std.proofs.Common.{◌≡◌, inl, inr, ℕ, List, ap, sym, ◌∙◌, subst}
use Rattle.lotos_base.specs.Outside.{Texts}
use Rattle.lotos_top.specs.HandedOn.{Acceptance, Asked, IsAccepted, Beginning, GotFile, AreGotFrom, got_from, Comes, goes_on, unread, stops, wants_memory, Then, Has, Lacks, ComesOfPart, ComesOver, Refused, Print, Finish}
use Rattle.lotos_top.specs.Opening.{SessionBegins}
use Rattle.lotos_top.specs.Parts.{OpensSession, OpensAsked}
use Rattle.lotos_top.proofs.HandedOn.{outcomes_over_texts_are_one, value_or}
use Rattle.session_laws.specs.OneBeginning.{SessionsBeginOnce}
use Rattle.session_laws.proofs.AlikeLemmas.{BeginsOver, begun_over}
use Rattle.session_laws.proofs.ReadBackLemmas.{got_first}
use Rattle.session_laws.proofs.WentOn.{went_on}

module _ (once : SessionsBeginOnce) (texts : Texts) (asked : Asked) where
  -- a file that lacks, or a fault, is no acceptance
  never_unread : (acceptance : Acceptance) (files : List GotFile) (name : List ℕ) → ComesOver texts asked (goes_on acceptance)
      → OpensSession (IsAccepted asked) files (unread name) → AreGotFrom (got_from texts) files
      → Lacks {E = Refused} {B = Acceptance} (got_from texts) (unread name) → ⊥
  never_unread acceptance files name over (inl ends) all lacks =
      let no = outcomes_over_texts_are_one texts asked (goes_on acceptance) (unread name) over
      (record { files = files; came = ends; got_files = all; lacks = lacks }) in cc no
  never_unread acceptance files name over (inr then_) all lacks = then_.4

  never_stops : (acceptance : Acceptance) (files : List GotFile) (told : Refused) → ComesOver texts asked (goes_on acceptance)
      → OpensSession (IsAccepted asked) files (stops told) → AreGotFrom (got_from texts) files → ⊥
  never_stops acceptance files told over (inl ends) all =
      let no = outcomes_over_texts_are_one texts asked (goes_on acceptance) (stops told) over
      (record { files = files; came = ends; got_files = all; lacks = tt }) in cc no
  never_stops acceptance files told over (inr then_) all = then_.4

  -- one session begins
  begins_so : (one other : Beginning) → BeginsOver texts asked one → BeginsOver texts asked other → other ≡ one
  begins_so one other is also =
      let same : is.acceptance ≡ also.acceptance =
      ap (λ (c : Comes Refused Acceptance). value_or is.acceptance c)
      (outcomes_over_texts_are_one texts asked (goes_on is.acceptance) (goes_on also.acceptance) is.over also.over) in
      once asked also.over.files also.acceptance other one also.over.came also.begins
      (subst (λ (a : Acceptance). SessionBegins a one) same is.begins)

  module _ (finish : Beginning → Finish) where
    finished_so : (one : Beginning) (files : List GotFile) (comes : Comes Print Finish) → BeginsOver texts asked one
        → Then (OpensAsked asked) (λ begun. Has (finish begun)) files comes → AreGotFrom (got_from texts) files
        → Lacks (got_from texts) comes → comes ≡ goes_on (finish one)
    finished_so one files (goes_on done) begins (inl ends) all lacks = absurd ends
    finished_so one files (goes_on done) begins (inr then_) all lacks =
        let there = begun_over texts asked then_.0 then_.1 then_.3 (got_first texts files then_.1 then_.2 then_.5 all) in
        ap (λ (f : Finish). goes_on f) (then_.4.1 ∙ ap finish (begins_so one then_.0 begins there))
    finished_so one files (unread name) begins (inl ends) all lacks =
        absurd (never_unread begins.acceptance files name begins.over ends all lacks)
    finished_so one files (unread name) begins (inr then_) all lacks = absurd then_.4
    finished_so one files (stops p) begins (inl ends) all lacks =
        absurd (never_stops begins.acceptance files ends.0 begins.over ends.1 all)
    finished_so one files (stops p) begins (inr then_) all lacks = absurd then_.4
    finished_so one files wants_memory begins then_ all lacks = absurd lacks

    -- where something is done, that is what comes
    pub work_is_one : (done : Finish) (comes : Comes Print Finish)
        → ComesOfPart texts (Then (OpensAsked asked) (λ begun. Has (finish begun))) (goes_on done)
        → ComesOfPart texts (Then (OpensAsked asked) (λ begun. Has (finish begun))) comes → comes ≡ goes_on done
    work_is_one done comes is also =
        let opens = went_on (OpensAsked asked) (λ begun. Has (finish begun)) is.files done is.came in
        let begins = begun_over texts asked opens.found opens.got opens.first
        (got_first texts is.files opens.got opens.later opens.cut is.got_files) in
        finished_so opens.found also.files comes begins also.came also.got_files also.lacks
        ∙ ap (λ (f : Finish). goes_on f) (sym opens.second.1)
