-- The lines of a run.
use Rattle.std.proofs.Common.{◌≡◌, ◌⊎◌, inl, inr, ℕ, Bool, true, false, List, [], ◌∷◌, ◌++◌, Some, ap, sym, ◌∙◌, subst}
use Rattle.line_server.specs.Answered as served
use Rattle.line_server.specs.Answered.{no_line, ended_by, behind_one}
use Rattle.lotos_top.specs.HandedOn.{SessionPoint, history_machine, Beginning, ShelfState, Gives, Asked, Did, Comes, goes_on, session, Print, Finish, prints, serves, Ended}
use Rattle.lotos_top.specs.Run.{Streams, Ran}
use Rattle.lotos_top.specs.Work.{work_of}
use Rattle.lotos_top.proofs.HandedOn.{got_alone}
use Rattle.session_laws.proofs.AcceptedParts.{second}
use Rattle.session_laws.specs.RunLines.{ServesAccepted, IsAnsweredThere, RunLinesAreAnswered}

abbrev begun_in : Beginning → Finish → Beginning
begun_in other (prints p) = other
begun_in other (serves begun) = begun

did_serve : (asked : Asked) (shelf between : ShelfState) (begun : Beginning)
    → Did {E = Print} {B = Finish} shelf between (work_of (Some (session asked))) (goes_on (serves begun))
    → ServesAccepted asked shelf between begun
did_serve asked shelf between begun did =
    let served = second did.2 in
    let opened = second served.3 in
    let files : did.0 ≡ opened.1 =
    got_alone did.0 served.1 served.2 served.5 served.4.0 ∙ got_alone served.1 opened.1 opened.2 opened.5 opened.4.0 in
    let same : served.0 ≡ begun = ap (begun_in begun) (sym served.4.1) in
    subst (ServesAccepted asked shelf between) same (record {
      files = opened.1;
      gives = subst (Gives shelf between) files did.1;
      acceptance = opened.0;
      accepted = opened.3;
      begins = opened.4.1;
    })

ran_accepted : (asked : Asked) (shelf shelf_after : ShelfState) (before after : Streams) (answer : Ended) (begun : Beginning)
    (ran : Ran (Some (session asked)) shelf shelf_after before after answer) → ran.comes ≡ goes_on (serves begun)
    → ServesAccepted asked shelf ran.between begun
ran_accepted asked shelf shelf_after before after answer begun ran is =
    did_serve asked shelf ran.between begun
    (subst (λ (comes : Comes Print Finish). Did shelf ran.between (work_of (Some (session asked))) comes) is ran.did)

each_answered : (start last : SessionPoint) (earlier later : List (List ℕ)) (line text : List ℕ) (quits : Bool)
    → served.Answered history_machine start (earlier ++ line ∷ later) text last quits
    → IsAnsweredThere start earlier line ⊎ ((first : List ℕ) × served.Answered history_machine start earlier first last true)
each_answered start last [] later line _ _ (ended_by _ _ _ reply comes ends) =
    inl (record { now = start; text = []; answered = no_line start; reply = reply; comes = comes })
each_answered start last [] later line _ _ (behind_one _ _ _ _ reply text quits comes stays more) =
    inl (record { now = start; text = []; answered = no_line start; reply = reply; comes = comes })
each_answered start last (first ∷ earlier) later line _ _ (ended_by _ _ _ reply comes ends) =
    inr (reply.text, ended_by start first earlier reply comes ends)
each_answered start last (first ∷ earlier) later line _ _ (behind_one _ _ _ _ reply text quits comes stays more) =
    by (each_answered reply.next last earlier later line text quits more)
  where
    by : IsAnsweredThere reply.next earlier line
        ⊎ ((said : List ℕ) × served.Answered history_machine reply.next earlier said last true)
        → IsAnsweredThere start (first ∷ earlier) line
        ⊎ ((said : List ℕ) × served.Answered history_machine start (first ∷ earlier) said last true)
    by (inl there) = inl (record {
      now = there.now;
      text = reply.text ++ there.text;
      answered = behind_one start there.now first earlier reply there.text false comes stays there.answered;
      reply = there.reply;
      comes = there.comes;
    })
    by (inr ended) = inr (reply.text ++ ended.0, behind_one start last first earlier reply ended.0 true comes stays ended.1)

pub run_lines_are_answered : RunLinesAreAnswered
run_lines_are_answered = record { accepted = ran_accepted; each = each_answered }
