-- Lines behind lines.
use Rattle.std.proofs.Common.{◌≡◌, inl, ℕ, Bool, true, false, List, [], ◌∷◌, ◌++◌, Option, refl, sym, ap, subst, ◌∙◌, append_assoc}
use Rattle.line_server.specs.Machine.{Machine}
use Rattle.line_server.specs.Answered.{Answered, no_line, ended_by, behind_one, AnsweredSome, FailedAt, LeftAt, WantedAt}
use Rattle.line_server.specs.Writing.{WritesAll}
use Rattle.line_server.proofs.WrittenTexts.{writes_then, up_to_then}

pub answered_then : {State : Type 0} (machine : Machine State) (state between last : State) (lines more : List (List ℕ))
    (text others : List ℕ)
    (goes_on quits : Bool) → Answered machine state lines text between goes_on → goes_on ≡ false
    → Answered machine between more others last quits
    → Answered machine state (lines ++ more) (text ++ others) last quits
answered_then machine state between last lines more text others goes_on quits (no_line _) is then_ = then_
answered_then machine state between last lines more text others goes_on quits (ended_by _ line _ reply comes ends) is then_ = absurd (cc)
answered_then machine state between last lines more text others goes_on quits
    (behind_one _ _ line rest reply behind _ comes stays later) is then_ =
    subst (λ (it : List ℕ). Answered machine state (line ∷ rest ++ more) it last quits) (sym (append_assoc reply.text behind others))
    (behind_one state last line (rest ++ more) reply (behind ++ others) quits comes stays
    (answered_then machine reply.next between last rest more behind others goes_on quits later is then_))

-- none is answered behind a line that ended the session
pub answered_still : {State : Type 0} (machine : Machine State) (state last : State) (lines more : List (List ℕ)) (text : List ℕ)
    (quits : Bool)
    → Answered machine state lines text last quits → quits ≡ true → Answered machine state (lines ++ more) text last quits
answered_still machine state last lines more text quits (no_line _) is = absurd (cc)
answered_still machine state last lines more text quits (ended_by _ line rest reply comes ends) is =
    ended_by state line (rest ++ more) reply comes ends
answered_still machine state last lines more text quits (behind_one _ _ line rest reply behind _ comes stays later) is =
    behind_one state last line (rest ++ more) reply behind quits comes stays
    (answered_still machine reply.next last rest more behind quits later is)

pub some_then : {State : Type 0} (machine : Machine State) (state between last : State) (lines more later : List (List ℕ))
    (text others : List ℕ)
    → Answered machine state lines text between false → AnsweredSome machine between more others last later
    → AnsweredSome machine state (lines ++ more) (text ++ others) last later
some_then machine state between last lines more later text others first then_ = record {
  first = lines ++ then_.first;
  are = ap (λ (it : List (List ℕ)). lines ++ it) then_.are ∙ sym (append_assoc lines then_.first later);
  answered = answered_then machine state between last lines then_.first text others false false first refl then_.answered;
}

pub some_still : {State : Type 0} (machine : Machine State) (state last : State) (lines more later : List (List ℕ)) (text : List ℕ)
    → AnsweredSome machine state lines text last later → AnsweredSome machine state (lines ++ more) text last (later ++ more)
some_still machine state last lines more later text some = record {
  first = some.first;
  are = ap (λ (it : List (List ℕ)). it ++ more) some.are ∙ append_assoc some.first later more;
  answered = some.answered;
}

pub failed_then : {State : Type 0} (machine : Machine State) (state between after : State) (lines more : List (List ℕ)) (text : List ℕ)
    (written written_between written_after : Option (List ℕ))
    → Answered machine state lines text between false → WritesAll written written_between text
    → FailedAt machine between more written_between written_after after
    → FailedAt machine state (lines ++ more) written written_after after
failed_then machine state between after lines more text written written_between written_after first wrote failed = record {
  text = text ++ failed.text;
  between = failed.between;
  line = failed.line;
  later = failed.later;
  answered = some_then machine state between failed.between lines more (failed.line ∷ failed.later) text failed.text first failed.answered;
  reply = failed.reply;
  comes = failed.comes;
  left = failed.left;
  wrote = up_to_then written written_between written_after text failed.text failed.reply.text wrote failed.wrote;
}

pub failed_still : {State : Type 0} (machine : Machine State) (state after : State) (lines more : List (List ℕ))
    (written written_after : Option (List ℕ))
    → FailedAt machine state lines written written_after after → FailedAt machine state (lines ++ more) written written_after after
failed_still machine state after lines more written written_after failed = record {
  text = failed.text;
  between = failed.between;
  line = failed.line;
  later = failed.later ++ more;
  answered = some_still machine state failed.between lines more (failed.line ∷ failed.later) failed.text failed.answered;
  reply = failed.reply;
  comes = failed.comes;
  left = failed.left;
  wrote = failed.wrote;
}

pub wanted_then : {State : Type 0} (machine : Machine State) (state between after : State) (lines more : List (List ℕ)) (text : List ℕ)
    (written written_between written_after : Option (List ℕ))
    → Answered machine state lines text between false → WritesAll written written_between text
    → WantedAt machine between more written_between written_after after
    → WantedAt machine state (lines ++ more) written written_after after
wanted_then machine state between after lines more text written written_between written_after first wrote wanted = record {
  text = text ++ wanted.text;
  between = wanted.between;
  later = wanted.later;
  answered = some_then machine state between wanted.between lines more wanted.later text wanted.text first wanted.answered;
  left = wanted.left;
  wrote = writes_then written written_between written_after text wanted.text wrote wanted.wrote;
}

left_still : {State : Type 0} (machine : Machine State) (between after : State) (later more : List (List ℕ))
    → LeftAt machine between later after → LeftAt machine between (later ++ more) after
left_still machine between after [] [] left = left
left_still machine between after [] (line ∷ lines) left = inl left
left_still machine between after (line ∷ later) more left = left

pub wanted_still : {State : Type 0} (machine : Machine State) (state after : State) (lines more : List (List ℕ))
    (written written_after : Option (List ℕ))
    → WantedAt machine state lines written written_after after → WantedAt machine state (lines ++ more) written written_after after
wanted_still machine state after lines more written written_after wanted = record {
  text = wanted.text;
  between = wanted.between;
  later = wanted.later ++ more;
  answered = some_still machine state wanted.between lines more wanted.later wanted.text wanted.answered;
  left = left_still machine wanted.between after wanted.later more wanted.left;
  wrote = wanted.wrote;
}
