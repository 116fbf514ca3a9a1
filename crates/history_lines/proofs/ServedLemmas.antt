-- Lines that were served, by what the answers to their requests say.
use Rattle.std.proofs.Common.{◌≡◌, inl, inr, ℕ, List, [], ◌++◌, refl, ap, sym, ◌∙◌, subst}
use Rattle.line_server.specs.Request.{Request, skip, show_menu, show_behaviour, show_trace, undo, leave, no_request, take_step, save, replay, show_normal, compare, list_values, list_instances, request_of}
use Rattle.line_server.specs.Serving.{ServesLine}
use Rattle.line_server.specs.declared.lines.Answer.{Answer}
use Rattle.history_lines.specs.Standing.{Standing}
use Rattle.history_lines.specs.Answer.{RequestComesTo}
use Rattle.history_lines.specs.Calls.{CallsShelf, MayCallShelf}
use Rattle.history_lines.specs.Serving.{moment_of, ends_session, GivesAnswer, IsBeforeOrBehind}
use Rattle.history_lines.specs.SessionMachine.{SessionPoint, history_machine}
use Rattle.history_lines.specs.Served.{ends_behind, AppendsReply, AppendsNothing}
use Rattle.history_lines.specs.declared.served.Served.{Served}

-- a line that calls the shelf as it asks calls it no more often
may_call : (standing : Standing) (request : Request) (before after : ℕ) → CallsShelf standing request before after
    → MayCallShelf request before after
may_call standing skip before after is = is
may_call standing show_menu before after is = is
may_call standing show_behaviour before after is = is
may_call standing show_trace before after is = is
may_call standing undo before after is = is
may_call standing leave before after is = is
may_call standing no_request before after is = is
may_call standing (take_step number terms) before after is = is
may_call standing (save name) before after (inl is) = inl is.1
may_call standing (save name) before after (inr is) = inr is.1
may_call standing (replay name) before after is = is
may_call standing (show_normal terms) before after is = is
may_call standing (compare terms) before after is = is
may_call standing (list_values name size) before after is = is
may_call standing (list_instances number size) before after is = is

pub appends_reply : (before after : SessionPoint) (line : List ℕ) (wanted : Request) (answer text text_after : List ℕ) (served : Served)
    → wanted ≡ request_of line → ends_behind served ≡ ends_session wanted
    → GivesAnswer (moment_of before.standing before.faults) wanted answer (moment_of after.standing after.faults)
    → CallsShelf before.standing wanted before.calls after.calls → text_after ≡ text ++ answer
    → AppendsReply before line after text text_after served
appends_reply before after line wanted answer text text_after served is ends gives calls appended = record {
  reply = record { text = answer; next = after; quits = ends_behind served };
  comes = record {
    it = gives.it;
    comes = subst (λ (it : Request). RequestComesTo before.standing it gives.it) is gives.comes;
    text = gives.printed;
    next = gives.next;
    quits = ends ∙ sym gives.quits;
    counted = gives.counted;
    called = subst (λ (it : Request). CallsShelf before.standing it before.calls after.calls) is calls;
  };
  appended = appended;
  next = refl;
  ends = refl;
}

pub appends_nothing : (before after : SessionPoint) (line : List ℕ) (wanted : Request) (text text_after : List ℕ)
    → wanted ≡ request_of line
    → IsBeforeOrBehind (moment_of before.standing before.faults) wanted (moment_of after.standing after.faults)
    → MayCallShelf wanted before.calls after.calls → text_after ≡ text → AppendsNothing before line after text text_after
appends_nothing before after line wanted text text_after is leaves calls kept = record {
  kept = kept;
  leaves = record {
    is = subst (λ (it : Request). IsBeforeOrBehind (moment_of before.standing before.faults) it (moment_of after.standing after.faults)) is
        leaves;
    called = subst (λ (it : Request). MayCallShelf it before.calls after.calls) is calls;
  };
}

-- there was an answer, and no memory to append it
pub appends_nothing_behind : (before after : SessionPoint) (line : List ℕ) (wanted : Request) (answer text text_after : List ℕ)
    → wanted ≡ request_of line
    → GivesAnswer (moment_of before.standing before.faults) wanted answer (moment_of after.standing after.faults)
    → CallsShelf before.standing wanted before.calls after.calls → text_after ≡ text → AppendsNothing before line after text text_after
appends_nothing_behind before after line wanted answer text text_after is gives calls kept =
    appends_nothing before after line wanted text text_after is (inr (answer, gives))
    (may_call before.standing wanted before.calls after.calls calls) kept

-- ---- Lines as the loop sees them

pub serves_line : (before after : SessionPoint) (line start : List ℕ) (answer : Answer) (served : Served) → start ≡ []
    → AppendsReply before line after start answer.text.items served → answer.quits ≡ ends_behind served
    → ServesLine history_machine before line after answer
serves_line before after line start answer served none appends quits = record {
  reply = appends.reply;
  comes = appends.comes;
  text = appends.appended ∙ ap (λ (it : List ℕ). it ++ appends.reply.text) none;
  next = appends.next;
  quits = quits ∙ appends.ends;
}
