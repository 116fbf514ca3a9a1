-- The lines of a text have one report.
use Rattle.std.proofs.Common.{◌≡◌, ℕ, false, List, [], ◌∷◌, ◌++◌, Option, None, Some, refl, ap, sym, ◌∙◌, subst}
use Rattle.std.proofs.lemmas.Bool.{true≢false}
use Rattle.lotos_base.specs.Outside.{Texts}
use Rattle.line_server.specs.Request.{Request, skip, show_menu, show_behaviour, show_trace, undo, leave, no_request, take_step, save, replay, show_normal, compare, list_values, list_instances, request_of}
use Rattle.session_log.specs.HandedOn.{SessionBasis, Situation, first_situation, IsLawful, IsStateOver}
use Rattle.history_lines.specs.Standing.{Standing, shown_trace}
use Rattle.history_lines.specs.Befallen.{Befallen}
use Rattle.history_lines.specs.ShelfAnswer.{HasPut, MayHavePut, SaveComesTo, is_too_long, is_unwritten, is_saved, ReplayComesTo, is_failed, is_missing, is_long, is_refused, is_replayed}
use Rattle.history_lines.specs.StepAnswer.{StepAnswer, took, declined}
use Rattle.history_lines.specs.Answer.{after_step, UndoComesTo, is_undone, is_at_start, RequestComesTo}
use Rattle.history_lines.specs.Beginning.{Beginning, CanBegin}
use Rattle.history_lines.specs.Reached.{IsReached}
use Rattle.history_lines.specs.Answered.{AreAnswered, all_answered, last_answered, one_answered}
use Rattle.history_lines.specs.OutcomeLaws.{IsLawfulStanding, LinesComeToOneThing}

-- ---- A shelf that tells its texts goes on telling them

pub record Tells (texts : Option Texts) : Type 0 where
  pub told : Texts
  pub is : texts ≡ Some told

tells_still : (standing : Standing) (it said : Befallen) → Tells standing.texts → it ≡ said → said.reply.next.texts ≡ standing.texts
    → Tells it.reply.next.texts
tells_still standing it said tells same kept =
    record { told = tells.told; is = ap (λ (it : Befallen). it.reply.next.texts) same ∙ (kept ∙ tells.is) }

step_keeps : (standing : Standing) (answer : StepAnswer) → (after_step standing answer).reply.next.texts ≡ standing.texts
step_keeps standing (took label new) = refl
step_keeps standing (declined refusal) = refl

undo_tells : (standing : Standing) (it : Befallen) → Tells standing.texts → UndoComesTo standing it → Tells it.reply.next.texts
undo_tells standing _ tells (is_undone new h) = tells
undo_tells standing _ tells (is_at_start e) = tells

put_tells : (before after : Option Texts) (name bytes : List ℕ) → Tells before → HasPut before after name bytes → Tells after
put_tells None after name bytes tells h = absurd (cc tells.is)
put_tells (Some told) None name bytes tells h = absurd h
put_tells (Some told) (Some told_after) name bytes tells h = record { told = told_after; is = refl }

may_tell : (before after : Option Texts) (name : List ℕ) → Tells before → MayHavePut before after name → Tells after
may_tell None after name tells h = absurd (cc tells.is)
may_tell (Some told) None name tells h = absurd h
may_tell (Some told) (Some told_after) name tells h = record { told = told_after; is = refl }

save_tells : (standing : Standing) (name : List ℕ) (it : Befallen) → Tells standing.texts → SaveComesTo standing name it
    → Tells it.reply.next.texts
save_tells standing name _ tells (is_too_long long) = tells
save_tells standing name _ tells (is_unwritten after short may) = may_tell standing.texts after name tells may
save_tells standing name _ tells (is_saved after short put) =
    put_tells standing.texts after name (shown_trace standing.basis standing.progress) tells put

replay_tells : (standing : Standing) (name : List ℕ) (it : Befallen) → Tells standing.texts → ReplayComesTo standing name it
    → Tells it.reply.next.texts
replay_tells standing name _ tells is_failed = tells
replay_tells standing name _ tells (is_missing missing) = tells
replay_tells standing name _ tells (is_long text stands long) = tells
replay_tells standing name _ tells (is_refused text refusal stands short is) = tells
replay_tells standing name _ tells (is_replayed text new stands short is) = tells

line_tells : (standing : Standing) (request : Request) (it : Befallen) → Tells standing.texts → RequestComesTo standing request it
    → Tells it.reply.next.texts
line_tells standing skip it tells h = tells_still standing it _ tells h refl
line_tells standing show_menu it tells h = tells_still standing it _ tells h refl
line_tells standing show_behaviour it tells h = tells_still standing it _ tells h refl
line_tells standing show_trace it tells h = tells_still standing it _ tells h refl
line_tells standing undo it tells h = undo_tells standing it tells h
line_tells standing leave it tells h = tells_still standing it _ tells h refl
line_tells standing no_request it tells h = tells_still standing it _ tells h refl
line_tells standing (take_step number terms) it tells h = tells_still standing it _ tells h.2 (step_keeps standing h.0)
line_tells standing (save name) it tells h = save_tells standing name it tells h
line_tells standing (replay name) it tells h = replay_tells standing name it tells h
line_tells standing (show_normal terms) it tells h = tells_still standing it _ tells h.2 refl
line_tells standing (compare terms) it tells h = tells_still standing it _ tells h.2 refl
line_tells standing (list_values name size) it tells h = tells_still standing it _ tells h.2 refl
line_tells standing (list_instances number size) it tells h = tells_still standing it _ tells h.2 refl

-- ---- Reports

-- a standing that is reached is lawful
reached_lawful : (begun : Beginning) (standing : Standing) → CanBegin begun → IsReached begun standing → IsLawfulStanding standing
reached_lawful begun standing can h = record {
  over = subst (λ (it : SessionBasis). IsStateOver it (first_situation standing.progress).state) (sym h.basis)
      (subst (λ (it : Situation). IsStateOver begun.basis it.state) (sym h.start) can.over);
  lawful = subst (λ (it : SessionBasis). IsLawful it standing.progress) (sym h.basis) h.lawful;
}

module _ (laws : LinesComeToOneThing) (begun : Beginning) (can : CanBegin begun) where
  same_answer : (standing : Standing) (line : List ℕ) (one other : Befallen) → IsReached begun standing → Tells standing.texts
      → RequestComesTo standing (request_of line) one → RequestComesTo standing (request_of line) other → one.faulty ≡ false
      → other.faulty ≡ false
      → one ≡ other
  same_answer standing line one other reached tells h k f g =
      laws.once standing tells.told (request_of line) one other (reached_lawful begun standing can reached) tells.is h k f g

  pub one_report : (standing last other : Standing) (lines : List (List ℕ)) (text another : List ℕ) → IsReached begun standing
      → Tells standing.texts → AreAnswered begun standing lines text last → AreAnswered begun standing lines another other
      → (text ≡ another) × (last ≡ other)
  one_report standing _ _ [] _ _ reached tells (all_answered _) (all_answered _) = (refl, refl)
  one_report standing _ _ (line ∷ lines) _ _ reached tells (last_answered _ _ _ it h q) (last_answered _ _ _ it' h' q') =
      let same : it ≡ it' = same_answer standing line it it' reached tells h.comes h'.comes h.steady h'.steady in (
        ap (λ (it : Befallen). it.reply.text) same,
        ap (λ (it : Befallen). it.reply.next) same,
      )
  one_report standing _ _ (line ∷ lines) _ _ reached tells (last_answered _ _ _ it h q) (one_answered _ last' _ _ it' text' h' q' rest') =
      let same : it ≡ it' = same_answer standing line it it' reached tells h.comes h'.comes h.steady h'.steady in
      absurd (true≢false (sym q ∙ (ap (λ (it : Befallen). it.reply.quits) same ∙ q')))
  one_report standing _ _ (line ∷ lines) _ _ reached tells (one_answered _ last _ _ it text h q rest) (last_answered _ _ _ it' h' q') =
      let same : it ≡ it' = same_answer standing line it it' reached tells h.comes h'.comes h.steady h'.steady in
      absurd (true≢false (sym q' ∙ (ap (λ (it : Befallen). it.reply.quits) (sym same) ∙ q)))
  one_report standing _ _ (line ∷ lines) _ _ reached tells (one_answered _ last _ _ it text h q rest)
      (one_answered _ last' _ _ it' text' h' q' rest') =
      let same : it ≡ it' = same_answer standing line it it' reached tells h.comes h'.comes h.steady h'.steady in
      let both : (text ≡ text') × (last ≡ last') =
      one_report it.reply.next last last' lines text text' h.reached (line_tells standing (request_of line) it tells h.comes) rest
      (subst (λ (b : Befallen). AreAnswered begun b.reply.next lines text' last') (sym same) rest') in
      (λ i. (same i).reply.text ++ both.0 i, both.1)
