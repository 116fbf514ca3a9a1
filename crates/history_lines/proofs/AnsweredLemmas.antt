-- The lines that a server of sessions answered.
use Rattle.std.proofs.Common.{◌≡◌, ◌⊎◌, inl, inr, ℕ, ◌<◌, ◌≤◌, Bool, true, false, List, [], ◌∷◌, ◌++◌, refl, sym, subst, ◌∙◌, arith}
use Rattle.lotos_base.specs.Counts.{Rises, last_count}
use Rattle.line_server.specs.Machine.{Reply}
use Rattle.line_server.specs.Answered as served
use Rattle.line_server.specs.Answered.{no_line, ended_by, behind_one}
use Rattle.history_lines.specs.Standing.{Standing}
use Rattle.history_lines.specs.Befallen.{Befallen}
use Rattle.history_lines.specs.Serving.{ShelfCounts}
use Rattle.history_lines.specs.SessionMachine.{SessionPoint, LineIs, history_machine}
use Rattle.history_lines.specs.Beginning.{Beginning, CanBegin}
use Rattle.history_lines.specs.Reached.{IsReached}
use Rattle.history_lines.specs.Answered.{IsAnswered, AreAnswered, all_answered, last_answered, one_answered}
use Rattle.history_lines.specs.ReportLaws.{LinesLeadOn, ServedLinesAreAnswered}

-- ---- Faults

-- the count of the shelf never falls
pub count_rises : (faulty : Bool) (before after : ℕ) → ShelfCounts faulty before after → before ≤ after
count_rises true before after (inl h) = omega (arith, h)
count_rises true before after (inr h) = omega (arith, h.0, h.1)
count_rises false before after h = omega (arith, h)

pub counts_rise : (before last : SessionPoint) (lines : List (List ℕ)) (text : List ℕ) (quits : Bool)
    → served.Answered history_machine before lines text last quits → before.faults ≤ last.faults
counts_rise before last lines text quits (no_line _) = omega arith
counts_rise before last lines text quits (ended_by _ line rest reply comes ends) =
    count_rises comes.it.faulty before.faults reply.next.faults comes.counted
counts_rise before last lines text quits (behind_one _ _ line rest reply more _ comes stays later) =
    omega (
      arith,
      count_rises comes.it.faulty before.faults reply.next.faults comes.counted,
      counts_rise reply.next last rest more quits later,
    )

-- where it is what it was in the end, and below its last value, no line met a fault
no_fault : (faulty : Bool) (before between last : ℕ) → ShelfCounts faulty before between → between ≤ last → last ≡ before
    → before < last_count → (faulty ≡ false) × (between ≡ before)
no_fault true before between last (inl h) rises same below = absurd (omega (arith, h, rises, same))
no_fault true before between last (inr h) rises same below = absurd (omega (arith, h.0, below))
no_fault false before between last h rises same below = (refl, h)

-- ---- The lines

module _ (laws : LinesLeadOn) (begun : Beginning) (can : CanBegin begun) where
  is_answered : (before : SessionPoint) (line : List ℕ) (reply : Reply SessionPoint) (comes : LineIs before line reply)
      → IsReached begun before.standing → comes.it.faulty ≡ false → IsAnswered begun before.standing line comes.it
  is_answered before line reply comes is steady =
      record { comes = comes.comes; steady = steady; reached = laws.goes_on begun before.standing line comes.it can is comes.comes }

  pub all_of : (before last : SessionPoint) (lines : List (List ℕ)) (text : List ℕ) (quits : Bool) → IsReached begun before.standing
      → before.faults < last_count → last.faults ≡ before.faults
      → served.Answered history_machine before lines text last quits
      → AreAnswered begun before.standing lines text last.standing
  all_of before last lines text quits is below same (no_line _) = all_answered before.standing
  all_of before last lines text quits is below same (ended_by _ line rest reply comes ends) =
      let steady = no_fault comes.it.faulty before.faults reply.next.faults last.faults comes.counted (omega arith) same below in
      subst (λ (it : List ℕ). AreAnswered begun before.standing (line ∷ rest) it reply.next.standing) (sym comes.text)
      (subst (λ (it : Standing). AreAnswered begun before.standing (line ∷ rest) comes.it.reply.text it) (sym comes.next)
      (last_answered before.standing line rest comes.it (is_answered before line reply comes is steady.0) (sym comes.quits ∙ ends)))
  all_of before last lines text quits is below same (behind_one _ _ line rest reply more _ comes stays later) =
      let steady = no_fault comes.it.faulty before.faults reply.next.faults last.faults comes.counted
      (counts_rise reply.next last rest more quits later) same below in
      let here = is_answered before line reply comes is steady.0 in
      let reached = subst (λ (it : Standing). IsReached begun it) (sym comes.next) here.reached in
      let behind = all_of reply.next last rest more quits reached (omega (arith, steady.1, below)) (same ∙ sym steady.1) later in
      subst (λ (it : List ℕ). AreAnswered begun before.standing (line ∷ rest) (it ++ more) last.standing) (sym comes.text)
      (one_answered before.standing last.standing line rest comes.it more here (sym comes.quits ∙ stays)
      (subst (λ (it : Standing). AreAnswered begun it rest more last.standing) comes.next behind))

pub served_answered : LinesLeadOn → ServedLinesAreAnswered
served_answered laws begun before last lines text quits can is below same answered =
    all_of laws begun can before last lines text quits is below same answered
