-- The answers to the lines of a session, one after another.
use Rattle.std.specs.Prelude.{◌≡◌, ℕ, true, false, List, [], ◌∷◌, ◌++◌}
use Rattle.history_lines.specs.Standing.{Standing}
use Rattle.history_lines.specs.Befallen.{Befallen}
use Rattle.history_lines.specs.Answer.{LineComesTo}
use Rattle.history_lines.specs.Beginning.{Beginning}
use Rattle.history_lines.specs.Reached.{IsReached}

-- A line comes to this, without a fault of the shelf, and leads to a state that is reached.
pub record IsAnswered (begun : Beginning) (standing : Standing) (line : List ℕ) (it : Befallen) : Type 0 where
  pub comes : LineComesTo standing line it
  pub steady : it.faulty ≡ false
  pub reached : IsReached begun it.reply.next

-- From one standing to another the lines are answered in order, and this is the text of all answers. Behind a line that ends the
-- session none is answered.
pub data AreAnswered (begun : Beginning) : Standing → List (List ℕ) → (text : List ℕ) → Standing → Type 0 where
  all_answered : (standing : Standing) → AreAnswered begun standing [] [] standing
  last_answered :
      (standing : Standing) (line : List ℕ) (lines : List (List ℕ)) (it : Befallen) →
      IsAnswered begun standing line it →
      it.reply.quits ≡ true →
      AreAnswered begun standing (line ∷ lines) it.reply.text it.reply.next
  one_answered :
      (standing last : Standing) (line : List ℕ) (lines : List (List ℕ)) (it : Befallen) (text : List ℕ) →
      IsAnswered begun standing line it →
      it.reply.quits ≡ false →
      AreAnswered begun it.reply.next lines text last →
      AreAnswered begun standing (line ∷ lines) (it.reply.text ++ text) last
