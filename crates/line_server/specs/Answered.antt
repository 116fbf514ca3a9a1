-- Lines that are answered one after another, up to a line that ends the session, or up to one at which serving stopped.
use Rattle.std.specs.Prelude.{◌≡◌, ◌⊎◌, ℕ, Bool, true, false, List, [], ◌∷◌, ◌++◌, Option}
use Rattle.line_server.specs.Machine.{Machine, Reply}
use Rattle.line_server.specs.Writing.{WritesAll, WritesUpTo}

-- From one state to another the lines are answered in order; this is the text of all answers, and whether a line ended the
-- session. Behind such a line none is answered.
pub data Answered {State : Type 0} (machine : Machine State) : State → List (List ℕ) → (text : List ℕ) → State → (quits : Bool) → Type 0
  where
    no_line : (state : State) → Answered machine state [] [] state false
    ended_by :
        (state : State) (line : List ℕ) (lines : List (List ℕ)) (reply : Reply State) →
        machine.comes state line reply →
        reply.quits ≡ true →
        Answered machine state (line ∷ lines) reply.text reply.next true
    behind_one :
        (state last : State) (line : List ℕ) (lines : List (List ℕ)) (reply : Reply State) (text : List ℕ) (quits : Bool) →
        machine.comes state line reply →
        reply.quits ≡ false →
        Answered machine reply.next lines text last quits →
        Answered machine state (line ∷ lines) (reply.text ++ text) last quits

-- The first of these lines were answered, with this text, and the others were not.
pub record AnsweredSome {State : Type 0} (machine : Machine State) (state : State) (lines : List (List ℕ)) (text : List ℕ) (between : State)
    (later : List (List ℕ)) : Type 0 where
  pub first : List (List ℕ)
  pub are : lines ≡ first ++ later
  pub answered : Answered machine state first text between false

-- The output failed at a byte of an answer: the answers before it were written whole, and the session stands behind the line
-- whose answer it is.
pub record FailedAt {State : Type 0} (machine : Machine State) (state : State) (lines : List (List ℕ))
    (written written_after : Option (List ℕ))
    (after : State) : Type 0 where
  pub text : List ℕ
  pub between : State
  pub line : List ℕ
  pub later : List (List ℕ)
  pub answered : AnsweredSome machine state lines text between (line ∷ later)
  pub reply : Reply State
  pub comes : machine.comes between line reply
  pub left : after ≡ reply.next
  pub wrote : WritesUpTo written written_after text reply.text

-- where want of memory leaves a session that stands before these lines: there, or where the first of them may leave it
abbrev pub LeftAt : {State : Type 0} → Machine State → State → List (List ℕ) → State → Type 0
LeftAt machine between [] after = after ≡ between
LeftAt machine between (line ∷ later) after = (after ≡ between) ⊎ machine.leaves between line after

-- Memory was wanted: the answers to the lines before were written whole, and nothing behind them.
pub record WantedAt {State : Type 0} (machine : Machine State) (state : State) (lines : List (List ℕ))
    (written written_after : Option (List ℕ))
    (after : State) : Type 0 where
  pub text : List ℕ
  pub between : State
  pub later : List (List ℕ)
  pub answered : AnsweredSome machine state lines text between later
  pub left : LeftAt machine between later after
  pub wrote : WritesAll written written_after text
