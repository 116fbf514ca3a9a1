-- What answers lines: what a line may come to where a session stands, and where a line may leave the session that was not
-- answered for want of memory.
use Rattle.std.specs.Prelude.{ℕ, Bool, List}

-- what comes of one line: the text that is written, where the session stands behind it, and whether the line ends the session
pub record Reply (State : Type 0) : Type 0 where
  pub text : List ℕ
  pub next : State
  pub quits : Bool

pub record Machine (State : Type 0) : Type 1 where
  pub comes : State → List ℕ → Reply State → Type 0
  pub leaves : State → List ℕ → State → Type 0
