-- A question comes to one thing at most.
use Rattle.std.specs.Prelude.{◌≡◌, ℕ, Bool, List}
use Rattle.lotos_base.specs.Equation.{Data}
use Rattle.lotos_base.specs.Signature.{Signature}
use Rattle.lotos_base.specs.Term.{Term}
use Rattle.session_lines.specs.Answer.{QuestionOutcome, IsNormalAnswer, IsComparison}

pub record QuestionsHaveOneAnswer : Type 0 where
  pub normal :
      (signature : Signature) (canon : Term → Term) (text : List ℕ) (one other : QuestionOutcome Term) →
      IsNormalAnswer signature canon text one →
      IsNormalAnswer signature canon text other →
      one ≡ other
  pub comparison :
      (data_ : Data) (text : List ℕ) (one other : QuestionOutcome Bool) →
      IsComparison data_ text one →
      IsComparison data_ text other →
      one ≡ other
