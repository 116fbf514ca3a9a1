-- The text of a state is made of printable characters and of names.
use Rattle.std.specs.Prelude.{◌≡◌, ℕ, List, Bool, true}
use Rattle.lotos_base.specs.Signature.{Signature, Sort, Operation}
use Rattle.behaviour_semantics.specs.Behaviour.{Behaviour, Process, Specification}
use Rattle.behaviour_semantics.specs.WellFormed.{Every}
use Rattle.printed_texts.specs.BehaviourText.{state_text}
use Rattle.session_histories.specs.BoundNames.{bound_names}
use Rattle.session_histories.specs.TextBytes.{AllPass, is_printable, IsOnOneLine}

-- The names that stand in the text of the behaviour are such names: those of sorts, operations, gates and processes, and those of
-- the variables that it binds.
pub record HaveNames (IsName : List ℕ → Type 0) (signature : Signature) (specification : Specification) (b : Behaviour) : Type 0 where
  pub sorts : Every (λ (s : Sort). IsName s.name) signature.sorts
  pub operations : Every (λ (o : Operation). IsName o.name) signature.operations
  pub gates : Every IsName specification.gate_names
  pub processes : Every (λ (p : Process). IsName p.name) specification.processes
  pub variables : Every IsName (bound_names b)

pub record StateTextsAreOfNames : Type 0 where
  -- what printable characters and the bytes of the names pass, all bytes of the text pass
  pub passed :
      (passes : ℕ → Bool) (signature : Signature) (specification : Specification) (b : Behaviour) →
      ((byte : ℕ) → is_printable byte ≡ true → passes byte ≡ true) →
      HaveNames (AllPass passes) signature specification b →
      AllPass passes (state_text signature specification b)
  -- so it stands on one line where the names do
  pub on_one_line :
      (signature : Signature) (specification : Specification) (b : Behaviour) →
      HaveNames IsOnOneLine signature specification b →
      IsOnOneLine (state_text signature specification b)
