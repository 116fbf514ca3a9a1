-- The law of the texts of behaviours: their tokens are the words of these behaviours.
use Rattle.std.specs.Prelude.{◌≡◌, ℕ, List, Some, slice_get}
use Rattle.lotos_base.specs.Signature.{IsWellFormedSignature}
use Rattle.lotos_base.specs.Equation.{Variable}
use Rattle.behaviour_semantics.specs.Behaviour.{Behaviour, Process}
use Rattle.behaviour_semantics.specs.WellFormed.{Every}
use Rattle.printed_texts.specs.TermText.{variable_text}
use Rattle.printed_texts.specs.BehaviourText.{Naming, gate_text, called_text, behaviour_text}
use Rattle.scope_parts.specs.Scope.{Binding}
use Rattle.session_laws.specs.TextNames.{IsWordSpelling, HasTextNames}
use Rattle.declaration_laws.specs.DeclarationOrder.{gates_bound, variables_bound}
use Rattle.session_laws.specs.Meanings.{PrintedScope, BehaviourMeans}
use Rattle.session_laws.specs.PrintedWords.{behaviour_words}
use Rattle.session_laws.specs.WordLaws.{HasTextForm}
use Rattle.session_laws.specs.PieceLaws.{IsCutInto}

-- the name by which a gate is printed has the form that texts have
abbrev pub HasWordAsName : Naming → ℕ → Type 0
HasWordAsName naming gate = IsWordSpelling (gate_text naming gate)

-- and so the name of a variable
abbrev pub IsVariableNamed : Variable → Type 0
IsVariableNamed x = IsWordSpelling x.name

-- The names by which what is visible is printed have the form that texts have.
pub record HasScopeNames (naming : Naming) (scope : PrintedScope) : Type 0 where
  pub gates : Every (λ (b : Binding). HasWordAsName naming b.number) scope.gates
  pub variables : Every (λ (v : Variable). IsWordSpelling (variable_text scope.names v.number)) scope.variables

-- the names by which the processes are called
abbrev pub AreCalledByWords : Naming → List Process → Type 0
AreCalledByWords naming processes = (number : ℕ) (p : Process) → slice_get processes number ≡ Some p
    → IsWordSpelling (called_text naming number)

-- and the names of what the behaviour declares
pub record HasDeclaredNames (naming : Naming) (b : Behaviour) : Type 0 where
  pub gates : Every (HasWordAsName naming) (gates_bound b)
  pub variables : Every IsVariableNamed (variables_bound b)

-- The text of a behaviour whose names mean what they are printed for, and have the form that texts have, is cut into the words of the
-- behaviour.
abbrev pub BehaviourTextsAreWords : Type 0
BehaviourTextsAreWords = (number : ℕ) (naming : Naming) (processes : List Process) (scope : PrintedScope) (b : Behaviour)
    → IsWellFormedSignature naming.signature
    → HasTextNames naming.signature
    → AreCalledByWords naming processes
    → HasScopeNames naming scope
    → HasTextForm b
    → HasDeclaredNames naming b
    → BehaviourMeans naming processes scope b
    → IsCutInto number (behaviour_text naming scope.names b) (behaviour_words naming scope.names b)
