-- What a specification is written as with its processes in one `where`, none of them inside another.
use Rattle.std.specs.Prelude.{◌≡◌, ℕ, suc, List, [], ◌∷◌, Option, None, Some}
use Rattle.lotos_base.specs.Signature.{Signature}
use Rattle.lotos_base.specs.WrittenTerm.{PlacedName}
use Rattle.syntax_trees.specs.WrittenBehaviour.{WrittenBehaviour}
use Rattle.syntax_trees.specs.WrittenDefinition.{WrittenHeading, WrittenInners, inner_item, process, no_inner, inner_then, inners_of, WrittenSpecification}
use Rattle.behaviour_semantics.specs.Behaviour.{Process, Specification}
use Rattle.printed_texts.specs.TermText.{sort_text}
use Rattle.printed_texts.specs.BehaviourText.{Naming, called_text}
use Rattle.session_laws.specs.Meanings.{NoneStandsTwice}
use Rattle.session_laws.specs.WrittenBehaviours.{Correspond, IsVariableWritten, AreGatesWritten, IsBehaviourWritten}
use Rattle.session_laws.specs.MeaningLaws.{LeavesOutTruth}

-- ---- Headings and processes

-- a sort of `exit`
abbrev pub IsSortWritten : Signature → ℕ → PlacedName → Type 0
IsSortWritten signature sort w = w.name ≡ sort_text signature sort

abbrev pub IsFunctionalityWritten : Signature → Option (List ℕ) → Option (List PlacedName) → Type 0
IsFunctionalityWritten signature None None = Unit {0}
IsFunctionalityWritten signature None (Some names) = ⊥
IsFunctionalityWritten signature (Some sorts) None = ⊥
IsFunctionalityWritten signature (Some sorts) (Some names) = Correspond (IsSortWritten signature) sorts names

-- what stands behind the name in a heading, and the body
pub record IsDefinitionWritten (naming : Naming) (definition : Process) (heading : WrittenHeading) (body : WrittenBehaviour)
    : Type 0 where
  pub gates : AreGatesWritten naming definition.gates heading.gates
  pub parameters : Correspond (IsVariableWritten naming.signature) definition.parameters heading.parameters
  pub functionality : IsFunctionalityWritten naming.signature definition.exit heading.functionality
  pub body_written : IsBehaviourWritten naming definition.parameters definition.body body

-- The processes are these, one after the other, the first with this number, under the names that they are printed by.
abbrev pub AreProcessesWritten : Naming → ℕ → List Process → WrittenInners → Type 0
AreProcessesWritten naming next [] no_inner = Unit {0}
AreProcessesWritten naming next [] (inner_then inner others) = ⊥
AreProcessesWritten naming next (p ∷ processes) no_inner = ⊥
AreProcessesWritten naming next (p ∷ processes) (inner_then (inner_item item) others) = ⊥
AreProcessesWritten naming next (p ∷ processes) (inner_then (process heading body (inner_then first rest)) others) = ⊥
AreProcessesWritten naming next (p ∷ processes) (inner_then (process heading body no_inner) others) =
    (heading.name ≡ called_text naming next) × IsDefinitionWritten naming p heading body
    × AreProcessesWritten naming (suc next) processes others

-- ---- Specifications

-- the specification without its processes, as a definition
abbrev pub whole_of : Specification → Process
whole_of specification = record {
  name = specification.name;
  gates = specification.gates;
  parameters = specification.parameters;
  exit = specification.exit;
  body = specification.body;
}

pub record IsFlatlyWritten (naming : Naming) (specification : Specification) (text : WrittenSpecification) : Type 0 where
  pub named : text.heading.name ≡ specification.name
  pub whole : IsDefinitionWritten naming (whole_of specification) text.heading text.body
  pub processes : AreProcessesWritten naming 0 specification.processes (inners_of text.inner)

-- the names that processes are printed by, the first of which has this number
abbrev pub called_names : Naming → ℕ → List Process → List (List ℕ)
called_names naming next [] = []
called_names naming next (p ∷ processes) = called_text naming next ∷ called_names naming (suc next) processes

-- The naming knows the gates of the specification, leaves out the right sides that are `true`, and calls no two of its processes by one
-- name.
pub record IsFlatNaming (naming : Naming) (specification : Specification) : Type 0 where
  pub gates : naming.gates ≡ specification.gate_names
  pub truth : LeavesOutTruth naming
  pub distinct : NoneStandsTwice [] (called_names naming 0 specification.processes)

-- the processes under the names that they are printed by
abbrev pub renamed_processes : Naming → ℕ → List Process → List Process
renamed_processes naming next [] = []
renamed_processes naming next (p ∷ processes) =
    record {
      name = called_text naming next;
      gates = p.gates;
      parameters = p.parameters;
      exit = p.exit;
      body = p.body;
    }
    ∷ renamed_processes naming (suc next) processes

abbrev pub renamed : Naming → Specification → Specification
renamed naming specification = record {
  name = specification.name;
  gate_names = specification.gate_names;
  gates = specification.gates;
  parameters = specification.parameters;
  exit = specification.exit;
  body = specification.body;
  processes = renamed_processes naming 0 specification.processes;
}
