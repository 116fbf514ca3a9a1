-- What the code replays lines of traces over, and what comes of them.
use Rattle.std.specs.Prelude.{◌≡◌, ◌≢◌, ℕ, List, ◌∷◌, length, None, Some}
use Rattle.lotos_base.specs.WrittenTerm.{WrittenTerm}
use Rattle.lotos_base.specs.Signature.{Signature}
use Rattle.sort_terms.specs.ReaderView.{signature_read}
use Rattle.sort_terms.specs.SignatureView.{signature_of}
use Rattle.sort_terms.specs.declared.sorted.Sorted.{Sorted}
use Rattle.behaviour_tree.specs.BehaviourView.{terms_of}
use Rattle.behaviour_semantics.specs.Solving.{Entry as PlainEntry}
use Rattle.menu_builder.specs.HandedOn.{Entry, Menu}
use Rattle.menu_builder.specs.Menus.{entries_in}
use Rattle.session_histories.specs.Refusal.{StepRefusal, entry_numbered, number_refusal}
use Rattle.session_lines.specs.HandedOn.{state_text}
use Rattle.behaviour_tree.specs.DefinitionView.{specification_of}
use Rattle.behaviour_tree.specs.StateView.{state_of}
use Rattle.behaviour_tree.specs.declared.definitions.Spec.{Spec}
use Rattle.behaviour_tree.specs.declared.states.State.{State}
use Rattle.sort_terms.specs.declared.signatures.Signature as code
use Rattle.session_histories.specs.Session.{SessionBasis, Progress}
use Rattle.session_histories.specs.TraceLine.{lines_of, kept_state}
use Rattle.session_histories.specs.Replay.{LineRefusal, bad_line, step_refused, state_differs, ReplayRefusal, other_specification, AreRead, IsOneMisread, StateComesTo, goes_on}
use Rattle.session_log.specs.RefusalView.{TellsReplay}
use Rattle.session_log.specs.declared.refusals.ReplayFault.{ReplayFault}
use Rattle.session_log.specs.Entries.{AreGiven, IsEntryAt}
use Rattle.session_log.specs.declared.replaying.TraceGround.{TraceGround}

-- The signature by which labels are printed and that over which terms are read are those of the data.
pub record IsGroundOver (signature : Signature) (base : TraceGround) : Type 0 where
  pub printed : signature_of base.signature.now ≡ signature
  pub read : signature_read base.reader ≡ signature

-- The values are the readings of the terms at the sorts of the variables of the entry with this number.
pub record AreReadAt (signature : Signature) (menu : Menu) (number : ℕ) (terms : List WrittenTerm) (values : List Sorted) : Type 0 where
  pub entry : Entry
  pub listed : IsEntryAt menu number entry
  pub read : AreRead signature entry.vars.items terms (terms_of values)
  pub given : AreGiven signature values

-- Why they are not read: there is no such entry, or not as many terms as it has variables; or one of them has not one reading.
pub data IsReadRefusal (signature : Signature) (menu : Menu) (number : ℕ) (terms : List WrittenTerm) : LineRefusal → Type 0 where
  are_miscounted :
      (refusal : StepRefusal) →
      number_refusal (entries_in menu) number (length terms) ≡ Some refusal →
      IsReadRefusal signature menu number terms (step_refused refusal)
  are_misread :
      (entry : PlainEntry) →
      entry_numbered (entries_in menu) number ≡ Some entry →
      length terms ≡ length entry.variables →
      IsOneMisread signature entry.variables terms →
      IsReadRefusal signature menu number terms bad_line

-- ---- The lines of states

-- the text of a state
abbrev pub written_state : code.Signature → Spec → State → List ℕ
written_state signature spec state = state_text (signature_of signature) (specification_of spec) (state_of state)

-- Why a line is refused that has to keep a state with this text.
pub data IsStateRefusal (line text : List ℕ) : LineRefusal → Type 0 where
  keeps_none : kept_state line ≡ None → IsStateRefusal line text bad_line
  keeps_other : (kept : List ℕ) → kept_state line ≡ Some kept → kept ≢ text → IsStateRefusal line text (state_differs kept text)

-- The line of a state was taken from the text that is left, and it keeps the state where the session stands.
pub record IsStatedBehind (basis : SessionBasis) (progress : Progress) (rest more : List ℕ) : Type 0 where
  pub state : List ℕ
  pub cut : lines_of rest ≡ state ∷ lines_of more
  pub is : StateComesTo basis progress (Some state) (goes_on progress)

-- the fault says that the trace is of the specification with this name
abbrev pub IsOfOther : List ℕ → ReplayFault → Type 0
IsOfOther name fault = TellsReplay (λ (refusal : ReplayRefusal). refusal ≡ other_specification name) fault
