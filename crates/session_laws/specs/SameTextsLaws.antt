-- What is printed over data that are spelled alike: the same, but for the names of processes.
use Rattle.std.specs.Prelude.{◌≡◌, ℕ, List, [], None}
use Rattle.lotos_base.specs.Equation.{Data, Variable}
use Rattle.lotos_base.specs.Term.{Term}
use Rattle.behaviour_semantics.specs.Behaviour.{Behaviour, Specification}
use Rattle.behaviour_semantics.specs.Label.{Label}
use Rattle.behaviour_semantics.specs.Solving.{Entry}
use Rattle.certificate_theory.specs.SameData.{AreSameData}
use Rattle.declaration_laws.specs.SameSpecification.{AreSameSpecifications}
use Rattle.printed_texts.specs.BehaviourText.{Naming, process_names, behaviour_text, state_text}
use Rattle.printed_texts.specs.MenuText.{label_text, menu_text}
use Rattle.printed_texts.specs.ReportLines.{head_text}
use Rattle.printed_texts.specs.TermText.{term_text}
use Rattle.session_laws.specs.SameSpelling.{AreDataSpelledAlike}

-- The names in the one specification, but with the processes under the names that they have in the other one.
abbrev pub naming_with : Data → (one other : Specification) → Naming
naming_with data_ one other = record {
  signature = data_.signature;
  gates = one.gate_names;
  processes = process_names other;
  truth = None;
}

pub record TextsAgreeButForProcesses : Type 0 where
  -- data that are spelled alike are the same, and so the other way round
  pub same : (data_ other : Data) → AreDataSpelledAlike data_ other → AreSameData data_ other
  pub mutual_spelling : (data_ other : Data) → AreDataSpelledAlike data_ other → AreDataSpelledAlike other data_
  -- terms, labels and menus have the same texts
  pub terms :
      (data_ other : Data) (names : List Variable) (t : Term) →
      AreDataSpelledAlike data_ other →
      term_text data_.signature names t ≡ term_text other.signature names t
  pub labels :
      (data_ other : Data) (gates : List (List ℕ)) (label : Label) →
      AreDataSpelledAlike data_ other →
      label_text data_.signature gates label ≡ label_text other.signature gates label
  pub menus :
      (data_ other : Data) (gates : List (List ℕ)) (entries : List Entry) →
      AreDataSpelledAlike data_ other →
      menu_text data_.signature gates entries ≡ menu_text other.signature gates entries
  -- and so has the head of a report
  pub heads : (data_ other : Data) (name : List ℕ) → AreDataSpelledAlike data_ other → head_text name data_ ≡ head_text name other
  -- a state is printed as over the one, with the processes under the names that they have in the other
  pub states :
      (data_ other : Data) (one second : Specification) (b : Behaviour) →
      AreDataSpelledAlike data_ other →
      AreSameSpecifications one second →
      behaviour_text (naming_with data_ one second) [] b ≡ state_text other.signature second b
  -- which is the same text where no process has another name
  pub same_names :
      (data_ other : Data) (one second : Specification) (b : Behaviour) →
      AreDataSpelledAlike data_ other →
      AreSameSpecifications one second →
      process_names one ≡ process_names second →
      state_text data_.signature one b ≡ state_text other.signature second b
