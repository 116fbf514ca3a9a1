-- Worked cases of names that mean what they are printed for, and of names that do not.
use Rattle.std.specs.Prelude.{◌≡◌, ℕ, List, [], ◌∷◌, Option, None, Some, codes}
use Rattle.lotos_base.specs.Signature.{Signature, prefix_form}
use Rattle.lotos_base.specs.Equation.{Place, Variable}
use Rattle.lotos_base.specs.Term.{Term, variable, node, no_terms}
use Rattle.lotos_base.specs.WrittenTerm.{PlacedName, WrittenTerm, written, no_written}
use Rattle.syntax_trees.specs.WrittenVariable.{WrittenVariable}
use Rattle.syntax_trees.specs.WrittenBehaviour as tree
use Rattle.syntax_trees.specs.WrittenBehaviour.{WrittenBehaviour, offer_value}
use Rattle.behaviour_semantics.specs.Behaviour.{Behaviour, stop, action, hide, choose_value, give, Process, Specification}
use Rattle.printed_texts.specs.BehaviourText.{Naming, behaviour_text}
use Rattle.session_histories.specs.HandedOn.{printed_sample_signature, printed_a}
use Rattle.scope_parts.specs.Definitions.{first_numbers}
use Rattle.session_laws.specs.WrittenAs.{IsWrittenAs}
use Rattle.session_laws.specs.TermMeanings.{TermMeans}
use Rattle.session_laws.specs.Meanings.{NoneStandsTwice, PrintedScope, BehaviourMeans}
use Rattle.session_laws.specs.WrittenBehaviours.{IsBehaviourWritten}
use Rattle.session_laws.specs.WrittenSpecifications.{called_names, renamed}

-- a variable of the sort `A`
abbrev pub sample_variable : List ℕ → Variable
sample_variable name = record { name = name; number = 0; sort = 0 }

-- somewhere in a text
abbrev pub somewhere : Place
somewhere = record { text = 0; line = 1; column = 1 }

abbrev pub placed : List ℕ → PlacedName
placed name = record { place = somewhere; name = name }

abbrev pub written_name_alone : List ℕ → WrittenTerm
written_name_alone name = written (record { place = somewhere; name = name; form = prefix_form; sorts = [] }) no_written

-- a gate `g` and processes `P` and `p`, as they are and as they are given names
abbrev pub sample_naming : List (List ℕ) → Naming
sample_naming processes =
    record { signature = printed_sample_signature; gates = codes "g" ∷ []; processes = processes; truth = None }

abbrev pub nothing_visible : PrintedScope
nothing_visible = record { gates = []; variables = []; names = []; numbers = first_numbers }

-- `hide g in choice x:A [] g !x; stop`, with the gate and the variable of these numbers
abbrev pub hidden_choice : ℕ → Variable → Behaviour
hidden_choice gate x = hide (gate ∷ []) (choose_value x (action gate (give (variable x.number x.sort) ∷ []) None stop))

abbrev pub written_choice : WrittenBehaviour
written_choice =
    tree.hide somewhere (placed (codes "g") ∷ [])
    (tree.choose_value somewhere
    (record { place = somewhere; name = codes "x"; sort = codes "A"; sort_place = somewhere } ∷ [])
    (tree.action somewhere (codes "g") (offer_value (written_name_alone (codes "x")) ∷ []) None (tree.stop somewhere)))

abbrev pub empty_process : List ℕ → Process
empty_process name = record { name = name; gates = []; parameters = []; exit = None; body = stop }

abbrev pub two_processes : List ℕ → List ℕ → Specification
two_processes one other = record {
  name = codes "S";
  gate_names = [];
  gates = [];
  parameters = [];
  exit = None;
  body = stop;
  processes = empty_process one ∷ empty_process other ∷ [];
}

pub record MeaningExamples : Type 0 where
  -- a constant means itself where no variable has its name, and not where one has, in either case of letters
  pub plain_constant : TermMeans printed_sample_signature (sample_variable (codes "x") ∷ []) (sample_variable (codes "x") ∷ []) printed_a 0
  pub hidden_constant : ¬ TermMeans printed_sample_signature (sample_variable (codes "A") ∷ [])
      (sample_variable (codes "A") ∷ []) printed_a 0
  -- a constant is written by its name alone, and so is a variable
  pub written_constant : IsWrittenAs printed_sample_signature [] printed_a (written_name_alone (codes "a"))
  pub written_variable : IsWrittenAs printed_sample_signature (sample_variable (codes "x") ∷ []) (variable 0 0)
      (written_name_alone (codes "x"))
  -- a behaviour whose gate and variable have the next numbers means itself, and is written as its text says
  pub text : behaviour_text (sample_naming []) [] (hidden_choice 0 (sample_variable (codes "x")))
      ≡ codes "hide g in choice x:A [] g !x; stop"
  pub means : BehaviourMeans (sample_naming []) [] nothing_visible (hidden_choice 0 (sample_variable (codes "x")))
  pub writes : IsBehaviourWritten (sample_naming []) [] (hidden_choice 0 (sample_variable (codes "x"))) written_choice
  -- the gate of another number does not
  pub other_number : ¬ BehaviourMeans (sample_naming []) [] nothing_visible (hidden_choice 1 (sample_variable (codes "x")))
  -- `P` and `p` are one name, `P` and `p_2` are two
  pub one_name : ¬ NoneStandsTwice []
      (called_names (sample_naming (codes "P" ∷ codes "p" ∷ [])) 0 (two_processes (codes "P") (codes "p")).processes)
  pub two_names : NoneStandsTwice []
      (called_names (sample_naming (codes "P" ∷ codes "p_2" ∷ [])) 0 (two_processes (codes "P") (codes "p")).processes)
  pub given_names : renamed (sample_naming (codes "P" ∷ codes "p_2" ∷ [])) (two_processes (codes "P") (codes "p"))
      ≡ two_processes (codes "P") (codes "p_2")
