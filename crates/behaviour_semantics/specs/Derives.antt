-- Derivations of moves: which label and target a derivation gives a behaviour.
use Rattle.std.specs.Prelude.{◌≡◌, ℕ, zero, suc, List, [], ◌∷◌, Some}
use Rattle.lotos_base.specs.Term.{Term, variable}
use Rattle.lotos_base.specs.Equation.{Data}
use Rattle.lotos_base.specs.Substitution.{Substitution}
use Rattle.behaviour_semantics.specs.Behaviour.{Behaviour, Test, Process}
use Rattle.behaviour_semantics.specs.Label.{Label}
use Rattle.behaviour_semantics.specs.Rule.{as_given, AllHold, AreValues}
use Rattle.behaviour_semantics.specs.Shape.{Derivation}
use Rattle.behaviour_semantics.specs.Move.{move_of}

-- The leaves of a list by their numbers. A number past the end stands for itself.
abbrev pub leaves_in : List Term → Substitution
leaves_in [] k s = variable k s
leaves_in (v ∷ vs) zero s = v
leaves_in (v ∷ vs) (suc k) s = leaves_in vs k s

-- The derivation gives the behaviour this label and target, where bound values and the values of the label are the
-- terms that represent them: the table has that move, the leaves are ground values of the sorts that it wants, no more and no
-- fewer, and the data derive each equation that is asked.
pub record GivesMove (data_ : Data) (represent : Term → Term) (processes : List Process) (b : Behaviour) (d : Derivation)
    (label : Label) (target : Behaviour) : Type 0 where
  pub asked : List Test
  pub sorts : List ℕ
  pub move : move_of (record { signature = data_.signature; represent = represent; processes = processes })
      (leaves_in d.leaves) d.shape 0 b ≡ Some (record { label = label; target = target; asked = asked; sorts = sorts })
  pub leaves : AreValues data_.signature sorts d.leaves
  pub holds : AllHold data_ asked

-- The derivation derives the move, with values as they are given.
abbrev pub Derives : Data → List Process → Behaviour → Derivation → Label → Behaviour → Type 0
Derives data_ processes b d label target = GivesMove data_ as_given processes b d label target

-- The same with every value that is bound to a variable and every value of the label in canonical form.
abbrev pub DerivesCanonically : Data → (Term → Term) → List Process → Behaviour → Derivation → Label → Behaviour → Type 0
DerivesCanonically data_ canon processes b d label target = GivesMove data_ canon processes b d label target
