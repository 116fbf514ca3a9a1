-- The behaviours that derivations reach, one after another.
use Rattle.std.specs.Prelude.{List, [], ◌∷◌}
use Rattle.lotos_base.specs.Term.{Term}
use Rattle.lotos_base.specs.Equation.{Data}
use Rattle.behaviour_semantics.specs.Behaviour.{Behaviour, Process}
use Rattle.behaviour_semantics.specs.Label.{Label}
use Rattle.behaviour_semantics.specs.Shape.{Derivation}
use Rattle.behaviour_semantics.specs.Derives.{GivesMove}

module _ (data_ : Data) (represent : Term → Term) (processes : List Process) where
  -- From the first behaviour the derivations lead to the last one, with values represented by these terms on the way.
  pub data Reaches : Behaviour → List Derivation → Behaviour → Type 0 where
    at_start : {b : Behaviour} → Reaches b [] b
    one_move :
        {b next target : Behaviour} {d : Derivation} {ds : List Derivation} {label : Label} →
        GivesMove data_ represent processes b d label next →
        Reaches next ds target →
        Reaches b (d ∷ ds) target
