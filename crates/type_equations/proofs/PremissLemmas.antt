-- Premisses that are read one after another.
use Rattle.std.proofs.Common.{List, [], ◌∷◌, ◌++◌, inl, inr}
use Rattle.syntax_trees.specs.WrittenEquation.{WrittenPremiss}
use Rattle.type_definitions.specs.TypeFault.{TypeFault}
use Rattle.type_definitions.specs.Presentation.{Presentation}
use Rattle.type_definitions.specs.DeclaredEquations.{AskedEquation, AreReadPremisses, IsReadPremiss, IsPremissFault, IsFirstPremissFault}

pub read_append : (p : Presentation) (asked : AskedEquation) (ws : List WrittenPremiss) (w : WrittenPremiss)
    → AreReadPremisses p asked ws → IsReadPremiss p asked w.left w.right → AreReadPremisses p asked (ws ++ w ∷ [])
read_append p asked [] w all one = (one, tt)
read_append p asked (v ∷ vs) w all one = (all.0, read_append p asked vs w all.1 one)

pub fault_behind : (p : Presentation) (asked : AskedEquation) (ws rest : List WrittenPremiss) (w : WrittenPremiss) (fault : TypeFault)
    → AreReadPremisses p asked ws → IsPremissFault p asked w.left w.right fault
    → IsFirstPremissFault p asked (ws ++ w ∷ rest) fault
fault_behind p asked [] rest w fault all one = inl one
fault_behind p asked (v ∷ vs) rest w fault all one = inr (all.0, fault_behind p asked vs rest w fault all.1 one)
