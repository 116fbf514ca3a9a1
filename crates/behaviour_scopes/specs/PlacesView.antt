-- The places of a behaviour of the code: those of its signs and of the names of its calls.
use Rattle.std.specs.Prelude.{List, [], ◌∷◌, ◌++◌}
use Rattle.lotos_base.specs.Equation.{Place}
use Rattle.lotos_base.specs.WrittenView.{text_place_of}
use Rattle.behaviour_tree.specs.declared.behaviours.Beh.{Beh, Stop, Exit, Action', Inner', Guard', Choice', Parallel', Hide', Enable', Disable', Let', ChooseValue', ChooseGate', ParGate', Call}

-- in the order of the text
abbrev pub places_in : Beh → List Place
places_in Stop = []
places_in (Exit values) = []
places_in (Action' _ offers test _ next) = places_in next
places_in (Inner' _ next) = places_in next
places_in (Guard' test _ next) = places_in next
places_in (Choice' place _ left _ right) = places_in left ++ text_place_of place ∷ places_in right
places_in (Parallel' place _ _ left _ right) = places_in left ++ text_place_of place ∷ places_in right
places_in (Hide' _ _ next) = places_in next
places_in (Enable' place _ left _ _ right) = places_in left ++ text_place_of place ∷ places_in right
places_in (Disable' place _ left _ right) = places_in left ++ text_place_of place ∷ places_in right
places_in (Let' bindings _ next) = places_in next
places_in (ChooseValue' _ _ next) = places_in next
places_in (ChooseGate' _ _ _ next) = places_in next
places_in (ParGate' _ _ _ _ next) = places_in next
places_in (Call place _ _ values) = text_place_of place ∷ []
