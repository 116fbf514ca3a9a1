-- The places that stay on a specification of the code.
use Rattle.std.specs.Prelude.{List, [], ◌∷◌, ◌++◌}
use Rattle.lotos_base.specs.Equation.{Place}
use Rattle.lotos_base.specs.WrittenView.{text_place_of}
use Rattle.behaviour_tree.specs.declared.definitions.Process.{Process}
use Rattle.behaviour_tree.specs.declared.definitions.Spec.{Spec}
use Rattle.behaviour_scopes.specs.PlacesView.{places_in}

-- of a process and of processes of the code
abbrev pub places_of_process : Process → List Place
places_of_process definition = text_place_of definition.place ∷ places_in definition.body

abbrev pub places_of_processes : List Process → List Place
places_of_processes [] = []
places_of_processes (definition ∷ definitions) = places_of_process definition ++ places_of_processes definitions

-- of a specification of the code
abbrev pub places_of : Spec → List Place
places_of spec = (text_place_of spec.place ∷ places_in spec.body.value) ++ places_of_processes spec.processes.items
