-- The name that a member of a list declares, if it declares one, and what a table of names knows once it was entered.
use Rattle.std.specs.Prelude.{◌≡◌, List, Option, None, Some, MatchBool}
use Rattle.lotos_base.specs.declared.places.Place.{Place}
use Rattle.lotos_base.specs.declared.names.Name.{Name}
use Rattle.lotos_base.specs.declared.written_terms.Written.{Written}
use Rattle.lotos_base.specs.WrittenTerm.{PlacedName}
use Rattle.lotos_base.specs.WrittenView.{placed_name_of}
use Rattle.syntax_trees.specs.TreeViews.{written_variable_of, gate_choice_of}
use Rattle.syntax_trees.specs.declared.named.VarText.{VarText}
use Rattle.syntax_trees.specs.declared.behaviours.GateText.{GateText}
use Rattle.syntax_trees.specs.declared.behaviours.OfferText.{OfferText}
use Rattle.syntax_trees.specs.declared.behaviours.OfferText.TheVariants.{Give, Ask}
use Rattle.scope_parts.specs.Scope.{Binding, bind, is_bound}
use Rattle.scope_parts.specs.Sorts.{placed_variable}
use Rattle.scope_parts.specs.Choices.{placed_choice}

abbrev pub declared_name : Place × Name → Option PlacedName
declared_name name = Some (placed_name_of name)

abbrev pub declared_variable : VarText → Option PlacedName
declared_variable text = Some (placed_variable (written_variable_of text))

abbrev pub declared_gate : GateText → Option PlacedName
declared_gate text = Some (placed_choice (gate_choice_of text))

abbrev pub declared_binding : VarText × Written → Option PlacedName
declared_binding binding = declared_variable binding.0

abbrev pub declared_offer : OfferText → Option PlacedName
declared_offer (Give term) = None
declared_offer (Ask text) = declared_variable text

-- a name that is bound is found; another one is bound
abbrev pub Enters : Option PlacedName → List Binding → Option PlacedName → List Binding → Type 0
Enters None old found new = (found ≡ None) × (new ≡ old)
Enters (Some name) old found new =
    MatchBool (is_bound old name.name) (found ≡ Some name) ((found ≡ None) × (new ≡ bind name.name 0 old))
