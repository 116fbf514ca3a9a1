-- The names that a list of formal gates declares.
use Rattle.std.proofs.Common.{◌≡◌, List, [], ◌∷◌, refl, ap}
use Rattle.std.specs.List.{filter_map}
use Rattle.lotos_base.specs.declared.places.Place.{Place}
use Rattle.lotos_base.specs.declared.names.Name.{Name}
use Rattle.lotos_base.specs.WrittenView.{placed_name_of}
use Rattle.syntax_trees.specs.TreeViews.{placed_names_of}
use Rattle.scope_parts.specs.Declares.{declared_name}

pub names_declared : (texts : List (Place × Name)) → filter_map declared_name texts ≡ placed_names_of texts
names_declared [] = refl
names_declared (text ∷ texts) = ap (λ names. placed_name_of text ∷ names) (names_declared texts)
