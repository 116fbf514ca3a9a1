-- The names of sorts without their places.
use Rattle.std.proofs.Common.{◌≡◌, ℕ, List, [], ◌∷◌, map, refl, ap}
use Rattle.lotos_base.specs.declared.places.Place.{Place}
use Rattle.lotos_base.specs.declared.names.Name.{Name}
use Rattle.lotos_base.specs.Name.{spelling}
use Rattle.lotos_base.specs.WrittenTerm.{PlacedName}
use Rattle.lotos_base.specs.WrittenView.{placed_name_of}

pub names_of_sorts : (sorts : List (Place × Name)) →
    map (λ (sort : PlacedName). sort.name) (map placed_name_of sorts) ≡ map (λ (sort : Place × Name). spelling sort.1) sorts
names_of_sorts [] = refl
names_of_sorts (sort ∷ sorts) = ap (λ (names : List (List ℕ)). spelling sort.1 ∷ names) (names_of_sorts sorts)
