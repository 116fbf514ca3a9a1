-- One member of each kind, with the first pair that made it, tells what clashes with all that came.
use Rattle.std.specs.Prelude.{◌≡◌, true, false, ◌||◌, ◌&&◌, List, [], ◌∷◌}
use Rattle.std.specs.List.{list_any}
use Rattle.sort_terms.specs.WellFormedTest.{all_differ}
use Rattle.type_definitions.specs.Presentation.{first_position, with_new}
use Rattle.type_definitions.specs.ActualisationFaults.{Coming, made_by_two}
use Rattle.type_renaming.specs.Condensed.{Kind, members_clash, absorbed, images_of, makers_of, pair_at, place_of_pair}
use Rattle.type_renaming.specs.Noting.{maker_at, maker_noted, two_makers}

pub record TellsClashes (A : Type 0) (k : Kind A) : Type 0 where
  -- the images are kept as they first appear
  pub images : (cs : List (Coming A)) (x : Coming A)
      → images_of (absorbed k cs x) ≡ with_new (λ (a : A) (b : A). k.one a b && k.origin a b) (images_of cs) (x.image ∷ [])
  -- behind a member that clashes with none, a further one clashes with what is kept as with all that came
  pub clashes_stay : (cs : List (Coming A)) (z x : Coming A) → list_any (members_clash k x) cs ≡ false
      → list_any (members_clash k z) (absorbed k cs x) ≡ (list_any (members_clash k z) cs || members_clash k z x)
  -- one that is new clashes where one of its name, form and profile is there
  pub of_new : (cs : List (Coming A)) (x : Coming A)
      → list_any (λ (d : A). k.one x.image d && k.origin x.image d) (images_of cs) ≡ false
      → list_any (members_clash k x) cs ≡ list_any (k.one x.image) (images_of cs)
  -- one that is there clashes where another pair made it
  pub of_old : (cs : List (Coming A)) (x : Coming A) → all_differ k.one (images_of cs) ≡ true
      → list_any (λ (d : A). k.one x.image d && k.origin x.image d) (images_of cs) ≡ true
      → list_any (members_clash k x) cs ≡ made_by_two x.pair (pair_at k cs x.image)
  -- the maker of each is kept by its number, and a new one stands at the end
  pub makers : (cs : List (Coming A)) (x : Coming A)
      → makers_of (absorbed k cs x)
      ≡ maker_noted (makers_of cs) (first_position (λ (d : A). k.one x.image d && k.origin x.image d) (images_of cs)) (place_of_pair x.pair)
  pub maker : (cs : List (Coming A)) (x : Coming A)
      → made_by_two x.pair (pair_at k cs x.image)
      ≡ two_makers (place_of_pair x.pair)
      (maker_at (makers_of cs) (first_position (λ (d : A). k.one x.image d && k.origin x.image d) (images_of cs)))
