-- Calls that lead back, by the distances to a process.
use Rattle.std.specs.Prelude.{◌≡◌, ◌<◌, ℕ, List, Option, None, Some}
use Rattle.process_checks.specs.Graph.{IsCallAt}
use Rattle.process_checks.specs.Ways.{distance_in}
use Rattle.process_checks.specs.declared.cycles.Back.{Back}

-- The call at the position leads back, in so many calls more.
pub record IsBackAt (graph : List (List ℕ)) (distances : List (Option ℕ)) (process position : ℕ) (back : Back) : Type 0 where
  pub placed : back.position ≡ position
  pub calls : IsCallAt graph process position back.process
  pub near : distance_in distances back.process ≡ Some back.distance

-- The first call of the process from which calls lead back.
pub record IsFirstBack (graph : List (List ℕ)) (distances : List (Option ℕ)) (process : ℕ) (back : Back) : Type 0 where
  pub calls : IsCallAt graph process back.position back.process
  pub near : distance_in distances back.process ≡ Some back.distance
  pub first : (k other : ℕ) → k < back.position → IsCallAt graph process k other → distance_in distances other ≡ None

-- The process of the first call that has a distance.
pub record IsNextNear (graph : List (List ℕ)) (distances : List (Option ℕ)) (process distance next : ℕ) : Type 0 where
  pub position : ℕ
  pub calls : IsCallAt graph process position next
  pub near : distance_in distances next ≡ Some distance
  pub first :
      (k other : ℕ) →
      k < position →
      IsCallAt graph process k other →
      distance_in distances other ≡ Some distance →
      ⊥
