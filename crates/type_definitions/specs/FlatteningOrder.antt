-- The order in which types are flattened: text order, but each type after the types that it mentions.
use Rattle.std.specs.Prelude.{◌≡◌, ℕ, zero, suc, true, false, List, [], ◌∷◌, ◌++◌, length}
use Rattle.type_definitions.specs.TypeGraph.{mentioned_by, is_among}

mutual
  -- One type was come to, and the list of flattened types grew: not at all where it is flattened already; otherwise by the
  -- types that it mentions, in text order, and then by itself.
  pub data FlatteningComesTo (graph : List (List ℕ)) : List ℕ → ℕ → List ℕ → Type 0 where
    flattened_already : (done : List ℕ) (i : ℕ) → is_among done i ≡ true → FlatteningComesTo graph done i done
    flattened_now : (done more : List ℕ) (i : ℕ) → is_among done i ≡ false
        → ComesToEach graph done (mentioned_by graph i) more → FlatteningComesTo graph done i (more ++ i ∷ [])

  -- Types were come to one after the other.
  pub data ComesToEach (graph : List (List ℕ)) : List ℕ → List ℕ → List ℕ → Type 0 where
    none_left : (done : List ℕ) → ComesToEach graph done [] done
    next_come_to : (done more all : List ℕ) (i : ℕ) (numbers : List ℕ) → FlatteningComesTo graph done i more
        → ComesToEach graph more numbers all → ComesToEach graph done (i ∷ numbers) all

-- so many numbers from this one on
abbrev pub counted_from : ℕ → ℕ → List ℕ
counted_from first zero = []
counted_from first (suc count) = first ∷ counted_from (suc first) count

-- This is the order of flattening: all types were come to, in text order.
abbrev pub IsFlatteningOrder : List (List ℕ) → List ℕ → Type 0
IsFlatteningOrder graph order = ComesToEach graph [] (counted_from 0 (length graph)) order
