-- Which numbers stand in the positions of a name: each position of the name once, and nothing else.
use Rattle.std.proofs.Common.{◌≡◌, ℕ, zero, suc, ◌+◌, ◌<◌, ◌≤◌, Bool, true, false, List, [], ◌∷◌, ◌++◌, inl, inr, refl, ap, sym, ◌∙◌, arith}
use Rattle.std.specs.Prelude.{Some, slice_get}
use Rattle.std.specs.Str.{bytes_eq}
use Rattle.std.proofs.lemmas.Option.{none-some, same_Some}
use Rattle.lotos_base.proofs.Bytes.{same_bytes, bytes_same}
use Rattle.lotos_base.specs.Names.{folded}
use Rattle.lotos_base.specs.Term.{Term}
use Rattle.sort_terms.specs.Positions.{positions_from}
use Rattle.sort_terms.specs.Suiting.{source_of}
use Rattle.sort_terms.specs.declared.choices.Source.TheVariants.{Operation as FromOperation}
use Rattle.sort_terms.proofs.MeaningLemmas.{HeadIn, NotIn, AreApart}
use Rattle.sort_terms.proofs.PositionLemmas.{one_if}

-- the number is a position of the name
abbrev pub IsPosition : ℕ → List ℕ → List (List ℕ) → ℕ → Type 0
IsPosition first key names p = (i : ℕ) × (m : List ℕ) × (p ≡ first + i) × (slice_get names i ≡ Some m) × (key ≡ folded m)

further : (first : ℕ) (key x : List ℕ) (names : List (List ℕ)) (p : ℕ) → IsPosition (suc first) key names p
    → IsPosition first key (x ∷ names) p
further first key x names p at =
    let shifted : p ≡ first + suc at.0 = at.2 ∙ omega arith in
    (suc at.0, at.1, shifted, at.3, at.4)

pub position_is : (first : ℕ) (key : List ℕ) (names : List (List ℕ)) (j p : ℕ)
    → slice_get (positions_from first key names) j ≡ Some p → IsPosition first key names p
position_is first key [] j p found = absurd (none-some p found)
position_is first key (x ∷ names) j p found =
    go (bytes_eq key (folded x)) refl j found (λ i later. position_is (suc first) key names i p later)
  where
    go : (b : Bool) → bytes_eq key (folded x) ≡ b → (j : ℕ)
        → slice_get (one_if b first ++ positions_from (suc first) key names) j ≡ Some p
        → ((i : ℕ) → slice_get (positions_from (suc first) key names) i ≡ Some p → IsPosition (suc first) key names p)
        → IsPosition first key (x ∷ names) p
    go true is zero found below =
        let at : p ≡ first + 0 = sym (same_Some _ _ found) ∙ omega arith in
        (0, x, at, refl, same_bytes key (folded x) is)
    go true is (suc i) found below = further first key x names p (below i found)
    go false is j found below = further first key x names p (below j found)

not_in_above : (f g : ℕ) (numbers : List ℕ) → f < g → ((j p : ℕ) → slice_get numbers j ≡ Some p → g ≤ p) → NotIn f numbers
not_in_above f g [] less above = tt
not_in_above f g (n ∷ numbers) less above =
    let at : g ≤ n = above 0 n refl in
    ((λ same. absurd (omega arith)), not_in_above f g numbers less (λ j p found. above (suc j) p found))

pub above_first : (first : ℕ) (key : List ℕ) (names : List (List ℕ)) (j p : ℕ) → slice_get (positions_from first key names) j ≡ Some p
    → first ≤ p
above_first first key names j p found = let at = position_is first key names j p found in let is : p ≡ first + at.0 = at.2 in omega arith

-- no position is twice there
pub positions_apart : (first : ℕ) (key : List ℕ) (names : List (List ℕ)) → AreApart (positions_from first key names)
positions_apart first key [] = tt
positions_apart first key (x ∷ names) = go (bytes_eq key (folded x)) (positions_apart (suc first) key names)
  where
    go : (b : Bool) → AreApart (positions_from (suc first) key names)
        → AreApart (one_if b first ++ positions_from (suc first) key names)
    go true below =
        (not_in_above first (suc first) (positions_from (suc first) key names) (omega arith) (above_first (suc first) key names), below)
    go false below = below

-- each position of the name is there
pub position_there : (first : ℕ) (key : List ℕ) (names : List (List ℕ)) (i f : ℕ) (m : List ℕ) (t : Term) → f ≡ first + i
    → slice_get names i ≡ Some m → key ≡ folded m → source_of t ≡ FromOperation f → HeadIn (positions_from first key names) t
position_there first key [] i f m t at found named is = absurd (none-some m found)
position_there first key (x ∷ names) zero f m t at found named is =
    let here : bytes_eq key (folded x) ≡ true = bytes_same key (folded x) (named ∙ ap folded (sym (same_Some _ _ found))) in
    let same : f ≡ first = at ∙ omega arith in
    rw here (inl (is ∙ ap (λ (n : ℕ). FromOperation n) same))
position_there first key (x ∷ names) (suc i) f m t at found named is =
    let shifted : f ≡ suc first + i = at ∙ omega arith in
    go (bytes_eq key (folded x)) (position_there (suc first) key names i f m t shifted found named is)
  where
    go : (b : Bool) → HeadIn (positions_from (suc first) key names) t
        → HeadIn (one_if b first ++ positions_from (suc first) key names) t
    go true there = inr there
    go false there = there
