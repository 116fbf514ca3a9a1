-- The positions of a name: they rise, and each place of the name is there.
use Rattle.std.proofs.Common.{◌≡◌, ℕ, zero, suc, ◌+◌, ◌<◌, ◌≤◌, List, [], ◌∷◌, ◌++◌, Bool, true, false, ap, sym, ◌∙◌, arith}
use Rattle.std.specs.Prelude.{Some, slice_get}
use Rattle.std.specs.Str.{bytes_eq}
use Rattle.std.proofs.lemmas.Option.{none-some, same_Some}
use Rattle.lotos_base.proofs.Bytes.{bytes_same}
use Rattle.lotos_base.specs.Names.{folded}
use Rattle.sort_terms.specs.Positions.{positions_from}
use Rattle.sort_terms.proofs.PositionLemmas.{one_if}
use Rattle.sort_terms.proofs.PositionMembers.{above_first}

pub positions_rise : (first : ℕ) (key : List ℕ) (names : List (List ℕ)) (i j p q : ℕ)
    → slice_get (positions_from first key names) i ≡ Some p
    → slice_get (positions_from first key names) j ≡ Some q → i < j → p < q
positions_rise first key [] i j p q one two before = absurd (none-some p one)
positions_rise first key (name ∷ names) i j p q one two before =
    go (bytes_eq key (folded name)) i j one two before (λ k l a b h. positions_rise (suc first) key names k l p q a b h)
    (λ l b. above_first (suc first) key names l q b)
  where
    go : (b : Bool) (k l : ℕ) → slice_get (one_if b first ++ positions_from (suc first) key names) k ≡ Some p
        → slice_get (one_if b first ++ positions_from (suc first) key names) l ≡ Some q → k < l
        → ((k l : ℕ) → slice_get (positions_from (suc first) key names) k ≡ Some p
        → slice_get (positions_from (suc first) key names) l ≡ Some q → k < l → p < q)
        → ((l : ℕ) → slice_get (positions_from (suc first) key names) l ≡ Some q → suc first ≤ q) → p < q
    go true zero zero a b h later above = absurd (omega (arith, h))
    go true zero (suc l) a b h later above =
        let here : first ≡ p = same_Some first p a in let past : suc first ≤ q = above l b in omega (arith, here, past)
    go true (suc k) zero a b h later above = absurd (omega (arith, h))
    go true (suc k) (suc l) a b h later above = later k l a b (omega (arith, h))
    go false k l a b h later above = later k l a b h

pub place_there : (first : ℕ) (key : List ℕ) (names : List (List ℕ)) (i : ℕ) (name : List ℕ) → slice_get names i ≡ Some name
    → key ≡ folded name → (j : ℕ) × (slice_get (positions_from first key names) j ≡ Some (first + i))
place_there first key [] i name found is = absurd (none-some name found)
place_there first key (one ∷ names) zero name found is =
    let same : bytes_eq key (folded one) ≡ true = bytes_same key (folded one) (is ∙ ap folded (sym (same_Some one name found))) in
    let here : first ≡ first + 0 = omega arith in
    (0, ap (λ (b : Bool). slice_get (one_if b first ++ positions_from (suc first) key names) 0) same ∙ ap (λ (n : ℕ). Some n) here)
place_there first key (one ∷ names) (suc i) name found is =
    go (bytes_eq key (folded one)) (place_there (suc first) key names i name found is)
  where
    go : (b : Bool) → (j : ℕ) × (slice_get (positions_from (suc first) key names) j ≡ Some (suc first + i))
        → (j : ℕ) × (slice_get (one_if b first ++ positions_from (suc first) key names) j ≡ Some (first + suc i))
    go true at = let same : suc first + i ≡ first + suc i = omega arith in (suc at.0, at.1 ∙ ap (λ (n : ℕ). Some n) same)
    go false at = let same : suc first + i ≡ first + suc i = omega arith in (at.0, at.1 ∙ ap (λ (n : ℕ). Some n) same)
