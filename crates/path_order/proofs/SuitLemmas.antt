-- Operations and the items that they suit.
use Rattle.std.proofs.Common.{◌≡◌, ℕ, zero, suc, ◌<◌, ◌≤◌, List, [], ◌∷◌, length, get_or, drop, map, refl, ap, sym, ◌∙◌, arith, Bool, true, false, ltb, ltb-true, ltb-false}
use Rattle.std.specs.Prelude.{◌↔◌, Some, slice_get, IsTrue}
use Rattle.std.proofs.lemmas.List.{length-map}
use Rattle.std.proofs.lemmas.Option.{same_Some, slice_get_within}
use Rattle.lotos_base.proofs.Members.{at_map}
use Rattle.lotos_base.specs.Name.{spelling}
use Rattle.lotos_base.specs.declared.names.Name.{Name}
use Rattle.lotos_base.specs.Names.{folded, AreOneName}
use Rattle.lotos_base.specs.Signature.{Signature, Sort}
use Rattle.sort_terms.specs.Operations.{sort_of}
use Rattle.sort_terms.specs.declared.operations.Sort.{Sort as CodeSort}
use Rattle.path_order.specs.Listed.{AreSortsNamed}

-- the sort at the place has the name
abbrev pub IsNamedIn : List Sort → ℕ → List ℕ → Type 0
IsNamedIn sorts i name = (s : Sort) × (slice_get sorts i ≡ Some s) × AreOneName s.name name

-- the names of the sorts that are left
abbrev pub AreLeftNamed : Signature → List ℕ → List Name → ℕ → Type 0
AreLeftNamed signature sorts names i = AreSortsNamed signature (drop i sorts) (map spelling (drop i names))

pub lengths_named : (signature : Signature) (sorts : List ℕ) (names : List Name) → AreSortsNamed signature sorts (map spelling names)
    → length sorts ≡ length names
lengths_named signature [] [] h = refl
lengths_named signature [] (name ∷ names) h = absurd h
lengths_named signature (s ∷ ss) [] h = absurd h
lengths_named signature (s ∷ ss) (name ∷ names) h = ap (λ (n : ℕ). suc n) (lengths_named signature ss names h.1)

-- ---- the name of a sort

pub sort_named_at : (sorts : List CodeSort) (i : ℕ) (x : CodeSort) (name : List ℕ) (b : Bool) → true ≡ ltb i (length sorts)
    → x ≡ get_or sorts i x → (IsTrue b ↔ AreOneName (spelling x.name) name) → IsTrue b ↔ IsNamedIn (map sort_of sorts) i name
sort_named_at sorts i x name b some is same =
    let at : slice_get (map sort_of sorts) i ≡ Some (sort_of x) =
    at_map sort_of sorts i x (sort_at sorts i x (ltb-true i (length sorts) (sym some)) is) in (
      (λ t. (sort_of x, at, same.0 t)),
      (λ there. same.1 (ap (λ (s : Sort). folded s.name) (same_Some (sort_of x) there.0 (sym at ∙ there.1)) ∙ there.2)),
    )
  where
    sort_at : (xs : List CodeSort) (k : ℕ) (y : CodeSort) → k < length xs → y ≡ get_or xs k y → slice_get xs k ≡ Some y
    sort_at [] k y within e = absurd (omega arith)
    sort_at (z ∷ zs) zero y within e = ap (λ (s : CodeSort). Some s) (sym e)
    sort_at (z ∷ zs) (suc k) y within e = sort_at zs k y (omega arith) e

pub sort_named_past : (sorts : List CodeSort) (i : ℕ) (name : List ℕ) → false ≡ ltb i (length sorts)
    → IsTrue false ↔ IsNamedIn (map sort_of sorts) i name
sort_named_past sorts i name none = (
  (λ t. cc),
  (λ there.
      let within : i < length (map sort_of sorts) = slice_get_within (map sort_of sorts) i there.0 there.1 in
      let same : length (map sort_of sorts) ≡ length sorts = length-map sorts sort_of in
      let past : length sorts ≤ i = ltb-false i (length sorts) (sym none) in absurd (omega (arith, within, same, past))),
)
