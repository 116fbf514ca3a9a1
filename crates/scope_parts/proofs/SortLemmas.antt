-- The sort that a reader finds under a name is the one that the definition counts out.
use Rattle.std.proofs.Common.{◌≡◌, ℕ, zero, suc, ◌+◌, Bool, true, false, List, [], ◌∷◌, refl, ap, ◌∙◌, arith}
use Rattle.std.specs.Prelude.{Option, None, Some, MatchOption, slice_get, if◌then◌else◌}
use Rattle.std.proofs.lemmas.Option.{none-some, same_Some}
use Rattle.lotos_base.proofs.Bytes.{same_bytes, bytes_same, bytes_differ}
use Rattle.lotos_base.specs.Names.{folded, AreOneName}
use Rattle.lotos_base.specs.Signature.{Signature, Sort}
use Rattle.sort_terms.specs.Reading.{IsSortNamed}
use Rattle.sort_terms.specs.ReadingOutcome.{one_name}
use Rattle.scope_parts.specs.Sorts.{sort_from, sort_named}

sort_here : (first : ℕ) (sorts : List Sort) (name : List ℕ) (n : ℕ) (s : Sort) → slice_get sorts n ≡ Some s → AreOneName s.name name
    → ((m : ℕ) (t : Sort) → slice_get sorts m ≡ Some t → AreOneName t.name name → m ≡ n)
    → Some (first + n) ≡ sort_from first sorts name
sort_here first [] name n s at named only = absurd (none-some s at)
sort_here first (x ∷ sorts) name zero s at named only =
    let same : x ≡ s = same_Some _ _ at in
    let test : one_name x.name name ≡ true =
    ap (λ (y : Sort). one_name y.name name) same ∙ bytes_same (folded s.name) (folded name) named in
    let here : first + 0 ≡ first = omega arith in
    rw test (ap Some here)
sort_here first (x ∷ sorts) name (suc n) s at named only =
    go (one_name x.name name) refl
    (sort_here (suc first) sorts name n s at named
    (λ m t is same. let shifted : suc m ≡ suc n = only (suc m) t is same in omega (arith, shifted)))
  where
    go : (b : Bool) → one_name x.name name ≡ b → Some (suc first + n) ≡ sort_from (suc first) sorts name
        → Some (first + suc n) ≡ (if b then Some first else sort_from (suc first) sorts name)
    go true test later =
        let no : 0 ≡ suc n = only 0 x refl (same_bytes (folded x.name) (folded name) test) in
        absurd (let never : ⊥ = omega (arith, no) in never)
    go false test later =
        let next : first + suc n ≡ suc first + n = omega arith in
        ap Some next ∙ later

sort_nowhere : (first : ℕ) (sorts : List Sort) (name : List ℕ)
    → ((m : ℕ) (t : Sort) → slice_get sorts m ≡ Some t → ¬ AreOneName t.name name) → None ≡ sort_from first sorts name
sort_nowhere first [] name none = refl
sort_nowhere first (x ∷ sorts) name none =
    let test : one_name x.name name ≡ false = bytes_differ (folded x.name) (folded name) (none 0 x refl) in
    rw test (sort_nowhere (suc first) sorts name (λ m t at. none (suc m) t at))

-- what a reader answers of a name is what the definition says
pub sort_answer : (signature : Signature) (name : List ℕ) (found : Option ℕ)
    → MatchOption found ((s : ℕ) → ¬ IsSortNamed signature s name)
    (λ n. IsSortNamed signature n name × ((s : ℕ) → IsSortNamed signature s name → s ≡ n))
    → found ≡ sort_named signature name
sort_answer signature name None none =
    sort_nowhere 0 signature.sorts name (λ m t at named. none m (t, at, named))
sort_answer signature name (Some n) is =
    let none : n ≡ 0 + n = omega arith in
    ap Some none
    ∙ sort_here 0 signature.sorts name n is.0.0 is.0.1 is.0.2 (λ m t at named. is.1 m (t, at, named))
