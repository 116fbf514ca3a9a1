-- What the `of`s on a node allow, one after the other.
use Rattle.std.proofs.Common.{◌≡◌, ◌↔◌, ℕ, ◌&&◌, List, [], ◌∷◌, ◌++◌, sym, ◌∙◌, subst}
use Rattle.std.specs.Prelude.{Option, Some, None, IsTrue, MatchOption}
use Rattle.std.proofs.lemmas.Bool.{eqb-true, eq-eqb, and_parts, and_from}
use Rattle.lotos_base.specs.WrittenTerm.{PlacedName}
use Rattle.lotos_base.specs.Signature.{Signature}
use Rattle.sort_terms.specs.Asked.{allows, is_sort}
use Rattle.sort_terms.specs.Reading.{IsAsked, IsSortNamed}
use Rattle.sort_terms.specs.declared.asked.Asked.{Asked}

-- the sort of a name, if there is one
abbrev pub IsSortFound : Signature → List ℕ → Option ℕ → Type 0
IsSortFound signature name found = MatchOption found ((s : ℕ) → ¬ IsSortNamed signature s name)
    (λ n. IsSortNamed signature n name × ((s : ℕ) → IsSortNamed signature s name → s ≡ n))

sort_tells : (signature : Signature) (name : List ℕ) (found : Option ℕ) → IsSortFound signature name found → (s : ℕ)
    → IsTrue (is_sort found s) ↔ IsSortNamed signature s name
sort_tells signature name None none s = ((λ h. cc), (λ named. absurd (none s named)))
sort_tells signature name (Some n) is s =
    ((λ h. subst (λ (m : ℕ). IsSortNamed signature m name) (sym (eqb-true s n h)) is.0), (λ named. eq-eqb s n (is.1 s named)))

asked_append : (signature : Signature) (names : List PlacedName) (one : PlacedName) (s : ℕ) → IsAsked signature names s
    → IsSortNamed signature s one.name → IsAsked signature (names ++ one ∷ []) s
asked_append signature [] one s asked named = (named, tt)
asked_append signature (first ∷ names) one s asked named = (asked.0, asked_append signature names one s asked.1 named)

append_asked : (signature : Signature) (names : List PlacedName) (one : PlacedName) (s : ℕ) → IsAsked signature (names ++ one ∷ []) s
    → IsAsked signature names s × IsSortNamed signature s one.name
append_asked signature [] one s asked = (tt, asked.0)
append_asked signature (first ∷ names) one s asked =
    let rest = append_asked signature names one s asked.1 in
    ((asked.0, rest.0), rest.1)

-- one `of` more
pub asked_more : (signature : Signature) (names : List PlacedName) (one : PlacedName) (new_names : List PlacedName) (old new : Asked)
    (found : Option ℕ) → new_names ≡ names ++ one ∷ []
    → ((s : ℕ) → IsTrue (allows old s) ↔ IsAsked signature names s)
    → ((s : ℕ) → allows new s ≡ (allows old s && is_sort found s)) → IsSortFound signature one.name found
    → (s : ℕ) → IsTrue (allows new s) ↔ IsAsked signature new_names s
asked_more signature names one new_names old new found is so_far more sort s = (
  (λ h. subst (λ (ns : List PlacedName). IsAsked signature ns s) (sym is)
      (let both = and_parts (allows old s) (is_sort found s) (sym (more s) ∙ h) in
      asked_append signature names one s ((so_far s).0 both.0) ((sort_tells signature one.name found sort s).0 both.1))),
  (λ asked.
      let parts = append_asked signature names one s (subst (λ (ns : List PlacedName). IsAsked signature ns s) is asked) in
      more s ∙ and_from (allows old s) (is_sort found s) ((so_far s).1 parts.0) ((sort_tells signature one.name found sort s).1 parts.1)),
)
