-- Terms with profiles are well sorted over the signatures that they are of.
use Rattle.std.proofs.Common.{◌≡◌, ℕ, List, [], ◌∷◌, refl, ap, sym, ◌∙◌, subst}
use Rattle.std.proofs.lemmas.Option.{same_Some}
use Rattle.lotos_base.specs.Signature.{Signature, Operation, IsOperation}
use Rattle.lotos_base.specs.Sorting.{HasSort, HaveSorts}
use Rattle.sort_terms.specs.ProfiledTerm.{ProfiledTerm, ProfiledTerms, profiled_variable, profiled_node, no_profiled_terms, profiled_term_then, bare, all_bare, head_sort, FitsProfiles, FitArguments, IsOf, AreOf}

mutual
  pub fitting_has_sort : (signature : Signature) (t : ProfiledTerm) → IsOf signature t → FitsProfiles t
      → HasSort signature (bare t) (head_sort t)
  fitting_has_sort signature (profiled_variable n s) is_of fits = (refl, is_of)
  fitting_has_sort signature (profiled_node f operation ts) is_of fits =
      (operation, is_of.0, refl, fitting_have_sorts signature ts operation.arguments is_of.1 fits)

  pub fitting_have_sorts : (signature : Signature) (ts : ProfiledTerms) (sorts : List ℕ) → AreOf signature ts
      → FitArguments ts sorts → HaveSorts signature (all_bare ts) sorts
  fitting_have_sorts signature no_profiled_terms [] is_of fits = tt
  fitting_have_sorts signature no_profiled_terms (s ∷ ss) is_of fits = absurd fits
  fitting_have_sorts signature (profiled_term_then t ts) [] is_of fits = absurd fits
  fitting_have_sorts signature (profiled_term_then t ts) (s ∷ ss) is_of fits = (
    subst (λ (r : ℕ). HasSort signature (bare t) r) fits.0 (fitting_has_sort signature t is_of.0 fits.1),
    fitting_have_sorts signature ts ss is_of.1 fits.2,
  )

mutual
  pub sorted_fits : (signature : Signature) (t : ProfiledTerm) (sort : ℕ) → IsOf signature t
      → HasSort signature (bare t) sort → FitsProfiles t × (head_sort t ≡ sort)
  sorted_fits signature (profiled_variable n s) sort is_of sorted = (tt, sorted.0)
  sorted_fits signature (profiled_node f operation ts) sort is_of sorted =
      let same : sorted.0 ≡ operation = same_Some _ _ (sym sorted.1 ∙ is_of.0) in (
        sorted_fit signature ts operation.arguments is_of.1 (subst
            (λ (o : Operation). HaveSorts signature (all_bare ts) o.arguments) same sorted.3),
        ap (λ (o : Operation). o.result) (sym same) ∙ sorted.2,
      )

  pub sorted_fit : (signature : Signature) (ts : ProfiledTerms) (sorts : List ℕ) → AreOf signature ts
      → HaveSorts signature (all_bare ts) sorts → FitArguments ts sorts
  sorted_fit signature no_profiled_terms [] is_of sorted = tt
  sorted_fit signature no_profiled_terms (s ∷ ss) is_of sorted = absurd sorted
  sorted_fit signature (profiled_term_then t ts) [] is_of sorted = absurd sorted
  sorted_fit signature (profiled_term_then t ts) (s ∷ ss) is_of sorted =
      let first = sorted_fits signature t s is_of.0 sorted.0 in
      (first.1, first.0, sorted_fit signature ts ss is_of.1 sorted.1)

mutual
  pub profiles_determined : (signature : Signature) (t u : ProfiledTerm) → IsOf signature t → IsOf signature u
      → bare t ≡ bare u → t ≡ u
  profiles_determined signature (profiled_variable n s) (profiled_variable m r) h k e = cc
  profiles_determined signature (profiled_variable n s) (profiled_node g p us) h k e = cc
  profiles_determined signature (profiled_node f o ts) (profiled_variable m r) h k e = cc
  profiles_determined signature (profiled_node f o ts) (profiled_node g p us) h k e =
      let numbers : f ≡ g = cc in
      let arguments : all_bare ts ≡ all_bare us = cc in
      let same : o ≡ p = same_Some _ _ (sym h.0 ∙ subst (λ (i : ℕ). IsOperation signature i p) (sym numbers) k.0) in
      let below : ts ≡ us = all_profiles_determined signature ts us h.1 k.1 arguments in
      cc

  pub all_profiles_determined : (signature : Signature) (ts us : ProfiledTerms) → AreOf signature ts → AreOf signature us
      → all_bare ts ≡ all_bare us → ts ≡ us
  all_profiles_determined signature no_profiled_terms no_profiled_terms h k e = refl
  all_profiles_determined signature no_profiled_terms (profiled_term_then u us) h k e = cc
  all_profiles_determined signature (profiled_term_then t ts) no_profiled_terms h k e = cc
  all_profiles_determined signature (profiled_term_then t ts) (profiled_term_then u us) h k e =
      let firsts : bare t ≡ bare u = cc in
      let rests : all_bare ts ≡ all_bare us = cc in
      let first : t ≡ u = profiles_determined signature t u h.0 k.0 firsts in
      let rest : ts ≡ us = all_profiles_determined signature ts us h.1 k.1 rests in
      cc
