-- Instances of terms with profiles.
use Rattle.std.proofs.Common.{◌≡◌, ℕ, ◌+◌, ◌<◌, List, [], ◌∷◌, ◌++◌, Bool, true, false, nat_eq, get_or, take, length, refl, ap, sym, ◌∙◌, inl, inr}
use Rattle.std.specs.Prelude.{if◌then◌else◌}
use Rattle.std.proofs.lemmas.List.{take_more}
use Rattle.lotos_base.specs.Signature.{Signature}
use Rattle.lotos_base.specs.Term.{node, term_then}
use Rattle.lotos_base.specs.Sorting.{Occurs, OccursAmong}
use Rattle.lotos_base.specs.Substitution.{substituted, all_substituted, binding}
use Rattle.lotos_base.proofs.SubstitutionLemmas.{substituted_agree}
use Rattle.sort_terms.specs.ProfiledTerm.{ProfiledTerm, ProfiledTerms, profiled_variable, profiled_node, no_profiled_terms, profiled_term_then, bare, all_bare, head_sort, FitsProfiles, FitArguments, IsOf, AreOf}
use Rattle.sort_terms.specs.TermView.{profiled_of, all_profiled}
use Rattle.sort_terms.specs.declared.terms.Term.{Term}
use Rattle.sort_terms.specs.declared.sorted.Sorted.{Sorted}
use Rattle.sort_terms.proofs.TermListLemmas.{with_last_profiled, all_profiled-append}
use Rattle.term_match.specs.ProfiledInstance.{ProfiledSubstitution, profiled_instance, profiled_instances, profiled_binding, bare_pairs}
use Rattle.sort_terms.specs.SortedView.{profiled_in, term_in}
use Rattle.term_match.specs.SubstView.{profiled_pairs}

mutual
  pub instance_bare : (values : ProfiledSubstitution) (t : ProfiledTerm)
      → bare (profiled_instance values t) ≡ substituted (λ n s. bare (values n s)) (bare t)
  instance_bare values (profiled_variable n s) = refl
  instance_bare values (profiled_node f operation ts) = ap (λ us. node f us) (instances_bare values ts)

  pub instances_bare : (values : ProfiledSubstitution) (ts : ProfiledTerms)
      → all_bare (profiled_instances values ts) ≡ all_substituted (λ n s. bare (values n s)) (all_bare ts)
  instances_bare values no_profiled_terms = refl
  instances_bare values (profiled_term_then t ts) = λ i. term_then (instance_bare values t i) (instances_bare values ts i)

pub binding_bare : (pairs : List (ℕ × ProfiledTerm)) (n s : ℕ) → bare (profiled_binding pairs n s) ≡ binding (bare_pairs pairs) n s
binding_bare [] n s = refl
binding_bare (pair ∷ pairs) n s = go (nat_eq pair.0 n) (binding_bare pairs n s)
  where
    go : (b : Bool) → bare (profiled_binding pairs n s) ≡ binding (bare_pairs pairs) n s
        → bare (if b then pair.1 else profiled_binding pairs n s) ≡ (if b then bare pair.1 else binding (bare_pairs pairs) n s)
    go true rest = refl
    go false rest = rest

-- an instance by a list of pairs, without its profiles
pub instance_by_pairs : (pairs : List (ℕ × ProfiledTerm)) (t : ProfiledTerm)
    → bare (profiled_instance (profiled_binding pairs) t) ≡ substituted (binding (bare_pairs pairs)) (bare t)
instance_by_pairs pairs t =
    instance_bare (profiled_binding pairs) t
    ∙ substituted_agree (λ n s. bare (profiled_binding pairs n s)) (binding (bare_pairs pairs)) (bare t) (λ n s o. binding_bare pairs n s)

mutual
  pub instance_of : (signature : Signature) (values : ProfiledSubstitution) (t : ProfiledTerm) → IsOf signature t
      → ((n s : ℕ) → Occurs n s (bare t) → IsOf signature (values n s)) → IsOf signature (profiled_instance values t)
  instance_of signature values (profiled_variable n s) h all = all n s (refl, refl)
  instance_of signature values (profiled_node f operation ts) h all = (h.0, instances_of signature values ts h.1 all)

  pub instances_of : (signature : Signature) (values : ProfiledSubstitution) (ts : ProfiledTerms) → AreOf signature ts
      → ((n s : ℕ) → OccursAmong n s (all_bare ts) → IsOf signature (values n s)) → AreOf signature (profiled_instances values ts)
  instances_of signature values no_profiled_terms h all = tt
  instances_of signature values (profiled_term_then t ts) h all = (
    instance_of signature values t h.0 (λ n s o. all n s (inl o)),
    instances_of signature values ts h.1 (λ n s o. all n s (inr o)),
  )

-- what is put for each variable that occurs fits, and has the sort of the variable
abbrev Fitting : ProfiledSubstitution → ℕ → ℕ → Type 0
Fitting values n s = FitsProfiles (values n s) × (head_sort (values n s) ≡ s)

pub instance_sort : (values : ProfiledSubstitution) (t : ProfiledTerm) → ((n s : ℕ) → Occurs n s (bare t) → Fitting values n s)
    → head_sort (profiled_instance values t) ≡ head_sort t
instance_sort values (profiled_variable n s) all = (all n s (refl, refl)).1
instance_sort values (profiled_node f operation ts) all = refl

mutual
  pub instance_fits : (values : ProfiledSubstitution) (t : ProfiledTerm) → FitsProfiles t
      → ((n s : ℕ) → Occurs n s (bare t) → Fitting values n s) → FitsProfiles (profiled_instance values t)
  instance_fits values (profiled_variable n s) h all = (all n s (refl, refl)).0
  instance_fits values (profiled_node f operation ts) h all = instances_fit values ts operation.arguments h all

  pub instances_fit : (values : ProfiledSubstitution) (ts : ProfiledTerms) (sorts : List ℕ) → FitArguments ts sorts
      → ((n s : ℕ) → OccursAmong n s (all_bare ts) → Fitting values n s) → FitArguments (profiled_instances values ts) sorts
  instances_fit values no_profiled_terms [] h all = tt
  instances_fit values no_profiled_terms (s ∷ ss) h all = absurd h
  instances_fit values (profiled_term_then t ts) [] h all = absurd h
  instances_fit values (profiled_term_then t ts) (s ∷ ss) h all = (
    instance_sort values t (λ n r o. all n r (inl o)) ∙ h.0,
    instance_fits values t h.1 (λ n r o. all n r (inl o)),
    instances_fit values ts ss h.2 (λ n r o. all n r (inr o)),
  )

-- what a list of pairs of the code puts for a variable fits
pub binding_fits : (pairs : List (ℕ × Sorted)) (n s : ℕ) → FitsProfiles (profiled_binding (profiled_pairs pairs) n s)
binding_fits [] n s = tt
binding_fits (pair ∷ pairs) n s = go (nat_eq pair.0 n) (binding_fits pairs n s)
  where
    go : (b : Bool) → FitsProfiles (profiled_binding (profiled_pairs pairs) n s)
        → FitsProfiles (if b then profiled_of pair.1.term else profiled_binding (profiled_pairs pairs) n s)
    go true rest = pair.1.fits
    go false rest = rest

instances-with_last : (values : ProfiledSubstitution) (ts : ProfiledTerms) (t : ProfiledTerm)
    → profiled_instances values (with_last_profiled ts t) ≡ with_last_profiled (profiled_instances values ts) (profiled_instance values t)
instances-with_last values no_profiled_terms t = refl
instances-with_last values (profiled_term_then u us) t = ap (λ ts. profiled_term_then (profiled_instance values u) ts)
    (instances-with_last values us t)

-- a list that one more instance was added to
pub instances_more : (values : ProfiledSubstitution) (xs made new : List Term) (i : ℕ) (x y : Term)
    → i < length xs → x ≡ get_or xs i x → new ≡ made ++ y ∷ []
    → all_profiled made ≡ profiled_instances values (all_profiled (take i xs))
    → profiled_of y ≡ profiled_instance values (profiled_of x)
    → all_profiled new ≡ profiled_instances values (all_profiled (take (i + 1) xs))
instances_more values xs made new i x y h e is so_far one =
    ap all_profiled is ∙ all_profiled-append made y
    ∙ ap (λ (ts : ProfiledTerms). with_last_profiled ts (profiled_of y)) so_far
    ∙ ap (λ (t : ProfiledTerm). with_last_profiled (profiled_instances values (all_profiled (take i xs))) t) one
    ∙ sym (ap (profiled_instances values) (ap all_profiled (take_more xs i x h ∙ ap (λ (z : Term). take i xs ++ z ∷ []) (sym e))
    ∙ all_profiled-append (take i xs) x)
    ∙ instances-with_last values (all_profiled (take i xs)) (profiled_of x))

-- an instance of a term of the code fits, and has the sort of the term
pub applied_fits : (pairs : List (ℕ × Sorted)) (term : Sorted)
    → ((n s : ℕ) → Occurs n s (term_in term) → head_sort (profiled_binding (profiled_pairs pairs) n s) ≡ s)
    → FitsProfiles (profiled_instance (profiled_binding (profiled_pairs pairs)) (profiled_in term))
applied_fits pairs term keeps = instance_fits (profiled_binding (profiled_pairs pairs)) (profiled_in term) term.fits
    (λ n s o. (binding_fits pairs n s, keeps n s o))

pub applied_sort : (pairs : List (ℕ × Sorted)) (term : Sorted)
    → ((n s : ℕ) → Occurs n s (term_in term) → head_sort (profiled_binding (profiled_pairs pairs) n s) ≡ s)
    → head_sort (profiled_instance (profiled_binding (profiled_pairs pairs)) (profiled_in term)) ≡ term.sort
applied_sort pairs term keeps =
    instance_sort (profiled_binding (profiled_pairs pairs)) (profiled_in term) (λ n s o. (binding_fits pairs n s, keeps n s o))
    ∙ term.headed
