-- Terms put for one variable, as the code does by a substitution of one pair.
use Rattle.std.proofs.Common.{◌≡◌, ℕ, suc, List, [], ◌∷◌, Bool, true, false, nat_eq, refl, ap, sym, ◌∙◌, subst, inl, inr}
use Rattle.std.specs.Prelude.{Some, slice_get, ◌&&◌, if◌then◌else◌}
use Rattle.std.proofs.lemmas.Bool.Decides.{Decides-eqb}
use Rattle.lotos_base.specs.Signature.{Signature, IsSort}
use Rattle.lotos_base.specs.Term.{Term, variable, Terms, term_then}
use Rattle.lotos_base.specs.Sorting.{Occurs, OccursAmong}
use Rattle.lotos_base.specs.Substitution.{substituted, binding}
use Rattle.lotos_base.proofs.SubstitutionLemmas.{substituted_agree}
use Rattle.sort_terms.specs.ProfiledTerm.{ProfiledTerm, ProfiledTerms, profiled_variable, profiled_node, no_profiled_terms, profiled_term_then, bare, all_bare, head_sort, FitArguments, IsOf, AreOf}
use Rattle.sort_terms.specs.SortedView.{profiled_in, term_in}
use Rattle.sort_terms.specs.declared.sorted.Sorted.{Sorted}
use Rattle.term_match.specs.ProfiledInstance.{profiled_binding, profiled_instance, bare_pairs}
use Rattle.term_match.specs.SubstView.{profiled_pairs}
use Rattle.term_match.proofs.InstanceLemmas.{instance_of}
use Rattle.certificate_theory.specs.Patterns.{put_for, variables_from}
use Rattle.induct_parts.specs.Variables.{profiled_variables}

-- The variable with the number has the sort of the term wherever it occurs.
abbrev pub HasTermSort : ℕ → Sorted → Term → Type 0
HasTermSort number term whole = (s : ℕ) → Occurs number s whole → s ≡ term.sort

pub put_keeps_sorts : (number : ℕ) (term : Sorted) (whole : Term) (pairs : List (ℕ × Sorted))
    → profiled_pairs pairs ≡ (number, profiled_in term) ∷ [] → HasTermSort number term whole → (n s : ℕ) → Occurs n s whole
    → head_sort (profiled_binding (profiled_pairs pairs) n s) ≡ s
put_keeps_sorts number term whole pairs are has n s o =
    subst (λ (ps : List (ℕ × ProfiledTerm)). head_sort (profiled_binding ps n s) ≡ s) (sym are) (go (nat_eq number n) refl)
  where
    go : (b : Bool) → nat_eq number n ≡ b → head_sort (if b then profiled_in term else profiled_variable n s) ≡ s
    go true e =
        term.headed ∙ sym (has s (subst (λ (m : ℕ). Occurs m s whole) (sym ((Decides-eqb number n).0 e)) o))
    go false e = refl

pub put_made : (number : ℕ) (term : Sorted) (whole : Term) (pairs : List (ℕ × Sorted))
    → profiled_pairs pairs ≡ (number, profiled_in term) ∷ [] → HasTermSort number term whole
    → substituted (binding (bare_pairs (profiled_pairs pairs))) whole ≡ substituted (put_for number term.sort (term_in term)) whole
put_made number term whole pairs are has =
    ap (λ (ps : List (ℕ × ProfiledTerm)). substituted (binding (bare_pairs ps)) whole) are
    ∙ substituted_agree (binding ((number, term_in term) ∷ [])) (put_for number term.sort (term_in term)) whole agree
  where
    agree : (n s : ℕ) → Occurs n s whole → binding ((number, term_in term) ∷ []) n s ≡ put_for number term.sort (term_in term) n s
    agree n s o = go (nat_eq number n) refl
      where
        go : (b : Bool) → nat_eq number n ≡ b
            → (if b then term_in term else variable n s) ≡ (if b && nat_eq term.sort s then term_in term else variable n s)
        go true e =
            let same : s ≡ term.sort =
            has s (subst (λ (m : ℕ). Occurs m s whole) (sym ((Decides-eqb number n).0 e)) o) in
            rw ((Decides-eqb term.sort s).1 (sym same)) refl
        go false e = refl

pub put_over : (signature : Signature) (number : ℕ) (term whole : Sorted) (pairs : List (ℕ × Sorted))
    → profiled_pairs pairs ≡ (number, profiled_in term) ∷ [] → IsOf signature (profiled_in whole) → IsOf signature (profiled_in term)
    → ((n s : ℕ) → Occurs n s (term_in whole) → IsSort signature s)
    → IsOf signature (profiled_instance (profiled_binding (profiled_pairs pairs)) (profiled_in whole))
put_over signature number term whole pairs are over put known =
    instance_of signature (profiled_binding (profiled_pairs pairs)) (profiled_in whole) over
    (λ n s o. subst (λ (ps : List (ℕ × ProfiledTerm)). IsOf signature (profiled_binding ps n s)) (sym are)
    (go n s o (nat_eq number n)))
  where
    go : (n s : ℕ) → Occurs n s (term_in whole) → (b : Bool) → IsOf signature (if b then profiled_in term else profiled_variable n s)
    go n s o true = put
    go n s o false = known n s o

-- ---- variables of a term of the signature

mutual
  pub occurring_known : (signature : Signature) (t : ProfiledTerm) (n s : ℕ) → IsOf signature t → Occurs n s (bare t) → IsSort signature s
  occurring_known signature (profiled_variable m r) n s over o = subst (IsSort signature) o.1 over
  occurring_known signature (profiled_node f operation ts) n s over o = occurring_among signature ts n s over.1 o

  occurring_among : (signature : Signature) (ts : ProfiledTerms) (n s : ℕ) → AreOf signature ts → OccursAmong n s (all_bare ts)
      → IsSort signature s
  occurring_among signature no_profiled_terms n s over o = absurd o
  occurring_among signature (profiled_term_then t ts) n s over (inl o) = occurring_known signature t n s over.0 o
  occurring_among signature (profiled_term_then t ts) n s over (inr o) = occurring_among signature ts n s over.1 o

-- ---- new variables

pub variables_bare : (next : ℕ) (ss : List ℕ) → all_bare (profiled_variables next ss) ≡ variables_from next ss
variables_bare next [] = refl
variables_bare next (s ∷ ss) = ap (λ (ts : Terms). term_then (variable next s) ts) (variables_bare (suc next) ss)

pub variables_fit : (next : ℕ) (ss : List ℕ) → FitArguments (profiled_variables next ss) ss
variables_fit next [] = tt
variables_fit next (s ∷ ss) = (refl, tt, variables_fit (suc next) ss)

pub variables_over : (signature : Signature) (next : ℕ) (ss : List ℕ) → ((i s : ℕ) → slice_get ss i ≡ Some s → IsSort signature s)
    → AreOf signature (profiled_variables next ss)
variables_over signature next [] known = tt
variables_over signature next (s ∷ ss) known = (known 0 s refl, variables_over signature (suc next) ss (λ i. known (suc i)))
