-- Terms without a variable stay when something is put for it.
use Rattle.std.proofs.Common.{◌≡◌, ℕ, [], ◌∷◌, Bool, true, false, nat_eq, if◌then◌else◌, refl, ap, sym, eq-eqb, eqb-true}
use Rattle.std.proofs.lemmas.Bool.{or_parts}
use Rattle.lotos_base.specs.Term.{Term, variable, node, term_then}
use Rattle.lotos_base.specs.Substitution.{substituted, all_substituted, binding}
use Rattle.sort_terms.specs.ProfiledTerm.{ProfiledTerm, ProfiledTerms, profiled_variable, profiled_node, no_profiled_terms, profiled_term_then, bare, all_bare}
use Rattle.term_match.specs.Disagreement.{has_number, have_number}

-- numbers are told apart either way round
same_apart : (n m : ℕ) → nat_eq n m ≡ true → nat_eq m n ≡ false → ⊥
same_apart n m p q = cc (q, eq-eqb m n (sym (eqb-true n m p)))

mutual
  pub lacking_stays : (n : ℕ) (value : Term) (t : ProfiledTerm) → has_number n t ≡ false
      → substituted (binding ((n, value) ∷ [])) (bare t) ≡ bare t
  lacking_stays n value (profiled_variable m s) e = by (nat_eq n m) refl
    where
      by : (b : Bool) → nat_eq n m ≡ b → (if b then value else variable m s) ≡ variable m s
      by true p = absurd (same_apart n m p e)
      by false p = refl
  lacking_stays n value (profiled_node f operation ts) e = ap (node f) (all_lacking_stay n value ts e)

  all_lacking_stay : (n : ℕ) (value : Term) (ts : ProfiledTerms) → have_number n ts ≡ false
      → all_substituted (binding ((n, value) ∷ [])) (all_bare ts) ≡ all_bare ts
  all_lacking_stay n value no_profiled_terms e = refl
  all_lacking_stay n value (profiled_term_then t ts) e =
      let parts : (has_number n t ≡ false) × (have_number n ts ≡ false) = or_parts (has_number n t) (have_number n ts) e in
      let head : substituted (binding ((n, value) ∷ [])) (bare t) ≡ bare t = lacking_stays n value t parts.0 in
      let tail : all_substituted (binding ((n, value) ∷ [])) (all_bare ts) ≡ all_bare ts = all_lacking_stay n value ts parts.1 in
      λ i. term_then (head i) (tail i)
