-- Well-sorted terms as terms with profiles, and lists of terms with profiles.
use Rattle.std.proofs.Common.{◌≡◌, ℕ, suc, ◌+◌, ◌<◌, ◌≤◌, List, [], ◌∷◌, ◌++◌, length, refl, ap, sym, ◌∙◌, subst, inl, inr, arith}
use Rattle.lotos_base.specs.Signature.{Signature, Operation, IsOperation}
use Rattle.lotos_base.specs.Sorting.{HasSort, HaveSorts, IsGround, AreGround, IsGroundOf}
use Rattle.lotos_base.specs.Term.{Term, variable, node, Terms, no_terms, term_then}
use Rattle.rewriting_theory.specs.Rule.{Rule}
use Rattle.rewriting_theory.specs.Rewriting.{IsNormal}
use Rattle.sort_terms.specs.ProfiledTerm.{ProfiledTerm, ProfiledTerms, profiled_variable, profiled_node, no_profiled_terms, profiled_term_then, bare, all_bare, head_sort, FitsProfiles, FitArguments, IsOf, AreOf}
use Rattle.sort_terms.specs.TermView.{profiled_terms}
use Rattle.value_lists.specs.TermOrder.{term_size, term_sizes, ComesBefore, ComeBefore}
use Rattle.value_lists.proofs.NormalParts.{AreNormal}

-- ---- Lists

-- the members of an argument list
abbrev pub unlisted : ProfiledTerms → List ProfiledTerm
unlisted no_profiled_terms = []
unlisted (profiled_term_then t ts) = t ∷ unlisted ts

pub listed : (ts : ProfiledTerms) → profiled_terms (unlisted ts) ≡ ts
listed no_profiled_terms = refl
listed (profiled_term_then t ts) = ap (profiled_term_then t) (listed ts)

-- the terms of a list without profiles
abbrev pub plain : List ProfiledTerm → Terms
plain ts = all_bare (profiled_terms ts)

pub sizes_joined : (ts us : List ProfiledTerm) → term_sizes (plain (ts ++ us)) ≡ term_sizes (plain ts) + term_sizes (plain us)
sizes_joined [] us = omega arith
sizes_joined (t ∷ ts) us = let rest = sizes_joined ts us in omega (arith, rest)

pub before_joined : (ts us vs : List ProfiledTerm) → ComeBefore (plain us) (plain vs)
    → ComeBefore (plain (ts ++ us)) (plain (ts ++ vs))
before_joined [] us vs h = h
before_joined (t ∷ ts) us vs h = inr (refl, before_joined ts us vs h)

-- ---- What values are, said of terms with profiles

-- A ground term of the signature, with its profiles, that no rule reduces.
pub record IsProfiledValue (signature : Signature) (rules : List Rule) (t : ProfiledTerm) : Type 0 where
  pub is_of : IsOf signature t
  pub fits : FitsProfiles t
  pub is_ground : IsGround (bare t)
  pub irreducible : IsNormal rules (bare t)

-- a ground term has one operation at least
pub has_operation : (t : ProfiledTerm) → IsGround (bare t) → 1 ≤ term_size (bare t)
has_operation (profiled_variable n s) h = absurd h
has_operation (profiled_node f operation ts) h = omega arith

-- ground terms have as many operations as there are of them, at least
pub have_operations : (ts : ProfiledTerms) (sorts : List ℕ) → FitArguments ts sorts → AreGround (all_bare ts)
    → length sorts ≤ term_sizes (all_bare ts)
have_operations no_profiled_terms [] fits h = omega arith
have_operations no_profiled_terms (s ∷ ss) fits h = absurd fits
have_operations (profiled_term_then t ts) [] fits h = absurd fits
have_operations (profiled_term_then t ts) (s ∷ ss) fits h =
    let one = has_operation t h.0 in
    let rest = have_operations ts ss fits.2 h.1 in
    omega (arith, one, rest)

-- A term with profiles that is this term and has this sort.
pub record IsProfiled (signature : Signature) (t : Term) (sort : ℕ) : Type 0 where
  pub term : ProfiledTerm
  pub is_of : IsOf signature term
  pub fits : FitsProfiles term
  pub head : head_sort term ≡ sort
  pub same : bare term ≡ t

pub record AreProfiled (signature : Signature) (ts : Terms) (sorts : List ℕ) : Type 0 where
  pub terms : ProfiledTerms
  pub is_of : AreOf signature terms
  pub fits : FitArguments terms sorts
  pub same : all_bare terms ≡ ts

mutual
  pub profiled : (signature : Signature) (t : Term) (sort : ℕ) → HasSort signature t sort → IsProfiled signature t sort
  profiled signature (variable n s) sort h = record {
    term = profiled_variable n s;
    is_of = h.1;
    fits = tt;
    head = h.0;
    same = refl;
  }
  profiled signature (node f ts) sort h =
      let rest = all_profiled signature ts h.0.arguments h.3 in
      record {
        term = profiled_node f h.0 rest.terms;
        is_of = (h.1, rest.is_of);
        fits = rest.fits;
        head = h.2;
        same = ap (node f) rest.same;
      }

  pub all_profiled : (signature : Signature) (ts : Terms) (sorts : List ℕ) → HaveSorts signature ts sorts
      → AreProfiled signature ts sorts
  all_profiled signature no_terms [] h = record { terms = no_profiled_terms; is_of = tt; fits = tt; same = refl }
  all_profiled signature no_terms (s ∷ ss) h = absurd h
  all_profiled signature (term_then t ts) [] h = absurd h
  all_profiled signature (term_then t ts) (s ∷ ss) h =
      let first = profiled signature t s h.0 in
      let rest = all_profiled signature ts ss h.1 in
      record {
        terms = profiled_term_then first.term rest.terms;
        is_of = (first.is_of, rest.is_of);
        fits = (first.head, first.fits, rest.fits);
        same = λ i. term_then (first.same i) (rest.same i);
      }
