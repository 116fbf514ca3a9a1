-- Terms with profiles whose variables got new numbers.
use Rattle.std.proofs.Common.{◌≡◌, ℕ, ◌+◌, ◌<◌, List, [], ◌∷◌, ◌++◌, get_or, take, length, refl, ap, sym, ◌∙◌}
use Rattle.std.proofs.lemmas.List.{take_more}
use Rattle.lotos_base.specs.Signature.{Signature}
use Rattle.lotos_base.specs.Term.{Terms, node, term_then}
use Rattle.sort_terms.specs.ProfiledTerm.{ProfiledTerm, ProfiledTerms, profiled_variable, profiled_node, no_profiled_terms, profiled_term_then, bare, all_bare, head_sort, FitsProfiles, FitArguments, IsOf, AreOf}
use Rattle.sort_terms.specs.TermView.{profiled_of, all_profiled}
use Rattle.sort_terms.specs.declared.terms.Term.{Term}
use Rattle.sort_terms.proofs.TermListLemmas.{with_last_profiled, all_profiled-append}
use Rattle.type_definitions.specs.DeclaredEquations.{renumbered, renumbered_among}
use Rattle.type_equations.specs.ProfiledNumbering.{profiled_renumbered, all_profiled_renumbered}

mutual
  pub numbered_bare : (order : List ℕ) (t : ProfiledTerm) → bare (profiled_renumbered order t) ≡ renumbered order (bare t)
  numbered_bare order (profiled_variable n s) = refl
  numbered_bare order (profiled_node f operation ts) = ap (λ (us : Terms). node f us) (all_numbered_bare order ts)

  all_numbered_bare : (order : List ℕ) (ts : ProfiledTerms)
      → all_bare (all_profiled_renumbered order ts) ≡ renumbered_among order (all_bare ts)
  all_numbered_bare order no_profiled_terms = refl
  all_numbered_bare order (profiled_term_then t ts) =
      λ i. term_then (numbered_bare order t i) (all_numbered_bare order ts i)

pub numbered_sort : (order : List ℕ) (t : ProfiledTerm) → head_sort (profiled_renumbered order t) ≡ head_sort t
numbered_sort order (profiled_variable n s) = refl
numbered_sort order (profiled_node f operation ts) = refl

mutual
  pub numbered_fits : (order : List ℕ) (t : ProfiledTerm) → FitsProfiles t → FitsProfiles (profiled_renumbered order t)
  numbered_fits order (profiled_variable n s) h = tt
  numbered_fits order (profiled_node f operation ts) h = all_numbered_fit order ts operation.arguments h

  all_numbered_fit : (order : List ℕ) (ts : ProfiledTerms) (sorts : List ℕ) → FitArguments ts sorts
      → FitArguments (all_profiled_renumbered order ts) sorts
  all_numbered_fit order no_profiled_terms [] h = tt
  all_numbered_fit order no_profiled_terms (s ∷ ss) h = absurd h
  all_numbered_fit order (profiled_term_then t ts) [] h = absurd h
  all_numbered_fit order (profiled_term_then t ts) (s ∷ ss) h =
      (numbered_sort order t ∙ h.0, numbered_fits order t h.1, all_numbered_fit order ts ss h.2)

mutual
  pub numbered_of : (signature : Signature) (order : List ℕ) (t : ProfiledTerm) → IsOf signature t
      → IsOf signature (profiled_renumbered order t)
  numbered_of signature order (profiled_variable n s) h = h
  numbered_of signature order (profiled_node f operation ts) h = (h.0, all_numbered_of signature order ts h.1)

  all_numbered_of : (signature : Signature) (order : List ℕ) (ts : ProfiledTerms) → AreOf signature ts
      → AreOf signature (all_profiled_renumbered order ts)
  all_numbered_of signature order no_profiled_terms h = h
  all_numbered_of signature order (profiled_term_then t ts) h =
      (numbered_of signature order t h.0, all_numbered_of signature order ts h.1)

numbered-with_last : (order : List ℕ) (ts : ProfiledTerms) (t : ProfiledTerm)
    → all_profiled_renumbered order (with_last_profiled ts t)
    ≡ with_last_profiled (all_profiled_renumbered order ts) (profiled_renumbered order t)
numbered-with_last order no_profiled_terms t = refl
numbered-with_last order (profiled_term_then u us) t =
    ap (λ (ts : ProfiledTerms). profiled_term_then (profiled_renumbered order u) ts) (numbered-with_last order us t)

-- a list that one more term was added to
pub numbered_more : (order : List ℕ) (xs made new : List Term) (i : ℕ) (x y : Term) → i < length xs → x ≡ get_or xs i x
    → new ≡ made ++ y ∷ [] → all_profiled made ≡ all_profiled_renumbered order (all_profiled (take i xs))
    → profiled_of y ≡ profiled_renumbered order (profiled_of x)
    → all_profiled new ≡ all_profiled_renumbered order (all_profiled (take (i + 1) xs))
numbered_more order xs made new i x y h e is so_far one =
    ap all_profiled is ∙ all_profiled-append made y
    ∙ ap (λ (ts : ProfiledTerms). with_last_profiled ts (profiled_of y)) so_far
    ∙ ap (λ (t : ProfiledTerm). with_last_profiled (all_profiled_renumbered order (all_profiled (take i xs))) t) one
    ∙ sym (ap (all_profiled_renumbered order)
    (ap all_profiled (take_more xs i x h ∙ ap (λ (z : Term). take i xs ++ z ∷ []) (sym e)) ∙ all_profiled-append (take i xs) x)
    ∙ numbered-with_last order (all_profiled (take i xs)) (profiled_of x))
