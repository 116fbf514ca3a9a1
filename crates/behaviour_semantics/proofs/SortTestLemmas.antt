-- What the test whether a term is a ground term of a sort means.
use Rattle.std.proofs.Common.{◌≡◌, ℕ, List, [], ◌∷◌, nat_eq, nat_lt, length, slice_get, Option, None, Some, refl, sym, ap, ◌∙◌, subst}
use Rattle.std.specs.Prelude.{◌&&◌}
use Rattle.std.specs.Bool.{Decides}
use Rattle.std.proofs.lemmas.Bool.Decides.{Decides-and, Decides-eqb, Decides-ltb}
use Rattle.lotos_base.specs.Signature.{Signature, Operation, IsOperation}
use Rattle.lotos_base.specs.Term.{Term, variable, node, Terms, no_terms, term_then}
use Rattle.lotos_base.specs.Sorting.{HasSort, HaveSorts, IsGround, IsGroundOf}
use Rattle.lotos_base.specs.Tests.{is_ground}
use Rattle.lotos_base.proofs.TestLemmas.{Decides-is_ground}
use Rattle.behaviour_semantics.specs.SortTest.{has_profile, is_of_sort, are_of_sorts, is_value}
use Rattle.behaviour_semantics.proofs.OptionLemmas.{some_value}

-- An operation with its number, result sort and arguments.
abbrev Profile : Signature → ℕ → Terms → ℕ → Type 0
Profile signature f ts sort =
    (operation : Operation) × IsOperation signature f operation × (operation.result ≡ sort) × HaveSorts signature ts operation.arguments

Decides-profile : (signature : Signature) (f : ℕ) (ts : Terms) (sort : ℕ) (o : Option Operation) → slice_get signature.operations f ≡ o
    → ((ss : List ℕ) → Decides (are_of_sorts signature ts ss) (HaveSorts signature ts ss))
    → Decides (has_profile o (are_of_sorts signature ts) sort) (Profile signature f ts sort)
Decides-profile signature f ts sort None at each = ((λ e. absurd (cc e)), (λ h. absurd (let e : None ≡ Some h.0 = sym at ∙ h.1 in cc e)))
Decides-profile signature f ts sort (Some operation) at each =
    let parts : Decides (nat_eq operation.result sort && are_of_sorts signature ts operation.arguments) ((operation.result ≡ sort)
    × HaveSorts signature ts operation.arguments) =
    Decides-and (nat_eq operation.result sort) (are_of_sorts signature ts operation.arguments) (Decides-eqb operation.result sort)
    (each operation.arguments) in (
      (λ e. let p : _ = parts.0 e in (operation, at, p.0, p.1)),
      (λ h.
          let same : h.0 ≡ operation = some_value (sym h.1 ∙ at) in
          parts.1 (
            ap (λ (o : Operation). o.result) (sym same) ∙ h.2,
            subst (λ (o : Operation). HaveSorts signature ts o.arguments) same h.3,
          )),
    )

mutual
  pub Decides-is_of_sort : (signature : Signature) (t : Term) (sort : ℕ) → Decides (is_of_sort signature t sort) (HasSort signature t sort)
  Decides-is_of_sort signature (variable n s) sort = Decides-and (nat_eq s sort) (nat_lt s (length signature.sorts))
      (Decides-eqb s sort) (Decides-ltb s (length signature.sorts))
  Decides-is_of_sort signature (node f ts) sort = Decides-profile signature f ts sort (slice_get signature.operations f) refl
      (Decides-are_of_sorts signature ts)

  pub Decides-are_of_sorts : (signature : Signature) (ts : Terms) (ss : List ℕ)
      → Decides (are_of_sorts signature ts ss) (HaveSorts signature ts ss)
  Decides-are_of_sorts signature no_terms [] = ((λ h. tt), (λ h. refl))
  Decides-are_of_sorts signature no_terms (s ∷ ss) = ((λ h. absurd (cc h)), (λ h. absurd h))
  Decides-are_of_sorts signature (term_then t ts) [] = ((λ h. absurd (cc h)), (λ h. absurd h))
  Decides-are_of_sorts signature (term_then t ts) (s ∷ ss) =
      Decides-and (is_of_sort signature t s) (are_of_sorts signature ts ss) (Decides-is_of_sort signature t s)
      (Decides-are_of_sorts signature ts ss)

pub Decides-is_value : (signature : Signature) (sort : ℕ) (t : Term) → Decides (is_value signature sort t) (IsGroundOf signature sort t)
Decides-is_value signature sort t =
    let parts : Decides (is_ground t && is_of_sort signature t sort) (IsGround t × HasSort signature t sort) =
    Decides-and (is_ground t) (is_of_sort signature t sort) (Decides-is_ground t) (Decides-is_of_sort signature t sort) in
    ((λ e. let p : _ = parts.0 e in record { ground = p.0; sorted = p.1 }), (λ h. parts.1 (h.ground, h.sorted)))
