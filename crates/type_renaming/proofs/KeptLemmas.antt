-- Equations whose sorts and operations keep their numbers.
use Rattle.std.proofs.Common.{◌≡◌, ℕ, ◌+◌, ◌<◌, ◌≤◌, Bool, true, false, List, [], ◌∷◌, ◌++◌, map, length, get_or, refl, ap, sym, ◌∙◌, append_assoc, arith}
use Rattle.std.specs.Prelude.{Some, slice_get, nat_lt}
use Rattle.std.proofs.lemmas.Bool.{ltb-true, ltb-false}
use Rattle.std.proofs.lemmas.List.{get_or_append_left, get_or_push, length-map, append-nil}
use Rattle.std.proofs.lemmas.Option.{slice_get_within, slice_get_read, get_or_from_slice_get}
use Rattle.lotos_base.proofs.Members.{map_same}
use Rattle.lotos_base.specs.Signature.{Signature, Operation, IsWellFormedSignature}
use Rattle.lotos_base.specs.Term.{Term, Terms, variable, node, no_terms, term_then}
use Rattle.lotos_base.specs.Sorting.{HasSort, HaveSorts}
use Rattle.lotos_base.specs.Equation.{Variable, Equation, IsEquationOver}
use Rattle.type_definitions.specs.Images.{term_image, terms_image, variable_image, equation_image}
use Rattle.type_definitions.specs.ProfiledImage.{number_in, profile_in}
use Rattle.type_definitions.specs.ImageLaws.{IsSignatureMap}
use Rattle.type_definitions.specs.Presentation.{Presentation}
use Rattle.type_definitions.specs.DeclaredEquations.{with_equation}
use Rattle.type_renaming.specs.Parts.{KeepsProfilesOf, with_equations}
use Rattle.type_renaming.specs.SameNumbers.{KeepNumbers}

-- ---- Numbers from 0 on.

pub numbers_go : (made more : List ℕ) (count : ℕ) → length made ≡ count → ((n : ℕ) → n < count → number_in made n ≡ n)
    → more ≡ made ++ count ∷ [] → (n : ℕ) → n < count + 1 → number_in more n ≡ n
numbers_go made more count long stay is n within = ap (λ (ns : List ℕ). number_in ns n) is ∙ go (nat_lt n count) refl
  where
    go : (b : Bool) → nat_lt n count ≡ b → number_in (made ++ count ∷ []) n ≡ n
    go true e =
        let below : n < count = ltb-true n count e in
        let inside : n < length made = omega (arith, below, long) in get_or_append_left made (count ∷ []) 0 n inside ∙ stay n below
    go false e =
        let above : count ≤ n = ltb-false n count e in
        let last : count ≡ n = omega (arith, within, above) in get_or_push made count 0 n (long ∙ last) ∙ last

-- a list of numbers from 0 on, as long as one whose members were viewed
pub as_long : {A B : Type 0} (f : A → B) (xs : List A) (ys : List B) (made numbers : List ℕ) → map f xs ≡ ys → numbers ≡ made
    → ((n : ℕ) → n < length xs → number_in made n ≡ n) → (n : ℕ) → n < length ys → number_in numbers n ≡ n
as_long {B = B} f xs ys made numbers are is stay n within =
    let long : length xs ≡ length ys = sym (length-map xs f) ∙ ap (λ (zs : List B). length zs) are in
    let inside : n < length xs = omega (arith, long, within) in ap (λ (ns : List ℕ). number_in ns n) is ∙ stay n inside

-- ---- Equations and marks behind others.

-- with these equations alone
abbrev with_all : Presentation → List Equation → Presentation
with_all q es = record {
  signature = q.signature;
  equations = es;
  formal_sorts = q.formal_sorts;
  formal_operations = q.formal_operations;
}

pub no_equations : (p : Presentation) → p ≡ with_equations p []
no_equations p = ap (λ (es : List Equation). with_all p es) (sym (append-nil p.equations))

pub more_equations : (p : Presentation) (es : List Equation) (e : Equation)
    → with_equation (with_equations p es) e ≡ with_equations p (es ++ e ∷ [])
more_equations p es e = ap (λ (all : List Equation). with_all p all) (append_assoc p.equations es (e ∷ []))

-- ---- Signatures.

pub is_signature_map : (old new : Signature) (sorts operations : List ℕ) → IsWellFormedSignature old → KeepsProfilesOf old new
    → KeepNumbers old sorts operations → IsSignatureMap old new (number_in sorts) (number_in operations)
is_signature_map old new sorts operations fine alike keep = record {
  sorts = λ s there.
      let same : number_in sorts s ≡ s = keep.sorts s there in
      let many : length new.sorts ≡ length old.sorts = alike.sorts in
      let within : s < length old.sorts = there in omega (arith, same, many, within);
  operations = λ f o at.
      let same : number_in operations f ≡ f = keep.operations f (slice_get_within old.operations f o at) in
      let image = alike.operations f o at in
      let within : f < length new.operations = slice_get_within new.operations f image.0 image.1 in omega (arith, same, within);
  profiles = λ f o at.
      let same : number_in operations f ≡ f = keep.operations f (slice_get_within old.operations f o at) in
      let image = alike.operations f o at in
      let profile : profile_in new.operations (number_in operations f) o ≡ image.0 =
      ap (λ (n : ℕ). get_or new.operations n o) same ∙ get_or_from_slice_get new.operations f image.0 o image.1 in (
        ap (λ (p : Operation). p.arguments) profile ∙ image.2
            ∙ sym (map_same (number_in sorts) o.arguments (λ i s there. keep.sorts s (fine.arguments f i s o at there))),
        ap (λ (p : Operation). p.result) profile ∙ image.3 ∙ sym (keep.sorts o.result (fine.results f o at)),
      );
}

-- ---- Equations.

mutual
  term_stays : (signature : Signature) (sorts operations : List ℕ) (t : Term) (s : ℕ) → KeepNumbers signature sorts operations
      → HasSort signature t s → term_image (number_in sorts) (number_in operations) t ≡ t
  term_stays signature sorts operations (variable n r) s keep h = ap (λ (m : ℕ). variable n m) (keep.sorts r h.1)
  term_stays signature sorts operations (node f ts) s keep h =
      ap (λ (g : ℕ). node g (terms_image (number_in sorts) (number_in operations) ts))
      (keep.operations f (slice_get_within signature.operations f h.0 h.1))
      ∙ ap (λ (us : Terms). node f us) (terms_stay signature sorts operations ts h.0.arguments keep h.3)

  terms_stay : (signature : Signature) (sorts operations : List ℕ) (ts : Terms) (ss : List ℕ) → KeepNumbers signature sorts operations
      → HaveSorts signature ts ss → terms_image (number_in sorts) (number_in operations) ts ≡ ts
  terms_stay signature sorts operations no_terms [] keep h = refl
  terms_stay signature sorts operations no_terms (s ∷ ss) keep h = refl
  terms_stay signature sorts operations (term_then t ts) [] keep h = absurd h
  terms_stay signature sorts operations (term_then t ts) (s ∷ ss) keep h =
      ap (λ (u : Term). term_then u (terms_image (number_in sorts) (number_in operations) ts))
      (term_stays signature sorts operations t s keep h.0)
      ∙ ap (λ (us : Terms). term_then t us) (terms_stay signature sorts operations ts ss keep h.1)

abbrev variable_with : List ℕ → ℕ → ℕ → Variable
variable_with name number sort = record { name = name; number = number; sort = sort }

pub equation_stays : (signature : Signature) (sorts operations : List ℕ) (e : Equation) → KeepNumbers signature sorts operations
    → IsEquationOver signature e → equation_image (number_in sorts) (number_in operations) e ≡ e
equation_stays signature sorts operations e keep over =
    let sides : List Variable → Term → Term → Equation =
    λ vs l r. record { place = e.place; variables = vs; left = l; right = r } in
    ap (λ (vs : List Variable).
    sides vs (term_image (number_in sorts) (number_in operations) e.left) (term_image (number_in sorts) (number_in operations) e.right))
    (map_same (variable_image (number_in sorts)) e.variables
    (λ i v at.
    ap (λ (s : ℕ). variable_with v.name v.number s) (keep.sorts v.sort (over.variable_sorts v.number v.sort (i, v, at, refl, refl)))))
    ∙ ap (λ (l : Term). sides e.variables l (term_image (number_in sorts) (number_in operations) e.right))
    (term_stays signature sorts operations e.left over.sort keep over.left_sort)
    ∙ ap (λ (r : Term). sides e.variables e.left r) (term_stays signature sorts operations e.right over.sort keep over.right_sort)
