-- Images of well-formed equations are well formed.
use Rattle.std.proofs.Common.{◌≡◌, ℕ, List, [], ◌∷◌, ◌⊎◌, inl, inr, map, refl, ap, sym, ◌∙◌, subst}
use Rattle.std.specs.Prelude.{Option, None, Some, slice_get}
use Rattle.std.specs.Option.{option_map}
use Rattle.std.proofs.lemmas.Option.{none-some, same_Some, slice_get-map, slice_get-get_or}
use Rattle.lotos_base.specs.Signature.{Signature, Operation, IsSort, IsOperation}
use Rattle.lotos_base.specs.Term.{Term, Terms, variable, node, no_terms, term_then}
use Rattle.lotos_base.specs.Sorting.{HasSort, HaveSorts, Occurs, OccursAmong}
use Rattle.lotos_base.specs.Equation.{Variable, Equation, IsDeclared, IsEquationOver}
use Rattle.type_definitions.specs.Images.{term_image, terms_image, variable_image, equation_image}
use Rattle.type_definitions.specs.ProfiledImage.{profile_in}
use Rattle.type_definitions.specs.ImageLaws.{IsSignatureMap}
use Rattle.type_presentations.specs.ImagesOfEquations.{EquationImagesAreWellFormed}

-- ---- Sorts.

mutual
  pub image_has_sort : (old new : Signature) (to_sort to_operation : ℕ → ℕ) (t : Term) (sort : ℕ)
      → IsSignatureMap old new to_sort to_operation → HasSort old t sort
      → HasSort new (term_image to_sort to_operation t) (to_sort sort)
  image_has_sort old new to_sort to_operation (variable n s) sort m h = (ap to_sort h.0, m.sorts s h.1)
  image_has_sort old new to_sort to_operation (node f ts) sort m h =
      let profile = m.profiles f h.0 h.1 in (
        profile_in new.operations (to_operation f) h.0,
        slice_get-get_or new.operations (to_operation f) h.0 (m.operations f h.0 h.1),
        profile.1 ∙ ap to_sort h.2,
        subst (λ (sorts : List ℕ). HaveSorts new (terms_image to_sort to_operation ts) sorts) (sym profile.0)
            (images_have_sorts old new to_sort to_operation ts h.0.arguments m h.3),
      )

  images_have_sorts : (old new : Signature) (to_sort to_operation : ℕ → ℕ) (ts : Terms) (sorts : List ℕ)
      → IsSignatureMap old new to_sort to_operation → HaveSorts old ts sorts
      → HaveSorts new (terms_image to_sort to_operation ts) (map to_sort sorts)
  images_have_sorts old new to_sort to_operation no_terms [] m h = tt
  images_have_sorts old new to_sort to_operation no_terms (s ∷ ss) m h = absurd h
  images_have_sorts old new to_sort to_operation (term_then t ts) [] m h = absurd h
  images_have_sorts old new to_sort to_operation (term_then t ts) (s ∷ ss) m h =
      (image_has_sort old new to_sort to_operation t s m h.0, images_have_sorts old new to_sort to_operation ts ss m h.1)

-- ---- Variables.

mutual
  -- a variable of the image is that of a variable
  occurs_before : (to_sort to_operation : ℕ → ℕ) (t : Term) (n s : ℕ) → Occurs n s (term_image to_sort to_operation t)
      → (r : ℕ) × Occurs n r t × (to_sort r ≡ s)
  occurs_before to_sort to_operation (variable m r) n s h = (r, (h.0, refl), h.1)
  occurs_before to_sort to_operation (node f ts) n s h = occurs_among_before to_sort to_operation ts n s h

  occurs_among_before : (to_sort to_operation : ℕ → ℕ) (ts : Terms) (n s : ℕ)
      → OccursAmong n s (terms_image to_sort to_operation ts) → (r : ℕ) × OccursAmong n r ts × (to_sort r ≡ s)
  occurs_among_before to_sort to_operation no_terms n s h = absurd h
  occurs_among_before to_sort to_operation (term_then t ts) n s h =
      elim h [
        | inl first ↦ let before = occurs_before to_sort to_operation t n s first in (before.0, inl before.1, before.2)
        | inr later ↦ let before = occurs_among_before to_sort to_operation ts n s later in (before.0, inr before.1, before.2)
      ]

-- a variable of the image that stands at a position is that of the variable there
variable_before : (to_sort : ℕ → ℕ) (vs : List Variable) (i : ℕ) (v : Variable)
    → slice_get (map (variable_image to_sort) vs) i ≡ Some v
    → (w : Variable) × (slice_get vs i ≡ Some w) × (variable_image to_sort w ≡ v)
variable_before to_sort vs i v found = go (slice_get vs i) refl (sym (slice_get-map (variable_image to_sort) vs i) ∙ found)
  where
    go : (o : Option Variable) → slice_get vs i ≡ o → option_map (variable_image to_sort) o ≡ Some v
        → (w : Variable) × (slice_get vs i ≡ Some w) × (variable_image to_sort w ≡ v)
    go None is h = absurd (none-some v h)
    go (Some w) is h = (w, is, same_Some _ _ h)

declared_before : (to_sort to_operation : ℕ → ℕ) (e : Equation) (n s : ℕ)
    → IsDeclared (equation_image to_sort to_operation e) n s → (r : ℕ) × IsDeclared e n r × (to_sort r ≡ s)
declared_before to_sort to_operation e n s (i, v, found, number, sort) =
    let before = variable_before to_sort e.variables i v found in (
      before.0.sort,
      (i, before.0, before.1, ap (λ (w : Variable). w.number) before.2 ∙ number, refl),
      ap (λ (w : Variable). w.sort) before.2 ∙ sort,
    )

declared_after : (to_sort to_operation : ℕ → ℕ) (e : Equation) (n r : ℕ) → IsDeclared e n r
    → IsDeclared (equation_image to_sort to_operation e) n (to_sort r)
declared_after to_sort to_operation e n r (i, v, found, number, sort) = (
  i,
  variable_image to_sort v,
  slice_get-map (variable_image to_sort) e.variables i ∙ ap (λ (o : Option Variable). option_map (variable_image to_sort) o) found,
  number,
  ap to_sort sort,
)

-- ---- Equations.

pub image_over : (old new : Signature) (to_sort to_operation : ℕ → ℕ) (e : Equation)
    → IsSignatureMap old new to_sort to_operation → IsEquationOver old e
    → IsEquationOver new (equation_image to_sort to_operation e)
image_over old new to_sort to_operation e m over = record {
  sort = to_sort over.sort;
  left_sort = image_has_sort old new to_sort to_operation e.left over.sort m over.left_sort;
  right_sort = image_has_sort old new to_sort to_operation e.right over.sort m over.right_sort;
  variable_sorts = λ n s declared.
      let before = declared_before to_sort to_operation e n s declared in
      subst (λ (r : ℕ). IsSort new r) before.2 (m.sorts before.0 (over.variable_sorts n before.0 before.1));
  numbers = λ i j v w found_v found_w same.
      let v_before = variable_before to_sort e.variables i v found_v in
      let w_before = variable_before to_sort e.variables j w found_w in
      over.numbers i j v_before.0 w_before.0 v_before.1 w_before.1
      (ap (λ (x : Variable). x.number) v_before.2 ∙ same ∙ sym (ap (λ (x : Variable). x.number) w_before.2));
  left_declared = λ n s occurs.
      let before = occurs_before to_sort to_operation e.left n s occurs in
      subst (λ (r : ℕ). IsDeclared (equation_image to_sort to_operation e) n r) before.2
      (declared_after to_sort to_operation e n before.0 (over.left_declared n before.0 before.1));
  right_declared = λ n s occurs.
      let before = occurs_before to_sort to_operation e.right n s occurs in
      subst (λ (r : ℕ). IsDeclared (equation_image to_sort to_operation e) n r) before.2
      (declared_after to_sort to_operation e n before.0 (over.right_declared n before.0 before.1));
}

-- ---- Numbers that stay.

mutual
  same_term : (t : Term) → term_image (λ n. n) (λ n. n) t ≡ t
  same_term (variable n s) = refl
  same_term (node f ts) = ap (λ (us : Terms). node f us) (same_terms ts)

  same_terms : (ts : Terms) → terms_image (λ n. n) (λ n. n) ts ≡ ts
  same_terms no_terms = refl
  same_terms (term_then t ts) =
      ap (λ (u : Term). term_then u (terms_image (λ n. n) (λ n. n) ts)) (same_term t)
      ∙ ap (λ (us : Terms). term_then t us) (same_terms ts)

same_variables : (vs : List Variable) → map (variable_image (λ n. n)) vs ≡ vs
same_variables [] = refl
same_variables (v ∷ vs) = ap (λ (ws : List Variable). v ∷ ws) (same_variables vs)

pub identity_image : (e : Equation) → equation_image (λ n. n) (λ n. n) e ≡ e
identity_image e =
    let sides : List Variable → Term → Term → Equation =
    λ vs l r. record { place = e.place; variables = vs; left = l; right = r } in
    ap (λ (vs : List Variable). sides vs (term_image (λ n. n) (λ n. n) e.left) (term_image (λ n. n) (λ n. n) e.right))
    (same_variables e.variables)
    ∙ ap (λ (l : Term). sides e.variables l (term_image (λ n. n) (λ n. n) e.right)) (same_term e.left)
    ∙ ap (λ (r : Term). sides e.variables e.left r) (same_term e.right)

pub equation_images : EquationImagesAreWellFormed
equation_images = record { images = image_over; same_numbers = identity_image }
