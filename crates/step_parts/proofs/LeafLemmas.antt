-- What is wrong with the leaves of a node.
use Rattle.std.proofs.Common.{◌≡◌, ◌<◌, ◌≤◌, ◌+◌, ◌-◌, ℕ, zero, suc, List, [], ◌∷◌, length, drop, get_or, Option, None, Some, Bool, true, false, nat_lt, if◌then◌else◌, refl, ap, sym, ◌∙◌, subst, add-one, arith}
use Rattle.std.proofs.Math.Seq.{drop-cons}
use Rattle.std.proofs.lemmas.Bool.{lt-ltb, ltb-true, le-ltb, ltb-false, false_from_ne_true}
use Rattle.std.proofs.lemmas.List.{drop_all}
use Rattle.lotos_base.specs.Signature.{Signature}
use Rattle.lotos_base.specs.Sorting.{IsGround, HasSort, IsGroundOf}
use Rattle.lotos_base.specs.Term.{Term}
use Rattle.lotos_base.specs.Substitution.{Substitution}
use Rattle.behaviour_semantics.specs.Derives.{leaves_in}
use Rattle.behaviour_semantics.specs.Fault.{Wrong, bad_value, not_fitting, first_bad, wrong_leaves}
use Rattle.behaviour_semantics.specs.SortTest.{is_value}
use Rattle.behaviour_semantics.proofs.SortTestLemmas.{Decides-is_value}
use Rattle.sort_terms.specs.ProfiledTerm.{IsOf}
use Rattle.sort_terms.specs.SortedView.{profiled_in, term_in}
use Rattle.sort_terms.specs.declared.sorted.Sorted.{Sorted}
use Rattle.sort_terms.proofs.ProfiledTermLemmas.{fitting_has_sort}
use Rattle.behaviour_tree.specs.BehaviourTerms.{profiles_of}
use Rattle.behaviour_tree.specs.BehaviourView.{terms_of}
use Rattle.behaviour_tree.specs.Over.{AreTermsOf}
use Rattle.behaviour_tree.proofs.StartLemmas.{told_sort}
use Rattle.step_parts.specs.Leaves.{leaf_wrong}

-- ---- Too few leaves
pub too_few : (many first wanted : ℕ) → many < first → true ≡ nat_lt many (first + wanted)
too_few many first wanted h = sym (lt-ltb many (first + wanted) (omega (arith, h)))

pub enough_left : (many first wanted : ℕ) → first ≤ many → nat_lt (many - first) wanted ≡ nat_lt many (first + wanted)
enough_left many first wanted h = by (nat_lt (many - first) wanted) refl
  where
    by : (b : Bool) → nat_lt (many - first) wanted ≡ b → b ≡ nat_lt many (first + wanted)
    by true e =
        let less : many - first < wanted = ltb-true (many - first) wanted e in
        sym (lt-ltb many (first + wanted) (omega (arith, less, h)))
    by false e =
        let most : wanted ≤ many - first = ltb-false (many - first) wanted e in
        sym (le-ltb many (first + wanted) (omega (arith, most, h)))

-- ---- One leaf

module _ (signature : Signature) (sort : ℕ) (leaf : Sorted) (of : IsOf signature (profiled_in leaf)) where
  leaf_sorted : HasSort signature (term_in leaf) leaf.sort
  leaf_sorted = subst (HasSort signature (term_in leaf)) leaf.headed (fitting_has_sort signature (profiled_in leaf) of leaf.fits)

  pub good_leaf : (number : ℕ) → IsGround (term_in leaf) → leaf.sort ≡ sort → leaf_wrong signature sort (term_in leaf) number ≡ None
  good_leaf number ground same =
      ap (λ (b : Bool). if b then None else Some (bad_value number))
      ((Decides-is_value signature sort (term_in leaf)).1
      (record { ground = ground; sorted = subst (HasSort signature (term_in leaf)) same leaf_sorted }))

  bad_leaf : (number : ℕ) → (IsGroundOf signature sort (term_in leaf) → ⊥)
      → leaf_wrong signature sort (term_in leaf) number ≡ Some (bad_value number)
  bad_leaf number h =
      ap (λ (b : Bool). if b then None else Some (bad_value number))
      (false_from_ne_true (is_value signature sort (term_in leaf)) (λ e. h ((Decides-is_value signature sort (term_in leaf)).0 e)))

  pub open_leaf : (number : ℕ) → (IsGround (term_in leaf) → ⊥) → leaf_wrong signature sort (term_in leaf) number ≡ Some (bad_value number)
  open_leaf number h = bad_leaf number (λ g. h g.ground)

  pub other_leaf : (number : ℕ) → (leaf.sort ≡ sort → ⊥) → leaf_wrong signature sort (term_in leaf) number ≡ Some (bad_value number)
  other_leaf number h =
      bad_leaf number (λ g. h (sym leaf.headed ∙ told_sort signature (profiled_in leaf) sort of g.sorted))

-- ---- Leaves from one on
-- the leaf with a number
pub leaf_at : (leaves : List Sorted) (k s : ℕ) (leaf : Sorted) → k < length leaves → leaf ≡ get_or leaves k leaf
    → leaves_in (terms_of leaves) k s ≡ term_in leaf
leaf_at [] k s leaf h e = absurd (omega (arith, h))
leaf_at (v ∷ leaves) zero s leaf h e = ap term_in (sym e)
leaf_at (v ∷ leaves) (suc k) s leaf h e = leaf_at leaves k s leaf (omega (arith, h)) e

pub leaf_of : (signature : Signature) (leaves : List Sorted) (k : ℕ) (leaf : Sorted) → k < length leaves → leaf ≡ get_or leaves k leaf
    → AreTermsOf signature (profiles_of leaves) → IsOf signature (profiled_in leaf)
leaf_of signature [] k leaf h e o = absurd (omega (arith, h))
leaf_of signature (v ∷ leaves) zero leaf h e o = subst (λ (x : Sorted). IsOf signature (profiled_in x)) (sym e) o.0
leaf_of signature (v ∷ leaves) (suc k) leaf h e o = leaf_of signature leaves k leaf (omega (arith, h)) e o.1

module _ (signature : Signature) (leaves : List Sorted) (first : ℕ) (sorts : List ℕ) where
  -- what is wrong from a leaf on
  abbrev pub wrong_at : ℕ → Option Wrong
  wrong_at i = first_bad signature (leaves_in (terms_of leaves)) (first + i) (drop i sorts)

  step : (values : Substitution) (next s : ℕ) (rest : List ℕ) (leaf : Term) → values next s ≡ leaf → leaf_wrong signature s leaf next ≡ None
      → first_bad signature values (suc next) rest ≡ first_bad signature values next (s ∷ rest)
  step values next s rest leaf is e =
      by (is_value signature s leaf) refl e ∙ ap (λ (t : Term). if is_value signature s t then first_bad signature values (suc next) rest
      else
      Some (bad_value next)) (sym is)
    where
      by : (b : Bool) → is_value signature s leaf ≡ b → (if b then None else Some (bad_value next)) ≡ None
          → first_bad signature values (suc next) rest ≡ (if b then first_bad signature values (suc next) rest else Some (bad_value next))
      by true h none = refl
      by false h none = absurd (cc none)

  halt : (values : Substitution) (next s : ℕ) (rest : List ℕ) (leaf : Term) (w : Wrong) → values next s ≡ leaf
      → leaf_wrong signature s leaf next ≡ Some w → first_bad signature values next (s ∷ rest) ≡ Some w
  halt values next s rest leaf w is e =
      ap (λ (t : Term). if is_value signature s t then first_bad signature values (suc next) rest else Some (bad_value next)) is
      ∙ by (is_value signature s leaf) e
    where
      by : (b : Bool) → (if b then None else Some (bad_value next)) ≡ Some w
          → (if b then first_bad signature values (suc next) rest else Some (bad_value next)) ≡ Some w
      by true none = absurd (cc none)
      by false some = some

  pub good_next : (i s : ℕ) (leaf : Sorted) → i < length sorts → s ≡ get_or sorts i s → first + i < length leaves
      → leaf ≡ get_or leaves (first + i) leaf → leaf_wrong signature s (term_in leaf) (first + i) ≡ None → wrong_at (i + 1) ≡ wrong_at i
  good_next i s leaf below is within there e =
      let split : drop i sorts ≡ s ∷ drop (suc i) sorts =
      drop-cons sorts i s below ∙ ap (λ (y : ℕ). y ∷ drop (suc i) sorts) (sym is) in
      let more : first + (i + 1) ≡ suc (first + i) = omega arith in
      ap (λ (k : ℕ). first_bad signature (leaves_in (terms_of leaves)) k (drop (i + 1) sorts)) more
      ∙ (ap (λ (k : ℕ). first_bad signature (leaves_in (terms_of leaves)) (suc (first + i)) (drop k sorts)) (add-one i)
      ∙ (step (leaves_in (terms_of leaves)) (first + i) s (drop (suc i) sorts) (term_in leaf)
      (leaf_at leaves (first + i) s leaf within there) e
      ∙ ap (λ (rest : List ℕ). first_bad signature (leaves_in (terms_of leaves)) (first + i) rest) (sym split)))

  pub bad_here : (i s : ℕ) (leaf : Sorted) (w : Wrong) → i < length sorts → s ≡ get_or sorts i s → first + i < length leaves
      → leaf ≡ get_or leaves (first + i) leaf → leaf_wrong signature s (term_in leaf) (first + i) ≡ Some w → wrong_at i ≡ Some w
  bad_here i s leaf w below is within there e =
      let split : drop i sorts ≡ s ∷ drop (suc i) sorts =
      drop-cons sorts i s below ∙ ap (λ (y : ℕ). y ∷ drop (suc i) sorts) (sym is) in
      ap (λ (rest : List ℕ). first_bad signature (leaves_in (terms_of leaves)) (first + i) rest) split
      ∙ halt (leaves_in (terms_of leaves)) (first + i) s (drop (suc i) sorts) (term_in leaf) w
      (leaf_at leaves (first + i) s leaf within there) e

  pub from_first : wrong_at 0 ≡ first_bad signature (leaves_in (terms_of leaves)) first sorts
  from_first =
      let same : first + 0 ≡ first = omega arith in ap (λ (k : ℕ). first_bad signature (leaves_in (terms_of leaves)) k sorts) same

  pub none_after : (i : ℕ) → length sorts ≤ i → wrong_at i ≡ None
  none_after i h = ap (λ (rest : List ℕ). first_bad signature (leaves_in (terms_of leaves)) (first + i) rest) (drop_all i sorts h)

-- ---- The leaves of a node
pub many_leaves : (signature : Signature) (leaves : List Term) (next : ℕ) (sorts : List ℕ) → nat_lt (length leaves) (next + length sorts)
    ≡ false
    → wrong_leaves signature leaves next sorts ≡ first_bad signature (leaves_in leaves) next sorts
many_leaves signature leaves next sorts e =
    ap (λ (b : Bool). if b then Some not_fitting else first_bad signature (leaves_in leaves) next sorts) e

pub few_leaves : (signature : Signature) (leaves : List Term) (next : ℕ) (sorts : List ℕ) → nat_lt (length leaves) (next + length sorts) ≡
    true
    → wrong_leaves signature leaves next sorts ≡ Some not_fitting
few_leaves signature leaves next sorts e =
    ap (λ (b : Bool). if b then Some not_fitting else first_bad signature (leaves_in leaves) next sorts) e
