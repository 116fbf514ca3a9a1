-- Environments under binders are one environment.
use Rattle.std.proofs.Common.{◌≡◌, ◌<◌, ◌≤◌, ◌⊎◌, inl, inr, ◌++◌, ℕ, zero, suc, List, [], ◌∷◌, length, zip, max, Bool, true, false, nat_eq, if◌then◌else◌, refl, ap, sym, ◌∙◌, arith, eqb-true}
use Rattle.std.proofs.Math.Path.{fun_ext}
use Rattle.std.proofs.lemmas.Bool.{ne_eqb}
use Rattle.lotos_base.specs.Term.{Term, variable}
use Rattle.lotos_base.specs.Sorting.{Occurs}
use Rattle.lotos_base.specs.Equation.{Variable}
use Rattle.lotos_base.specs.Substitution.{Substitution, substituted, followed_by, binding, is_listed, without}
use Rattle.lotos_base.proofs.SubstitutionLemmas.{substituted_twice, substituted_agree, substituted_variables}
use Rattle.behaviour_semantics.specs.Behaviour.{Behaviour, numbers_of}
use Rattle.behaviour_semantics.specs.Draft.{above, above_variables}
use Rattle.behaviour_semantics.specs.Replacement.{with_values, binding_of}
use Rattle.behaviour_semantics.specs.ReplacementLaws.{IsApart}
use Rattle.behaviour_semantics.proofs.ReplacementLemmas.{twice}
use Rattle.draft_parts.specs.EnvironmentLaws.{ArePairsFrom, EnvironmentsNest}

-- A number from above those of the variables on is none of theirs.
not_listed : (variables : List Variable) (n : ℕ) → above_variables variables ≤ n → is_listed (numbers_of variables) n ≡ false
not_listed [] n le = refl
not_listed (x ∷ variables) n le =
    let lt : x.number < n = omega (arith, le) in
    let later : above_variables variables ≤ n = omega (arith, le) in
    ap (λ (b : Bool). if b then true else is_listed (numbers_of variables) n) (ne_eqb x.number n (λ e. omega (arith, lt, e)))
    ∙ not_listed variables n later

-- What a binder does not bind it leaves.
binding_leaves : (variables : List Variable) (terms : List Term) (pairs : List (ℕ × Term)) (n s : ℕ)
    → is_listed (numbers_of variables) n ≡ false → binding (zip (numbers_of variables) terms ++ pairs) n s ≡ binding pairs n s
binding_leaves [] terms pairs n s e = refl
binding_leaves (x ∷ variables) [] pairs n s e = refl
binding_leaves (x ∷ variables) (t ∷ terms) pairs n s e = by (nat_eq x.number n) e (binding_leaves variables terms pairs n s)
  where
    by : (b : Bool) → (if b then true else is_listed (numbers_of variables) n) ≡ false
        → (is_listed (numbers_of variables) n ≡ false → binding (zip (numbers_of variables) terms ++ pairs) n s ≡ binding pairs n s)
        → (if b then t else binding (zip (numbers_of variables) terms ++ pairs) n s) ≡ binding pairs n s
    by true e rest = absurd (cc e)
    by false e rest = rest e

left_alone : (variables : List Variable) (terms : List Term) (n s : ℕ) → is_listed (numbers_of variables) n ≡ false
    → binding_of variables terms n s ≡ variable n s
left_alone [] terms n s e = refl
left_alone (x ∷ variables) [] n s e = refl
left_alone (x ∷ variables) (t ∷ terms) n s e = by (nat_eq x.number n) e (left_alone variables terms n s)
  where
    by : (b : Bool) → (if b then true else is_listed (numbers_of variables) n) ≡ false
        → (is_listed (numbers_of variables) n ≡ false → binding_of variables terms n s ≡ variable n s)
        → (if b then t else binding_of variables terms n s) ≡ variable n s
    by true e rest = absurd (cc e)
    by false e rest = rest e

-- What it binds it gives.
binding_gives : (variables : List Variable) (terms : List Term) (pairs : List (ℕ × Term)) (n s : ℕ) → length terms ≡ length variables
    → is_listed (numbers_of variables) n ≡ true
    → binding_of variables terms n s ≡ binding (zip (numbers_of variables) terms ++ pairs) n s
binding_gives [] terms pairs n s count e = absurd (cc e)
binding_gives (x ∷ variables) [] pairs n s count e = absurd (omega (arith, count))
binding_gives (x ∷ variables) (t ∷ terms) pairs n s count e =
    let fewer : length terms ≡ length variables = omega (arith, count) in
    by (nat_eq x.number n) e (binding_gives variables terms pairs n s fewer)
  where
    by : (b : Bool) → (if b then true else is_listed (numbers_of variables) n) ≡ true
        → (is_listed (numbers_of variables) n ≡ true
        → binding_of variables terms n s ≡ binding (zip (numbers_of variables) terms ++ pairs) n s)
        → (if b then t else binding_of variables terms n s) ≡ (if b then t else binding (zip (numbers_of variables) terms ++ pairs) n s)
    by true e rest = refl
    by false e rest = rest e

-- A variable stays, or has a term with variables from `base` on alone.
from_pairs : (base : ℕ) (pairs : List (ℕ × Term)) (n s : ℕ) → ArePairsFrom base pairs
    → (binding pairs n s ≡ variable n s) ⊎ ((m r : ℕ) → Occurs m r (binding pairs n s) → base ≤ m)
from_pairs base [] n s h = inl refl
from_pairs base (pair ∷ pairs) n s h = by (nat_eq pair.0 n) (from_pairs base pairs n s h.1)
  where
    by : (b : Bool) → (binding pairs n s ≡ variable n s) ⊎ ((m r : ℕ) → Occurs m r (binding pairs n s) → base ≤ m)
        → ((if b then pair.1 else binding pairs n s) ≡ variable n s)
        ⊎ ((m r : ℕ) → Occurs m r (if b then pair.1 else binding pairs n s) → base ≤ m)
    by true rest = inr h.0
    by false rest = rest

module _ (base : ℕ) (variables : List Variable) (terms : List Term) (pairs : List (ℕ × Term)) (le : above_variables variables ≤ base)
    (count : length terms ≡ length variables) (far : ArePairsFrom base pairs) where
  abbrev first : Substitution
  first = without (numbers_of variables) (binding pairs)

  abbrev second : Substitution
  second = binding_of variables terms

  abbrev whole : Substitution
  whole = binding (zip (numbers_of variables) terms ++ pairs)

  is_apart : IsApart base first
  is_apart n s = by (is_listed (numbers_of variables) n)
    where
      by : (b : Bool) → ((if b then variable n s else binding pairs n s) ≡ variable n s)
          ⊎ ((m r : ℕ) → Occurs m r (if b then variable n s else binding pairs n s) → base ≤ m)
      by true = inl refl
      by false = from_pairs base pairs n s far

  -- terms with variables from `base` on stay
  far_stays : (t : Term) → ((m r : ℕ) → Occurs m r t → base ≤ m) → substituted second t ≡ t
  far_stays t h =
      substituted_agree second variable t (λ m r o. left_alone variables terms m r (not_listed variables m (le_trans m (h m r o))))
      ∙ substituted_variables t
    where
      le_trans : (m : ℕ) → base ≤ m → above_variables variables ≤ m
      le_trans m far_m = omega (arith, le, far_m)

  value_stays : (n s : ℕ) → is_listed (numbers_of variables) n ≡ false
      → (binding pairs n s ≡ variable n s) ⊎ ((m r : ℕ) → Occurs m r (binding pairs n s) → base ≤ m)
      → substituted second (binding pairs n s) ≡ binding pairs n s
  value_stays n s e (inl stays) =
      ap (substituted second) stays ∙ (left_alone variables terms n s e ∙ sym stays)
  value_stays n s e (inr high) = far_stays (binding pairs n s) high

  at_variable : (n s : ℕ) → followed_by first second n s ≡ whole n s
  at_variable n s = by (is_listed (numbers_of variables) n) refl
    where
      by : (b : Bool) → is_listed (numbers_of variables) n ≡ b
          → substituted second (if b then variable n s else binding pairs n s) ≡ whole n s
      by true e = binding_gives variables terms pairs n s count e
      by false e = value_stays n s e (from_pairs base pairs n s far) ∙ sym (binding_leaves variables terms pairs n s e)

  one_environment : followed_by first second ≡ whole
  one_environment = fun_ext (λ n. fun_ext (λ s. at_variable n s))

  term_nested : (t : Term) → substituted second (substituted first t) ≡ substituted whole t
  term_nested t = substituted_twice first second t ∙ ap (λ (v : Substitution). substituted v t) one_environment

  behaviour_nested : (b : Behaviour) → above b ≤ base → with_values second (with_values first b) ≡ with_values whole b
  behaviour_nested b below = twice base first second b below is_apart ∙ ap (λ (v : Substitution). with_values v b) one_environment

pub nested : EnvironmentsNest
nested = record {
  in_terms = λ base variables terms pairs t le count far. term_nested base variables terms pairs le count far t;
  in_behaviours = λ base variables terms pairs b below le count far. behaviour_nested base variables terms pairs le count far b below;
}
