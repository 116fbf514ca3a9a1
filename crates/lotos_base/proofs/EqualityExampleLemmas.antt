-- The computed cases of equality: chains of links, and numbers that tell terms apart.
use Rattle.std.proofs.Common.{◌≡◌, ℕ, zero, suc, List, [], ◌∷◌, refl, ap, sym, ◌∙◌, subst, inl}
use Rattle.std.specs.Prelude.{codes}
use Rattle.std.proofs.lemmas.Option.{same_Some, none-some}
use Rattle.lotos_base.specs.Signature.{Operation, prefix_form}
use Rattle.lotos_base.specs.Term.{Term, variable, node, Terms, no_terms, term_then}
use Rattle.lotos_base.specs.Sorting.{HasSort, HaveSorts, IsGround, AreGround, IsGroundOf}
use Rattle.lotos_base.specs.Substitution.{Substitution, substituted, binding}
use Rattle.lotos_base.specs.Equation.{Equation, IsGroundInstance}
use Rattle.lotos_base.specs.Equality.{Equal}
use Rattle.lotos_base.specs.SmallData.{example_operation, natural_signature, natural_data, natural_operate, nought_law, successor_law, nought, successor, plus, idle_signature, idle_data, idle_law, a_term, b_term, f_term}
use Rattle.lotos_base.specs.Meaning.{interpretation, meanings, MeetsEquations}
use Rattle.lotos_base.specs.Examples.{EqualityExamples, natural_equations_are_met}
use Rattle.lotos_base.proofs.ExampleHelpers.{grounding}
use Rattle.lotos_base.proofs.EqualityLemmas.{equal_then, equal_back, equal_instance, equal_inside}
use Rattle.lotos_base.proofs.MeaningLemmas.{equal_meaning}
use Rattle.lotos_base.proofs.SortLemmas.{one_sort}
use Rattle.lotos_base.proofs.Each.{each_member}

nought_ground : IsGroundOf natural_signature 0 nought
nought_ground = record { ground = tt; sorted = (_, refl, refl, tt) }

one_ground : IsGroundOf natural_signature 0 (successor nought)
one_ground = record { ground = (tt, tt); sorted = (_, refl, refl, ((_, refl, refl, tt), tt)) }

one_link : Equal natural_data (plus nought (successor nought)) (successor nought)
one_link = equal_instance natural_data nought_law values (0, refl) (record {
  left = grounding natural_signature values nought_law.left (tt, (one_ground, tt));
  right = grounding natural_signature values nought_law.right one_ground;
})
  where
    values : Substitution
    values = binding ((0, successor nought) ∷ [])

two_links : Equal natural_data (plus (successor nought) (successor nought)) (successor (successor nought))
two_links = equal_then
    (equal_instance natural_data successor_law values (1, refl) (record {
      left = grounding natural_signature values successor_law.left ((nought_ground, tt), (one_ground, tt));
      right = grounding natural_signature values successor_law.right ((nought_ground, (one_ground, tt)), tt);
    }))
    (equal_inside (0 ∷ []) (successor (plus nought (successor nought))) (successor (plus nought (successor nought)))
    (successor (successor nought)) one_link refl refl)
  where
    values : Substitution
    values = binding ((0, nought) ∷ (1, successor nought) ∷ [])

pub a_ground : IsGroundOf idle_signature 0 a_term
a_ground = record { ground = tt; sorted = (_, refl, refl, tt) }

idle_instance : (t : Term) → IsGroundOf idle_signature 0 t
    → IsGroundInstance idle_signature idle_law (binding ((0, t) ∷ []))
idle_instance t h = record {
  left = grounding idle_signature (binding ((0, t) ∷ [])) idle_law.left ((h, tt), tt);
  right = grounding idle_signature (binding ((0, t) ∷ [])) idle_law.right (h, tt);
}

pub idle_link : (t : Term) → IsGroundOf idle_signature 0 t → Equal idle_data (f_term (f_term t)) (f_term t)
idle_link t h = equal_instance idle_data idle_law (binding ((0, t) ∷ [])) (0, refl) (idle_instance t h)

-- 1 for f(..) and 0 for all else
abbrev head_operate : ℕ → List ℕ → ℕ
head_operate (suc (suc zero)) ms = 1
head_operate _ _ = 0

head_holds : MeetsEquations idle_data head_operate
head_holds equation values is instance =
    each_member (λ (e : Equation). interpretation head_operate (substituted values e.left)
    ≡ interpretation head_operate (substituted values e.right))
    idle_data.equations is.0 equation (refl, tt) is.1

-- one more than before, and 0 at 0
abbrev grown : ℕ → ℕ
grown zero = 0
grown (suc n) = suc (suc n)

-- 0 without b, and otherwise one more than the number of f above b
abbrev height_operate : ℕ → List ℕ → ℕ
height_operate (suc zero) ms = 1
height_operate (suc (suc zero)) (m ∷ ms) = grown m
height_operate _ _ = 0

abbrev b_operation : Operation
b_operation = example_operation (codes "b") prefix_form [] 1

mutual
  -- a ground term of sort A has no b
  no_height : (t : Term) → HasSort idle_signature t 0 → IsGround t → interpretation height_operate t ≡ 0
  no_height (variable n s) h g = absurd g
  no_height (node zero ts) h g = refl
  no_height (node (suc zero) ts) h g =
      let result : ◌≡◌ {A = ℕ} 1 0 = ap (λ (o : Operation). o.result) (same_Some b_operation h.0 h.1) ∙ h.2 in cc
  no_height (node (suc (suc zero)) ts) h g =
      no_height_below ts (subst (λ (o : Operation). HaveSorts idle_signature ts o.arguments) (sym (same_Some _ h.0 h.1)) h.3) g
  no_height (node (suc (suc (suc f))) ts) h g = absurd (none-some h.0 h.1)

  no_height_below : (ts : Terms) → HaveSorts idle_signature ts (0 ∷ []) → AreGround ts
      → height_operate 2 (meanings height_operate ts) ≡ 0
  no_height_below no_terms h g = absurd h
  no_height_below (term_then t ts) h g = ap grown (no_height t h.0 g.0)

-- no operation has the sort Empty
nothing_empty : (t : Term) → HasSort idle_signature t 2 → IsGround t → ⊥
nothing_empty (variable n s) h g = g
nothing_empty (node f ts) h g =
    each_member (λ (o : Operation). o.result ≡ 2 → ⊥) idle_signature.operations f h.0 ((λ e. cc), ((λ e. cc), ((λ e. cc), tt))) h.1 h.2

height_holds : MeetsEquations idle_data height_operate
height_holds equation values is instance =
    each_member (λ (e : Equation). IsGroundInstance idle_signature e values
    → interpretation height_operate (substituted values e.left) ≡ interpretation height_operate (substituted values e.right))
    idle_data.equations is.0
    equation
    ((λ instance. let ground = instance.right 0 0 (inl (refl, refl)) in rw (no_height (values 0 0) ground.sorted ground.ground) refl), tt)
    is.1 instance

pub equality_examples : EqualityExamples
equality_examples = record {
  one_link = one_link;
  two_links = two_links;
  backward_link = equal_back one_link;
  not_equal = λ e. let same : 0 ≡ 1 = equal_meaning natural_operate natural_equations_are_met e in cc;
  idle_twice = equal_then (idle_link (f_term a_term) (record { ground = (tt, tt); sorted = (_, refl, refl, (a_ground.sorted, tt)) }))
      (idle_link a_term a_ground);
  not_idle = λ e. let same : 0 ≡ 1 = equal_meaning head_operate head_holds e in cc;
  wrong_sort = λ e. let same : 3 ≡ 2 = equal_meaning height_operate height_holds e in cc;
  idle_variable = idle_instance a_term a_ground;
  nothing_for_it = λ t h. nothing_empty t h.sorted h.ground;
  wrong_value = λ h. let e : 0 ≡ 1 = one_sort idle_signature b_term 0 1 (h.right 0 0 (inl (refl, refl))).sorted (_, refl, refl, tt) in cc;
  not_ground = λ h. (h.right 0 0 (inl (refl, refl))).ground;
}
