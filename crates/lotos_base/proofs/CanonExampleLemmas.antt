-- Leaving out each meet of a term with itself is a canon of meet(x, x) = x.
use Rattle.std.proofs.Common.{◌≡◌, ℕ, zero, suc, List, [], ◌∷◌, Bool, true, false, refl, ap, sym, ◌∙◌, subst, inl, inr}
use Rattle.std.specs.Prelude.{Some, codes, if◌then◌else◌}
use Rattle.std.proofs.lemmas.Option.{same_Some}
use Rattle.lotos_base.specs.Signature.{Operation, prefix_form}
use Rattle.lotos_base.specs.Term.{Term, variable, node, Terms, no_terms, term_then}
use Rattle.lotos_base.specs.Sorting.{HasSort, HaveSorts, IsGroundOf, Occurs, OccursAmong}
use Rattle.lotos_base.specs.Tests.{term_eq}
use Rattle.lotos_base.specs.Path.{with_argument, put_at}
use Rattle.lotos_base.specs.Substitution.{Substitution, substituted, all_substituted, renaming, binding, IsGrounding}
use Rattle.lotos_base.specs.Equation.{Equation, IsEquation, IsGroundInstance}
use Rattle.lotos_base.specs.Equality.{Equal, AllEqual, same_term}
use Rattle.lotos_base.specs.EqualityLaws.{IsCongruence}
use Rattle.lotos_base.specs.SmallData.{example_operation, meet_signature, meet_data, meet_law, meet, met, meet_canon, meet_canons, a_term}
use Rattle.lotos_base.specs.Examples.{CanonExamples}
use Rattle.lotos_base.proofs.ExampleHelpers.{grounding}
use Rattle.lotos_base.proofs.TestLemmas.{Decides-term_eq}
use Rattle.lotos_base.proofs.PathLemmas.{put_below}
use Rattle.lotos_base.proofs.SubstitutionLemmas.{substituted_sort, instance_ground, renamed_same}
use Rattle.lotos_base.proofs.EqualityLemmas.{equal_then, equal_back, equal_under, equal_instance, equal_related}
use Rattle.lotos_base.proofs.Each.{each_member}

-- A meet of canons is one of them where they are identical, and otherwise their meet.
met_cases : (P : Term → Type 0) (t u : Term) → (t ≡ u → P t) → ((t ≡ u → ⊥) → P (meet t u))
    → P (met 2 (term_then t (term_then u no_terms)))
met_cases P t u same other = go (term_eq t u) refl
  where
    go : (b : Bool) → term_eq t u ≡ b → P (if b then t else meet t u)
    go true e = same ((Decides-term_eq t u).0 e)
    go false e = other (λ is. let equal : term_eq t u ≡ true = (Decides-term_eq t u).1 is in cc)

met_same : (t u : Term) → t ≡ u → met 2 (term_then t (term_then u no_terms)) ≡ t
met_same t u is = met_cases (λ (v : Term). v ≡ t) t u (λ same. refl) (λ other. absurd (other is))

met_other : (t u : Term) → (t ≡ u → ⊥) → met 2 (term_then t (term_then u no_terms)) ≡ meet t u
met_other t u differ = met_cases (λ (v : Term). v ≡ meet t u) t u (λ same. absurd (differ same)) (λ other. refl)

-- the canon of an instance may leave out a meet before or after
canon_met : (values : Substitution) (f : ℕ) (ts : Terms)
    → meet_canon (substituted values (met f ts)) ≡ meet_canon (substituted values (node f ts))
canon_met values (suc (suc zero)) (term_then t (term_then u no_terms)) =
    met_cases (λ (v : Term). meet_canon (substituted values v) ≡ meet_canon (substituted values (meet t u))) t u
    (λ same. sym (met_same (meet_canon (substituted values t)) (meet_canon (substituted values u))
    (ap (λ (v : Term). meet_canon (substituted values v)) same)))
    (λ other. refl)
canon_met values _ _ = refl

settled_met : (f : ℕ) (ts : Terms) → meet_canons ts ≡ ts → meet_canon (met f ts) ≡ met f ts
settled_met (suc (suc zero)) (term_then t (term_then u no_terms)) e =
    met_cases (λ (v : Term). meet_canon v ≡ v) t u (λ same. cc) (λ other. ap (met 2) e ∙ met_other t u other)
settled_met f ts e = ap (met f) e

mutual
  settled : (t : Term) → meet_canon (meet_canon t) ≡ meet_canon t
  settled (variable n s) = refl
  settled (node f ts) = settled_met f (meet_canons ts) (all_settled ts)

  all_settled : (ts : Terms) → meet_canons (meet_canons ts) ≡ meet_canons ts
  all_settled no_terms = refl
  all_settled (term_then t ts) = cc (settled t, all_settled ts)

abbrev canons_of : Substitution → Substitution
canons_of values n s = meet_canon (values n s)

mutual
  substitutes : (values : Substitution) (t : Term)
      → meet_canon (substituted values t) ≡ meet_canon (substituted (canons_of values) (meet_canon t))
  substitutes values (variable n s) = sym (settled (values n s))
  substitutes values (node f ts) =
      ap (met f) (all_substitute values ts) ∙ sym (canon_met (canons_of values) f (meet_canons ts))

  all_substitute : (values : Substitution) (ts : Terms)
      → meet_canons (all_substituted values ts) ≡ meet_canons (all_substituted (canons_of values) (meet_canons ts))
  all_substitute values no_terms = refl
  all_substitute values (term_then t ts) = cc (substitutes values t, all_substitute values ts)

-- the variables of the canon
occurring_met : (n s f : ℕ) (ts : Terms) → Occurs n s (met f ts) → OccursAmong n s ts
occurring_met n s (suc (suc zero)) (term_then t (term_then u no_terms)) o =
    met_cases (λ (v : Term). Occurs n s v → OccursAmong n s (term_then t (term_then u no_terms))) t u (λ same h. inl h) (λ other h. h) o
occurring_met n s _ _ o = o

mutual
  occurring : (n s : ℕ) (t : Term) → Occurs n s (meet_canon t) → Occurs n s t
  occurring n s (variable m r) o = o
  occurring n s (node f ts) o = all_occurring n s ts (occurring_met n s f (meet_canons ts) o)

  all_occurring : (n s : ℕ) (ts : Terms) → OccursAmong n s (meet_canons ts) → OccursAmong n s ts
  all_occurring n s no_terms o = o
  all_occurring n s (term_then t ts) (inl o) = inl (occurring n s t o)
  all_occurring n s (term_then t ts) (inr o) = inr (all_occurring n s ts o)

renamed_met : (number : ℕ → ℕ → ℕ) (f : ℕ) (ts : Terms)
    → ((n m s : ℕ) → OccursAmong n s ts → OccursAmong m s ts → number n s ≡ number m s → n ≡ m)
    → met f (all_substituted (renaming number) ts) ≡ substituted (renaming number) (met f ts)
renamed_met number (suc (suc zero)) (term_then t (term_then u no_terms)) apart =
    met_cases (λ (v : Term). met 2 (all_substituted (renaming number) (term_then t (term_then u no_terms)))
    ≡ substituted (renaming number) v) t u
    (λ same. met_same (substituted (renaming number) t) (substituted (renaming number) u) (ap (substituted (renaming number)) same))
    (λ other. met_other (substituted (renaming number) t) (substituted (renaming number) u)
    (λ e. other (renamed_same number t u (λ n m s o p. apart n m s (inl o) (inr (inl p))) e)))
renamed_met number _ _ apart = refl

mutual
  renames : (number : ℕ → ℕ → ℕ) (t : Term)
      → ((n m s : ℕ) → Occurs n s t → Occurs m s t → number n s ≡ number m s → n ≡ m)
      → meet_canon (substituted (renaming number) t) ≡ substituted (renaming number) (meet_canon t)
  renames number (variable n s) apart = refl
  renames number (node f ts) apart =
      ap (met f) (all_rename number ts apart)
      ∙ renamed_met number f (meet_canons ts) (λ n m s o p. apart n m s (all_occurring n s ts o) (all_occurring m s ts p))

  all_rename : (number : ℕ → ℕ → ℕ) (ts : Terms)
      → ((n m s : ℕ) → OccursAmong n s ts → OccursAmong m s ts → number n s ≡ number m s → n ≡ m)
      → meet_canons (all_substituted (renaming number) ts) ≡ all_substituted (renaming number) (meet_canons ts)
  all_rename number no_terms apart = refl
  all_rename number (term_then t ts) apart =
      cc (renames number t (λ n m s o p. apart n m s (inl o) (inl p)), all_rename number ts (λ n m s o p. apart n m s (inr o) (inr p)))

-- the sort of the canon
abbrev meet_operation : Operation
meet_operation = example_operation (codes "meet") prefix_form (0 ∷ 0 ∷ []) 0

-- the arguments of a meet have the sort A, and so has the meet
meet_arguments : (ts : Terms) (s : ℕ) → HasSort meet_signature (node 2 ts) s
    → HaveSorts meet_signature ts (0 ∷ 0 ∷ []) × (0 ≡ s)
meet_arguments ts s h =
    let same : meet_operation ≡ h.0 = same_Some meet_operation h.0 h.1 in
    (subst (λ (o : Operation). HaveSorts meet_signature ts o.arguments) (sym same) h.3, ap (λ (o : Operation). o.result) same ∙ h.2)

sorted_met : (f : ℕ) (ts : Terms) (s : ℕ) → HasSort meet_signature (node f ts) s → HasSort meet_signature (met f ts) s
sorted_met (suc (suc zero)) (term_then t (term_then u no_terms)) s h =
    let below = meet_arguments (term_then t (term_then u no_terms)) s h in
    met_cases (λ (v : Term). HasSort meet_signature v s) t u (λ same. subst (λ (r : ℕ). HasSort meet_signature t r) below.1 below.0.0)
    (λ other. h)
sorted_met _ _ s h = h

mutual
  sorted : (t : Term) (s : ℕ) → HasSort meet_signature t s → HasSort meet_signature (meet_canon t) s
  sorted (variable n r) s h = h
  sorted (node f ts) s h = sorted_met f (meet_canons ts) s (h.0, h.1, h.2, all_sorted ts h.0.arguments h.3)

  all_sorted : (ts : Terms) (ss : List ℕ) → HaveSorts meet_signature ts ss
      → HaveSorts meet_signature (meet_canons ts) ss
  all_sorted no_terms ss h = h
  all_sorted (term_then t ts) [] h = h
  all_sorted (term_then t ts) (s ∷ ss) h = (sorted t s h.0, all_sorted ts ss h.1)

-- meet(t, t) = t
meet_link : (t : Term) → IsGroundOf meet_signature 0 t → Equal meet_data (meet t t) t
meet_link t h = equal_instance meet_data meet_law (binding ((0, t) ∷ [])) (0, refl) (record {
  left = grounding meet_signature (binding ((0, t) ∷ [])) meet_law.left (h, (h, tt));
  right = grounding meet_signature (binding ((0, t) ∷ [])) meet_law.right h;
})

-- each ground instance of the canon equals that of the term
instance_met : (values : Substitution) (f : ℕ) (ts : Terms) (s : ℕ) → HasSort meet_signature (node f ts) s
    → ((n r : ℕ) → OccursAmong n r ts → IsGroundOf meet_signature r (values n r))
    → Equal meet_data (substituted values (met f ts)) (substituted values (node f ts))
instance_met values (suc (suc zero)) (term_then t (term_then u no_terms)) s h g =
    met_cases (λ (v : Term). Equal meet_data (substituted values v) (substituted values (meet t u))) t u
    (λ same. subst (λ (v : Term). Equal meet_data (substituted values t) (substituted values (meet t v))) same
    (equal_back (meet_link (substituted values t) (record {
      ground = instance_ground values t (λ n r o. (g n r (inl o)).ground);
      sorted = substituted_sort meet_signature values t 0 (meet_arguments (term_then t (term_then u no_terms)) s h).0.0
          (λ n r o. (g n r (inl o)).sorted);
    }))))
    (λ other. same_term (substituted values (meet t u)))
instance_met values f ts s h g = same_term (substituted values (node f ts))

mutual
  instances : (values : Substitution) (t : Term) (s : ℕ) → HasSort meet_signature t s
      → IsGrounding meet_signature t values
      → Equal meet_data (substituted values (meet_canon t)) (substituted values t)
  instances values (variable n r) s h g = same_term (values n r)
  instances values (node f ts) s h g =
      equal_then
      (instance_met values f (meet_canons ts) s (h.0, h.1, h.2, all_sorted ts h.0.arguments h.3) (λ n s o. g n s (all_occurring n s ts o)))
      (equal_under meet_data f (all_substituted values (meet_canons ts)) (all_substituted values ts)
      (all_instances values ts h.0.arguments h.3 g))

  all_instances : (values : Substitution) (ts : Terms) (ss : List ℕ) → HaveSorts meet_signature ts ss
      → ((n s : ℕ) → OccursAmong n s ts → IsGroundOf meet_signature s (values n s))
      → AllEqual meet_data (all_substituted values (meet_canons ts)) (all_substituted values ts)
  all_instances values no_terms ss h g = tt
  all_instances values (term_then t ts) [] h g = absurd h
  all_instances values (term_then t ts) (s ∷ ss) h g =
      (instances values t s h.0 (λ n r o. g n r (inl o)), all_instances values ts ss h.1 (λ n r o. g n r (inr o)))

-- equal terms have one canon
canons_with_argument : (k : ℕ) (t u : Term) (ts : Terms) → meet_canon t ≡ meet_canon u
    → meet_canons (with_argument k t ts) ≡ meet_canons (with_argument k u ts)
canons_with_argument k t u no_terms e = refl
canons_with_argument zero t u (term_then v ts) e = ap (λ (w : Term). term_then w (meet_canons ts)) e
canons_with_argument (suc k) t u (term_then v ts) e = ap (λ ws. term_then (meet_canon v) ws) (canons_with_argument k t u ts e)

canon_inside : (path : List ℕ) (t u whole before after : Term) → meet_canon t ≡ meet_canon u
    → put_at path t whole ≡ Some before → put_at path u whole ≡ Some after
    → meet_canon before ≡ meet_canon after
canon_inside [] t u whole before after e h k = ap meet_canon (sym (same_Some _ _ h)) ∙ e ∙ ap meet_canon (same_Some _ _ k)
canon_inside (j ∷ path) t u (variable n s) before after e h k = cc
canon_inside (j ∷ path) t u (node f ts) before after e h k =
    let first = put_below j path f t ts before h in
    let second = put_below j path f u ts after k in
    let one : second.argument ≡ first.argument = same_Some _ _ (sym second.found ∙ first.found) in
    let inside : meet_canon first.after ≡ meet_canon second.after =
    canon_inside path t u first.argument first.after second.after e first.inside
    (subst (λ (a : Term). put_at path u a ≡ Some second.after) one second.inside) in
    ap meet_canon (sym first.is_whole)
    ∙ ap (met f) (canons_with_argument j first.after second.after ts inside)
    ∙ ap meet_canon second.is_whole

canon_equation : (equation : Equation) (values : Substitution) → IsEquation meet_data equation
    → IsGroundInstance meet_signature equation values
    → meet_canon (substituted values equation.left) ≡ meet_canon (substituted values equation.right)
canon_equation equation values is instance =
    each_member (λ (e : Equation). meet_canon (substituted values e.left) ≡ meet_canon (substituted values e.right)) meet_data.equations
    is.0 equation
    (met_same (meet_canon (values 0 0)) (meet_canon (values 0 0)) refl, tt) is.1

one_canon : (t u : Term) → Equal meet_data t u → meet_canon t ≡ meet_canon u
one_canon t u e = equal_related (λ t. Unit {0}) (λ t u. meet_canon t ≡ meet_canon u) congruence tt e
  where
    congruence : IsCongruence meet_data (λ t. Unit {0}) (λ t u. meet_canon t ≡ meet_canon u)
    congruence = record {
      closed = λ t u h l. tt;
      reflexive = λ t h. refl;
      symmetric = λ t u h k e. sym e;
      transitive = λ t u v h k g e d. e ∙ d;
      inside = λ path t u whole before after h k e g d. canon_inside path t u whole before after e g d;
      equations = canon_equation;
    }

pub canon_examples : CanonExamples
canon_examples = record {
  meets = record {
    sorts = sorted;
    instances = λ t values h g. instances values t h.0 h.1 g;
    decides = λ t u s h k e. one_canon t u e;
    settled = λ t h. settled t;
    occurring = λ t n s h o. occurring n s t o;
    variables = λ n s. refl;
    substitutes = λ t values h k. substitutes values t;
    renames = λ t number h k. renames number t k;
  };
  identity = λ c.
      let a_ground : IsGroundOf meet_signature 0 a_term = record { ground = tt; sorted = (_, refl, refl, tt) } in
      let same : meet a_term a_term ≡ a_term = c.decides (meet a_term a_term) a_term 0
      (record { ground = (tt, (tt, tt)); sorted = (_, refl, refl, (a_ground.sorted, (a_ground.sorted, tt))) })
      a_ground
      (meet_link a_term a_ground) in
      cc;
  same = refl;
  different = refl;
  apart = λ n m s o p e. cc;
  joined = λ apart. let same : ◌≡◌ {A = ℕ} 0 1 = apart 0 1 0 (inl (refl, refl)) (inr (inl (refl, refl))) refl in cc;
}
