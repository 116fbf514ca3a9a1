-- Adding and comparing from the inside out is a canon of the sample data.
use Rattle.std.proofs.Common.{◌≡◌, ℕ, zero, suc, List, [], ◌∷◌, refl, ap, sym, ◌∙◌, subst, inl, inr}
use Rattle.std.specs.Prelude.{Some}
use Rattle.std.proofs.lemmas.Option.{same_Some}
use Rattle.lotos_base.specs.Term.{Term, variable, node, Terms, no_terms, term_then}
use Rattle.lotos_base.specs.Sorting.{HasSort, HaveSorts, IsGroundOf, Occurs, OccursAmong}
use Rattle.lotos_base.specs.Path.{with_argument, put_at}
use Rattle.lotos_base.specs.Substitution.{Substitution, substituted, all_substituted, renaming, IsGrounding}
use Rattle.lotos_base.specs.Equation.{Equation, IsEquation, IsGroundInstance}
use Rattle.lotos_base.specs.Equality.{Equal, AllEqual, same_term}
use Rattle.lotos_base.specs.EqualityLaws.{IsCongruence}
use Rattle.lotos_base.specs.Canon.{IsCanon}
use Rattle.lotos_base.proofs.Each.{each_member}
use Rattle.lotos_base.proofs.PathLemmas.{put_below}
use Rattle.lotos_base.proofs.SubstitutionLemmas.{substituted_sort, instance_ground}
use Rattle.lotos_base.proofs.EqualityLemmas.{equal_then, equal_under, equal_related}
use Rattle.worked_cases.specs.BehaviourSamples.{sample_signature, sample_data, sum_of, is_less, canonically_applied, sample_canon, sample_canons}
use Rattle.worked_cases.proofs.SampleOperations.{canon_sum, canon_less, settled_sum, settled_less, occurring_sum, occurring_less, renamed_sum, renamed_less, sorted_sum, sorted_less, plus_arguments, less_arguments, IsNumber, instance_sum, instance_less}

-- An applied operation is a comparison, a sum, or the operation on the arguments.
applied_cases : (P : ℕ → Terms → Term → Type 0)
    → ((t u : Term) → P 3 (term_then t (term_then u no_terms)) (is_less t u))
    → ((t u : Term) → P 4 (term_then t (term_then u no_terms)) (sum_of t u))
    → ((f : ℕ) (ts : Terms) → canonically_applied f ts ≡ node f ts → P f ts (node f ts)) → (f : ℕ) (ts : Terms)
    → P f ts (canonically_applied f ts)
applied_cases P order sum stays (suc (suc (suc zero))) (term_then t (term_then u no_terms)) = order t u
applied_cases P order sum stays (suc (suc (suc (suc zero)))) (term_then t (term_then u no_terms)) = sum t u
applied_cases P order sum stays f ts = stays f ts refl

-- the canon of an instance may apply the operation before or after
canon_applied : (values : Substitution) (f : ℕ) (ts : Terms)
    → sample_canon (substituted values (canonically_applied f ts)) ≡ sample_canon (substituted values (node f ts))
canon_applied values =
    applied_cases (λ f ts t. sample_canon (substituted values t) ≡ sample_canon (substituted values (node f ts)))
    (canon_less values) (canon_sum values) (λ f ts is. refl)

settled_applied : (f : ℕ) (ts : Terms) → sample_canons ts ≡ ts → sample_canon (canonically_applied f ts) ≡ canonically_applied f ts
settled_applied =
    applied_cases (λ f ts t. sample_canons ts ≡ ts → sample_canon t ≡ t)
    (λ t u e. settled_less t u (left_settled t u e) (right_settled t u e))
    (λ t u e. settled_sum t u (left_settled t u e) (right_settled t u e))
    (λ f ts is e. ap (canonically_applied f) e ∙ is)
  where
    left_settled : (t u : Term) → sample_canons (term_then t (term_then u no_terms)) ≡ term_then t (term_then u no_terms)
        → sample_canon t ≡ t
    left_settled t u e = cc

    right_settled : (t u : Term) → sample_canons (term_then t (term_then u no_terms)) ≡ term_then t (term_then u no_terms)
        → sample_canon u ≡ u
    right_settled t u e = cc

mutual
  settled : (t : Term) → sample_canon (sample_canon t) ≡ sample_canon t
  settled (variable n s) = refl
  settled (node f ts) = settled_applied f (sample_canons ts) (all_settled ts)

  all_settled : (ts : Terms) → sample_canons (sample_canons ts) ≡ sample_canons ts
  all_settled no_terms = refl
  all_settled (term_then t ts) = cc (settled t, all_settled ts)

abbrev canons_of : Substitution → Substitution
canons_of values n s = sample_canon (values n s)

mutual
  substitutes : (values : Substitution) (t : Term)
      → sample_canon (substituted values t) ≡ sample_canon (substituted (canons_of values) (sample_canon t))
  substitutes values (variable n s) = sym (settled (values n s))
  substitutes values (node f ts) =
      ap (canonically_applied f) (all_substitute values ts) ∙ sym (canon_applied (canons_of values) f (sample_canons ts))

  all_substitute : (values : Substitution) (ts : Terms)
      → sample_canons (all_substituted values ts) ≡ sample_canons (all_substituted (canons_of values) (sample_canons ts))
  all_substitute values no_terms = refl
  all_substitute values (term_then t ts) = cc (substitutes values t, all_substitute values ts)

-- the variables of the canon
occurring_applied : (n s f : ℕ) (ts : Terms) → Occurs n s (canonically_applied f ts) → OccursAmong n s ts
occurring_applied n s =
    applied_cases (λ f ts t. Occurs n s t → OccursAmong n s ts) (occurring_less n s) (occurring_sum n s) (λ f ts is o. o)

mutual
  occurring : (n s : ℕ) (t : Term) → Occurs n s (sample_canon t) → Occurs n s t
  occurring n s (variable m r) o = o
  occurring n s (node f ts) o = all_occurring n s ts (occurring_applied n s f (sample_canons ts) o)

  all_occurring : (n s : ℕ) (ts : Terms) → OccursAmong n s (sample_canons ts) → OccursAmong n s ts
  all_occurring n s no_terms o = o
  all_occurring n s (term_then t ts) (inl o) = inl (occurring n s t o)
  all_occurring n s (term_then t ts) (inr o) = inr (all_occurring n s ts o)

-- an operation may be applied before or after a renaming
renamed_applied : (number : ℕ → ℕ → ℕ) (f : ℕ) (ts : Terms)
    → canonically_applied f (all_substituted (renaming number) ts) ≡ substituted (renaming number) (canonically_applied f ts)
renamed_applied number (suc (suc (suc zero))) (term_then t (term_then u no_terms)) = renamed_less number t u
renamed_applied number (suc (suc (suc (suc zero)))) (term_then t (term_then u no_terms)) = renamed_sum number t u
renamed_applied number f ts = refl

mutual
  renames : (number : ℕ → ℕ → ℕ) (t : Term)
      → sample_canon (substituted (renaming number) t) ≡ substituted (renaming number) (sample_canon t)
  renames number (variable n s) = refl
  renames number (node f ts) = ap (canonically_applied f) (all_rename number ts) ∙ renamed_applied number f (sample_canons ts)

  all_rename : (number : ℕ → ℕ → ℕ) (ts : Terms)
      → sample_canons (all_substituted (renaming number) ts) ≡ all_substituted (renaming number) (sample_canons ts)
  all_rename number no_terms = refl
  all_rename number (term_then t ts) = cc (renames number t, all_rename number ts)

-- the sort of the canon
sorted_applied : (s f : ℕ) (ts : Terms) → HasSort sample_signature (node f ts) s → HasSort sample_signature (canonically_applied f ts) s
sorted_applied s =
    applied_cases (λ f ts t. HasSort sample_signature (node f ts) s → HasSort sample_signature t s)
    (λ t u h. sorted_less t u s h) (λ t u h. sorted_sum t u s h) (λ f ts is h. h)

mutual
  sorted : (t : Term) (s : ℕ) → HasSort sample_signature t s → HasSort sample_signature (sample_canon t) s
  sorted (variable n r) s h = h
  sorted (node f ts) s h = sorted_applied s f (sample_canons ts) (h.0, h.1, h.2, all_sorted ts h.0.arguments h.3)

  all_sorted : (ts : Terms) (ss : List ℕ) → HaveSorts sample_signature ts ss
      → HaveSorts sample_signature (sample_canons ts) ss
  all_sorted no_terms ss h = h
  all_sorted (term_then t ts) [] h = h
  all_sorted (term_then t ts) (s ∷ ss) h = (sorted t s h.0, all_sorted ts ss h.1)

-- The substitution gives each variable that occurs among the terms a ground term of its sort.
abbrev GroundsAmong : Substitution → Terms → Type 0
GroundsAmong values ts = (n s : ℕ) → OccursAmong n s ts → IsGroundOf sample_signature s (values n s)

-- then the instances of two arguments of the sort Nat are numbers
number_instances : (values : Substitution) (t u : Term) → HaveSorts sample_signature (term_then t (term_then u no_terms)) (1 ∷ 1 ∷ [])
    → GroundsAmong values (term_then t (term_then u no_terms))
    → IsNumber (substituted values t) × IsNumber (substituted values u)
number_instances values t u h g = (
  record {
    ground = instance_ground values t (λ n r o. (g n r (inl o)).ground);
    sorted = substituted_sort sample_signature values t 1 h.0 (λ n r o. (g n r (inl o)).sorted);
  },
  record {
    ground = instance_ground values u (λ n r o. (g n r (inr (inl o))).ground);
    sorted = substituted_sort sample_signature values u 1 h.1.0 (λ n r o. (g n r (inr (inl o))).sorted);
  },
)

-- each ground instance of the canon equals that of the term
instance_applied : (values : Substitution) (s f : ℕ) (ts : Terms) → HasSort sample_signature (node f ts) s
    → GroundsAmong values ts
    → Equal sample_data (substituted values (canonically_applied f ts)) (substituted values (node f ts))
instance_applied values s = applied_cases
    (λ f ts t. HasSort sample_signature (node f ts) s → GroundsAmong values ts
    → Equal sample_data (substituted values t) (substituted values (node f ts)))
    (λ t u h g.
    let numbers = number_instances values t u (less_arguments t u s h).0 g in
    instance_less values t u numbers.0 numbers.1)
    (λ t u h g.
    let numbers = number_instances values t u (plus_arguments t u s h).0 g in
    instance_sum values t u numbers.0 numbers.1)
    (λ f ts is h g. same_term (substituted values (node f ts)))

mutual
  instances : (values : Substitution) (t : Term) (s : ℕ) → HasSort sample_signature t s
      → IsGrounding sample_signature t values
      → Equal sample_data (substituted values (sample_canon t)) (substituted values t)
  instances values (variable n r) s h g = same_term (values n r)
  instances values (node f ts) s h g =
      equal_then
      (instance_applied values s f (sample_canons ts) (h.0, h.1, h.2, all_sorted ts h.0.arguments h.3)
      (λ n s o. g n s (all_occurring n s ts o)))
      (equal_under sample_data f (all_substituted values (sample_canons ts)) (all_substituted values ts)
      (all_instances values ts h.0.arguments h.3 g))

  all_instances : (values : Substitution) (ts : Terms) (ss : List ℕ) → HaveSorts sample_signature ts ss
      → GroundsAmong values ts
      → AllEqual sample_data (all_substituted values (sample_canons ts)) (all_substituted values ts)
  all_instances values no_terms ss h g = tt
  all_instances values (term_then t ts) [] h g = absurd h
  all_instances values (term_then t ts) (s ∷ ss) h g =
      (instances values t s h.0 (λ n r o. g n r (inl o)), all_instances values ts ss h.1 (λ n r o. g n r (inr o)))

-- equal terms have one canon
canons_with_argument : (k : ℕ) (t u : Term) (ts : Terms) → sample_canon t ≡ sample_canon u
    → sample_canons (with_argument k t ts) ≡ sample_canons (with_argument k u ts)
canons_with_argument k t u no_terms e = refl
canons_with_argument zero t u (term_then v ts) e = ap (λ (w : Term). term_then w (sample_canons ts)) e
canons_with_argument (suc k) t u (term_then v ts) e = ap (λ ws. term_then (sample_canon v) ws) (canons_with_argument k t u ts e)

canon_inside : (path : List ℕ) (t u whole before after : Term) → sample_canon t ≡ sample_canon u
    → put_at path t whole ≡ Some before → put_at path u whole ≡ Some after
    → sample_canon before ≡ sample_canon after
canon_inside [] t u whole before after e h k = ap sample_canon (sym (same_Some _ _ h)) ∙ e ∙ ap sample_canon (same_Some _ _ k)
canon_inside (j ∷ path) t u (variable n s) before after e h k = cc
canon_inside (j ∷ path) t u (node f ts) before after e h k =
    let first = put_below j path f t ts before h in
    let second = put_below j path f u ts after k in
    let one : second.argument ≡ first.argument = same_Some _ _ (sym second.found ∙ first.found) in
    let inside : sample_canon first.after ≡ sample_canon second.after =
    canon_inside path t u first.argument first.after second.after e first.inside
    (subst (λ (a : Term). put_at path u a ≡ Some second.after) one second.inside) in
    ap sample_canon (sym first.is_whole)
    ∙ ap (canonically_applied f) (canons_with_argument j first.after second.after ts inside)
    ∙ ap sample_canon second.is_whole

-- the two sides of each equation have one canon
canon_equation : (equation : Equation) (values : Substitution) → IsEquation sample_data equation
    → IsGroundInstance sample_signature equation values
    → sample_canon (substituted values equation.left) ≡ sample_canon (substituted values equation.right)
canon_equation equation values is instance =
    each_member (λ (e : Equation). sample_canon (substituted values e.left) ≡ sample_canon (substituted values e.right))
    sample_data.equations is.0 equation
    (refl, (refl, (refl, (refl, (refl, tt))))) is.1

congruence : IsCongruence sample_data (λ t. Unit {0}) (λ t u. sample_canon t ≡ sample_canon u)
congruence = record {
  closed = λ t u h l. tt;
  reflexive = λ t h. refl;
  symmetric = λ t u h k e. sym e;
  transitive = λ t u v h k g e d. e ∙ d;
  inside = λ path t u whole before after h k e g d. canon_inside path t u whole before after e g d;
  equations = canon_equation;
}

pub sample_is_canon : IsCanon sample_data sample_canon
sample_is_canon = record {
  sorts = sorted;
  instances = λ t values h g. instances values t h.0 h.1 g;
  decides = λ t u s h k e. equal_related (λ t. Unit {0}) (λ t u. sample_canon t ≡ sample_canon u) congruence tt e;
  settled = λ t h. settled t;
  occurring = λ t n s h o. occurring n s t o;
  variables = λ n s. refl;
  substitutes = λ t values h k. substitutes values t;
  renames = λ t number h k. renames number t;
}
