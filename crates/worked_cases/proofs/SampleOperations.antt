-- What each law of a canon asks of the sums and the comparisons of the sample data.
use Rattle.std.proofs.Common.{◌≡◌, ℕ, zero, suc, [], ◌∷◌, codes, refl, ap, ap₂, sym, ◌∙◌, subst, inl, inr}
use Rattle.std.specs.Prelude.{Some, slice_get}
use Rattle.std.proofs.lemmas.Option.{same_Some}
use Rattle.lotos_base.specs.Signature.{Operation, IsOperation, prefix_form, infix_form}
use Rattle.lotos_base.specs.Term.{Term, node, Terms, no_terms, term_then}
use Rattle.lotos_base.specs.Sorting.{HasSort, HaveSorts, IsGroundOf, Occurs}
use Rattle.lotos_base.specs.Substitution.{Substitution, substituted, renaming, binding}
use Rattle.lotos_base.specs.Equation.{Equation}
use Rattle.lotos_base.specs.Equality.{Equal, same_term}
use Rattle.lotos_base.proofs.ExampleHelpers.{Grounds, grounding}
use Rattle.lotos_base.proofs.EqualityLemmas.{equal_then, equal_back, equal_under, equal_instance}
use Rattle.lotos_base.specs.SmallData.{nought}
use Rattle.worked_cases.specs.BehaviourSamples.{sample_operation_of, sample_signature, sample_data, succ, truth, falsehood, less, sample_plus, sum_with_nought, sum_with_succ, below_nought, nought_below_succ, succ_below_succ, sum_of, is_less, sample_canon}

-- Induction on a sum: its left side, a successor, or the operation on the arguments.
sum_cases : (P : Term → Term → Type 0) → (t : Term) → P nought t
    → ((u : Term) → P u (sum_of t u) → P (succ u) (succ (sum_of t u)))
    → ((u : Term) → sum_of t u ≡ sample_plus t u → P u (sample_plus t u))
    → (u : Term) → P u (sum_of t u)
sum_cases P t none next stays (node zero no_terms) = none
sum_cases P t none next stays (node (suc zero) (term_then u no_terms)) = next u (sum_cases P t none next stays u)
sum_cases P t none next stays u = stays u refl

-- Induction on a comparison: false, true, a comparison of smaller terms, or the operation on the arguments.
less_cases : (P : Term → Term → Term → Type 0) → ((t : Term) → P t nought falsehood)
    → ((u : Term) → P nought (succ u) truth)
    → ((t u : Term) → P t u (is_less t u) → P (succ t) (succ u) (is_less t u))
    → ((t u : Term) → is_less t u ≡ less t u → P t u (less t u))
    → (t u : Term) → P t u (is_less t u)
less_cases P never always next stays t (node zero no_terms) = never t
less_cases P never always next stays (node zero no_terms) (node (suc zero) (term_then u no_terms)) = always u
less_cases P never always next stays (node (suc zero) (term_then t no_terms)) (node (suc zero) (term_then u no_terms)) =
    next t u (less_cases P never always next stays t u)
less_cases P never always next stays t u = stays t u refl

-- the canon of an instance may add and compare before or after
pub canon_sum : (values : Substitution) (t u : Term)
    → sample_canon (substituted values (sum_of t u)) ≡ sample_canon (substituted values (sample_plus t u))
canon_sum values t =
    sum_cases (λ u sum. sample_canon (substituted values sum) ≡ sample_canon (substituted values (sample_plus t u))) t refl
    (λ u e. ap succ e) (λ u is. refl)

pub canon_less : (values : Substitution) (t u : Term)
    → sample_canon (substituted values (is_less t u)) ≡ sample_canon (substituted values (less t u))
canon_less values =
    less_cases (λ t u order. sample_canon (substituted values order) ≡ sample_canon (substituted values (less t u)))
    (λ t. refl) (λ u. refl) (λ t u e. e) (λ t u is. refl)

-- below a successor in canonical form stands a term in canonical form
settled_below : (t : Term) → sample_canon (succ t) ≡ succ t → sample_canon t ≡ t
settled_below t e = cc

-- sums and comparisons of canons are canons
pub settled_sum : (t u : Term) → sample_canon t ≡ t → sample_canon u ≡ u → sample_canon (sum_of t u) ≡ sum_of t u
settled_sum t u e d =
    sum_cases (λ u sum. sample_canon u ≡ u → sample_canon sum ≡ sum) t (λ d. e)
    (λ u settled d. ap succ (settled (settled_below u d)))
    (λ u is d. ap₂ sum_of e d ∙ is)
    u d

pub settled_less : (t u : Term) → sample_canon t ≡ t → sample_canon u ≡ u → sample_canon (is_less t u) ≡ is_less t u
settled_less =
    less_cases (λ t u order. sample_canon t ≡ t → sample_canon u ≡ u → sample_canon order ≡ order)
    (λ t e d. refl) (λ u e d. refl)
    (λ t u settled e d. settled (settled_below t e) (settled_below u d))
    (λ t u is e d. ap₂ is_less e d ∙ is)

-- a variable of a successor occurs below it
occurs_below : (n s : ℕ) (t : Term) → Occurs n s (succ t) → Occurs n s t
occurs_below n s t (inl o) = o
occurs_below n s t (inr o) = absurd o

-- the variables of a sum and of a comparison are among those of the arguments
pub occurring_sum : (n s : ℕ) (t u : Term) → Occurs n s (sum_of t u) → Occurs n s (sample_plus t u)
occurring_sum n s t =
    sum_cases (λ u sum. Occurs n s sum → Occurs n s (sample_plus t u)) t (λ o. inl o)
    (λ u occurring o. below u (occurring (occurs_below n s (sum_of t u) o)))
    (λ u is o. o)
  where
    below : (u : Term) → Occurs n s (sample_plus t u) → Occurs n s (sample_plus t (succ u))
    below u (inl o) = inl o
    below u (inr o) = inr (inl o)

pub occurring_less : (n s : ℕ) (t u : Term) → Occurs n s (is_less t u) → Occurs n s (less t u)
occurring_less n s =
    less_cases (λ t u order. Occurs n s order → Occurs n s (less t u)) (λ t o. absurd o) (λ u o. absurd o)
    (λ t u occurring o. below t u (occurring o)) (λ t u is o. o)
  where
    below : (t u : Term) → Occurs n s (less t u) → Occurs n s (less (succ t) (succ u))
    below t u (inl o) = inl (inl o)
    below t u (inr o) = inr (inl o)

-- a renamed term is 0, or a successor, only where the term is
pub renamed_sum : (number : ℕ → ℕ → ℕ) (t u : Term)
    → sum_of (substituted (renaming number) t) (substituted (renaming number) u) ≡ substituted (renaming number) (sum_of t u)
renamed_sum number t (node zero no_terms) = refl
renamed_sum number t (node (suc zero) (term_then u no_terms)) = ap succ (renamed_sum number t u)
renamed_sum number t u = refl

pub renamed_less : (number : ℕ → ℕ → ℕ) (t u : Term)
    → is_less (substituted (renaming number) t) (substituted (renaming number) u) ≡ substituted (renaming number) (is_less t u)
renamed_less number t (node zero no_terms) = refl
renamed_less number (node zero no_terms) (node (suc zero) (term_then u no_terms)) = refl
renamed_less number (node (suc zero) (term_then t no_terms)) (node (suc zero) (term_then u no_terms)) = renamed_less number t u
renamed_less number t u = refl

-- what has a sort has arguments of the sorts of its operation, and the sort of its result
arguments_sorted : (f : ℕ) (o : Operation) (ts : Terms) (s : ℕ) → IsOperation sample_signature f o
    → HasSort sample_signature (node f ts) s → HaveSorts sample_signature ts o.arguments × (o.result ≡ s)
arguments_sorted f o ts s is h =
    let same : h.0 ≡ o = same_Some h.0 o (sym h.1 ∙ is) in
    (subst (λ (p : Operation). HaveSorts sample_signature ts p.arguments) same h.3, sym (ap (λ (p : Operation). p.result) same) ∙ h.2)

-- The term has the sort Nat.
abbrev IsNat : Term → Type 0
IsNat t = HasSort sample_signature t 1

abbrev succ_operation : Operation
succ_operation = sample_operation_of (codes "Succ") prefix_form (1 ∷ []) 1

abbrev less_operation : Operation
less_operation = sample_operation_of (codes "lt") infix_form (1 ∷ 1 ∷ []) 0

abbrev plus_operation : Operation
plus_operation = sample_operation_of (codes "+") infix_form (1 ∷ 1 ∷ []) 1

-- a term has the sort Nat exactly where its successor has it
succ_sorted : (t : Term) → IsNat t → IsNat (succ t)
succ_sorted t h = (succ_operation, refl, refl, (h, tt))

below_succ_sorted : (t : Term) → IsNat (succ t) → IsNat t
below_succ_sorted t h = (arguments_sorted 1 succ_operation (term_then t no_terms) 1 refl h).0.0

-- the sort of a sum and of a comparison
sum_sorted : (t u : Term) → IsNat t → IsNat u → IsNat (sum_of t u)
sum_sorted t u h k =
    sum_cases (λ u sum. IsNat u → IsNat sum) t (λ k. h)
    (λ u sorted k. succ_sorted (sum_of t u) (sorted (below_succ_sorted u k)))
    (λ u is k. (plus_operation, refl, refl, (h, (k, tt))))
    u k

less_sorted : (t u : Term) → IsNat t → IsNat u → HasSort sample_signature (is_less t u) 0
less_sorted =
    less_cases (λ t u order. IsNat t → IsNat u → HasSort sample_signature order 0)
    (λ t h k. (sample_operation_of (codes "false") prefix_form [] 0, refl, refl, tt))
    (λ u h k. (sample_operation_of (codes "true") prefix_form [] 0, refl, refl, tt))
    (λ t u sorted h k. sorted (below_succ_sorted t h) (below_succ_sorted u k))
    (λ t u is h k. (less_operation, refl, refl, (h, (k, tt))))

-- the arguments of a sum and of a comparison have the sort Nat
pub plus_arguments : (t u : Term) (s : ℕ) → HasSort sample_signature (sample_plus t u) s
    → HaveSorts sample_signature (term_then t (term_then u no_terms)) (1 ∷ 1 ∷ []) × (1 ≡ s)
plus_arguments t u s h = arguments_sorted 4 plus_operation (term_then t (term_then u no_terms)) s refl h

pub less_arguments : (t u : Term) (s : ℕ) → HasSort sample_signature (less t u) s
    → HaveSorts sample_signature (term_then t (term_then u no_terms)) (1 ∷ 1 ∷ []) × (0 ≡ s)
less_arguments t u s h = arguments_sorted 3 less_operation (term_then t (term_then u no_terms)) s refl h

pub sorted_sum : (t u : Term) (s : ℕ) → HasSort sample_signature (sample_plus t u) s → HasSort sample_signature (sum_of t u) s
sorted_sum t u s h =
    let below = plus_arguments t u s h in
    subst (λ (r : ℕ). HasSort sample_signature (sum_of t u) r) below.1 (sum_sorted t u below.0.0 below.0.1.0)

pub sorted_less : (t u : Term) (s : ℕ) → HasSort sample_signature (less t u) s → HasSort sample_signature (is_less t u) s
sorted_less t u s h =
    let below = less_arguments t u s h in
    subst (λ (r : ℕ). HasSort sample_signature (is_less t u) r) below.1 (less_sorted t u below.0.0 below.0.1.0)

-- The term is a ground term of the sort Nat.
abbrev pub IsNumber : Term → Type 0
IsNumber t = IsGroundOf sample_signature 1 t

-- a successor that is a number is that of a number
below_succ : (t : Term) → IsNumber (succ t) → IsNumber t
below_succ t h = record { ground = h.ground.0; sorted = below_succ_sorted t h.sorted }

-- each equation holds of numbers
equation_holds : (number : ℕ) (equation : Equation) (values : Substitution)
    → slice_get sample_data.equations number ≡ Some equation
    → Grounds sample_signature values equation.left → Grounds sample_signature values equation.right
    → Equal sample_data (substituted values equation.left) (substituted values equation.right)
equation_holds number equation values is left right = equal_instance sample_data equation values (number, is) (record {
  left = grounding sample_signature values equation.left left;
  right = grounding sample_signature values equation.right right;
})

sum_with_nought_holds : (t : Term) → IsNumber t → Equal sample_data (sample_plus t nought) t
sum_with_nought_holds t h = equation_holds 0 sum_with_nought (binding ((0, t) ∷ [])) refl (h, (tt, tt)) h

sum_with_succ_holds : (t u : Term) → IsNumber t → IsNumber u → Equal sample_data (sample_plus t (succ u)) (succ (sample_plus t u))
sum_with_succ_holds t u h k = equation_holds 1 sum_with_succ (binding ((0, t) ∷ (1, u) ∷ [])) refl (h, ((k, tt), tt)) ((h, (k, tt)), tt)

below_nought_holds : (t : Term) → IsNumber t → Equal sample_data (less t nought) falsehood
below_nought_holds t h = equation_holds 2 below_nought (binding ((0, t) ∷ [])) refl (h, (tt, tt)) tt

nought_below_succ_holds : (u : Term) → IsNumber u → Equal sample_data (less nought (succ u)) truth
nought_below_succ_holds u h = equation_holds 3 nought_below_succ (binding ((1, u) ∷ [])) refl (tt, ((h, tt), tt)) tt

succ_below_succ_holds : (t u : Term) → IsNumber t → IsNumber u → Equal sample_data (less (succ t) (succ u)) (less t u)
succ_below_succ_holds t u h k = equation_holds 4 succ_below_succ (binding ((0, t) ∷ (1, u) ∷ [])) refl ((h, tt), ((k, tt), tt)) (h, (k, tt))

-- each ground instance of a sum, and of a comparison, equals the operation on the instances of the arguments
pub instance_sum : (values : Substitution) (t u : Term) → IsNumber (substituted values t) → IsNumber (substituted values u)
    → Equal sample_data (substituted values (sum_of t u)) (substituted values (sample_plus t u))
instance_sum values t u h k =
    sum_cases
    (λ u sum. IsNumber (substituted values u) → Equal sample_data (substituted values sum) (substituted values (sample_plus t u)))
    t
    (λ k. equal_back (sum_with_nought_holds (substituted values t) h))
    (λ u equal k.
    let number = below_succ (substituted values u) k in
    equal_then
    (equal_under sample_data 1 (term_then (substituted values (sum_of t u)) no_terms)
    (term_then (substituted values (sample_plus t u)) no_terms)
    (equal number, tt))
    (equal_back (sum_with_succ_holds (substituted values t) (substituted values u) h number)))
    (λ u is k. same_term (substituted values (sample_plus t u)))
    u k

pub instance_less : (values : Substitution) (t u : Term) → IsNumber (substituted values t) → IsNumber (substituted values u)
    → Equal sample_data (substituted values (is_less t u)) (substituted values (less t u))
instance_less values =
    less_cases
    (λ t u order. IsNumber (substituted values t) → IsNumber (substituted values u)
    → Equal sample_data (substituted values order) (substituted values (less t u)))
    (λ t h k. equal_back (below_nought_holds (substituted values t) h))
    (λ u h k. equal_back (nought_below_succ_holds (substituted values u) (below_succ (substituted values u) k)))
    (λ t u equal h k.
    let left = below_succ (substituted values t) h in
    let right = below_succ (substituted values u) k in
    equal_then (equal left right) (equal_back (succ_below_succ_holds (substituted values t) (substituted values u) left right)))
    (λ t u is h k. same_term (substituted values (less t u)))
