-- Facts on the sample data that no test computes: a sort without terms, and terms that are not equal.
use Rattle.std.proofs.Common.{◌≡◌, ℕ, zero, suc, List, [], ◌∷◌, Option, refl, ap, sym, subst, arith}
use Rattle.std.specs.Option.{option_map_or}
use Rattle.lotos_base.specs.Signature.{Operation, IsOperation}
use Rattle.lotos_base.specs.Term.{Term, variable, node, no_terms, term_then}
use Rattle.lotos_base.specs.Sorting.{HasSort, IsGroundOf}
use Rattle.lotos_base.specs.Equality.{Equal}
use Rattle.lotos_base.proofs.CanonLemmas.{canon_tells}
use Rattle.behaviour_semantics.specs.Rule.{AreValues}
use Rattle.behaviour_semantics.specs.Solving.{Entry}
use Rattle.behaviour_semantics.specs.Menu.{IsEntry}
use Rattle.behaviour_semantics.proofs.OptionLemmas.{some_value}
use Rattle.lotos_base.specs.SmallData.{nought}
use Rattle.worked_cases.specs.BehaviourSamples.{sample_bool_sort, nat_sort, empty_sort, sample_signature, sample_data, sample_canon, succ, one, two, truth, falsehood, less, sample_plus}
use Rattle.worked_cases.proofs.SampleCanon.{sample_is_canon}
use Rattle.worked_cases.proofs.TermTests.{ground_in}

abbrev result_or : Option Operation → ℕ
result_or o = option_map_or (λ (x : Operation). x.result) o 0

no_operation : (f : ℕ) (o : Operation) → IsOperation sample_signature f o → o.result ≡ 2 → ⊥
no_operation zero o e r = let h : 1 ≡ o.result = ap result_or e in omega arith
no_operation (suc zero) o e r = let h : 1 ≡ o.result = ap result_or e in omega arith
no_operation (suc (suc zero)) o e r = let h : 0 ≡ o.result = ap result_or e in omega arith
no_operation (suc (suc (suc zero))) o e r = let h : 0 ≡ o.result = ap result_or e in omega arith
no_operation (suc (suc (suc (suc zero)))) o e r = let h : 1 ≡ o.result = ap result_or e in omega arith
no_operation (suc (suc (suc (suc (suc zero))))) o e r = let h : 0 ≡ o.result = ap result_or e in omega arith
no_operation (suc (suc (suc (suc (suc (suc f)))))) o e r = let h : 0 ≡ o.result = ap result_or e in omega arith

no_term : (t : Term) → IsGroundOf sample_signature empty_sort t → ⊥
no_term (variable n s) h = h.ground
no_term (node f ts) h = no_operation f h.sorted.0 h.sorted.1 h.sorted.2

pub no_value : (values : List Term) → AreValues sample_signature (empty_sort ∷ []) values → ⊥
no_value [] h = h
no_value (v ∷ vs) h = no_term v h.0

-- The one entry of a list.
pub one_entry : (P : Entry → Type 0) (known e : Entry) → IsEntry (known ∷ []) e → P e → P known
one_entry P known e (zero, at) h = subst P (sym (some_value at)) h
one_entry P known e (suc k, at) h = absurd (cc at)

-- 2 is not below 2, and 1 is.
pub two_not_below_two : Equal sample_data (less two two) truth → ⊥
two_not_below_two e =
    let same : falsehood ≡ truth = sample_is_canon.decides (less two two) truth sample_bool_sort
    (ground_in sample_signature sample_bool_sort (less two two) refl) (ground_in sample_signature sample_bool_sort truth refl) e in
    absurd (cc same)

-- 0 is not 1.
pub nought_not_one : Equal sample_data nought one → ⊥
nought_not_one e =
    let same : nought ≡ one = sample_is_canon.decides nought one nat_sort (ground_in sample_signature nat_sort nought refl)
    (ground_in sample_signature nat_sort one refl) e in
    absurd (cc same)

-- `Succ(0) + 0` is 1.
pub sum_is_one : Equal sample_data (sample_plus one nought) one
sum_is_one = canon_tells sample_data sample_canon (sample_plus one nought) one nat_sort sample_is_canon
    (ground_in sample_signature nat_sort (sample_plus one nought) refl) (ground_in sample_signature nat_sort one refl) refl

-- `true` is no number, and 0 is one.
pub truth_not_sorted : HasSort sample_signature truth nat_sort → ⊥
truth_not_sorted h =
    let result : 0 ≡ h.0.result = ap result_or h.1 in
    let wanted : h.0.result ≡ 1 = h.2 in
    omega arith

pub sort_of_nought : (sort : ℕ) → HasSort sample_signature nought sort → sort ≡ nat_sort
sort_of_nought sort h =
    let result : 1 ≡ h.0.result = ap result_or h.1 in
    let wanted : h.0.result ≡ sort = h.2 in
    omega arith

pub sum_ground : (t u : Term) → IsGroundOf sample_signature nat_sort t → IsGroundOf sample_signature nat_sort u
    → IsGroundOf sample_signature nat_sort (sample_plus t u)
sum_ground t u h k = record { ground = (h.ground, (k.ground, tt)); sorted = (_, refl, refl, (h.sorted, (k.sorted, tt))) }

-- How often `Succ` stands at the head of a term.
abbrev successors : Term → ℕ
successors (node (suc zero) (term_then t no_terms)) = suc (successors t)
successors t = 0

succ_ground : (t : Term) → IsGroundOf sample_signature nat_sort t → IsGroundOf sample_signature nat_sort (succ t)
succ_ground t h = record { ground = (h.ground, tt); sorted = (_, refl, refl, (h.sorted, tt)) }

-- No number is two greater than itself.
pub not_two_greater : (t : Term) → IsGroundOf sample_signature nat_sort t → Equal sample_data (succ (succ t)) t → ⊥
not_two_greater t h e =
    let same : succ (succ (sample_canon t)) ≡ sample_canon t =
    sample_is_canon.decides (succ (succ t)) t nat_sort (succ_ground (succ t) (succ_ground t h)) h e in
    let counted : suc (suc (successors (sample_canon t))) ≡ successors (sample_canon t) = ap successors same in
    omega arith
