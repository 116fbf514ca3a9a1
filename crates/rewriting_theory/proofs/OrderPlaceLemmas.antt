-- The order by places is the order by recursion along the argument lists.
use Rattle.std.proofs.Common.{◌≡◌, ◌<◌, ◌≢◌, ℕ, zero, suc, List, [], ◌∷◌, length, refl, ap, sym, ◌∙◌, subst, arith}
use Rattle.std.specs.Prelude.{Some}
use Rattle.std.proofs.lemmas.Option.{same_Some}
use Rattle.lotos_base.specs.Signature.{Signature, Operation}
use Rattle.lotos_base.specs.Term.{Term, variable, node, Terms, no_terms, term_then, list_of}
use Rattle.lotos_base.specs.Sorting.{HasSort, HaveSorts, Occurs}
use Rattle.lotos_base.specs.Path.{argument_at}
use Rattle.rewriting_theory.specs.Precedence.{Status, from_left, from_right, Precedence}
use Rattle.rewriting_theory.specs.PathOrder.{IsDecidingPlace, IsGreater, by_variable, by_same_argument, by_greater_argument, by_rank, by_arguments}
use Rattle.rewriting_theory.specs.OrderFamily.{SameLength, Exceeds, by_occurrence, by_argument, by_operation, by_comparison, SomeReaches, is_first, first_exceeds, among_rest, ExceedsAll, than_none, than_first, ListExceeds, left_here, left_later, right_here, right_later}
use Rattle.rewriting_theory.proofs.Closure.{same_reached, greater_reached}
use Rattle.rewriting_theory.proofs.StrictLemmas.{exceeds_irreflexive}

-- ---- lengths

length_same : (ts us : Terms) → length (list_of ts) ≡ length (list_of us) → SameLength ts us
length_same no_terms no_terms e = tt
length_same no_terms (term_then u us) e = absurd (omega arith)
length_same (term_then t ts) no_terms e = absurd (omega arith)
length_same (term_then t ts) (term_then u us) e = length_same ts us (omega arith)

same_length : (ts us : Terms) → SameLength ts us → length (list_of ts) ≡ length (list_of us)
same_length no_terms no_terms h = refl
same_length no_terms (term_then u us) h = absurd h
same_length (term_then t ts) no_terms h = absurd h
same_length (term_then t ts) (term_then u us) h = ap (λ (n : ℕ). suc n) (same_length ts us h)

-- lists that agree at each place are identical
all_agree : (ts us : Terms) → ((k : ℕ) → argument_at k ts ≡ argument_at k us) → ts ≡ us
all_agree no_terms no_terms agree = refl
all_agree no_terms (term_then u us) agree = let first = agree zero in cc
all_agree (term_then t ts) no_terms agree = let first = agree zero in cc
all_agree (term_then t ts) (term_then u us) agree =
    let first : t ≡ u = same_Some t u (agree zero) in
    let rest : ts ≡ us = all_agree ts us (λ k. agree (suc k)) in
    λ i. term_then (first i) (rest i)

-- the argument lists of one operation in well-sorted terms have one length
sorts_length : (signature : Signature) (ts us : Terms) (sorts : List ℕ) → HaveSorts signature ts sorts
    → HaveSorts signature us sorts → SameLength ts us
sorts_length signature no_terms no_terms sorts h k = tt
sorts_length signature no_terms (term_then u us) [] h k = k
sorts_length signature no_terms (term_then u us) (s ∷ ss) h k = h
sorts_length signature (term_then t ts) no_terms [] h k = h
sorts_length signature (term_then t ts) no_terms (s ∷ ss) h k = k
sorts_length signature (term_then t ts) (term_then u us) [] h k = absurd h
sorts_length signature (term_then t ts) (term_then u us) (s ∷ ss) h k = sorts_length signature ts us ss h.1 k.1

pub sorted_lengths : (signature : Signature) (f r s : ℕ) (ts us : Terms) → HasSort signature (node f ts) r
    → HasSort signature (node f us) s → length (list_of ts) ≡ length (list_of us)
sorted_lengths signature f r s ts us h k =
    let one : h.0 ≡ k.0 = same_Some h.0 k.0 (sym h.1 ∙ k.1) in
    same_length ts us
    (sorts_length signature ts us k.0.arguments (subst (λ (o : Operation). HaveSorts signature ts o.arguments) one h.3) k.3)

-- ---- from the lists to the places

-- An argument that is the term or greater, with its place.
data ReachedAt (p : Precedence) (ts : Terms) (u : Term) : Type 0 where
  same_at : (k : ℕ) → argument_at k ts ≡ Some u → ReachedAt p ts u
  greater_at : (k : ℕ) (a : Term) → argument_at k ts ≡ Some a → IsGreater p a u → ReachedAt p ts u

later_at : {p : Precedence} {t : Term} {ts : Terms} {u : Term} → ReachedAt p ts u → ReachedAt p (term_then t ts) u
later_at (same_at k e) = same_at (suc k) e
later_at (greater_at k a e g) = greater_at (suc k) a e g

reached_greater : {p : Precedence} (f : ℕ) {ts : Terms} {u : Term} → ReachedAt p ts u → IsGreater p (node f ts) u
reached_greater f (same_at k e) = by_same_argument k e
reached_greater f (greater_at k a e g) = by_greater_argument k e g

-- The deciding place with the arguments there.
record DecidedAt (p : Precedence) (status : Status) (ts us : Terms) : Type 0 where
  place : ℕ
  a : Term
  b : Term
  decides : IsDecidingPlace status ts us place
  left_at : argument_at place ts ≡ Some a
  right_at : argument_at place us ≡ Some b
  greater : IsGreater p a b

distinct_at : {p : Precedence} (t u : Term) → Exceeds p t u → Some t ≢ Some u
distinct_at {p = p} t u g e = exceeds_irreflexive p u (subst (λ (v : Term). Exceeds p v u) (same_Some t u e) g)

decided_left : {p : Precedence} {t u : Term} {ts us : Terms} → Exceeds p t u → SameLength ts us → IsGreater p t u
    → DecidedAt p from_left (term_then t ts) (term_then u us)
decided_left {t = t} {u = u} {ts = ts} {us = us} g same greater = record {
  place = zero;
  a = t;
  b = u;
  decides = record {
    one_length = ap (λ (n : ℕ). suc n) (same_length ts us same);
    agree = λ k before. absurd (omega arith);
    differ = distinct_at t u g;
  };
  left_at = refl;
  right_at = refl;
  greater = greater;
}

agree_later_left : (t : Term) (ts us : Terms) (place : ℕ)
    → ((k : ℕ) → k < place → argument_at k ts ≡ argument_at k us)
    → (k : ℕ) → k < suc place → argument_at k (term_then t ts) ≡ argument_at k (term_then t us)
agree_later_left t ts us place agree zero before = refl
agree_later_left t ts us place agree (suc k) before = agree k (omega arith)

later_left : {p : Precedence} {t : Term} {ts us : Terms} → DecidedAt p from_left ts us
    → DecidedAt p from_left (term_then t ts) (term_then t us)
later_left {t = t} {ts = ts} {us = us} d = record {
  place = suc d.place;
  a = d.a;
  b = d.b;
  decides = record {
    one_length = ap (λ (n : ℕ). suc n) d.decides.one_length;
    agree = agree_later_left t ts us d.place d.decides.agree;
    differ = d.decides.differ;
  };
  left_at = d.left_at;
  right_at = d.right_at;
  greater = d.greater;
}

agree_after_right : (t u : Term) (ts : Terms) (k : ℕ) → zero < k → argument_at k (term_then t ts) ≡ argument_at k (term_then u ts)
agree_after_right t u ts zero before = absurd (omega arith)
agree_after_right t u ts (suc k) before = refl

decided_right : {p : Precedence} {t u : Term} {ts : Terms} → Exceeds p t u → IsGreater p t u
    → DecidedAt p from_right (term_then t ts) (term_then u ts)
decided_right {t = t} {u = u} {ts = ts} g greater = record {
  place = zero;
  a = t;
  b = u;
  decides = record { one_length = refl; agree = agree_after_right t u ts; differ = distinct_at t u g };
  left_at = refl;
  right_at = refl;
  greater = greater;
}

agree_later_right : (t u : Term) (ts us : Terms) (place : ℕ)
    → ((k : ℕ) → place < k → argument_at k ts ≡ argument_at k us)
    → (k : ℕ) → suc place < k → argument_at k (term_then t ts) ≡ argument_at k (term_then u us)
agree_later_right t u ts us place agree zero before = absurd (omega arith)
agree_later_right t u ts us place agree (suc k) before = agree k (omega arith)

later_right : {p : Precedence} {t u : Term} {ts us : Terms} → DecidedAt p from_right ts us
    → DecidedAt p from_right (term_then t ts) (term_then u us)
later_right {t = t} {u = u} {ts = ts} {us = us} d = record {
  place = suc d.place;
  a = d.a;
  b = d.b;
  decides = record {
    one_length = ap (λ (n : ℕ). suc n) d.decides.one_length;
    agree = agree_later_right t u ts us d.place d.decides.agree;
    differ = d.decides.differ;
  };
  left_at = d.left_at;
  right_at = d.right_at;
  greater = d.greater;
}

mutual
  pub exceeds_greater : {p : Precedence} {t u : Term} → Exceeds p t u → IsGreater p t u
  exceeds_greater (by_occurrence o) = by_variable o (λ e. cc)
  exceeds_greater (by_argument {f = f} r) = reached_greater f (reaches_at r)
  exceeds_greater (by_operation over all) = by_rank over (all_at all)
  exceeds_greater {p = p} (by_comparison {f = f} all l) =
      let d = list_at l in
      by_arguments d.place (all_at all) d.decides d.left_at d.right_at d.greater

  reaches_at : {p : Precedence} {ts : Terms} {u : Term} → SomeReaches p ts u → ReachedAt p ts u
  reaches_at is_first = same_at zero refl
  reaches_at (first_exceeds {t = t} g) = greater_at zero t refl (exceeds_greater g)
  reaches_at (among_rest r) = later_at (reaches_at r)

  all_at : {p : Precedence} {t : Term} {us : Terms} → ExceedsAll p t us → (k : ℕ) (u : Term) → argument_at k us ≡ Some u
      → IsGreater p t u
  all_at than_none k u e = cc
  all_at {p = p} {t = t} (than_first {u = v} g all) zero u e = subst (λ (w : Term). IsGreater p t w) (same_Some v u e) (exceeds_greater g)
  all_at (than_first g all) (suc k) u e = all_at all k u e

  list_at : {p : Precedence} {status : Status} {ts us : Terms} → ListExceeds p status ts us → DecidedAt p status ts us
  list_at (left_here g same) = decided_left g same (exceeds_greater g)
  list_at (left_later l) = later_left (list_at l)
  list_at (right_here g) = decided_right g (exceeds_greater g)
  list_at (right_later l) = later_right (list_at l)

-- ---- from the places to the lists

every_exceeds : {p : Precedence} {t : Term} (us : Terms) → ((k : ℕ) (u : Term) → argument_at k us ≡ Some u → Exceeds p t u)
    → ExceedsAll p t us
every_exceeds no_terms every = than_none
every_exceeds (term_then u us) every = than_first (every zero u refl) (every_exceeds us (λ k v e. every (suc k) v e))

exceeds_at : {p : Precedence} (t u a b : Term) → Some t ≡ Some a → Some u ≡ Some b → Exceeds p a b → Exceeds p t u
exceeds_at {p = p} t u a b ea eb g =
    subst (λ (v : Term). Exceeds p v u) (sym (same_Some t a ea)) (subst (λ (v : Term). Exceeds p a v) (sym (same_Some u b eb)) g)

left_list : {p : Precedence} (ts us : Terms) (place : ℕ) (a b : Term) → SameLength ts us
    → ((k : ℕ) → k < place → argument_at k ts ≡ argument_at k us)
    → argument_at place ts ≡ Some a → argument_at place us ≡ Some b → Exceeds p a b → ListExceeds p from_left ts us
left_list no_terms us place a b same agree ea eb g = cc
left_list (term_then t ts) no_terms place a b same agree ea eb g = absurd same
left_list (term_then t ts) (term_then u us) zero a b same agree ea eb g = left_here (exceeds_at t u a b ea eb g) same
left_list {p = p} (term_then t ts) (term_then u us) (suc place) a b same agree ea eb g =
    subst (λ (v : Term). ListExceeds p from_left (term_then t ts) (term_then v us)) (same_Some t u (agree zero (omega arith)))
    (left_later (left_list ts us place a b same (λ k before. agree (suc k) (omega arith)) ea eb g))

right_list : {p : Precedence} (ts us : Terms) (place : ℕ) (a b : Term) → SameLength ts us
    → ((k : ℕ) → place < k → argument_at k ts ≡ argument_at k us)
    → argument_at place ts ≡ Some a → argument_at place us ≡ Some b → Exceeds p a b → ListExceeds p from_right ts us
right_list no_terms us place a b same agree ea eb g = cc
right_list (term_then t ts) no_terms place a b same agree ea eb g = absurd same
right_list {p = p} (term_then t ts) (term_then u us) zero a b same agree ea eb g =
    subst (λ (vs : Terms). ListExceeds p from_right (term_then t ts) (term_then u vs))
    (all_agree ts us (λ k. agree (suc k) (omega arith))) (right_here (exceeds_at t u a b ea eb g))
right_list (term_then t ts) (term_then u us) (suc place) a b same agree ea eb g =
    right_later (right_list ts us place a b same (λ k before. agree (suc k) (omega arith)) ea eb g)

decided_list : {p : Precedence} (status : Status) (ts us : Terms) (place : ℕ) (a b : Term)
    → IsDecidingPlace status ts us place → argument_at place ts ≡ Some a → argument_at place us ≡ Some b → Exceeds p a b
    → ListExceeds p status ts us
decided_list from_left ts us place a b d ea eb g = left_list ts us place a b (length_same ts us d.one_length) d.agree ea eb g
decided_list from_right ts us place a b d ea eb g = right_list ts us place a b (length_same ts us d.one_length) d.agree ea eb g

variable_exceeded : {p : Precedence} (t : Term) (n s : ℕ) → Occurs n s t → t ≢ variable n s → Exceeds p t (variable n s)
variable_exceeded (variable m r) n s o other = absurd (other (λ i. variable (o.0 i) (o.1 i)))
variable_exceeded (node f ts) n s o other = by_occurrence o

pub greater_exceeds : {p : Precedence} {t u : Term} → IsGreater p t u → Exceeds p t u
greater_exceeds (by_variable {t = t} {n = n} {s = s} o other) = variable_exceeded t n s o other
greater_exceeds (by_same_argument {ts = ts} {u = u} place e) = by_argument (same_reached place u ts e)
greater_exceeds (by_greater_argument {ts = ts} {a = a} {u = u} place e g) = by_argument (greater_reached place a u ts e (greater_exceeds g))
greater_exceeds (by_rank {us = us} over every) = by_operation over (every_exceeds us (λ k u e. greater_exceeds (every k u e)))
greater_exceeds {p = p} (by_arguments {f = f} {ts = ts} {us = us} {a = a} {b = b} place every d ea eb g) =
    by_comparison (every_exceeds us (λ k u e. greater_exceeds (every k u e)))
    (decided_list (p.status f) ts us place a b d ea eb (greater_exceeds g))
