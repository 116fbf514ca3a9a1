-- The readings of a written term are among finitely many terms, and whether a term is one is decided: so there is none, or one
-- alone, or there are two.
use Rattle.std.proofs.Common.{◌≡◌, ◌⊎◌, inl, inr, ◌<◌, ℕ, zero, suc, Bool, true, false, List, [], ◌∷◌, ◌++◌, map, length, Option, None, Some, refl, ap, sym, ◌∙◌, subst, arith, slice_get}
use Rattle.std.proofs.lemmas.Bool.{cases_lt}
use Rattle.std.proofs.lemmas.Option.{same_Some, none-some, slice_get_within}
use Rattle.lotos_base.proofs.TestLemmas.{Term-discrete}
use Rattle.lotos_base.specs.Equation.{Variable}
use Rattle.lotos_base.specs.Names.{AreOneName}
use Rattle.lotos_base.specs.Signature.{Signature, Sort, Operation, Form, prefix_form, infix_form}
use Rattle.lotos_base.specs.Term.{Term, Terms, variable, node, no_terms, term_then}
use Rattle.lotos_base.specs.WrittenTerm.{PlacedName, WrittenHead, WrittenTerm, WrittenTerms, written, no_written, written_then}
use Rattle.sort_terms.specs.Counting.{HasNone, IsOnly, HasTwo}
use Rattle.sort_terms.specs.Reading.{IsLastNamed, NoneNamed, IsBare, IsVisible, IsSortNamed, IsAsked, IsVariableAt, IsOperationAt, Reads, AllRead}
use Rattle.sort_terms.specs.ReadingOutcome.{one_name, SortedTerm, SortedPair, IsExpected, IsReading, IsPairReading}
use Rattle.type_definitions.proofs.NumberLists.{same_or_not}
use Rattle.type_flatten.proofs.CauseLemmas.{Decides, names_decided}

-- ---- What is decided

tested : (test : Bool) (P : Type 0) → Decides test P → Dec P
tested true P decides = yes (decides.0 refl)
tested false P decides = no (λ p. let never : false ≡ true = decides.1 p in cc never)

as_well : {P Q : Type 0} → (P → Q) → (Q → P) → Dec P → Dec Q
as_well to from (yes p) = yes (to p)
as_well to from (no none) = no (λ q. none (from q))

both : {P Q : Type 0} → Dec P → Dec Q → Dec (P × Q)
both (yes p) (yes q) = yes (p, q)
both (yes p) (no none) = no (λ two. none two.1)
both (no none) q = no (λ two. none two.0)

one_number : (i j : ℕ) → Dec (i ≡ j)
one_number i j = by (same_or_not i j)
  where
    by : ((i ≡ j) ⊎ (¬ (i ≡ j))) → Dec (i ≡ j)
    by (inl same) = yes same
    by (inr other) = no other

one_form : (one other : Form) → Dec (one ≡ other)
one_form prefix_form prefix_form = yes refl
one_form prefix_form infix_form = no (λ e. cc)
one_form infix_form prefix_form = no (λ e. cc)
one_form infix_form infix_form = yes refl

names_one : (one other : List ℕ) → Dec (AreOneName one other)
names_one one other = tested (one_name one other) (AreOneName one other) (names_decided one other)

-- ---- Variables

last_or_none : (scope : List Variable) (name : List ℕ) → ((v : Variable) × IsLastNamed scope name v) ⊎ NoneNamed scope name
last_or_none [] name = inr (λ i v at. absurd (cc at))
last_or_none (x ∷ xs) name = by (last_or_none xs name) (names_one x.name name)
  where
    by : (((v : Variable) × IsLastNamed xs name v) ⊎ NoneNamed xs name) → Dec (AreOneName x.name name)
        → ((v : Variable) × IsLastNamed (x ∷ xs) name v) ⊎ NoneNamed (x ∷ xs) name
    by (inl last) here =
        inl (
          last.0,
          record {
            position = suc last.1.position;
            found = last.1.found;
            named = last.1.named;
            last = λ i w behind at. later last.0 last.1 i w behind at;
          },
        )
      where
        later : (v : Variable) (is : IsLastNamed xs name v) (i : ℕ) (w : Variable) → suc is.position < i → slice_get (x ∷ xs) i ≡ Some w
            → ¬ AreOneName w.name name
        later v is zero w behind at = absurd (omega (arith, behind))
        later v is (suc i) w behind at = is.last i w (omega (arith, behind)) at
    by (inr none) (yes named) = inl (x, record { position = 0; found = refl; named = named; last = later })
      where
        later : (i : ℕ) (w : Variable) → 0 < i → slice_get (x ∷ xs) i ≡ Some w → ¬ AreOneName w.name name
        later zero w behind at = absurd (omega (arith, behind))
        later (suc i) w behind at = none i w at
    by (inr none) (no other) = inr all
      where
        all : (i : ℕ) (w : Variable) → slice_get (x ∷ xs) i ≡ Some w → ¬ AreOneName w.name name
        all zero w at = subst (λ (v : Variable). ¬ AreOneName v.name name) (same_Some x w at) other
        all (suc i) w at = none i w at

last_once : (scope : List Variable) (name : List ℕ) (v w : Variable) → IsLastNamed scope name v → IsLastNamed scope name w → v ≡ w
last_once scope name v w one other =
    elim (cases_lt one.position other.position) [
      | inl below ↦ absurd (one.last other.position w below other.found other.named)
      | inr above ↦ elim (cases_lt other.position one.position) [
        | inl over ↦ absurd (other.last one.position v over one.found one.named)
        | inr as_much ↦
            let same : one.position ≡ other.position = omega arith in
            same_Some v w (sym one.found ∙ ap (λ (i : ℕ). slice_get scope i) same ∙ other.found)
      ]
    ]

-- ---- Nodes

bare_decided : (head : WrittenHead) (arguments : WrittenTerms) → Dec (IsBare head arguments)
bare_decided head no_written = one_form head.form prefix_form
bare_decided head (written_then w ws) = no (λ is. is)

visible_decided : (scope : List Variable) (head : WrittenHead) (arguments : WrittenTerms) → Dec (IsVisible scope head arguments)
visible_decided scope head arguments = by (bare_decided head arguments) (last_or_none scope head.name)
  where
    by : Dec (IsBare head arguments) → (((v : Variable) × IsLastNamed scope head.name v) ⊎ NoneNamed scope head.name)
        → Dec (IsVisible scope head arguments)
    by (no applied) last = yes (λ bare. absurd (applied bare))
    by (yes bare) (inl last) = no (λ none. none bare last.1.position last.0 last.1.found last.1.named)
    by (yes bare) (inr none) = yes (λ is. none)

sort_decided : (signature : Signature) (sort : ℕ) (name : List ℕ) → Dec (IsSortNamed signature sort name)
sort_decided signature sort name = by (slice_get signature.sorts sort) refl
  where
    by : (found : Option Sort) → slice_get signature.sorts sort ≡ found → Dec (IsSortNamed signature sort name)
    by None e = no (λ is. absurd (none-some is.0 (sym e ∙ is.1)))
    by (Some s) e =
        as_well (λ named. (s, e, named))
        (λ is. subst (λ (t : Sort). AreOneName t.name name) (same_Some is.0 s (sym is.1 ∙ e)) is.2) (names_one s.name name)

asked_decided : (signature : Signature) (asked : List PlacedName) (sort : ℕ) → Dec (IsAsked signature asked sort)
asked_decided signature [] sort = yes tt
asked_decided signature (name ∷ names) sort = both (sort_decided signature sort name.name) (asked_decided signature names sort)

variable_decided : (signature : Signature) (scope : List Variable) (head : WrittenHead) (arguments : WrittenTerms) (n s : ℕ)
    → Dec (IsVariableAt signature scope head arguments n s)
variable_decided signature scope head arguments n s = by (last_or_none scope head.name)
  where
    by : (((v : Variable) × IsLastNamed scope head.name v) ⊎ NoneNamed scope head.name)
        → Dec (IsVariableAt signature scope head arguments n s)
    by (inr none) = no (λ is. none is.last.position is.declared is.last.found is.last.named)
    by (inl last) =
        as_well
        (λ all. record {
          bare = all.0;
          declared = last.0;
          last = last.1;
          numbered = all.1.0;
          sorted = all.1.1.0;
          asked = all.1.1.1;
        })
        (λ is.
        let same : is.declared ≡ last.0 = last_once scope head.name is.declared last.0 is.last last.1 in (
          is.bare,
          (
            sym (ap (λ (v : Variable). v.number) same) ∙ is.numbered,
            (sym (ap (λ (v : Variable). v.sort) same) ∙ is.sorted, is.asked),
          ),
        ))
        (both (bare_decided head arguments)
        (both (one_number last.0.number n) (both (one_number last.0.sort s) (asked_decided signature head.sorts s))))

operation_decided : (signature : Signature) (scope : List Variable) (head : WrittenHead) (arguments : WrittenTerms) (f : ℕ)
    (operation : Operation) → slice_get signature.operations f ≡ Some operation
    → Dec (IsOperationAt signature scope head arguments f operation)
operation_decided signature scope head arguments f operation there =
    as_well
    (λ all. record { is_there = there; named = all.0; formed = all.1.0; visible = all.1.1.0; asked = all.1.1.1 })
    (λ is. (is.named, (is.formed, (is.visible, is.asked))))
    (both (names_one operation.name head.name)
    (both (one_form operation.form head.form)
    (both (visible_decided scope head arguments) (asked_decided signature head.sorts operation.result))))

-- ---- Whether a term is a reading

mutual
  reads_decided : (signature : Signature) (scope : List Variable) (w : WrittenTerm) (t : Term) (sort : ℕ)
      → Dec (Reads signature scope w t sort)
  reads_decided signature scope (written head arguments) (variable n s) sort =
      both (variable_decided signature scope head arguments n s) (one_number s sort)
  reads_decided signature scope (written head arguments) (node f ts) sort =
      by (slice_get signature.operations f) refl (λ sorts. all_decided signature scope arguments ts sorts)
    where
      by : (found : Option Operation) → slice_get signature.operations f ≡ found
          → ((sorts : List ℕ) → Dec (AllRead signature scope arguments ts sorts))
          → Dec (Reads signature scope (written head arguments) (node f ts) sort)
      by None e below = no (λ is. absurd (none-some is.0 (sym e ∙ is.1.is_there)))
      by (Some operation) e below =
          as_well
          (λ all. (operation, all.0, all.1.0, all.1.1))
          (λ is.
          let same : is.0 ≡ operation = same_Some is.0 operation (sym is.1.is_there ∙ e) in (
            subst (λ (o : Operation). IsOperationAt signature scope head arguments f o) same is.1,
            (
              subst (λ (o : Operation). o.result ≡ sort) same is.2,
              subst (λ (o : Operation). AllRead signature scope arguments ts o.arguments) same is.3,
            ),
          ))
          (both (operation_decided signature scope head arguments f operation e)
          (both (one_number operation.result sort) (below operation.arguments)))

  all_decided : (signature : Signature) (scope : List Variable) (ws : WrittenTerms) (ts : Terms) (sorts : List ℕ)
      → Dec (AllRead signature scope ws ts sorts)
  all_decided signature scope no_written no_terms [] = yes tt
  all_decided signature scope no_written no_terms (s ∷ ss) = no (λ is. is)
  all_decided signature scope no_written (term_then t ts) ss = no (λ is. is)
  all_decided signature scope (written_then w ws) no_terms ss = no (λ is. is)
  all_decided signature scope (written_then w ws) (term_then t ts) [] = no (λ is. is)
  all_decided signature scope (written_then w ws) (term_then t ts) (s ∷ ss) =
      both (reads_decided signature scope w t s) (all_decided signature scope ws ts ss)

-- ---- Among which terms the readings are

abbrev Among : {A : Type 0} → A → List A → Type 0
Among x [] = ⊥
Among x (y ∷ ys) = (x ≡ y) ⊎ Among x ys

among_left : {A : Type 0} (x : A) (xs ys : List A) → Among x xs → Among x (xs ++ ys)
among_left x [] ys is = absurd is
among_left x (z ∷ xs) ys (inl same) = inl same
among_left x (z ∷ xs) ys (inr more) = inr (among_left x xs ys more)

among_right : {A : Type 0} (x : A) (xs ys : List A) → Among x ys → Among x (xs ++ ys)
among_right x [] ys is = is
among_right x (z ∷ xs) ys is = inr (among_right x xs ys is)

among_map : {A B : Type 0} (f : A → B) (x : A) (xs : List A) → Among x xs → Among (f x) (map f xs)
among_map f x [] is = absurd is
among_map f x (z ∷ xs) (inl same) = inl (ap f same)
among_map f x (z ∷ xs) (inr more) = inr (among_map f x xs more)

among_found : {A : Type 0} (xs : List A) (i : ℕ) (x : A) → slice_get xs i ≡ Some x → Among x xs
among_found [] i x at = absurd (cc at)
among_found (z ∷ xs) zero x at = inl (sym (same_Some z x at))
among_found (z ∷ xs) (suc i) x at = inr (among_found xs i x at)

abbrev each_with : {A B C : Type 0} → (A → B → C) → List A → List B → List C
each_with f [] ys = []
each_with f (x ∷ xs) ys = map (f x) ys ++ each_with f xs ys

among_each : {A B C : Type 0} (f : A → B → C) (x : A) (y : B) (xs : List A) (ys : List B) → Among x xs → Among y ys
    → Among (f x y) (each_with f xs ys)
among_each f x y [] ys is also = absurd is
among_each {A = A} f x y (z ∷ xs) ys (inl same) also =
    subst (λ (a : A). Among (f x y) (map (f a) ys ++ each_with f xs ys)) same
    (among_left (f x y) (map (f x) ys) (each_with f xs ys) (among_map (f x) y ys also))
among_each f x y (z ∷ xs) ys (inr more) also =
    among_right (f x y) (map (f z) ys) (each_with f xs ys) (among_each f x y xs ys more also)

abbrev below : ℕ → List ℕ
below zero = []
below (suc n) = n ∷ below n

among_below : (n i : ℕ) → i < n → Among i (below n)
among_below zero i less = absurd (omega (arith, less))
among_below (suc n) i less = by (same_or_not i n) (λ under. among_below n i under)
  where
    by : ((i ≡ n) ⊎ (¬ (i ≡ n))) → (i < n → Among i (below n)) → Among i (below (suc n))
    by (inl same) later = inl same
    by (inr other) later =
        elim (cases_lt i n) [
          | inl under ↦ inr (later under)
          | inr above ↦ let same : i ≡ n = omega (arith, less) in absurd (other same)
        ]

abbrev mutual
  terms_for : Signature → List Variable → WrittenTerm → List Term
  terms_for signature scope (written head arguments) =
      map (λ (v : Variable). variable v.number v.sort) scope
      ++ each_with (λ (f : ℕ) (ts : Terms). node f ts) (below (length signature.operations)) (lists_for signature scope arguments)

  lists_for : Signature → List Variable → WrittenTerms → List Terms
  lists_for signature scope no_written = no_terms ∷ []
  lists_for signature scope (written_then w ws) =
      each_with (λ (t : Term) (ts : Terms). term_then t ts) (terms_for signature scope w) (lists_for signature scope ws)

mutual
  reading_among : (signature : Signature) (scope : List Variable) (w : WrittenTerm) (t : Term) (sort : ℕ) → Reads signature scope w t sort
      → Among t (terms_for signature scope w)
  reading_among signature scope (written head arguments) (variable n s) sort reads =
      let v : Variable = reads.0.declared in
      let same : variable v.number v.sort ≡ variable n s = (λ i. variable (reads.0.numbered i) (reads.0.sorted i)) in
      among_left (variable n s) (map (λ (v : Variable). variable v.number v.sort) scope) _
      (subst (λ (t : Term). Among t (map (λ (v : Variable). variable v.number v.sort) scope)) same
      (among_map (λ (v : Variable). variable v.number v.sort) v scope (among_found scope reads.0.last.position v reads.0.last.found)))
  reading_among signature scope (written head arguments) (node f ts) sort reads =
      among_right (node f ts) (map (λ (v : Variable). variable v.number v.sort) scope) _
      (among_each (λ (f : ℕ) (ts : Terms). node f ts) f ts (below (length signature.operations)) (lists_for signature scope arguments)
      (among_below (length signature.operations) f (slice_get_within signature.operations f reads.0 reads.1.is_there))
      (list_among signature scope arguments ts reads.0.arguments reads.3))

  list_among : (signature : Signature) (scope : List Variable) (ws : WrittenTerms) (ts : Terms) (sorts : List ℕ)
      → AllRead signature scope ws ts sorts → Among ts (lists_for signature scope ws)
  list_among signature scope no_written no_terms sorts read = inl refl
  list_among signature scope no_written (term_then t ts) sorts read = absurd read
  list_among signature scope (written_then w ws) no_terms sorts read = absurd read
  list_among signature scope (written_then w ws) (term_then t ts) [] read = absurd read
  list_among signature scope (written_then w ws) (term_then t ts) (s ∷ ss) read =
      among_each (λ (t : Term) (ts : Terms). term_then t ts) t ts (terms_for signature scope w) (lists_for signature scope ws)
      (reading_among signature scope w t s read.0) (list_among signature scope ws ts ss read.1)

-- ---- None, one alone, or two

module _ {A : Type 0} (P : A → Type 0) (decided : (x : A) → Dec (P x)) where
  one_or_none : (xs : List A) → ((x : A) × P x) ⊎ ((x : A) → Among x xs → ¬ P x)
  one_or_none [] = inr (λ x among is. absurd among)
  one_or_none (x ∷ xs) = by (decided x) (one_or_none xs)
    where
      by : Dec (P x) → (((y : A) × P y) ⊎ ((y : A) → Among y xs → ¬ P y)) → ((y : A) × P y) ⊎ ((y : A) → Among y (x ∷ xs) → ¬ P y)
      by (yes is) later = inl (x, is)
      by (no none) (inl later) = inl later
      by (no none) (inr later) = inr all
        where
          all : (y : A) → Among y (x ∷ xs) → ¬ P y
          all y (inl same) is = none (subst P same is)
          all y (inr more) is = later y more is

abbrev pub IsCounted : {A : Type 0} → (A → Type 0) → Type 0
IsCounted {A} Is = HasNone Is ⊎ (((x : A) × IsOnly Is x) ⊎ HasTwo Is)

module _ {A : Type 0} (Is : A → Type 0) (decided : (x : A) → Dec (Is x)) (one : (x y : A) → Dec (x ≡ y)) where
  counted : (xs : List A) → ((x : A) → Is x → Among x xs) → IsCounted Is
  counted xs all = by (one_or_none Is decided xs)
    where
      other_decided : (x y : A) → Dec (Is y × (¬ (y ≡ x)))
      other_decided x y = both (decided y) (turned (one y x))
        where
          turned : {P : Type 0} → Dec P → Dec (¬ P)
          turned (yes p) = no (λ none. none p)
          turned (no none) = yes none

      beside : (x : A) → Is x → (((y : A) × (Is y × (¬ (y ≡ x)))) ⊎ ((y : A) → Among y xs → ¬ (Is y × (¬ (y ≡ x))))) → IsCounted Is
      beside x is (inl found) =
          inr (inr (record { one = found.0; other = x; one_is = found.1.0; other_is = is; differ = found.1.1 }))
      beside x is (inr none) = inr (inl (x, record { is_answer = is; only = λ y also. same y also (one y x) }))
        where
          same : (y : A) → Is y → Dec (y ≡ x) → y ≡ x
          same y also (yes e) = e
          same y also (no differs) = absurd (none y (all y also) (also, differs))

      by : (((x : A) × Is x) ⊎ ((x : A) → Among x xs → ¬ Is x)) → IsCounted Is
      by (inr none) = inl (λ x is. none x (all x is) is)
      by (inl found) =
          beside found.0 found.1
          (one_or_none (λ (y : A). Is y × (¬ (y ≡ found.0))) (other_decided found.0) xs)

-- ---- Of a term, and of a pair

abbrev result_of : Option Operation → ℕ
result_of None = 0
result_of (Some operation) = operation.result

-- the sort that a reading has by its head
abbrev sort_by : Signature → Term → ℕ
sort_by signature (variable n s) = s
sort_by signature (node f ts) = result_of (slice_get signature.operations f)

sort_read : (signature : Signature) (scope : List Variable) (w : WrittenTerm) (t : Term) (sort : ℕ) → Reads signature scope w t sort
    → sort ≡ sort_by signature t
sort_read signature scope (written head arguments) (variable n s) sort reads = sym reads.1
sort_read signature scope (written head arguments) (node f ts) sort reads = sym (rw reads.1.is_there reads.2)

expected_decided : (expected : Option ℕ) (sort : ℕ) → Dec (IsExpected expected sort)
expected_decided None sort = yes tt
expected_decided (Some e) sort = one_number sort e

one_reading : (x y : SortedTerm) → Dec (x ≡ y)
one_reading x y =
    as_well (λ (e : (x.term ≡ y.term) × (x.sort ≡ y.sort)). (λ i. record { term = e.0 i; sort = e.1 i }))
    (λ e. (ap (λ (z : SortedTerm). z.term) e, ap (λ (z : SortedTerm). z.sort) e))
    (both (Term-discrete x.term y.term) (one_number x.sort y.sort))

one_pair : (x y : SortedPair) → Dec (x ≡ y)
one_pair x y =
    as_well
    (λ (e : (x.left ≡ y.left) × ((x.right ≡ y.right) × (x.sort ≡ y.sort))).
    (λ i. record { left = e.0 i; right = e.1.0 i; sort = e.1.1 i }))
    (λ e. (ap (λ (z : SortedPair). z.left) e, (ap (λ (z : SortedPair). z.right) e, ap (λ (z : SortedPair). z.sort) e)))
    (both (Term-discrete x.left y.left) (both (Term-discrete x.right y.right) (one_number x.sort y.sort)))

abbrev sorted_as : Signature → Term → SortedTerm
sorted_as signature t = record { term = t; sort = sort_by signature t }

abbrev paired_as : Signature → Term → Term → SortedPair
paired_as signature l r = record { left = l; right = r; sort = sort_by signature l }

pub term_counted : (signature : Signature) (scope : List Variable) (w : WrittenTerm) (expected : Option ℕ)
    → IsCounted (IsReading signature scope w expected)
term_counted signature scope w expected =
    counted (IsReading signature scope w expected)
    (λ x. both (reads_decided signature scope w x.term x.sort) (expected_decided expected x.sort)) one_reading
    (map (sorted_as signature) (terms_for signature scope w))
    (λ x is.
    let as_read : sorted_as signature x.term ≡ x =
    (λ i. record { term = x.term; sort = sym (sort_read signature scope w x.term x.sort is.0) i }) in
    subst (λ (y : SortedTerm). Among y (map (sorted_as signature) (terms_for signature scope w))) as_read
    (among_map (sorted_as signature) x.term (terms_for signature scope w) (reading_among signature scope w x.term x.sort is.0)))

pub pair_counted : (signature : Signature) (scope : List Variable) (left right : WrittenTerm)
    → IsCounted (IsPairReading signature scope left right)
pair_counted signature scope left right =
    counted (IsPairReading signature scope left right)
    (λ x. both (reads_decided signature scope left x.left x.sort) (reads_decided signature scope right x.right x.sort)) one_pair
    (each_with (paired_as signature) (terms_for signature scope left) (terms_for signature scope right))
    (λ x is.
    let as_read : paired_as signature x.left x.right ≡ x =
    (λ i. record { left = x.left; right = x.right; sort = sym (sort_read signature scope left x.left x.sort is.0) i }) in
    subst
    (λ (y : SortedPair). Among y (each_with (paired_as signature) (terms_for signature scope left) (terms_for signature scope right)))
    as_read
    (among_each (paired_as signature) x.left x.right (terms_for signature scope left) (terms_for signature scope right)
    (reading_among signature scope left x.left x.sort is.0) (reading_among signature scope right x.right x.sort is.1)))
