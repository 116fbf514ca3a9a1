-- Leaf variables with higher numbers, in terms and lists of terms.
use Rattle.std.proofs.Common.{◌≡◌, ◌<◌, ◌≤◌, ◌⊎◌, inl, inr, ℕ, ◌+◌, List, [], ◌∷◌, map, Bool, true, false, ◌&&◌, nat_eq, nat_lt, if◌then◌else◌, Option, Some, refl, ap, sym, ◌∙◌, subst, arith, eqb-true, lt-ltb, le-ltb, ltb-true, ltb-false}
use Rattle.std.proofs.Math.Path.{fun_ext}
use Rattle.std.proofs.lemmas.Bool.{ne_eqb}
use Rattle.lotos_base.specs.Signature.{Signature}
use Rattle.lotos_base.specs.Term.{Term, variable, node}
use Rattle.lotos_base.specs.Sorting.{head_sort_of, IsTermOf, Occurs}
use Rattle.lotos_base.specs.Equation.{Data, Variable}
use Rattle.lotos_base.specs.Canon.{IsCanon, KeepsApart}
use Rattle.lotos_base.specs.Substitution.{Substitution, substituted, followed_by, is_listed, without}
use Rattle.lotos_base.proofs.SubstitutionLemmas.{substituted_twice}
use Rattle.behaviour_semantics.specs.Behaviour.{Behaviour, Test, SynchronisationSet, numbers_of}
use Rattle.behaviour_semantics.specs.Label.{Label, inner_event, gate_event, exit_event}
use Rattle.behaviour_semantics.specs.Replacement.{test_with, with_values, binding_of}
use Rattle.behaviour_semantics.specs.Rule.{is_same_known_sort, synchronises, moves_alone, have_sorts, have_same_sorts, move_together, pairwise, is_exit}
use Rattle.behaviour_semantics.specs.Draft.{above, label_with}
use Rattle.behaviour_semantics.specs.Join.{raised_from}
use Rattle.behaviour_semantics.specs.ReplacementLaws.{IsApart}
use Rattle.behaviour_semantics.specs.WellFormed.{Every}
use Rattle.behaviour_semantics.proofs.ReplacementLemmas.{twice}

-- Variables with numbers below `base`, and terms whose variables have numbers from `base` on.
abbrev pub AreLow : ℕ → List Variable → Type 0
AreLow base variables = Every (λ (z : Variable). z.number < base) variables

abbrev pub IsFar : ℕ → Term → Type 0
IsFar base t = (n r : ℕ) → Occurs n r t → base ≤ n

abbrev pub AreFar : ℕ → List Term → Type 0
AreFar base ts = Every (IsFar base) ts

-- The sort that a head gives does not go by the numbers of variables.
pub sort_of-raised : (from shift : ℕ) (signature : Signature) (t : Term)
    → head_sort_of signature (substituted (raised_from from shift) t) ≡ head_sort_of signature t
sort_of-raised from shift signature (variable n s) = refl
sort_of-raised from shift signature (node f ts) = refl

-- The numbers from `from` on are raised; those that are bound are below `base`, and so below `from`.
module _ (base from shift : ℕ) (le_from : base ≤ from) where
  abbrev raise : Substitution
  raise = raised_from from shift

  abbrev number : ℕ → ℕ
  number n = if nat_lt n from then n else n + shift

  pub raise_low : (n s : ℕ) → n < from → raised_from from shift n s ≡ variable n s
  raise_low n s lt = ap (λ (b : Bool). variable (if b then n else n + shift) s) (lt-ltb n from lt)

  pub raise_high : (n s : ℕ) → from ≤ n → raised_from from shift n s ≡ variable (n + shift) s
  raise_high n s le = ap (λ (b : Bool). variable (if b then n else n + shift) s) (le-ltb n from le)

  -- no two variables get one number
  raise_apart : (t : Term) → KeepsApart (λ n s. if nat_lt n from then n else n + shift) t
  raise_apart t n m s o p e = by (nat_lt n from) refl (nat_lt m from) refl e
    where
      by : (a : Bool) → nat_lt n from ≡ a → (b : Bool) → nat_lt m from ≡ b → (if a then n else n + shift) ≡ (if b then m else m + shift)
          → n ≡ m
      by true h true k same = same
      by true h false k same = let lt : n < from = ltb-true n from h in let le : from ≤ m = ltb-false m from k in
          absurd (omega (arith, lt, le, same))
      by false h true k same = let lt : m < from = ltb-true m from k in let le : from ≤ n = ltb-false n from h in
          absurd (omega (arith, lt, le, same))
      by false h false k same = omega (arith, same)

  -- a canonical form is renamed with its term
  pub canon_raised : (data_ : Data) (canon : Term → Term) → IsCanon data_ canon → (t : Term) → IsTermOf data_.signature t
      → canon (substituted (raised_from from shift) t) ≡ substituted (raised_from from shift) (canon t)
  canon_raised data_ canon c t h = c.renames t (λ n s. if nat_lt n from then n else n + shift) h (raise_apart t)

  pub canons_raised : (data_ : Data) (canon : Term → Term) → IsCanon data_ canon → (ts : List Term)
      → Every (IsTermOf data_.signature) ts → map canon (map (substituted (raised_from from shift)) ts) ≡ map
      (substituted (raised_from from shift)) (map canon ts)
  canons_raised data_ canon c [] h = refl
  canons_raised data_ canon c (t ∷ ts) h =
      let head : canon (substituted raise t) ≡ substituted raise (canon t) = canon_raised data_ canon c t h.0 in
      let tail : map canon (map (substituted raise) ts) ≡ map (substituted raise) (map canon ts) = canons_raised data_ canon c ts h.1 in
      cc (head, tail)

  -- A binder of low numbers.
  low_same : (z n : ℕ) → z < base → nat_eq z (if nat_lt n from then n else n + shift) ≡ nat_eq z n
  low_same z n lt = by (nat_lt n from) refl
    where
      by : (b : Bool) → nat_lt n from ≡ b → nat_eq z (if b then n else n + shift) ≡ nat_eq z n
      by true h = refl
      by false h =
          let le : from ≤ n = ltb-false n from h in
          ne_eqb z (n + shift) (λ e. omega (arith, lt, le, e, le_from)) ∙ sym (ne_eqb z n (λ e. omega (arith, lt, le, e, le_from)))

  binding_raised : (variables : List Variable) (ts : List Term) → AreLow base variables → (n s : ℕ)
      → followed_by (raised_from from shift) (binding_of variables (map (substituted (raised_from from shift)) ts)) n s ≡ followed_by
      (binding_of variables ts) (raised_from from shift) n s
  binding_raised [] ts low n s = refl
  binding_raised (z ∷ variables) [] low n s = refl
  binding_raised (z ∷ variables) (t ∷ ts) low n s =
      ap (λ (b : Bool). if b then substituted raise t else binding_of variables (map (substituted raise) ts) (number n) s)
      (low_same z.number n low.0)
      ∙ by (nat_eq z.number n) (binding_raised variables ts low.1 n s)
    where
      by : (b : Bool) → binding_of variables (map (substituted raise) ts) (number n) s ≡ substituted raise (binding_of variables ts n s)
          → (if b then substituted raise t else binding_of variables (map (substituted raise) ts) (number n) s) ≡ substituted raise
          (if b then t else binding_of variables ts n s)
      by true rest = refl
      by false rest = rest

  bindings_commute : (variables : List Variable) (ts : List Term) → AreLow base variables
      → followed_by (raised_from from shift) (binding_of variables (map (substituted (raised_from from shift)) ts)) ≡ followed_by
      (binding_of variables ts) (raised_from from shift)
  bindings_commute variables ts low = fun_ext (λ n. fun_ext (λ s. binding_raised variables ts low n s))

  pub term_commutes : (variables : List Variable) (ts : List Term) → AreLow base variables → (t : Term)
      → substituted (binding_of variables (map (substituted (raised_from from shift)) ts)) (substituted (raised_from from shift) t)
      ≡ substituted (raised_from from shift) (substituted (binding_of variables ts) t)
  term_commutes variables ts low t =
      substituted_twice raise (binding_of variables (map (substituted raise) ts)) t
      ∙ (ap (λ (v : Substitution). substituted v t) (bindings_commute variables ts low)
      ∙ sym (substituted_twice (binding_of variables ts) raise t))

  raise_is_apart : IsApart base (raised_from from shift)
  raise_is_apart n s = by (nat_lt n from) refl
    where
      by : (b : Bool) → nat_lt n from ≡ b → (raised_from from shift n s ≡ variable n s)
          ⊎ ((m r : ℕ) → Occurs m r (raised_from from shift n s) → base ≤ m)
      by true h = inl (raise_low n s (ltb-true n from h))
      by false h =
          inr (λ m r o.
          let le : from ≤ n = ltb-false n from h in
          let here : Occurs m r (variable (n + shift) s) = subst (Occurs m r) (raise_high n s le) o in
          omega (arith, le, here.0, le_from))

  binding_is_apart : (variables : List Variable) (ts : List Term) → AreFar base ts → IsApart base (binding_of variables ts)
  binding_is_apart [] ts far n s = inl refl
  binding_is_apart (z ∷ variables) [] far n s = inl refl
  binding_is_apart (z ∷ variables) (t ∷ ts) far n s = by (nat_eq z.number n) (binding_is_apart variables ts far.1 n s)
    where
      by : (b : Bool) → (binding_of variables ts n s ≡ variable n s) ⊎ ((m r : ℕ) → Occurs m r (binding_of variables ts n s) → base ≤ m)
          → ((if b then t else binding_of variables ts n s) ≡ variable n s)
          ⊎ ((m r : ℕ) → Occurs m r (if b then t else binding_of variables ts n s) → base ≤ m)
      by true rest = inr far.0
      by false rest = rest

  pub behaviour_commutes : (variables : List Variable) (ts : List Term) → AreLow base variables → AreFar base ts → (b : Behaviour)
      → above b ≤ base → with_values (binding_of variables (map (substituted (raised_from from shift)) ts))
      (with_values (raised_from from shift) b) ≡ with_values (raised_from from shift) (with_values (binding_of variables ts) b)
  behaviour_commutes variables ts low far b le =
      twice base raise (binding_of variables (map (substituted raise) ts)) b le raise_is_apart
      ∙ (ap (λ (v : Substitution). with_values v b) (bindings_commute variables ts low)
      ∙ sym (twice base (binding_of variables ts) raise b le (binding_is_apart variables ts far)))

  listed_low : (variables : List Variable) (n : ℕ) → AreLow base variables → is_listed (numbers_of variables) n ≡ true → n < base
  listed_low [] n low e = absurd (cc e)
  listed_low (z ∷ variables) n low e = by (listed_low variables n low.1) (nat_eq z.number n) refl e
    where
      by : (is_listed (numbers_of variables) n ≡ true → n < base) → (b : Bool) → nat_eq z.number n ≡ b
          → (if b then true else is_listed (numbers_of variables) n) ≡ true → n < base
      by rest true h e' = subst (λ (k : ℕ). k < base) (eqb-true z.number n h) low.0
      by rest false h e' = rest e'

  -- a binder of low numbers takes nothing away
  pub without_low : (variables : List Variable) → AreLow base variables
      → without (numbers_of variables) (raised_from from shift) ≡ raised_from from shift
  without_low variables low = fun_ext (λ n. fun_ext (λ s. by n s (is_listed (numbers_of variables) n) refl))
    where
      by : (n s : ℕ) (b : Bool) → is_listed (numbers_of variables) n ≡ b
          → (if b then variable n s else raised_from from shift n s) ≡ raised_from from shift n s
      by n s true h = let lt : n < base = listed_low variables n low h in sym (raise_low n s (omega (arith, lt, le_from)))
      by n s false h = refl

  -- What rules ask of labels.
  module _ (signature : Signature) where
    pub have_sorts-raised : (ts : List Term) (sorts : List ℕ) → have_sorts signature
        (map (substituted (raised_from from shift)) ts) sorts ≡ have_sorts signature ts sorts
    have_sorts-raised [] [] = refl
    have_sorts-raised [] (s ∷ sorts) = refl
    have_sorts-raised (t ∷ ts) [] = refl
    have_sorts-raised (t ∷ ts) (s ∷ sorts) =
        ap (λ (o : Option ℕ). is_same_known_sort o (Some s) && have_sorts signature (map (substituted raise) ts) sorts)
        (sort_of-raised from shift signature t)
        ∙ ap (λ (b : Bool). is_same_known_sort (head_sort_of signature t) (Some s) && b) (have_sorts-raised ts sorts)

    have_same_sorts-raised : (ts us : List Term) → have_same_sorts signature (map (substituted (raised_from from shift)) ts)
        (map (substituted (raised_from from shift)) us) ≡ have_same_sorts signature ts us
    have_same_sorts-raised [] [] = refl
    have_same_sorts-raised [] (u ∷ us) = refl
    have_same_sorts-raised (t ∷ ts) [] = refl
    have_same_sorts-raised (t ∷ ts) (u ∷ us) =
        ap (λ (o : Option ℕ). is_same_known_sort o (head_sort_of signature (substituted raise u)) && have_same_sorts signature
        (map (substituted raise) ts) (map (substituted raise) us)) (sort_of-raised from shift signature t)
        ∙ (ap (λ (o : Option ℕ). is_same_known_sort (head_sort_of signature t) o && have_same_sorts signature (map (substituted raise) ts)
        (map (substituted raise) us)) (sort_of-raised from shift signature u)
        ∙ ap (λ (b : Bool). is_same_known_sort (head_sort_of signature t) (head_sort_of signature u) && b) (have_same_sorts-raised ts us))

    pub together-raised : (meet : SynchronisationSet) (label other : Label)
        → move_together signature meet (label_with (raised_from from shift) label) (label_with (raised_from from shift) other)
        ≡ move_together signature meet label other
    together-raised meet inner_event other = refl
    together-raised meet (gate_event g ts) inner_event = refl
    together-raised meet (gate_event g ts) (gate_event h us) = ap (λ (b : Bool). nat_eq g h && synchronises meet g && b)
        (have_same_sorts-raised ts us)
    together-raised meet (gate_event g ts) (exit_event us) = refl
    together-raised meet (exit_event ts) inner_event = refl
    together-raised meet (exit_event ts) (gate_event h us) = refl
    together-raised meet (exit_event ts) (exit_event us) = have_same_sorts-raised ts us

-- Putting terms in, whatever they are, changes neither kinds nor gates nor pairs.
pub alone-with : (values : Substitution) (meet : SynchronisationSet) (label : Label)
    → moves_alone meet (label_with values label) ≡ moves_alone meet label
alone-with values meet inner_event = refl
alone-with values meet (gate_event g ts) = refl
alone-with values meet (exit_event ts) = refl

pub is_exit-with : (values : Substitution) (label : Label) → is_exit (label_with values label) ≡ is_exit label
is_exit-with values inner_event = refl
is_exit-with values (gate_event g ts) = refl
is_exit-with values (exit_event ts) = refl

pub pairwise-with : (values : Substitution) (ts us : List Term) → pairwise (map (substituted values) ts) (map (substituted values) us)
    ≡ map (test_with values) (pairwise ts us)
pairwise-with values [] us = refl
pairwise-with values (t ∷ ts) [] = refl
pairwise-with values (t ∷ ts) (u ∷ us) = ap (λ (rest : List Test). test_with values (record { left = t; right = u }) ∷ rest)
    (pairwise-with values ts us)
