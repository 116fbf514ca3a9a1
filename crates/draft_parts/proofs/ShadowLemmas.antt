-- Variables that a later one of the same number shadows may be left out of an environment.
use Rattle.std.proofs.Common.{◌≡◌, ◌≤◌, ◌+◌, inl, ℕ, zero, suc, List, [], ◌∷◌, length, slice_get, Bool, true, false, nat_eq, if◌then◌else◌, Option, Some, refl, ap, sym, ◌∙◌, subst, arith, eqb-true}
use Rattle.std.proofs.Math.Path.{fun_ext}
use Rattle.lotos_base.specs.Signature.{Signature, IsSort}
use Rattle.lotos_base.specs.Term.{Term, variable}
use Rattle.lotos_base.specs.Equation.{Data, Variable}
use Rattle.lotos_base.specs.Substitution.{Substitution, binding, is_listed}
use Rattle.behaviour_semantics.specs.Behaviour.{Behaviour, Specification, numbers_of, let_variables, let_terms}
use Rattle.behaviour_semantics.specs.Draft.{above_variables, leaves_from}
use Rattle.behaviour_semantics.specs.Listing.{listed_moves}
use Rattle.behaviour_semantics.specs.NumberingLaws.{AreOverLeaves}
use Rattle.behaviour_semantics.specs.Replacement.{with_values, binding_of}
use Rattle.behaviour_semantics.specs.WellFormed.{Every, AreDistinct, AreBinders, sort_in, IsBehaviour}
use Rattle.behaviour_semantics.proofs.OptionLemmas.{some_value}
use Rattle.behaviour_semantics.proofs.PutTerms.{put_behaviour}
use Rattle.behaviour_semantics.proofs.ReplacementLemmas.{unchanged}
use Rattle.behaviour_semantics.proofs.LeftVariables.{listed_at}
use Rattle.draft_parts.proofs.HigherLemmas.{higher_raised}
use Rattle.draft_parts.specs.EnvironmentRaises.{GivesScope, EnvironmentsRaise}

abbrev Bound : Type 0
Bound = Variable × Term

-- what the bindings put for a variable
abbrev value : List Bound → Substitution
value bounds = binding_of (let_variables bounds) (let_terms bounds)

abbrev numbers_in : List Bound → List ℕ
numbers_in bounds = numbers_of (let_variables bounds)

-- ---- The bindings without those of a number, and without those that an earlier one shadows.
abbrev left_of : ℕ → List Bound → List Bound
left_of n [] = []
left_of n (e ∷ bounds) = if nat_eq e.0.number n then left_of n bounds else e ∷ left_of n bounds

abbrev unshadowed : List Bound → List Bound
unshadowed [] = []
unshadowed (e ∷ bounds) = e ∷ left_of e.0.number (unshadowed bounds)

-- another number
other_number : (k n m : ℕ) → nat_eq k n ≡ true → nat_eq n m ≡ false → nat_eq k m ≡ false
other_number k n m same e = ap (λ (j : ℕ). nat_eq j m) (eqb-true k n same) ∙ e

sort_left : (n : ℕ) (bounds : List Bound) (m : ℕ) → nat_eq n m ≡ false
    → sort_in (let_variables (left_of n bounds)) m ≡ sort_in (let_variables bounds) m
sort_left n [] m e = refl
sort_left n (b ∷ bounds) m e = by (nat_eq b.0.number n) refl (sort_left n bounds m e)
  where
    by : (c : Bool) → nat_eq b.0.number n ≡ c → sort_in (let_variables (left_of n bounds)) m ≡ sort_in (let_variables bounds) m
        → sort_in (let_variables (if c then left_of n bounds else b ∷ left_of n bounds)) m
        ≡ (if nat_eq b.0.number m then Some b.0.sort else sort_in (let_variables bounds) m)
    by true same rest =
        rest ∙ sym (ap (λ (d : Bool). if d then Some b.0.sort else sort_in (let_variables bounds) m) (other_number b.0.number n m same e))
    by false same rest = ap (λ (o : Option ℕ). if nat_eq b.0.number m then Some b.0.sort else o) rest

value_left : (n : ℕ) (bounds : List Bound) (m s : ℕ) → nat_eq n m ≡ false → value (left_of n bounds) m s ≡ value bounds m s
value_left n [] m s e = refl
value_left n (b ∷ bounds) m s e = by (nat_eq b.0.number n) refl (value_left n bounds m s e)
  where
    by : (c : Bool) → nat_eq b.0.number n ≡ c → value (left_of n bounds) m s ≡ value bounds m s
        → value (if c then left_of n bounds else b ∷ left_of n bounds) m s ≡ (if nat_eq b.0.number m then b.1 else value bounds m s)
    by true same rest =
        rest ∙ sym (ap (λ (d : Bool). if d then b.1 else value bounds m s) (other_number b.0.number n m same e))
    by false same rest = ap (λ (t : Term). if nat_eq b.0.number m then b.1 else t) rest

same_sorts : (bounds : List Bound) (m : ℕ) → sort_in (let_variables (unshadowed bounds)) m ≡ sort_in (let_variables bounds) m
same_sorts [] m = refl
same_sorts (b ∷ bounds) m = by (nat_eq b.0.number m) refl (same_sorts bounds m)
  where
    by : (c : Bool) → nat_eq b.0.number m ≡ c → sort_in (let_variables (unshadowed bounds)) m ≡ sort_in (let_variables bounds) m
        → (if c then Some b.0.sort else sort_in (let_variables (left_of b.0.number (unshadowed bounds))) m)
        ≡ (if c then Some b.0.sort else sort_in (let_variables bounds) m)
    by true e rest = refl
    by false e rest = sort_left b.0.number (unshadowed bounds) m e ∙ rest

same_values : (bounds : List Bound) (m s : ℕ) → value (unshadowed bounds) m s ≡ value bounds m s
same_values [] m s = refl
same_values (b ∷ bounds) m s = by (nat_eq b.0.number m) refl (same_values bounds m s)
  where
    by : (c : Bool) → nat_eq b.0.number m ≡ c → value (unshadowed bounds) m s ≡ value bounds m s
        → (if c then b.1 else value (left_of b.0.number (unshadowed bounds)) m s) ≡ (if c then b.1 else value bounds m s)
    by true e rest = refl
    by false e rest = value_left b.0.number (unshadowed bounds) m s e ∙ rest

-- ---- No number comes twice in what is left.
abbrev Apart : List ℕ → Type 0
Apart [] = Unit {0}
Apart (n ∷ numbers) = (is_listed numbers n ≡ false) × Apart numbers

unlisted_left : (n : ℕ) (bounds : List Bound) (m : ℕ) → is_listed (numbers_in bounds) m ≡ false
    → is_listed (numbers_in (left_of n bounds)) m ≡ false
unlisted_left n [] m e = refl
unlisted_left n (b ∷ bounds) m e = by (nat_eq b.0.number n) (nat_eq b.0.number m) refl e (unlisted_left n bounds m)
  where
    by : (c d : Bool) → nat_eq b.0.number m ≡ d → (if d then true else is_listed (numbers_in bounds) m) ≡ false
        → (is_listed (numbers_in bounds) m ≡ false → is_listed (numbers_in (left_of n bounds)) m ≡ false)
        → is_listed (numbers_in (if c then left_of n bounds else b ∷ left_of n bounds)) m ≡ false
    by c true here e rest = absurd (cc e)
    by true false here e rest = rest e
    by false false here e rest =
        ap (λ (d : Bool). if d then true else is_listed (numbers_in (left_of n bounds)) m) here ∙ rest e

gone_from_left : (n : ℕ) (bounds : List Bound) → is_listed (numbers_in (left_of n bounds)) n ≡ false
gone_from_left n [] = refl
gone_from_left n (b ∷ bounds) = by (nat_eq b.0.number n) refl (gone_from_left n bounds)
  where
    by : (c : Bool) → nat_eq b.0.number n ≡ c → is_listed (numbers_in (left_of n bounds)) n ≡ false
        → is_listed (numbers_in (if c then left_of n bounds else b ∷ left_of n bounds)) n ≡ false
    by true same rest = rest
    by false same rest = ap (λ (d : Bool). if d then true else is_listed (numbers_in (left_of n bounds)) n) same ∙ rest

apart_left : (n : ℕ) (bounds : List Bound) → Apart (numbers_in bounds) → Apart (numbers_in (left_of n bounds))
apart_left n [] h = tt
apart_left n (b ∷ bounds) h = by (nat_eq b.0.number n) (apart_left n bounds h.1)
  where
    by : (c : Bool) → Apart (numbers_in (left_of n bounds))
        → Apart (numbers_in (if c then left_of n bounds else b ∷ left_of n bounds))
    by true rest = rest
    by false rest = (unlisted_left n bounds b.0.number h.0, rest)

apart_unshadowed : (bounds : List Bound) → Apart (numbers_in (unshadowed bounds))
apart_unshadowed [] = tt
apart_unshadowed (b ∷ bounds) =
    (gone_from_left b.0.number (unshadowed bounds), apart_left b.0.number (unshadowed bounds) (apart_unshadowed bounds))

not_behind : (m n : ℕ) (numbers : List ℕ) (j : ℕ) → is_listed numbers m ≡ false → Some m ≡ Some n → slice_get numbers j ≡ Some n → ⊥
not_behind m n numbers j e same at =
    let there : is_listed numbers n ≡ true = listed_at numbers j n at in
    let here : is_listed numbers m ≡ true = ap (is_listed numbers) (some_value same) ∙ there in
    let wrong : true ≡ false = sym here ∙ e in absurd (cc wrong)

are_distinct : (numbers : List ℕ) → Apart numbers → AreDistinct numbers
are_distinct [] h i j n at at' = absurd (cc at)
are_distinct (m ∷ numbers) h zero zero n at at' = refl
are_distinct (m ∷ numbers) h zero (suc j) n at at' = absurd (not_behind m n numbers j h.0 at at')
are_distinct (m ∷ numbers) h (suc i) zero n at at' = absurd (not_behind m n numbers i h.0 at' at)
are_distinct (m ∷ numbers) h (suc i) (suc j) n at at' = ap suc (are_distinct numbers h.1 i j n at at')

-- ---- What all of them are, those that are left are too.
low_left : (n limit : ℕ) (bounds : List Bound) → above_variables (let_variables bounds) ≤ limit
    → above_variables (let_variables (left_of n bounds)) ≤ limit
low_left n limit [] le = le
low_left n limit (b ∷ bounds) le =
    let rest : above_variables (let_variables bounds) ≤ limit = omega (arith, le) in
    by (nat_eq b.0.number n) (low_left n limit bounds rest)
  where
    by : (c : Bool) → above_variables (let_variables (left_of n bounds)) ≤ limit
        → above_variables (let_variables (if c then left_of n bounds else b ∷ left_of n bounds)) ≤ limit
    by true rest = rest
    by false rest = omega (arith, le, rest)

low_unshadowed : (limit : ℕ) (bounds : List Bound) → above_variables (let_variables bounds) ≤ limit
    → above_variables (let_variables (unshadowed bounds)) ≤ limit
low_unshadowed limit [] le = le
low_unshadowed limit (b ∷ bounds) le =
    let behind : above_variables (let_variables bounds) ≤ limit = omega (arith, le) in
    let rest : above_variables (let_variables (left_of b.0.number (unshadowed bounds))) ≤ limit =
    low_left b.0.number limit (unshadowed bounds) (low_unshadowed limit bounds behind) in
    omega (arith, le, rest)

module _ (signature : Signature) (base limit : ℕ) where
  abbrev Over : List Bound → Type 0
  Over bounds = AreOverLeaves signature base limit (let_variables bounds) (let_terms bounds)

  abbrev Sorted_ : List Bound → Type 0
  Sorted_ bounds = Every (λ (x : Variable). IsSort signature x.sort) (let_variables bounds)

  over_left : (n : ℕ) (bounds : List Bound) → Over bounds → Over (left_of n bounds)
  over_left n [] h = tt
  over_left n (b ∷ bounds) h = by (nat_eq b.0.number n) (over_left n bounds h.1)
    where
      by : (c : Bool) → Over (left_of n bounds) → Over (if c then left_of n bounds else b ∷ left_of n bounds)
      by true rest = rest
      by false rest = (h.0, rest)

  over_unshadowed : (bounds : List Bound) → Over bounds → Over (unshadowed bounds)
  over_unshadowed [] h = tt
  over_unshadowed (b ∷ bounds) h = (h.0, over_left b.0.number (unshadowed bounds) (over_unshadowed bounds h.1))

  sorted_left : (n : ℕ) (bounds : List Bound) → Sorted_ bounds → Sorted_ (left_of n bounds)
  sorted_left n [] h = tt
  sorted_left n (b ∷ bounds) h = by (nat_eq b.0.number n) (sorted_left n bounds h.1)
    where
      by : (c : Bool) → Sorted_ (left_of n bounds) → Sorted_ (if c then left_of n bounds else b ∷ left_of n bounds)
      by true rest = rest
      by false rest = (h.0, rest)

  sorted_unshadowed : (bounds : List Bound) → Sorted_ bounds → Sorted_ (unshadowed bounds)
  sorted_unshadowed [] h = tt
  sorted_unshadowed (b ∷ bounds) h = (h.0, sorted_left b.0.number (unshadowed bounds) (sorted_unshadowed bounds h.1))

  -- ---- The bindings of an environment.
  abbrev bounds_of : List Variable → List (ℕ × Term) → List Bound
  bounds_of [] pairs = []
  bounds_of (x ∷ scope) [] = []
  bounds_of (x ∷ scope) (pair ∷ pairs) = (x, pair.1) ∷ bounds_of scope pairs

  scope_is : (scope : List Variable) (pairs : List (ℕ × Term)) → GivesScope signature base limit scope pairs
      → let_variables (bounds_of scope pairs) ≡ scope
  scope_is [] [] h = refl
  scope_is [] (pair ∷ pairs) h = absurd h
  scope_is (x ∷ scope) [] h = absurd h
  scope_is (x ∷ scope) (pair ∷ pairs) h = ap (λ (xs : List Variable). x ∷ xs) (scope_is scope pairs h.3)

  value_is : (scope : List Variable) (pairs : List (ℕ × Term)) → GivesScope signature base limit scope pairs → (m s : ℕ)
      → value (bounds_of scope pairs) m s ≡ binding pairs m s
  value_is [] [] h m s = refl
  value_is [] (pair ∷ pairs) h m s = absurd h
  value_is (x ∷ scope) [] h m s = absurd h
  value_is (x ∷ scope) (pair ∷ pairs) h m s =
      ap (λ (k : ℕ). if nat_eq k m then pair.1 else value (bounds_of scope pairs) m s) (sym h.0)
      ∙ ap (λ (t : Term). if nat_eq pair.0 m then pair.1 else t) (value_is scope pairs h.3 m s)

  over_is : (scope : List Variable) (pairs : List (ℕ × Term)) → GivesScope signature base limit scope pairs → Over (bounds_of scope pairs)
  over_is [] [] h = tt
  over_is [] (pair ∷ pairs) h = absurd h
  over_is (x ∷ scope) [] h = absurd h
  over_is (x ∷ scope) (pair ∷ pairs) h = (h.2, over_is scope pairs h.3)

  sorted_is : (scope : List Variable) (pairs : List (ℕ × Term)) → GivesScope signature base limit scope pairs
      → Sorted_ (bounds_of scope pairs)
  sorted_is [] [] h = tt
  sorted_is [] (pair ∷ pairs) h = absurd h
  sorted_is (x ∷ scope) [] h = absurd h
  sorted_is (x ∷ scope) (pair ∷ pairs) h = (h.1, sorted_is scope pairs h.3)

module _ (data_ : Data) (canon : Term → Term) (specification : Specification) (scope : List Variable) (pairs : List (ℕ × Term))
    (b : Behaviour) (base next : ℕ) (gives : GivesScope data_.signature base (base + next) scope pairs) where
  abbrev bounds : List Bound
  bounds = bounds_of data_.signature base (base + next) scope pairs

  abbrev kept : List Bound
  kept = unshadowed bounds

  kept_values : value kept ≡ binding pairs
  kept_values = fun_ext (λ m. fun_ext (λ s. same_values bounds m s ∙ value_is data_.signature base (base + next) scope pairs gives m s))

  kept_sorts : (n : ℕ) → sort_in (let_variables kept) n ≡ sort_in scope n
  kept_sorts n =
      same_sorts bounds n
      ∙ ap (λ (xs : List Variable). sort_in xs n) (scope_is data_.signature base (base + next) scope pairs gives)

  kept_inside : IsBehaviour data_.signature (length specification.gate_names) specification.processes scope b
      → IsBehaviour data_.signature (length specification.gate_names) specification.processes (let_variables kept) b
  kept_inside inside =
      subst (λ (c : Behaviour). IsBehaviour data_.signature (length specification.gate_names) specification.processes (let_variables kept)
      c)
      (unchanged b)
      (put_behaviour data_.signature (length specification.gate_names) specification.processes scope (let_variables kept) variable
      (λ n s at. inl (refl, kept_sorts n ∙ at)) b inside)

  kept_low : above_variables scope ≤ base → above_variables (let_variables kept) ≤ base
  kept_low le =
      low_unshadowed base bounds (subst (λ (xs : List Variable). above_variables xs ≤ base)
      (sym (scope_is data_.signature base (base + next) scope pairs gives)) le)

  kept_binders : AreBinders data_.signature (let_variables kept)
  kept_binders = (
    are_distinct (numbers_in kept) (apart_unshadowed bounds),
    sorted_unshadowed data_.signature base (base + next) bounds (sorted_is data_.signature base (base + next) scope pairs gives),
  )

  kept_over : AreOverLeaves data_.signature base (base + next) (let_variables kept) (let_terms kept)
  kept_over = over_unshadowed data_.signature base (base + next) bounds (over_is data_.signature base (base + next) scope pairs gives)

pub raises : EnvironmentsRaise
raises data_ canon specification scope pairs b is_canon well_formed inside base next le low gives depth shift moves others is higher =
    let same : with_values (value (kept data_ canon specification scope pairs b base next gives)) b ≡ with_values (binding pairs) b =
    ap (λ (v : Substitution). with_values v b) (kept_values data_ canon specification scope pairs b base next gives) in
    higher_raised data_ canon specification (let_variables (kept data_ canon specification scope pairs b base next gives))
    (let_terms (kept data_ canon specification scope pairs b base next gives)) b is_canon well_formed
    (kept_binders data_ canon specification scope pairs b base next gives)
    (kept_inside data_ canon specification scope pairs b base next gives inside) base next shift depth depth le
    (kept_low data_ canon specification scope pairs b base next gives low)
    (kept_over data_ canon specification scope pairs b base next gives) moves others
    (ap (listed_moves (record { signature = data_.signature; represent = canon; processes = specification.processes }) (leaves_from base)
    depth next) same ∙ is)
    (ap (listed_moves (record { signature = data_.signature; represent = canon; processes = specification.processes }) (leaves_from base)
    depth (next + shift)) same ∙ higher)
