-- The first name that is there twice comes before the others.
use Rattle.std.proofs.Common.{◌≡◌, List, [], ◌∷◌, Bool, true, false, inl, inr, refl, ap, sym, ◌∙◌, subst}
use Rattle.std.specs.Prelude.{◌⊎◌, Option, None, Some, if◌then◌else◌}
use Rattle.scope_parts.proofs.FormedLists.{never_faulty}
use Rattle.lotos_base.specs.WrittenTerm.{PlacedName}
use Rattle.scope_parts.specs.ScopeFault.{ScopeFault, fault_place, double_name, first_fault_of_two}
use Rattle.scope_parts.specs.Resolution.{Resolution, resolved, faulty, beside, Is, Beside}
use Rattle.scope_parts.specs.Scope.{Binding, bind, is_bound, double_from, first_double}
use Rattle.scope_parts.specs.Order.{Rising, NotAfter}
use Rattle.scope_parts.specs.TermPlaces.{name_places}
use Rattle.scope_parts.specs.PartFaults.{DoubledAfter, Doubled}
use Rattle.scope_parts.specs.FirstFault.{TellsFirstFault}
use Rattle.scope_parts.proofs.OrderLemmas.{same_not_after, not_after_next, first_not_after, first_has}
use Rattle.scope_parts.proofs.TellsLemmas.{Within, same_fault, beside_computed}

abbrev doubled_at : PlacedName → ScopeFault
doubled_at name = double_name name.place name.name

pub doubled_within : (before : List Binding) (names : List PlacedName) → Within (DoubledAfter before names) (name_places names)
doubled_within before [] f h = absurd h
doubled_within before (name ∷ names) f (inl h) = inl (ap fault_place h.1)
doubled_within before (name ∷ names) f (inr h) = inr (doubled_within (bind name.name 0 before) names f h)

doubled_found : (before : List Binding) (names : List PlacedName) (d : PlacedName) → double_from before names ≡ Some d
    → DoubledAfter before names (doubled_at d)
doubled_found before [] d e = absurd (let no : ⊥ = cc in no)
doubled_found before (name ∷ names) d e =
    by_test (is_bound before name.name) refl e (λ found. doubled_found (bind name.name 0 before) names d found)
  where
    by_test : (b : Bool) → is_bound before name.name ≡ b
        → (if b then Some name else double_from (bind name.name 0 before) names) ≡ Some d
        → (double_from (bind name.name 0 before) names ≡ Some d → DoubledAfter (bind name.name 0 before) names (doubled_at d))
        → ((is_bound before name.name ≡ true) × (doubled_at d ≡ doubled_at name)) ⊎ DoubledAfter (bind name.name 0 before) names
        (doubled_at d)
    by_test true is e later = inl (is, let same : d ≡ name = cc in ap doubled_at same)
    by_test false is e later = inr (later e)

not_doubled : (before : List Binding) (names : List PlacedName) (g : ScopeFault) → double_from before names ≡ None
    → ¬ DoubledAfter before names g
not_doubled before [] g e k = k
not_doubled before (name ∷ names) g e k =
    by_test (is_bound before name.name) refl e k (λ none. not_doubled (bind name.name 0 before) names g none)
  where
    by_test : (b : Bool) → is_bound before name.name ≡ b
        → (if b then Some name else double_from (bind name.name 0 before) names) ≡ None
        → ((is_bound before name.name ≡ true) × (g ≡ doubled_at name)) ⊎ DoubledAfter (bind name.name 0 before) names g
        → (double_from (bind name.name 0 before) names ≡ None → ¬ DoubledAfter (bind name.name 0 before) names g) → ⊥
    by_test true is e h later = let no : ⊥ = cc in no
    by_test false is e (inl h) later = let bound = h.0 in let no : ⊥ = cc in no
    by_test false is e (inr h) later = later e h

doubled_first : (before : List Binding) (names : List PlacedName) (d : PlacedName) (g : ScopeFault) → Rising (name_places names)
    → double_from before names ≡ Some d → DoubledAfter before names g → NotAfter (doubled_at d) g
doubled_first before [] d g rise e k = absurd k
doubled_first before (name ∷ names) d g rise e k =
    by_test (is_bound before name.name) refl e k (λ found h. doubled_first (bind name.name 0 before) names d g rise.1 found h)
  where
    at_name : d ≡ name → ((is_bound before name.name ≡ true) × (g ≡ doubled_at name)) ⊎ DoubledAfter (bind name.name 0 before) names g
        → NotAfter (doubled_at d) g
    at_name same (inl h) = same_not_after (doubled_at d) g (ap doubled_at same ∙ sym h.1)
    at_name same (inr h) =
        inl (rise.0 d.place (fault_place g) (inl (ap (λ (x : PlacedName). x.place) same))
        (doubled_within (bind name.name 0 before) names g h))

    by_test : (b : Bool) → is_bound before name.name ≡ b
        → (if b then Some name else double_from (bind name.name 0 before) names) ≡ Some d
        → ((is_bound before name.name ≡ true) × (g ≡ doubled_at name)) ⊎ DoubledAfter (bind name.name 0 before) names g
        → (double_from (bind name.name 0 before) names ≡ Some d → DoubledAfter (bind name.name 0 before) names g
        → NotAfter (doubled_at d) g)
        → NotAfter (doubled_at d) g
    by_test true is e h later = at_name (let same : d ≡ name = cc in same) h
    by_test false is e (inl h) later = absurd (let bound = h.0 in let no : ⊥ = cc in no)
    by_test false is e (inr h) later = later e h

-- ---- The names of a list beside what else is in it

none_found : {A : Type 0} {Others : Resolution A → Type 0} {Has : ScopeFault → Type 0} (One : ScopeFault → Type 0)
    → TellsFirstFault Others Has
    → (f : ScopeFault) → Beside None Others (faulty f) → One f ⊎ Has f
none_found {Others = Others} One tells f h = inr (tells.found f (subst Others (sym h.2) h.1))

none_first : {A : Type 0} {Others : Resolution A → Type 0} {Has : ScopeFault → Type 0} (One : ScopeFault → Type 0)
    → TellsFirstFault Others Has
    → ((g : ScopeFault) → ¬ One g) → (f g : ScopeFault) → Beside None Others (faulty f) → One g ⊎ Has g → NotAfter f g
none_first One tells nothing f g h (inl k) = absurd (nothing g k)
none_first {Others = Others} One tells nothing f g h (inr k) = tells.first f g (subst Others (sym h.2) h.1) k

none_none : {A : Type 0} {Others : Resolution A → Type 0} {Has : ScopeFault → Type 0} (One : ScopeFault → Type 0)
    → TellsFirstFault Others Has
    → ((g : ScopeFault) → ¬ One g) → (x : A) (g : ScopeFault) → Beside None Others (resolved x) → ¬ (One g ⊎ Has g)
none_none One tells nothing x g h (inl k) = nothing g k
none_none {Others = Others} One tells nothing x g h (inr k) = tells.none x g (subst Others (sym h.2) h.1) k

abbrev OneFirst : (ScopeFault → Type 0) → ScopeFault → Type 0
OneFirst One d = One d × ((g : ScopeFault) → One g → NotAfter d g)

some_found : {A : Type 0} {Others : Resolution A → Type 0} {Has : ScopeFault → Type 0} (One : ScopeFault → Type 0)
    → TellsFirstFault Others Has → (d : PlacedName)
    → OneFirst One (doubled_at d) → (f : ScopeFault) (r : Resolution A) → Others r → faulty f ≡ beside (Some d) r → One f ⊎ Has f
some_found One tells d one f (resolved y) is e = inl (subst One (sym (same_fault f (doubled_at d) e)) one.0)
some_found {Has = Has} One tells d one f (faulty o) is e =
    subst (λ (x : ScopeFault). One x ⊎ Has x) (sym (same_fault f (first_fault_of_two (doubled_at d) o) e))
    (first_has (λ (x : ScopeFault). One x ⊎ Has x) (doubled_at d) o (inl one.0) (inr (tells.found o is)))

some_first : {A : Type 0} {Others : Resolution A → Type 0} {Has : ScopeFault → Type 0} (One : ScopeFault → Type 0)
    → TellsFirstFault Others Has → (d : PlacedName)
    → OneFirst One (doubled_at d) → (f g : ScopeFault) (r : Resolution A) → Others r → faulty f ≡ beside (Some d) r → One g ⊎ Has g
    → NotAfter f g
some_first One tells d one f g (resolved y) is e (inl k) =
    subst (λ (x : ScopeFault). NotAfter x g) (sym (same_fault f (doubled_at d) e)) (one.1 g k)
some_first One tells d one f g (resolved y) is e (inr k) = absurd (tells.none y g is k)
some_first One tells d one f g (faulty o) is e (inl k) =
    subst (λ (x : ScopeFault). NotAfter x g) (sym (same_fault f (first_fault_of_two (doubled_at d) o) e))
    (not_after_next (first_fault_of_two (doubled_at d) o) (doubled_at d) g (first_not_after (doubled_at d) o refl).0 (one.1 g k))
some_first One tells d one f g (faulty o) is e (inr k) =
    subst (λ (x : ScopeFault). NotAfter x g) (sym (same_fault f (first_fault_of_two (doubled_at d) o) e))
    (not_after_next (first_fault_of_two (doubled_at d) o) o g (first_not_after (doubled_at d) o refl).1 (tells.first o g is k))

some_none : {A : Type 0} (d : PlacedName) (x : A) (r : Resolution A) → ¬ (resolved x ≡ beside (Some d) r)
some_none d x (resolved y) e = never_faulty x (doubled_at d) e
some_none d x (faulty o) e = never_faulty x (first_fault_of_two (doubled_at d) o) e

pub beside_tells : {A : Type 0} {Others : Resolution A → Type 0} {Has : ScopeFault → Type 0} (names : List PlacedName)
    → Rising (name_places names) → TellsFirstFault Others Has
    → TellsFirstFault (Beside (first_double names) Others) (λ f. Doubled names f ⊎ Has f)
beside_tells {Others = Others} {Has = Has} names rise tells = by_double (first_double names) refl
  where
    by_double : (found : Option PlacedName) → double_from [] names ≡ found
        → TellsFirstFault (Beside found Others) (λ f. Doubled names f ⊎ Has f)
    by_double None e = record {
      found = none_found (Doubled names) tells;
      first = none_first (Doubled names) tells (λ g. not_doubled [] names g e);
      none = none_none (Doubled names) tells (λ g. not_doubled [] names g e);
    }
    by_double (Some d) e =
        let one : OneFirst (Doubled names) (doubled_at d) = (doubled_found [] names d e, λ g. doubled_first [] names d g rise e) in record {
          found = λ f h. some_found (Doubled names) tells d one f h.0 h.1 h.2;
          first = λ f g h k. some_first (Doubled names) tells d one f g h.0 h.1 h.2 k;
          none = λ x g h k. some_none d x h.0 h.2;
        }

-- as it is computed
pub beside_is_tells : {A : Type 0} {Has : ScopeFault → Type 0} (names : List PlacedName) (others : Resolution A)
    → Rising (name_places names) → TellsFirstFault (Is others) Has
    → TellsFirstFault (Is (beside (first_double names) others)) (λ f. Doubled names f ⊎ Has f)
beside_is_tells names others rise tells = beside_computed (first_double names) others (beside_tells names rise tells)
