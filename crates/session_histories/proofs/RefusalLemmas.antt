-- Steps that are not refused: there is an entry, and the values fit it.
use Rattle.std.proofs.Common.{◌≡◌, ℕ, suc, List, [], ◌∷◌, map, length, Bool, true, false, nat_eq, if◌then◌else◌, Option, None, Some, refl, ap, sym, ◌∙◌, subst, arith, eqb-true, eq-eqb}
use Rattle.std.specs.Prelude.{◌↔◌}
use Rattle.std.specs.Option.{option_map}
use Rattle.behaviour_semantics.proofs.FaultParts.{first_none, none_first}
pub use Rattle.behaviour_semantics.proofs.SupplyLemmas.{length-values as as_many}
use Rattle.lotos_base.specs.Signature.{Signature}
use Rattle.lotos_base.specs.Term.{Term}
use Rattle.lotos_base.specs.Tests.{term_eq}
use Rattle.lotos_base.specs.Sorting.{HasSort, IsGroundOf, head_sort_of}
use Rattle.lotos_base.specs.Equation.{Data}
use Rattle.lotos_base.specs.Substitution.{substituted}
use Rattle.lotos_base.specs.Canon.{IsCanon}
use Rattle.lotos_base.proofs.CanonLemmas.{canon_tells}
use Rattle.lotos_base.proofs.SortLemmas.{sort_of_sorted}
use Rattle.lotos_base.proofs.SubstitutionLemmas.{ground_instance}
use Rattle.lotos_base.proofs.TestLemmas.{Decides-term_eq}
use Rattle.behaviour_semantics.specs.Behaviour.{Test}
use Rattle.behaviour_semantics.specs.Derives.{leaves_in}
use Rattle.behaviour_semantics.specs.DraftOrder.{IsDraftTest}
use Rattle.behaviour_semantics.specs.Fault.{first_of_two}
use Rattle.behaviour_semantics.specs.Replacement.{test_with}
use Rattle.behaviour_semantics.specs.Rule.{AllHold, AreValues, is_same_known_sort}
use Rattle.behaviour_semantics.specs.Solving.{Entry, test_in}
use Rattle.behaviour_semantics.specs.SolvingLaws.{IsTermOver}
use Rattle.behaviour_semantics.specs.WellFormed.{Every}
use Rattle.behaviour_semantics.proofs.SupplyLemmas.{value_at}
use Rattle.printed_texts.specs.HandedOn.{unmet_among}
use Rattle.session_histories.specs.Session.{SessionBasis}
use Rattle.session_histories.specs.Refusal.{value_count, value_sort, unmet, count_refusal, sort_refusal, condition_refusal, value_refusal}

-- ---- Of two refusals none is there

unmapped : {X Y : Type 0} (f : X → Y) (o : Option X) → option_map f o ≡ None → o ≡ None
unmapped f (Some x) e = absurd (cc e)
unmapped f None e = refl

pub condition_free : (canon : Term → Term) (entry : Entry) (values : List Term) → condition_refusal canon entry values ≡ None
    → unmet_among canon (leaves_in values) entry.conditions ≡ None
condition_free canon entry values e =
    unmapped (λ (test : Test). unmet test.left test.right) (unmet_among canon (leaves_in values) entry.conditions) e

pub free_of_conditions : (canon : Term → Term) (entry : Entry) (values : List Term)
    → unmet_among canon (leaves_in values) entry.conditions ≡ None → condition_refusal canon entry values ≡ None
free_of_conditions canon entry values e = ap (option_map (λ (test : Test). unmet test.left test.right)) e

-- ---- The entry and the values of a step that is not refused

pub record IsFree (basis : SessionBasis) (found : Option Entry) (values : List Term) : Type 0 where
  pub entry : Entry
  pub is : found ≡ Some entry
  pub counted : length values ≡ length entry.variables
  pub sorted : sort_refusal basis.data_.signature 0 entry.variables values ≡ None
  pub met : condition_refusal basis.canon entry values ≡ None

pub count_free : (number count : ℕ) (entry : Entry) (given : ℕ) → count_refusal number count (Some entry) given ≡ None
    → given ≡ length entry.variables
count_free number count entry given e = by (nat_eq given (length entry.variables)) refl e
  where
    by : (b : Bool) → nat_eq given (length entry.variables) ≡ b
        → (if b then None else Some (value_count (length entry.variables) given)) ≡ None → given ≡ length entry.variables
    by true same e = eqb-true given (length entry.variables) same
    by false same e = absurd (cc e)

pub free_of_count : (number count : ℕ) (entry : Entry) (given : ℕ) → given ≡ length entry.variables
    → count_refusal number count (Some entry) given ≡ None
free_of_count number count entry given e =
    ap (λ (b : Bool). if b then None else Some (value_count (length entry.variables) given)) (eq-eqb given (length entry.variables) e)

pub free : (basis : SessionBasis) (number count : ℕ) (found : Option Entry) (values : List Term)
    → first_of_two (count_refusal number count found (length values))
    (value_refusal basis.data_.signature basis.canon found values) ≡ None
    → IsFree basis found values
free basis number count None values e = absurd (cc e)
free basis number count (Some entry) values e =
    let parts : _ = first_none (count_refusal number count (Some entry) (length values))
    (value_refusal basis.data_.signature basis.canon (Some entry) values) e in
    let inner : _ = first_none (sort_refusal basis.data_.signature 0 entry.variables values)
    (condition_refusal basis.canon entry values) parts.1 in
    record {
      entry = entry;
      is = refl;
      counted = count_free number count entry (length values) parts.0;
      sorted = inner.0;
      met = inner.1;
    }

pub freed : (basis : SessionBasis) (number count : ℕ) (found : Option Entry) (values : List Term) → IsFree basis found values
    → first_of_two (count_refusal number count found (length values))
    (value_refusal basis.data_.signature basis.canon found values) ≡ None
freed basis number count found values f =
    subst (λ (it : Option Entry). first_of_two (count_refusal number count it (length values))
    (value_refusal basis.data_.signature basis.canon it values) ≡ None)
    (sym f.is)
    (none_first (count_refusal number count (Some f.entry) (length values))
    (value_refusal basis.data_.signature basis.canon (Some f.entry) values)
    (free_of_count number count f.entry (length values) f.counted)
    (none_first (sort_refusal basis.data_.signature 0 f.entry.variables values) (condition_refusal basis.canon f.entry values)
    f.sorted f.met))

-- ---- Sorts of values

same_sorts : (signature : Signature) (value : Term) (r s : ℕ) → IsGroundOf signature r value
    → is_same_known_sort (head_sort_of signature value) (Some s) ≡ nat_eq r s
same_sorts signature value r s ground =
    ap (λ (o : Option ℕ). is_same_known_sort o (Some s)) (sort_of_sorted signature value r ground.sorted)

pub sorts_fit : (signature : Signature) (variable : ℕ) (sorts : List ℕ) (values : List Term) → length values ≡ length sorts
    → Every (λ (v : Term). (sort : ℕ) × IsGroundOf signature sort v) values → sort_refusal signature variable sorts values ≡ None
    → AreValues signature sorts values
sorts_fit signature variable [] [] counted ground e = tt
sorts_fit signature variable [] (value ∷ values) counted ground e = absurd (omega (arith, counted))
sorts_fit signature variable (sort ∷ sorts) [] counted ground e = absurd (omega (arith, counted))
sorts_fit signature variable (sort ∷ sorts) (value ∷ values) counted ground e =
    by (nat_eq ground.0.0 sort) refl (sorts_fit signature (suc variable) sorts values (tails counted) ground.1)
    (subst (λ (b : Bool). (if b then sort_refusal signature (suc variable) sorts values else Some (value_sort variable)) ≡ None)
    (same_sorts signature value ground.0.0 sort ground.0.1) e)
  where
    tails : suc (length values) ≡ suc (length sorts) → length values ≡ length sorts
    tails e = cc e

    by : (b : Bool) → nat_eq ground.0.0 sort ≡ b
        → (sort_refusal signature (suc variable) sorts values ≡ None → AreValues signature sorts values)
        → (if b then sort_refusal signature (suc variable) sorts values else Some (value_sort variable)) ≡ None
        → AreValues signature (sort ∷ sorts) (value ∷ values)
    by true same rest e = (subst (λ (s : ℕ). IsGroundOf signature s value) (eqb-true ground.0.0 sort same) ground.0.1, rest e)
    by false same rest e = absurd (cc e)

pub fit_sorts : (signature : Signature) (variable : ℕ) (sorts : List ℕ) (values : List Term) → AreValues signature sorts values
    → sort_refusal signature variable sorts values ≡ None
fit_sorts signature variable [] [] h = refl
fit_sorts signature variable [] (value ∷ values) h = absurd h
fit_sorts signature variable (sort ∷ sorts) [] h = absurd h
fit_sorts signature variable (sort ∷ sorts) (value ∷ values) h =
    subst (λ (b : Bool). (if b then sort_refusal signature (suc variable) sorts values else Some (value_sort variable)) ≡ None)
    (sym (same_sorts signature value sort sort h.0 ∙ eq-eqb sort sort refl))
    (fit_sorts signature (suc variable) sorts values h.1)

-- ---- Conditions

module _ (data_ : Data) (canon : Term → Term) (is_canon : IsCanon data_ canon) (sorts : List ℕ) (values : List Term)
    (fit : AreValues data_.signature sorts values) where
  pub grounded : (t : Term) (s : ℕ) → HasSort data_.signature t s → IsTermOver sorts t
      → IsGroundOf data_.signature s (substituted (leaves_in values) t)
  grounded t s h over = ground_instance data_.signature (leaves_in values) t s h
      (λ n r o. value_at data_.signature sorts values fit n r (over n r o))

  -- no condition is unmet exactly where all hold
  pub none_unmet : (leaves : List Term) (tests : List Test) → Every (IsDraftTest data_.signature leaves) tests
      → Every (λ (test : Test). IsTermOver sorts test.left) tests → Every (λ (test : Test). IsTermOver sorts test.right) tests
      → (unmet_among canon (leaves_in values) tests ≡ None) ↔ AllHold data_ (map (test_with (leaves_in values)) tests)
  none_unmet leaves [] h l r = ((λ e. tt), (λ a. refl))
  none_unmet leaves (test ∷ tests) h l r =
      by (term_eq (canon (substituted (leaves_in values) test.left)) (canon (substituted (leaves_in values) test.right))) refl
      (none_unmet leaves tests h.1 l.1 r.1)
    where
      left : IsGroundOf data_.signature h.0.0 (substituted (leaves_in values) test.left)
      left = grounded test.left h.0.0 h.0.1.sorted l.0

      right : IsGroundOf data_.signature h.0.0 (substituted (leaves_in values) test.right)
      right = grounded test.right h.0.0 h.0.2.sorted r.0

      by : (same : Bool)
          → term_eq (canon (substituted (leaves_in values) test.left)) (canon (substituted (leaves_in values) test.right)) ≡ same
          → (unmet_among canon (leaves_in values) tests ≡ None) ↔ AllHold data_ (map (test_with (leaves_in values)) tests)
          → ((if same then unmet_among canon (leaves_in values) tests
          else Some (test_in canon (test_with (leaves_in values) test))) ≡ None)
          ↔ AllHold data_ (map (test_with (leaves_in values)) (test ∷ tests))
      by true e rest = (
        (λ none. (
          canon_tells data_ canon _ _ h.0.0 is_canon left right ((Decides-term_eq _ _).0 e),
          rest.0 none,
        )),
        (λ all. rest.1 all.1),
      )
      by false e rest = (
        (λ none. absurd (cc none)),
        (λ all. absurd (cc (
          e,
          (Decides-term_eq (canon (substituted (leaves_in values) test.left)) (canon (substituted (leaves_in values) test.right))).1
              (is_canon.decides _ _ h.0.0 left right all.0),
        ))),
      )
