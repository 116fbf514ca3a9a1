-- What pairs make of one sort or operation.
use Rattle.std.proofs.Common.{◌≡◌, ℕ, Bool, true, false, List, refl, ap, sym, ◌∙◌}
use Rattle.std.specs.Prelude.{Option, Some, None, ◌&&◌, IsTrue, ◌↔◌, nat_eq, if◌then◌else◌}
use Rattle.std.specs.Str.{bytes_eq}
use Rattle.std.proofs.lemmas.Option.{same_Some, none-some}
use Rattle.std.proofs.lemmas.Slice.Eq.{bytes_eq-Decides}
use Rattle.std.proofs.lemmas.Bool.{and_from}
use Rattle.lotos_base.specs.Name.{spelling, AreSame}
use Rattle.lotos_base.specs.declared.names.Name.{Name}
use Rattle.lotos_base.specs.Names.{folded}
use Rattle.lotos_base.specs.Signature.{Sort, Operation}
use Rattle.lotos_base.specs.Twins.{form_eq}
use Rattle.syntax_trees.specs.WrittenItem.{WrittenPair, WrittenPairs}
use Rattle.sort_terms.specs.ReadingOutcome.{one_name}
use Rattle.sort_terms.specs.WellFormedTest.{are_one_sort, are_one_operation}
use Rattle.type_presentations.proofs.AddedLemmas.{by_name, by_profile}
use Rattle.type_presentations.proofs.KeyedLemmas.{mutual_by_key}
use Rattle.type_definitions.specs.Renaming.{pair_for, sort_under, operation_under, renamed_sort, renamed_operation}
use Rattle.type_definitions.proofs.RenamingLemmas.{unpaired_sort, unpaired_operation}
use Rattle.type_renaming.specs.Clashes.{giving, giving_operation, have_one_profile}

-- ---- Tests.

pub same_name : (name other : Name) (b : Bool) → IsTrue b ↔ AreSame name other → b ≡ one_name (spelling name) (spelling other)
same_name name other true told = sym ((bytes_eq-Decides (folded (spelling name)) (folded (spelling other))).1 (told.0 refl))
same_name name other false told = go (bytes_eq (folded (spelling name)) (folded (spelling other))) refl
  where
    go : (b : Bool) → bytes_eq (folded (spelling name)) (folded (spelling other)) ≡ b
        → false ≡ bytes_eq (folded (spelling name)) (folded (spelling other))
    go false e = sym e
    go true e = told.1 ((bytes_eq-Decides (folded (spelling name)) (folded (spelling other))).0 e) ∙ sym e

pub sorts_turned : (s t : Sort) → are_one_sort s t ≡ are_one_sort t s
sorts_turned s t = mutual_by_key by_name.key by_name.same by_name.tell s t

pub operations_turned : (o p : Operation) → are_one_operation o p ≡ are_one_operation p o
operations_turned o p = mutual_by_key by_profile.key by_profile.same by_profile.tell o p

some_none : {A : Type 0} (x : A) → Some x ≡ None → ⊥
some_none x e = cc

picked : (b : Bool) (q p : WrittenPair) → (if b then Some q else None) ≡ Some p → (b ≡ true) × (q ≡ p)
picked true q p e = (refl, same_Some q p e)
picked false q p e = absurd (none-some p e)

not_picked : (b : Bool) (q : WrittenPair) → (if b then Some q else None) ≡ None → b ≡ false
not_picked true q e = absurd (some_none q e)
not_picked false q e = refl

picked_from : (b : Bool) (o : Option WrittenPair) (p : WrittenPair) → (if b then o else None) ≡ Some p → (b ≡ true) × (o ≡ Some p)
picked_from true o p e = (refl, e)
picked_from false o p e = absurd (none-some p e)

pub gives : (q : WrittenPair) (name : List ℕ) → one_name q.given name ≡ true → giving (Some q) name ≡ Some q
gives q name is = rw is refl

pub gives_another : (q : WrittenPair) (name : List ℕ) → one_name q.given name ≡ false → giving (Some q) name ≡ None
gives_another q name is = rw is refl

-- ---- Sorts.

-- the earlier one is given the name of one without a pair
pub sort_given : (type_name : List ℕ) (pairs : WrittenPairs) (earlier s : Sort) (p : WrittenPair) → pair_for pairs.sort_pairs s.name ≡ None
    → giving (pair_for pairs.sort_pairs earlier.name) s.name ≡ Some p
    → (pair_for pairs.sort_pairs earlier.name ≡ Some p)
    × (are_one_sort (renamed_sort type_name pairs earlier) (renamed_sort type_name pairs s) ≡ true)
sort_given type_name pairs earlier s p own given = go (pair_for pairs.sort_pairs earlier.name) refl given
  where
    go : (o : Option WrittenPair) → pair_for pairs.sort_pairs earlier.name ≡ o → giving o s.name ≡ Some p
        → (pair_for pairs.sort_pairs earlier.name ≡ Some p)
        × (are_one_sort (renamed_sort type_name pairs earlier) (renamed_sort type_name pairs s) ≡ true)
    go None is e = absurd (none-some p e)
    go (Some q) is e =
        let parts = picked (one_name q.given s.name) q p e in (
          is ∙ ap (λ (r : WrittenPair). Some r) parts.1,
          ap (λ (o : Option WrittenPair). are_one_sort (sort_under type_name o earlier) (renamed_sort type_name pairs s)) is
              ∙ ap (λ (t : Sort). are_one_sort (sort_under type_name (Some q) earlier) t) (unpaired_sort type_name pairs s own) ∙ parts.0,
        )

-- it is not, and differed before
pub sort_not_given : (type_name : List ℕ) (pairs : WrittenPairs) (earlier s : Sort) → pair_for pairs.sort_pairs s.name ≡ None
    → giving (pair_for pairs.sort_pairs earlier.name) s.name ≡ None → are_one_sort s earlier ≡ false
    → are_one_sort (renamed_sort type_name pairs earlier) (renamed_sort type_name pairs s) ≡ false
sort_not_given type_name pairs earlier s own given apart = go (pair_for pairs.sort_pairs earlier.name) refl given
  where
    go : (o : Option WrittenPair) → pair_for pairs.sort_pairs earlier.name ≡ o → giving o s.name ≡ None
        → are_one_sort (renamed_sort type_name pairs earlier) (renamed_sort type_name pairs s) ≡ false
    go None is e =
        ap (λ (t : Sort). are_one_sort t (renamed_sort type_name pairs s)) (unpaired_sort type_name pairs earlier is)
        ∙ ap (λ (t : Sort). are_one_sort earlier t) (unpaired_sort type_name pairs s own) ∙ sorts_turned earlier s ∙ apart
    go (Some q) is e =
        ap (λ (o : Option WrittenPair). are_one_sort (sort_under type_name o earlier) (renamed_sort type_name pairs s)) is
        ∙ ap (λ (t : Sort). are_one_sort (sort_under type_name (Some q) earlier) t) (unpaired_sort type_name pairs s own)
        ∙ not_picked (one_name q.given s.name) q e

-- two without pairs that are one were one before
pub sorts_alike : (type_name : List ℕ) (pairs : WrittenPairs) (s : Sort) → pair_for pairs.sort_pairs s.name ≡ None → (earlier : Sort)
    → pair_for pairs.sort_pairs earlier.name ≡ None
    → are_one_sort (renamed_sort type_name pairs earlier) (renamed_sort type_name pairs s) ≡ true → are_one_sort s earlier ≡ true
sorts_alike type_name pairs s own earlier none one =
    sorts_turned s earlier
    ∙ ap (λ (t : Sort). are_one_sort t s) (sym (unpaired_sort type_name pairs earlier none))
    ∙ ap (λ (t : Sort). are_one_sort (renamed_sort type_name pairs earlier) t) (sym (unpaired_sort type_name pairs s own)) ∙ one

-- ---- Operations.

grouped : (a b c : Bool) → ((a && b) && c) ≡ (a && (b && c))
grouped true b c = refl
grouped false b c = refl

-- an operation under a pair is another one
under_pair : (type_name : List ℕ) (q : WrittenPair) (earlier o : Operation)
    → are_one_operation (operation_under type_name (Some q) earlier) o ≡ (one_name q.given o.name && have_one_profile earlier o)
under_pair type_name q earlier o =
    grouped (one_name q.given o.name) (form_eq earlier.form o.form)
    (bytes_eq earlier.arguments o.arguments && nat_eq earlier.result o.result)

pub operation_given : (type_name : List ℕ) (pairs : WrittenPairs) (earlier o : Operation) (p : WrittenPair)
    → pair_for pairs.operation_pairs o.name ≡ None
    → giving_operation (pair_for pairs.operation_pairs earlier.name) earlier o ≡ Some p
    → (pair_for pairs.operation_pairs earlier.name ≡ Some p)
    × (are_one_operation (renamed_operation type_name pairs earlier) (renamed_operation type_name pairs o) ≡ true)
operation_given type_name pairs earlier o p own given =
    let outer = picked_from (have_one_profile earlier o) (giving (pair_for pairs.operation_pairs earlier.name) o.name) p given in
    go (pair_for pairs.operation_pairs earlier.name) refl outer.0 outer.1
  where
    go : (q : Option WrittenPair) → pair_for pairs.operation_pairs earlier.name ≡ q → have_one_profile earlier o ≡ true
        → giving q o.name ≡ Some p
        → (pair_for pairs.operation_pairs earlier.name ≡ Some p)
        × (are_one_operation (renamed_operation type_name pairs earlier) (renamed_operation type_name pairs o) ≡ true)
    go None is alike e = absurd (none-some p e)
    go (Some q) is alike e =
        let parts = picked (one_name q.given o.name) q p e in (
          is ∙ ap (λ (r : WrittenPair). Some r) parts.1,
          ap (λ (r : Option WrittenPair).
              are_one_operation (operation_under type_name r earlier) (renamed_operation type_name pairs o)) is
              ∙ ap (λ (r : Operation). are_one_operation (operation_under type_name (Some q) earlier) r)
              (unpaired_operation type_name pairs o own)
              ∙ under_pair type_name q earlier o
              ∙ and_from (one_name q.given o.name) (have_one_profile earlier o) parts.0 alike,
        )

pub operation_not_given : (type_name : List ℕ) (pairs : WrittenPairs) (earlier o : Operation)
    → pair_for pairs.operation_pairs o.name ≡ None
    → giving_operation (pair_for pairs.operation_pairs earlier.name) earlier o ≡ None → are_one_operation o earlier ≡ false
    → are_one_operation (renamed_operation type_name pairs earlier) (renamed_operation type_name pairs o) ≡ false
operation_not_given type_name pairs earlier o own given apart = go (pair_for pairs.operation_pairs earlier.name) refl given
  where
    either : (h : Bool) (q : WrittenPair) → (if h then giving (Some q) o.name else None) ≡ None → (one_name q.given o.name && h) ≡ false
    either true q e = let none : one_name q.given o.name ≡ false = not_picked (one_name q.given o.name) q e in rw none refl
    either false q e = last (one_name q.given o.name)
      where
        last : (a : Bool) → (a && false) ≡ false
        last true = refl
        last false = refl

    go : (q : Option WrittenPair) → pair_for pairs.operation_pairs earlier.name ≡ q → giving_operation q earlier o ≡ None
        → are_one_operation (renamed_operation type_name pairs earlier) (renamed_operation type_name pairs o) ≡ false
    go None is e =
        ap (λ (r : Operation). are_one_operation r (renamed_operation type_name pairs o)) (unpaired_operation type_name pairs earlier is)
        ∙ ap (λ (r : Operation). are_one_operation earlier r) (unpaired_operation type_name pairs o own) ∙ operations_turned earlier o
        ∙ apart
    go (Some q) is e =
        ap (λ (r : Option WrittenPair). are_one_operation (operation_under type_name r earlier) (renamed_operation type_name pairs o)) is
        ∙ ap (λ (r : Operation). are_one_operation (operation_under type_name (Some q) earlier) r)
        (unpaired_operation type_name pairs o own)
        ∙ under_pair type_name q earlier o ∙ either (have_one_profile earlier o) q e

pub operations_alike : (type_name : List ℕ) (pairs : WrittenPairs) (o : Operation) → pair_for pairs.operation_pairs o.name ≡ None
    → (earlier : Operation) → pair_for pairs.operation_pairs earlier.name ≡ None
    → are_one_operation (renamed_operation type_name pairs earlier) (renamed_operation type_name pairs o) ≡ true
    → are_one_operation o earlier ≡ true
operations_alike type_name pairs o own earlier none one =
    operations_turned o earlier
    ∙ ap (λ (r : Operation). are_one_operation r o) (sym (unpaired_operation type_name pairs earlier none))
    ∙ ap (λ (r : Operation). are_one_operation (renamed_operation type_name pairs earlier) r)
    (sym (unpaired_operation type_name pairs o own))
    ∙ one
