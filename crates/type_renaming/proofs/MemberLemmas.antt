-- Sorts and operations that come in.
use Rattle.std.proofs.Common.{◌≡◌, ℕ, zero, suc, ◌+◌, ◌≤◌, Bool, List, [], ◌∷◌, ◌++◌, map, length, refl, ap, sym, ◌∙◌, subst, arith}
use Rattle.std.proofs.Math.Path.{fun_ext}
use Rattle.std.specs.Prelude.{Option, Some, ◌||◌, ◌&&◌, not, nat_lt, slice_get, slice_index}
use Rattle.std.specs.List.{list_any}
use Rattle.std.proofs.lemmas.List.{length-map}
use Rattle.lotos_base.specs.Name.{spelling}
use Rattle.lotos_base.specs.WrittenTerm.{PlacedName}
use Rattle.lotos_base.specs.WrittenView.{placed_name_of}
use Rattle.lotos_base.specs.Signature.{Sort, Operation}
use Rattle.syntax_trees.specs.WrittenItem.{WrittenPair}
use Rattle.sort_terms.specs.ReadingOutcome.{one_name}
use Rattle.sort_terms.specs.WellFormedTest.{all_differ}
use Rattle.sort_terms.specs.Operations.{operation_of}
use Rattle.sort_terms.specs.declared.operations.Op.{Op as CodeOp}
use Rattle.type_presentations.specs.NamesView.{HasNames}
use Rattle.type_presentations.specs.PairIndexView.{pairs_in}
use Rattle.type_presentations.proofs.AddedLemmas.{by_operation, by_sort}
use Rattle.type_presentations.proofs.KeptLemmas.{one_more}
use Rattle.type_presentations.proofs.KeyedLemmas.{itself_by_key}
use Rattle.type_presentations.proofs.NameLemmas.{any_mapped}
use Rattle.type_definitions.specs.TypeFault.{double_operation, double_sort}
use Rattle.type_definitions.specs.Presentation.{first_position, presentation_limit, with_new}
use Rattle.type_definitions.specs.Renaming.{operation_under, pair_for, sort_under}
use Rattle.type_definitions.specs.Actualisation.{Actualising, actual_operation, actual_sort, actualised_operations, actualised_sort, actualised_sorts, formal_operations_of, formal_sorts_of, operation_becomes, operation_renamer, sort_becomes, sort_renamer, pair_unless}
use Rattle.type_definitions.specs.ActualisationFaults.{Coming}
use Rattle.type_definitions.specs.Images.{operation_image}
use Rattle.type_definitions.specs.ProfiledImage.{number_in}
use Rattle.type_renaming.specs.Condensed.{Kind, operation_kind, place_of_pair, sort_kind}
use Rattle.type_renaming.specs.Noting.{maker_at, no_makers, maker_noted, two_makers}
use Rattle.type_renaming.proofs.CondensedLemmas.{operations_are_a_kind, sorts_are_a_kind, tells}
use Rattle.type_renaming.specs.Brought.{OperationsCame, SortsCame}
use Rattle.type_renaming.specs.CameView.{Arrived, HasActual, HasImage, HasSettled, IsFresh, are_one_member}
use Rattle.type_renaming.specs.FaultPlaces.{kept_place, stands_at}
use Rattle.type_renaming.specs.SourceView.{AreOperationsComing, AreSortsComing, IsSourceOfOperations, IsSourceOfSorts, coming_operation, coming_sort}
use Rattle.type_renaming.specs.declared.came.Came.{Came}
use Rattle.type_renaming.specs.declared.source.Source.{Source}
use Rattle.type_renaming.proofs.SettlingLemmas.{IsLawful}
use Rattle.type_renaming.proofs.ArrivingLemmas.{AllArrived, Setting, number_at}

-- ---- The two kinds.

pub sorts_are_lawful : IsLawful sort_kind
sorts_are_lawful = record {
  tells = tells sort_kind sorts_are_a_kind;
  itself = λ s. itself_by_key by_sort.key by_sort.same by_sort.tell s;
  mutual_ = sorts_are_a_kind.ones_turned;
}

pub operations_are_lawful : IsLawful operation_kind
operations_are_lawful = record {
  tells = tells operation_kind operations_are_a_kind;
  itself = λ o. itself_by_key by_operation.key by_operation.same by_operation.tell o;
  mutual_ = operations_are_a_kind.ones_turned;
}

-- what comes of sorts
abbrev pub sorts_of : Actualising → Setting Sort
sorts_of a = record {
  k = sort_kind;
  a = a;
  clash_kind = double_sort;
  marks = a.base.presentation.formal_sorts;
  actual = actual_sort a;
  come = coming_sort a;
  start = a.actual.signature.sorts;
  whole = a.base.presentation.signature.sorts;
}

-- what comes of operations
abbrev pub operations_of : Actualising → Setting Operation
operations_of a = record {
  k = operation_kind;
  a = a;
  clash_kind = double_operation;
  marks = a.base.presentation.formal_operations;
  actual = actual_operation a;
  come = coming_operation a;
  start = a.actual.signature.operations;
  whole = a.base.presentation.signature.operations;
}

from_nothing : (n : ℕ) → 0 + n ≡ n
from_nothing n = omega arith

pub sorts_came : (a : Actualising) (came : Arrived Sort) → AllArrived (sorts_of a) came → SortsCame a came
sorts_came a came all = record {
  list = all.list;
  numbers = λ n.
      ap (λ (ns : List ℕ). slice_index ns n) all.numbers
      ∙ number_at (sorts_of a) (actualised_sorts a) (sort_becomes a) (λ m. refl) (λ m s. refl) 0 a.base.presentation.signature.sorts n
      ∙ ap (λ (m : ℕ). sort_becomes a m (slice_get a.base.presentation.signature.sorts n)) (from_nothing n);
  clash = all.clash;
  too_many = all.too_many;
  differ = all.differ;
}

pub operations_came : (a : Actualising) (came : Arrived Operation) → AllArrived (operations_of a) came → OperationsCame a came
operations_came a came all = record {
  list = all.list;
  numbers = λ n.
      ap (λ (ns : List ℕ). slice_index ns n) all.numbers
      ∙ number_at (operations_of a) (actualised_operations a) (operation_becomes a) (λ m. refl) (λ m o. refl) 0
      a.base.presentation.signature.operations n
      ∙ ap (λ (m : ℕ). operation_becomes a m (slice_get a.base.presentation.signature.operations n)) (from_nothing n);
  clash = all.clash;
  too_many = all.too_many;
  differ = all.differ;
}

-- ---- One that is not formal.

pub has_image : {A : Type 0} (k : Kind A) (mention : PlacedName) (x : Coming A) (old new : Arrived A) (number : ℕ)
    (is_second is_too_many : Bool) → new.list ≡ with_new (are_one_member k) old.list (x.image ∷ [])
    → number ≡ first_position (are_one_member k x.image) new.list → new.numbers ≡ old.numbers ++ number ∷ []
    → new.makers ≡ maker_noted old.makers number (place_of_pair x.pair)
    → all_differ k.one new.list ≡ (not is_second && all_differ k.one old.list)
    → new.clash
    ≡ kept_place old.clash (is_second || two_makers (place_of_pair x.pair) (maker_at old.makers number)) (stands_at x.pair mention)
    → is_too_many ≡ nat_lt presentation_limit (length new.list)
    → new.too_many ≡ kept_place old.too_many is_too_many (stands_at x.pair mention) → HasImage k mention x old new
has_image k mention x old new number is_second is_too_many added is numbered made seconds clash past many = record {
  list = added;
  numbers = numbered ∙ ap (λ (n : ℕ). old.numbers ++ n ∷ []) is;
  makers = made ∙ ap (λ (n : ℕ). maker_noted old.makers n (place_of_pair x.pair)) is;
  is_second = is_second;
  seconds = seconds;
  clash =
      clash
      ∙ ap
      (λ (n : ℕ).
      kept_place old.clash (is_second || two_makers (place_of_pair x.pair) (maker_at old.makers n)) (stands_at x.pair mention)) is;
  too_many = many ∙ ap (λ (b : Bool). kept_place old.too_many b (stands_at x.pair mention)) past;
}

-- the pair is the one that renames what has this name
abbrev pub IsRenamer : Source → List ℕ → Option WrittenPair → Type 0
IsRenamer source name pair = (names : List (List ℕ)) → HasNames source.formals.now names
    → pair ≡ pair_unless (list_any (λ (n : List ℕ). one_name n name) names) (pair_for (pairs_in source.pairs.now) name)

renamer_is : {A : Type 0} (name_of : A → List ℕ) (formals : List A) (pairs : List WrittenPair) (source : Source) (name : List ℕ)
    (pair : Option WrittenPair) → IsRenamer source name pair → HasNames source.formals.now (map name_of formals)
    → pairs ≡ pairs_in source.pairs.now
    → pair ≡ pair_unless (list_any (λ (x : A). one_name (name_of x) name) formals) (pair_for pairs name)
renamer_is name_of formals pairs source name pair is named are =
    is (map name_of formals) named
    ∙ ap (λ (b : Bool). pair_unless b (pair_for (pairs_in source.pairs.now) name)) (any_mapped name_of name formals)
    ∙ ap (λ (ps : List WrittenPair). pair_unless (list_any (λ x. one_name (name_of x) name) formals) (pair_for ps name)) (sym are)

abbrev coming : {A : Type 0} → A → Option WrittenPair → Coming A
coming image pair = record { image = image; pair = pair }

pub sort_settles : (a : Actualising) (source : Source) (s image : Sort) (pair : Option WrittenPair) (old new : Arrived Sort)
    → IsSourceOfSorts a source → IsRenamer source s.name pair → image ≡ sort_under (spelling source.type_name.now) pair s
    → HasImage sort_kind (placed_name_of source.mention.now) (record { image = image; pair = pair }) old new
    → HasImage sort_kind a.base.at (coming_sort a s) old new
sort_settles a source s image pair old new of is made has =
    let renamer : pair ≡ sort_renamer a s =
    renamer_is (λ (t : Sort). t.name) (formal_sorts_of a.base.presentation) a.pairs.sort_pairs source s.name pair is of.formals_are
    of.pairs_are in
    let same : coming image pair ≡ coming_sort a s =
    ap (λ (t : Sort). coming t pair) made
    ∙ ap (λ (n : List ℕ). coming (sort_under n pair s) pair) (sym of.name_is)
    ∙ ap (λ (p : Option WrittenPair). coming (sort_under a.type_name p s) p) renamer in
    subst (λ (at : PlacedName). HasImage sort_kind at (coming_sort a s) old new) (sym of.at_is)
    (subst (λ (x : Coming Sort). HasImage sort_kind (placed_name_of source.mention.now) x old new) same has)

pub operation_settles : (a : Actualising) (source : Source) (sorts : List ℕ) (o image : Operation) (pair : Option WrittenPair)
    (old new : Arrived Operation) → IsSourceOfOperations a source sorts → IsRenamer source o.name pair
    → image ≡ operation_under (spelling source.type_name.now) pair (operation_image (number_in sorts) o)
    → HasImage operation_kind (placed_name_of source.mention.now) (record { image = image; pair = pair }) old new
    → HasImage operation_kind a.base.at (coming_operation a o) old new
operation_settles a source sorts o image pair old new of is made has =
    let renamer : pair ≡ operation_renamer a o =
    renamer_is (λ (p : Operation). p.name) (formal_operations_of a.base.presentation) a.pairs.operation_pairs source o.name pair is
    of.formals_are of.pairs_are in
    let same : coming image pair ≡ coming_operation a o =
    ap (λ (p : Operation). coming p pair) made
    ∙ ap (λ (n : List ℕ). coming (operation_under n pair (operation_image (number_in sorts) o)) pair) (sym of.name_is)
    ∙ ap (λ (f : ℕ → ℕ). coming (operation_under a.type_name pair (operation_image f o)) pair) (fun_ext of.sorts_are)
    ∙ ap (λ (p : Option WrittenPair). coming (operation_under a.type_name p (operation_image (actualised_sort a) o)) p) renamer in
    subst (λ (at : PlacedName). HasImage operation_kind at (coming_operation a o) old new) (sym of.at_is)
    (subst (λ (x : Coming Operation). HasImage operation_kind (placed_name_of source.mention.now) x old new) same has)

-- ---- How many are there.

pub longer : {A : Type 0} (same : A → A → Bool) (there after : List A) (x : A) → after ≡ with_new same there (x ∷ [])
    → length after ≤ length there + 1
longer {A = A} same there after x added =
    let more = one_more same there x in
    let many : length after ≡ length (with_new same there (x ∷ [])) = ap (λ (ys : List A). length ys) added in
    omega (arith, more, many)

-- as many makers as members where nothing came
pub none_counted : (n : ℕ) → length (no_makers n) ≡ n
none_counted zero = refl
none_counted (suc n) = ap (λ (m : ℕ). suc m) (none_counted n)

pub as_long : {A B : Type 0} (f : A → B) (xs : List A) (ys : List B) → map f xs ≡ ys → length xs ≡ length ys
as_long {B = B} f xs ys is = sym (length-map xs f) ∙ ap (λ (zs : List B). length zs) is

pub fresh_for : {A B : Type 0} (f : A → B) (xs : List A) (ys : List B) (came : Came) (count : ℕ) → map f xs ≡ ys → count ≡ length xs
    → IsFresh came count → IsFresh came (length ys)
fresh_for f xs ys came count is counted fresh = subst (λ (n : ℕ). IsFresh came n) (counted ∙ as_long f xs ys is) fresh

-- a formal member, whose actual one is given
pub given : {A : Type 0} (k : Kind A) (mention : PlacedName) (x : Coming A) (old new : Arrived A) (actual : Option ℕ) (number : ℕ)
    → actual ≡ Some number → HasActual old new number → HasSettled k mention x old new actual
given k mention x old new actual number is has =
    subst (λ (o : Option ℕ). HasSettled k mention x old new o) (sym is) has

-- the same members of the base
pub same_sorts : (a : Actualising) (source : Source) (there coming other : List Sort) (actuals : List (Option ℕ)) → other ≡ coming
    → AreSortsComing a source there coming actuals → AreSortsComing a source there other actuals
same_sorts a source there coming other actuals is are =
    subst (λ (ss : List Sort). AreSortsComing a source there ss actuals) (sym is) are

pub same_operations : (a : Actualising) (source : Source) (sorts : List ℕ) (there coming other : List Operation) (actuals : List (Option ℕ))
    → other ≡ coming → AreOperationsComing a source sorts there coming actuals → AreOperationsComing a source sorts there other actuals
same_operations a source sorts there coming other actuals is are =
    subst (λ (os : List Operation). AreOperationsComing a source sorts there os actuals) (sym is) are

-- an operation behind its counter
pub turned_settled : (now held : CodeOp) (a : Actualising) (old new : Arrived Operation) (actual : Option ℕ) → now ≡ held
    → HasSettled operation_kind a.base.at (coming_operation a (operation_of now)) old new actual
    → HasSettled operation_kind a.base.at (coming_operation a (operation_of held)) old new actual
turned_settled now held a old new actual same has =
    subst (λ (o : CodeOp). HasSettled operation_kind a.base.at (coming_operation a (operation_of o)) old new actual) same has
