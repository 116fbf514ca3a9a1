-- What is wrong with pairs, once their names were looked for, and which pair has a name.
use Rattle.std.proofs.Common.{◌≡◌, ℕ, suc, Bool, true, false, List, [], ◌∷◌, map, length, get_or, Bor, refl, ap, sym, ◌∙◌}
use Rattle.std.specs.Prelude.{Option, Some, None, slice_get, is_some, IfSome, if◌then◌else◌}
use Rattle.std.specs.List.{list_any}
use Rattle.std.specs.Option.{option_map, option_copied}
use Rattle.std.proofs.lemmas.Bool.{ltb-true, ltb-false}
use Rattle.std.proofs.lemmas.Option.{slice_get-map, slice_get_past, slice_get-get_or}
use Rattle.std.proofs.Math.Dec.{ltb}
use Rattle.lotos_base.specs.Signature.{Signature}
use Rattle.syntax_trees.specs.WrittenItem.{WrittenPair}
use Rattle.syntax_trees.specs.TreeViews.{pair_of}
use Rattle.syntax_trees.specs.declared.items.PairText.{PairText}
use Rattle.sort_terms.specs.ReadingOutcome.{one_name, is_sort_name}
use Rattle.type_definitions.specs.TypeFault.{unknown_sort, unknown_operation, double_sort, double_operation}
use Rattle.type_definitions.specs.Presentation.{first_position}
use Rattle.type_definitions.specs.Renaming.{pair_for, is_old_name, is_new_name, names_operation, sort_pair_fault, operation_pair_fault, sort_pairs_fault, operation_pairs_fault}
use Rattle.type_definitions.proofs.WalkLemmas.{AreOneByOne}

abbrev pub old_name : WrittenPair → List ℕ
old_name pair = pair.replaced.name

abbrev pub new_name : WrittenPair → List ℕ
new_name pair = pair.given

-- ---- One pair of sorts.

pub old_sort_unknown : (signature : Signature) (earlier unshared : List WrittenPair) (pair : WrittenPair)
    → is_sort_name signature pair.replaced.name ≡ false
    → sort_pair_fault signature earlier unshared pair ≡ Some (unknown_sort pair.replaced.place (Some pair.replaced.name))
old_sort_unknown signature earlier unshared pair none = rw none refl

pub old_sort_listed : (signature : Signature) (earlier unshared : List WrittenPair) (pair : WrittenPair)
    → is_sort_name signature pair.replaced.name ≡ true → is_old_name earlier pair.replaced.name ≡ true
    → sort_pair_fault signature earlier unshared pair ≡ Some (double_sort pair.place pair.given)
old_sort_listed signature earlier unshared pair there twice = rw (there, twice) refl

pub new_sort_taken : (signature : Signature) (earlier unshared : List WrittenPair) (pair : WrittenPair)
    → is_sort_name signature pair.replaced.name ≡ true → is_old_name earlier pair.replaced.name ≡ false
    → is_new_name unshared pair.given ≡ true
    → sort_pair_fault signature earlier unshared pair ≡ Some (double_sort pair.place pair.given)
new_sort_taken signature earlier unshared pair there once taken = rw (there, once, taken) refl

pub sort_pair_fine : (signature : Signature) (earlier unshared : List WrittenPair) (pair : WrittenPair)
    → is_sort_name signature pair.replaced.name ≡ true → is_old_name earlier pair.replaced.name ≡ false
    → is_new_name unshared pair.given ≡ false → sort_pair_fault signature earlier unshared pair ≡ None
sort_pair_fine signature earlier unshared pair there once free = rw (there, once, free) refl

-- ---- One pair of operations.

pub old_operation_unknown : (signature : Signature) (earlier : List WrittenPair) (pair : WrittenPair)
    → names_operation signature pair.replaced.name ≡ false
    → operation_pair_fault signature earlier pair ≡ Some (unknown_operation pair.replaced.place pair.replaced.name)
old_operation_unknown signature earlier pair none = rw none refl

pub old_operation_listed : (signature : Signature) (earlier : List WrittenPair) (pair : WrittenPair)
    → names_operation signature pair.replaced.name ≡ true → is_old_name earlier pair.replaced.name ≡ true
    → operation_pair_fault signature earlier pair ≡ Some (double_operation pair.place pair.given)
old_operation_listed signature earlier pair there twice = rw (there, twice) refl

pub operation_pair_fine : (signature : Signature) (earlier : List WrittenPair) (pair : WrittenPair)
    → names_operation signature pair.replaced.name ≡ true → is_old_name earlier pair.replaced.name ≡ false
    → operation_pair_fault signature earlier pair ≡ None
operation_pair_fine signature earlier pair there once = rw (there, once) refl

-- ---- All of them.

pub sort_pairs_one_by_one : (signature : Signature)
    → AreOneByOne (λ (earlier : List WrittenPair) (pair : WrittenPair). sort_pair_fault signature earlier earlier pair)
    (λ (earlier pairs : List WrittenPair). sort_pairs_fault signature earlier pairs)
sort_pairs_one_by_one signature = ((λ earlier. refl), (λ earlier x xs. refl))

pub operation_pairs_one_by_one : (signature : Signature)
    → AreOneByOne (λ (earlier : List WrittenPair) (pair : WrittenPair). operation_pair_fault signature earlier pair)
    (λ (earlier pairs : List WrittenPair). operation_pairs_fault signature earlier pairs)
operation_pairs_one_by_one signature = ((λ earlier. refl), (λ earlier x xs. refl))

-- ---- The pair of a name.

at_first : (name : List ℕ) (pairs : List WrittenPair)
    → slice_get pairs (first_position (λ (pair : WrittenPair). one_name pair.replaced.name name) pairs) ≡ pair_for pairs name
at_first name [] = refl
at_first name (pair ∷ pairs) = go (one_name pair.replaced.name name) (at_first name pairs)
  where
    go : (b : Bool)
        → slice_get pairs (first_position (λ (p : WrittenPair). one_name p.replaced.name name) pairs) ≡ pair_for pairs name
        → slice_get (pair ∷ pairs)
        (if b then 0 else suc (first_position (λ (p : WrittenPair). one_name p.replaced.name name) pairs))
        ≡ (if b then Some pair else pair_for pairs name)
    go true rest = refl
    go false rest = rest

-- a pair behind a reference
pub seen : (found : Option (Bor PairText)) → option_map (λ (p : Bor PairText). pair_of p.now) found
    ≡ option_map pair_of (option_copied found)
seen None = refl
seen (Some p) = refl

-- what a list has at a place
pub looked_up : (found : Option (Bor PairText)) (pairs : List PairText) (i : ℕ) → is_some found ≡ ltb i (length pairs)
    → IfSome found (λ (p : Bor PairText). p.now ≡ get_or pairs i p.now) → option_copied found ≡ slice_get pairs i
looked_up None pairs i past here = sym (slice_get_past pairs i (ltb-false i (length pairs) (sym past)))
looked_up (Some p) pairs i within here =
    sym (slice_get-get_or pairs i p.now (ltb-true i (length pairs) (sym within)) ∙ ap (λ (q : PairText). Some q) (sym here))

-- the pair at the first position of its old name
pub pair_at : (pairs : List PairText) (name : List ℕ) (number : ℕ)
    → first_position (λ (pair : WrittenPair). one_name pair.replaced.name name) (map pair_of pairs) ≡ number
    → option_map pair_of (slice_get pairs number) ≡ pair_for (map pair_of pairs) name
pair_at pairs name number is =
    sym (slice_get-map pair_of pairs number) ∙ ap (λ (n : ℕ). slice_get (map pair_of pairs) n) (sym is)
    ∙ at_first name (map pair_of pairs)

-- no pair has the name
pub no_pair : (pairs : List WrittenPair) (name : List ℕ)
    → list_any (λ (pair : WrittenPair). one_name pair.replaced.name name) pairs ≡ false → pair_for pairs name ≡ None
no_pair [] name none = refl
no_pair (pair ∷ pairs) name none = go (one_name pair.replaced.name name) refl (no_pair pairs name)
  where
    go : (b : Bool) → one_name pair.replaced.name name ≡ b
        → (list_any (λ (p : WrittenPair). one_name p.replaced.name name) pairs ≡ false → pair_for pairs name ≡ None)
        → (if b then Some pair else pair_for pairs name) ≡ None
    go true is rest = let e : true ≡ false = rw is at none in cc
    go false is rest = rest (rw is at none)
