-- The actual sort of a formal one, with a pair and without.
use Rattle.std.proofs.Common.{◌≡◌, ℕ, ◌<◌, Bor, Bool, true, false, List, map, length, refl, ap, sym, ◌∙◌, subst, arith}
use Rattle.std.specs.Prelude.{◌^◌, Option, None, Some, not, if◌then◌else◌}
use Rattle.std.specs.List.{list_any}
use Rattle.std.specs.Option.{option_map}
use Rattle.std.proofs.lemmas.List.{length-map}
use Rattle.std.proofs.lemmas.Option.{none-some, same_Some}
use Rattle.lotos_base.specs.WrittenTerm.{PlacedName}
use Rattle.lotos_base.specs.Signature.{Sort, Operation}
use Rattle.syntax_trees.specs.TreeViews.{pair_of}
use Rattle.syntax_trees.specs.declared.items.PairText.{PairText}
use Rattle.syntax_trees.specs.WrittenItem.{WrittenPair}
use Rattle.sort_terms.specs.Operations.{sort_of}
use Rattle.sort_terms.specs.ReadingOutcome.{is_sort_name, one_name}
use Rattle.sort_terms.specs.declared.operations.Sort.{Sort as CodeSort}
use Rattle.type_definitions.specs.TypeFault.{TypeFault, fault_if, missing_actual, unknown_sort}
use Rattle.type_definitions.specs.Presentation.{first_position}
use Rattle.type_definitions.specs.Declarations.{sort_numbered}
use Rattle.type_definitions.specs.Renaming.{pair_for}
use Rattle.type_definitions.specs.Actualisation.{Actualising, actual_name, actual_sort}
use Rattle.type_definitions.specs.ActualisationFaults.{missing, no_actual_sort}
use Rattle.type_definitions.proofs.WithNewLemmas.{position_within}
use Rattle.type_presentations.specs.PositionOfName.{position_of_name}
use Rattle.type_presentations.specs.NamesView.{HasNames}
use Rattle.type_presentations.specs.declared.names.NamePositions.{NamePositions}
use Rattle.type_renaming.specs.Actuals.{sort_lacks_actual, operation_lacks_actual, has_actual_in_some_form}
use Rattle.type_renaming.specs.PartsView.{AreFewNames}

pub has_sort : (a : Actualising) (s : Sort) (pair : Option WrittenPair) (n : ℕ) → pair_for a.pairs.sort_pairs s.name ≡ pair
    → is_sort_name a.actual.signature (actual_name s.name pair) ≡ true → n ≡ sort_numbered a.actual (actual_name s.name pair)
    → (sort_lacks_actual a s ≡ None) × (n ≡ actual_sort a s)
has_sort a s pair n is there at = (
  ap (λ (o : Option WrittenPair). fault_if (not (is_sort_name a.actual.signature (actual_name s.name o))) (no_actual_sort a s.name o)) is
      ∙ ap (λ (b : Bool). fault_if (not b) (no_actual_sort a s.name pair)) there,
  at ∙ ap (λ (o : Option WrittenPair). sort_numbered a.actual (actual_name s.name o)) (sym is),
)

pub lacks_sort : (a : Actualising) (s : Sort) (pair : Option WrittenPair) → pair_for a.pairs.sort_pairs s.name ≡ pair
    → is_sort_name a.actual.signature (actual_name s.name pair) ≡ false → sort_lacks_actual a s ≡ Some (no_actual_sort a s.name pair)
lacks_sort a s pair is none =
    ap (λ (o : Option WrittenPair). fault_if (not (is_sort_name a.actual.signature (actual_name s.name o))) (no_actual_sort a s.name o)) is
    ∙ ap (λ (b : Bool). fault_if (not b) (no_actual_sort a s.name pair)) none

pub has_operation : (a : Actualising) (o : Operation) → has_actual_in_some_form a o ≡ true → operation_lacks_actual a o ≡ None
has_operation a o there = ap (λ (b : Bool). fault_if (not b) (missing a o.name)) there

pub lacks_operation : (a : Actualising) (o : Operation) → has_actual_in_some_form a o ≡ false
    → operation_lacks_actual a o ≡ Some (missing a o.name)
lacks_operation a o none = ap (λ (b : Bool). fault_if (not b) (missing a o.name)) none

-- ---- Names of sorts.

pub names_there : (names : NamePositions) (codes : List CodeSort) (plain target : List Sort) → map sort_of codes ≡ plain → target ≡ plain
    → HasNames names (map (λ (s : Sort). s.name) (map sort_of codes)) → HasNames names (map (λ (s : Sort). s.name) target)
names_there names codes plain target are same has =
    subst (λ (ss : List Sort). HasNames names (map (λ (s : Sort). s.name) ss)) (are ∙ sym same) has

pub names_few : (names : NamePositions) (codes : List CodeSort) (plain : List Sort) → map sort_of codes ≡ plain → length plain < 2 ^ 32
    → HasNames names (map (λ (s : Sort). s.name) (map sort_of codes)) → AreFewNames names
names_few names codes plain are few has = (
  map (λ (s : Sort). s.name) plain,
  names_there names codes plain plain are refl has,
  subst (λ (n : ℕ). n < 2 ^ 32) (sym (length-map plain (λ (s : Sort). s.name))) few,
)

-- ---- A pair that was looked for.

pub pair_is : (a : Actualising) (s : Sort) (pairs : List WrittenPair) (found : Option (Bor PairText)) (o : Option (Bor PairText))
    → a.pairs.sort_pairs ≡ pairs → option_map (λ (p : Bor PairText). pair_of p.now) found ≡ pair_for pairs s.name → found ≡ o
    → pair_for a.pairs.sort_pairs s.name ≡ option_map (λ (p : Bor PairText). pair_of p.now) o
pair_is a s pairs found o are is same =
    ap (λ (ps : List WrittenPair). pair_for ps s.name) are ∙ sym is
    ∙ ap (λ (p : Option (Bor PairText)). option_map (λ (q : Bor PairText). pair_of q.now) p) same

pub alike_lacks : (a : Actualising) (s : Sort) (at : PlacedName) (f : TypeFault) → pair_for a.pairs.sort_pairs s.name ≡ None
    → a.base.at ≡ at → is_sort_name a.actual.signature s.name ≡ false → f ≡ missing_actual at.place s.name
    → sort_lacks_actual a s ≡ Some f
alike_lacks a s at f none here lacks is =
    lacks_sort a s None none lacks
    ∙ ap (λ (n : PlacedName). Some (missing_actual n.place s.name)) here ∙ ap (λ (g : TypeFault). Some g) (sym is)

pub paired_lacks : (a : Actualising) (s : Sort) (pair : WrittenPair) (f : TypeFault) → pair_for a.pairs.sort_pairs s.name ≡ Some pair
    → is_sort_name a.actual.signature pair.given ≡ false → f ≡ unknown_sort pair.place (Some pair.given) → sort_lacks_actual a s ≡ Some f
paired_lacks a s pair f some lacks is =
    lacks_sort a s (Some pair) some lacks ∙ ap (λ (g : TypeFault). Some g) (sym is)

-- a position among few names is small
pub position_few : (names : List (List ℕ)) (name : List ℕ) (found : Option ℕ) (n big : ℕ) → found ≡ position_of_name names name
    → found ≡ Some n → length names < big → n < big
position_few names name found n big is some few = go (list_any test names) refl (sym some ∙ is)
  where
    test : List ℕ → Bool
    test other = one_name other name

    go : (b : Bool) → list_any test names ≡ b → Some n ≡ (if b then Some (first_position test names) else None) → n < big
    go true there same =
        let at : n ≡ first_position test names = same_Some _ _ same in
        let inside : first_position test names < length names = position_within test names there in omega (arith, at, inside, few)
    go false there same = absurd (none-some n (sym same))
