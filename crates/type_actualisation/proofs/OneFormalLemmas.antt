-- The formal equations of one type, and what it requires.
use Rattle.std.proofs.Common.{◌≡◌, ℕ, ◌+◌, ◌≤◌, Bool, true, false, List, [], ◌∷◌, ◌++◌, length, map, fold, refl, ap, sym, ◌∙◌, subst, arith}
use Rattle.std.specs.Prelude.{None, if◌then◌else◌}
use Rattle.std.proofs.lemmas.List.{length-map, length-append}
use Rattle.lotos_base.proofs.Members.{map_same, at_front}
use Rattle.lotos_base.specs.Equation.{Equation}
use Rattle.lotos_base.specs.Signature.{Operation, Signature, Sort}
use Rattle.lotos_base.specs.WrittenTerm.{PlacedName}
use Rattle.syntax_trees.specs.WrittenItem.{WrittenOperation, WrittenPairs, WrittenSections, actualises, extends, renames}
use Rattle.type_actualisation.proofs.MapLemmas.{actual_is_within}
use Rattle.type_definitions.specs.Actualisation.{Actualising, actualisation}
use Rattle.type_definitions.specs.ActualisationFaults.{actualising_of}
use Rattle.type_definitions.specs.Declarations.{with_declarations, with_formal_operations, with_formal_sorts, with_operation, with_sort, with_sorts}
use Rattle.type_definitions.specs.Extension.{asked_of, extended}
use Rattle.type_definitions.specs.Flattened.{IsPresentation, mention_of, mentions_with, presentation_named}
use Rattle.type_definitions.specs.FormalEquations.{FlattenedType, WithFormals, formals_joined, formals_of_union, mentioned_formals, mentioned_in, no_formals, with_formals_named}
use Rattle.type_definitions.specs.Images.{equation_image}
use Rattle.type_definitions.specs.Presentation.{Presentation, nothing}
use Rattle.type_definitions.specs.ProfiledImage.{number_in}
use Rattle.type_definitions.specs.Renaming.{renamed_sort, renamed_presentation}
use Rattle.type_definitions.specs.Union.{Mentioned, union_of, with_mentioned}
use Rattle.type_definitions.specs.UnionLaws.{IsIn}
use Rattle.type_equations.proofs.GivenLemmas.{give_all_same}
use Rattle.type_presentations.proofs.SignatureLemmas.{IsLarger}
use Rattle.type_presentations.specs.EquationListView.{equations_in}
use Rattle.type_presentations.specs.declared.equation_list.EquationList.{EquationList}
use Rattle.type_renaming.proofs.KeptLemmas.{equation_stays}
use Rattle.type_renaming.proofs.PartLemmas.{images_keep_profiles}
use Rattle.type_renaming.specs.Parts.{KeepsProfilesOf}
use Rattle.type_renaming.specs.SameNumbers.{KeepNumbers}
use Rattle.type_actualisation.specs.FormalLists.{AreFormalsOver}

-- ---- What an actualisation is put together of.

abbrev pub put_together : PlacedName → Presentation → Presentation → List ℕ → WrittenPairs → Actualising
put_together at base actual name pairs =
    record { base = record { at = at; presentation = base }; actual = actual; pairs = pairs; type_name = name }

-- ---- Larger signatures.

larger_itself : (signature : Signature) → IsLarger signature signature
larger_itself signature = record { sorts = omega arith; operations = λ f o found. found }

larger_further : (one next last : Signature) → IsLarger one next → IsLarger next last → IsLarger one last
larger_further one next last first after = record {
  sorts = omega (arith, first.sorts, after.sorts);
  operations = λ f o found. after.operations f o (first.operations f o found);
}

longer : {A : Type 0} (xs ys : List A) → length xs ≤ length (xs ++ ys)
longer xs ys = let whole : length (xs ++ ys) ≡ length xs + length ys = length-append xs ys in omega (arith, whole)

sorts_larger : (origin : List ℕ) (is_formal : Bool) (p : Presentation) (declared : List PlacedName)
    → IsLarger p.signature (fold (with_sort origin is_formal) p declared).signature
sorts_larger origin is_formal p [] = larger_itself p.signature
sorts_larger origin is_formal p (d ∷ ds) =
    larger_further p.signature (with_sort origin is_formal p d).signature
    (fold (with_sort origin is_formal) (with_sort origin is_formal p d) ds).signature
    (record {
      sorts = longer p.signature.sorts (record { name = d.name; origin = origin } ∷ []);
      operations = λ f o found. found;
    })
    (sorts_larger origin is_formal (with_sort origin is_formal p d) ds)

operations_larger : (origin : List ℕ) (is_formal : Bool) (p : Presentation) (declared : List WrittenOperation)
    → IsLarger p.signature (fold (with_operation origin is_formal) p declared).signature
operations_larger origin is_formal p [] = larger_itself p.signature
operations_larger origin is_formal p (d ∷ ds) =
    larger_further p.signature (with_operation origin is_formal p d).signature
    (fold (with_operation origin is_formal) (with_operation origin is_formal p d) ds).signature
    (record { sorts = omega arith; operations = λ f o found. at_front p.signature.operations _ f o found })
    (operations_larger origin is_formal (with_operation origin is_formal p d) ds)

declared_larger : (origin : List ℕ) (p : Presentation) (s : WrittenSections)
    → IsLarger p.signature (with_declarations origin p s).signature
declared_larger origin p s =
    larger_further p.signature (with_sorts origin p s).signature (with_declarations origin p s).signature
    (larger_further p.signature (with_formal_sorts origin p s).signature (with_sorts origin p s).signature
    (sorts_larger origin true p s.formal_sorts) (sorts_larger origin false (with_formal_sorts origin p s) s.sorts))
    (larger_further (with_sorts origin p s).signature (with_formal_operations origin p s).signature
    (with_declarations origin p s).signature (operations_larger origin true (with_sorts origin p s) s.formal_operations)
    (operations_larger origin false (with_formal_operations origin p s) s.operations))

-- ---- Unions with formal equations are unions.

along : (all : List FlattenedType) (w : WithFormals) (p : Presentation) (names : List PlacedName) → w.presentation ≡ p
    → (fold formals_joined w (map (with_formals_named all) names)).presentation
    ≡ fold with_mentioned p (map (mention_of (mentioned_in all)) names)
along all w p [] is = is
along all w p (n ∷ ns) is =
    along all (formals_joined w (with_formals_named all n)) (with_mentioned p (mention_of (mentioned_in all) n)) ns
    (ap (λ (q : Presentation). with_mentioned q (mention_of (mentioned_in all) n)) is)

pub union_is : (all : List FlattenedType) (names : List PlacedName)
    → (mentioned_formals all names).presentation ≡ union_of (mentions_with (mentioned_in all) names)
union_is all names = along all no_formals nothing names refl

pub extension_larger : (all : List FlattenedType) (name : List ℕ) (imports : List PlacedName) (s : WrittenSections) (p : Presentation)
    → IsPresentation (mentioned_in all) name (extends imports s) p
    → IsLarger (mentioned_formals all imports).presentation.signature p.signature
extension_larger all name imports s p is =
    let union : Presentation = union_of (mentions_with (mentioned_in all) imports) in
    let declared : Presentation = extended (mentions_with (mentioned_in all) imports) name s in
    subst (λ (q : Presentation). IsLarger q.signature p.signature) (sym (union_is all imports))
    (subst (λ (t : Signature). IsLarger union.signature t) (sym (give_all_same declared p (asked_of s) is.1))
    (declared_larger name union s))

pub actualisation_larger : (all : List FlattenedType) (name : List ℕ) (base : PlacedName) (actuals : List PlacedName)
    (pairs : WrittenPairs) (p : Presentation) → IsPresentation (mentioned_in all) name (actualises base actuals pairs) p
    → IsLarger (mentioned_formals all actuals).presentation.signature p.signature
actualisation_larger all name base actuals pairs p is =
    let a : Actualising = actualising_of (mention_of (mentioned_in all) base) (mentions_with (mentioned_in all) actuals) name pairs in
    subst (λ (q : Presentation). IsLarger q.signature p.signature) (sym (union_is all actuals))
    (subst (λ (q : Presentation). IsLarger a.actual.signature q.signature) is.1 (actual_is_within a))

-- ---- Renamings.

pub renaming_keeps : (base p : Presentation) (name : List ℕ) (pairs : WrittenPairs) → renamed_presentation base name pairs ≡ p
    → KeepsProfilesOf base.signature p.signature
renaming_keeps base p name pairs is =
    subst (λ (q : Presentation). KeepsProfilesOf base.signature q.signature) is
    (images_keep_profiles name pairs base.signature (renamed_presentation base name pairs).signature
    (length-map base.signature.sorts (renamed_sort name pairs)) refl)

pub all_stay : (signature : Signature) (sorts operations : List ℕ) (list : EquationList) → KeepNumbers signature sorts operations
    → AreFormalsOver signature list
    → map (equation_image (number_in sorts) (number_in operations)) (equations_in list) ≡ equations_in list
all_stay signature sorts operations list keep are =
    map_same (equation_image (number_in sorts) (number_in operations)) (equations_in list)
    (λ i e at. equation_stays signature sorts operations e keep (are.over e (i, at)))
