-- Signatures that are made part by part, and signatures that grow.
use Rattle.std.proofs.Common.{◌≡◌, ℕ, ◌<◌, ◌≤◌, true, List, [], ◌∷◌, length, map, refl, ap, sym, ◌∙◌, subst, arith}
use Rattle.std.specs.Prelude.{Some, slice_get, ◌&&◌, nat_lt}
use Rattle.std.specs.List.{list_all}
use Rattle.std.proofs.lemmas.Bool.{lt-ltb, and_parts, and_from}
use Rattle.std.proofs.lemmas.List.{map-id}
use Rattle.std.proofs.lemmas.Option.{none-some, slice_get_within, get_or_from_slice_get}
use Rattle.lotos_base.proofs.Tests.{list_all-from_each}
use Rattle.lotos_base.specs.Signature.{Signature, Sort, Operation, IsSort, IsOperation, IsWellFormedSignature}
use Rattle.lotos_base.specs.Equation.{Equation, IsEquationOver, IsWellFormedData}
use Rattle.sort_terms.specs.EquationView.{equation_of}
use Rattle.sort_terms.specs.ProfiledTerm.{ProfiledTerm, ProfiledTerms, profiled_variable, profiled_node, no_profiled_terms, profiled_term_then, IsOf, AreOf}
use Rattle.sort_terms.specs.WellFormedTest.{all_below, has_known_sorts, all_differ, are_one_sort, are_one_operation}
use Rattle.sort_terms.specs.declared.equations.Equation.{Equation as CodeEquation}
use Rattle.sort_terms.proofs.WellFormedLemmas.{well_formed_test, test_well_formed}
use Rattle.type_definitions.specs.ProfiledImage.{profile_in}
use Rattle.type_definitions.specs.ImageLaws.{IsSignatureMap}
use Rattle.type_definitions.specs.Presentation.{nothing}
use Rattle.type_definitions.specs.Flattened.{flattened_data_of}
use Rattle.type_presentations.specs.EquationListView.{HaveSidesOf}
use Rattle.type_presentations.proofs.EquationImageLemmas.{image_over, identity_image}

-- ---- Parts of a well-formed signature.

-- profiles name sorts that are there, no two sorts have one name, and no two operations have one name, form and profile
pub made_well_formed : (signature : Signature)
    → ((f : ℕ) (o : Operation) → IsOperation signature f o → IsSort signature o.result)
    → ((f i s : ℕ) (o : Operation) → IsOperation signature f o → slice_get o.arguments i ≡ Some s → IsSort signature s)
    → all_differ are_one_sort signature.sorts ≡ true → all_differ are_one_operation signature.operations ≡ true
    → IsWellFormedSignature signature
made_well_formed signature results arguments sorts operations =
    well_formed_test signature
    (and_from (list_all (has_known_sorts (length signature.sorts)) signature.operations)
    (all_differ are_one_sort signature.sorts && all_differ are_one_operation signature.operations)
    (list_all-from_each (has_known_sorts (length signature.sorts)) signature.operations (λ f o at.
    and_from (nat_lt o.result (length signature.sorts)) (all_below (length signature.sorts) o.arguments)
    (lt-ltb o.result (length signature.sorts) (results f o at))
    (list_all-from_each (λ (n : ℕ). nat_lt n (length signature.sorts)) o.arguments (λ i s there.
    lt-ltb s (length signature.sorts) (arguments f i s o at there)))))
    (and_from (all_differ are_one_sort signature.sorts) (all_differ are_one_operation signature.operations) sorts operations))

abbrev Differ : Signature → Type 0
Differ signature =
    (all_differ are_one_sort signature.sorts ≡ true) × (all_differ are_one_operation signature.operations ≡ true)

differ : (signature : Signature) → IsWellFormedSignature signature → Differ signature
differ signature fine =
    and_parts (all_differ are_one_sort signature.sorts) (all_differ are_one_operation signature.operations)
    (and_parts (list_all (has_known_sorts (length signature.sorts)) signature.operations)
    (all_differ are_one_sort signature.sorts && all_differ are_one_operation signature.operations)
    (test_well_formed signature fine)).1

pub sorts_differ : (signature : Signature) → IsWellFormedSignature signature → all_differ are_one_sort signature.sorts ≡ true
sorts_differ signature fine = (differ signature fine).0

pub operations_differ : (signature : Signature) → IsWellFormedSignature signature
    → all_differ are_one_operation signature.operations ≡ true
operations_differ signature fine = (differ signature fine).1

-- ---- What a signature has, a larger one has too.

pub record IsLarger (old new : Signature) : Type 0 where
  pub sorts : length old.sorts ≤ length new.sorts
  pub operations : (f : ℕ) (o : Operation) → IsOperation old f o → IsOperation new f o

pub larger_sort : (old new : Signature) (s : ℕ) → IsLarger old new → IsSort old s → IsSort new s
larger_sort old new s larger h = omega (arith, larger.sorts, h)

mutual
  pub of_larger : (old new : Signature) (t : ProfiledTerm) → IsLarger old new → IsOf old t → IsOf new t
  of_larger old new (profiled_variable n s) larger h = larger_sort old new s larger h
  of_larger old new (profiled_node f o ts) larger h = (larger.operations f o h.0, are_of_larger old new ts larger h.1)

  are_of_larger : (old new : Signature) (ts : ProfiledTerms) → IsLarger old new → AreOf old ts → AreOf new ts
  are_of_larger old new no_profiled_terms larger h = h
  are_of_larger old new (profiled_term_then t ts) larger h = (of_larger old new t larger h.0, are_of_larger old new ts larger h.1)

pub sides_of_larger : (old new : Signature) (es : List CodeEquation) → IsLarger old new → HaveSidesOf old es → HaveSidesOf new es
sides_of_larger old new es larger have i e found =
    let sides = have i e found in (of_larger old new _ larger sides.0, of_larger old new _ larger sides.1)

-- the numbers stay
pub larger_map : (old new : Signature) → IsLarger old new → IsSignatureMap old new (λ n. n) (λ n. n)
larger_map old new larger = record {
  sorts = λ s there. larger_sort old new s larger there;
  operations = λ f o found. slice_get_within new.operations f o (larger.operations f o found);
  profiles = λ f o found.
      let is : profile_in new.operations f o ≡ o = get_or_from_slice_get new.operations f o o (larger.operations f o found) in (
        ap (λ (p : Operation). p.arguments) is ∙ sym (map-id o.arguments),
        ap (λ (p : Operation). p.result) is,
      );
}

pub over_larger : (old new : Signature) (e : Equation) → IsLarger old new → IsEquationOver old e → IsEquationOver new e
over_larger old new e larger over =
    subst (λ (x : Equation). IsEquationOver new x) (identity_image e)
    (image_over old new (λ n. n) (λ n. n) e (larger_map old new larger) over)

-- ---- Nothing at all.

pub nothing_well_formed : IsWellFormedData (flattened_data_of nothing)
nothing_well_formed = record {
  signature = made_well_formed nothing.signature (λ f o at. absurd (none-some o at)) (λ f i s o at there. absurd (none-some o at))
      refl refl;
  equations = λ e at. absurd (none-some e at.1);
}

pub nothing_in : (sorts : List Sort) (operations : List Operation) (equations : List Equation) → sorts ≡ [] → operations ≡ []
    → equations ≡ []
    → IsWellFormedData (record { signature = record { sorts = sorts; operations = operations }; equations = equations })
nothing_in sorts operations equations no_sorts no_operations no_equations =
    subst (λ (ss : List Sort).
    IsWellFormedData (record { signature = record { sorts = ss; operations = operations }; equations = equations })) (sym no_sorts)
    (subst (λ (os : List Operation).
    IsWellFormedData (record { signature = record { sorts = []; operations = os }; equations = equations })) (sym no_operations)
    (subst (λ (es : List Equation).
    IsWellFormedData (record { signature = record { sorts = []; operations = [] }; equations = es })) (sym no_equations)
    nothing_well_formed))

pub no_sides : (signature : Signature) (es : List CodeEquation) → map equation_of es ≡ [] → HaveSidesOf signature es
no_sides signature [] none i e found = absurd (none-some e found)
no_sides signature (x ∷ xs) none i e found =
    let as_many : length (map equation_of (x ∷ xs)) ≡ 0 = ap (λ (es : List Equation). length es) none in absurd (omega (arith, as_many))
