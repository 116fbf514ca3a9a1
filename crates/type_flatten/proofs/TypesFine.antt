-- The presentations of types without a fault, and the flattened data.
use Rattle.std.proofs.Common.{◌≡◌, ℕ, suc, Bool, true, false, List, [], ◌∷◌, ◌++◌, inl, inr, refl, sym, subst}
use Rattle.std.specs.Prelude.{None, not, if◌then◌else◌}
use Rattle.std.proofs.lemmas.Option.{none-some}
use Rattle.lotos_base.specs.WrittenTerm.{PlacedName}
use Rattle.lotos_base.specs.Equation.{Data, IsWellFormedData}
use Rattle.syntax_trees.specs.WrittenItem.{WrittenTypeBody, WrittenPairs, WrittenSections, extends, renames, actualises}
use Rattle.sort_terms.specs.ReadingOutcome.{one_name}
use Rattle.type_definitions.specs.DeclaredTypes.{DeclaredType}
use Rattle.type_definitions.specs.TypeFault.{not_formal, fault_if, first_fault}
use Rattle.type_definitions.specs.Presentation.{Presentation}
use Rattle.type_definitions.specs.Union.{Mentioned, union_of, union_fault}
use Rattle.type_definitions.specs.Declarations.{declaration_fault}
use Rattle.type_definitions.specs.Extension.{extended, IsExtension}
use Rattle.type_definitions.specs.Renaming.{renamed_presentation, renaming_fault}
use Rattle.type_definitions.specs.Actualisation.{actualisation, is_formal}
use Rattle.type_definitions.specs.ActualisationFaults.{actualising_of, actualising_fault, actualisation_fault}
use Rattle.type_definitions.specs.Flattened.{presentation_named, mention_of, mentions_with, IsPresentation, ArePresented, all_presented, next_presented, declared_with, without_formals, types_at, IsFlattening}
use Rattle.type_definitions.proofs.FaultLemmas.{none_first}
use Rattle.type_presentations.proofs.GrowthLemmas.{front_or_last}
use Rattle.type_presentations.proofs.SignatureLemmas.{nothing_well_formed}
use Rattle.type_presentations.proofs.UnionSignatures.{image_in}
use Rattle.type_flatten.proofs.RenamingLemmas.{renamings}
use Rattle.type_flatten.proofs.ContributionLemmas.{contributions}
use Rattle.type_flatten.specs.FlattenedData.{IsFine, AreFine, FlattenedDataAreWellFormed}
use Rattle.type_flatten.proofs.UnionsFine.{unions_fine}
use Rattle.type_flatten.proofs.DeclarationsFine.{declarations_fine}
use Rattle.type_flatten.proofs.EquationsFine.{equations_are_fine}
use Rattle.type_flatten.proofs.ActualisationsFine.{actualisation_fine}

-- ---- Types that are mentioned.

named_fine : (done : List Mentioned) (name : List ℕ) → AreFine done → IsFine (presentation_named done name)
named_fine [] name fine = nothing_well_formed
named_fine (t ∷ ts) name fine = go (one_name t.at.name name) (named_fine ts name (λ m at. fine m (suc at.0, at.1)))
  where
    go : (b : Bool) → IsFine (presentation_named ts name) → IsFine (if b then t.presentation else presentation_named ts name)
    go true rest = fine t (0, refl)
    go false rest = rest

mentions_fine : (done : List Mentioned) (names : List PlacedName) → AreFine done → AreFine (mentions_with done names)
mentions_fine done names fine m at =
    let from = image_in (mention_of done) names m at in
    subst (λ (x : Mentioned). IsFine x.presentation) from.2 (named_fine done from.0.name fine)

-- ---- One type.

extension_fine : (imports : List Mentioned) (name : List ℕ) (sections : WrittenSections) (p : Presentation) → AreFine imports
    → IsExtension imports name sections p → IsFine p
extension_fine imports name sections p fine is =
    let parts = none_first (union_fault imports) (declaration_fault name (union_of imports) sections) is.0 in
    equations_are_fine (extended imports name sections) p sections
    (declarations_fine name (union_of imports) sections (unions_fine imports fine parts.0) parts.1) is.1

renaming_fine : (base p : Presentation) (name : List ℕ) (pairs : WrittenPairs) → IsFine base → renaming_fault base name pairs ≡ None
    → renamed_presentation base name pairs ≡ p → IsFine p
renaming_fine base p name pairs fine none is = subst (λ (x : Presentation). IsFine x) is (renamings.well_formed base name pairs fine none)

actual_fine : (base : Mentioned) (actuals : List Mentioned) (name : List ℕ) (pairs : WrittenPairs) (p : Presentation)
    → IsFine base.presentation → AreFine actuals → actualisation_fault base actuals name pairs ≡ None
    → actualisation (actualising_of base actuals name pairs) ≡ p → IsFine p
actual_fine base actuals name pairs p fine others none is =
    let a = actualising_of base actuals name pairs in
    let one = none_first (fault_if (not (is_formal base.presentation)) (not_formal base.at.place base.at.name))
    (first_fault (union_fault actuals) (actualising_fault a)) none in
    let two = none_first (union_fault actuals) (actualising_fault a) one.1 in
    subst (λ (x : Presentation). IsFine x) is (actualisation_fine a fine (unions_fine actuals others two.0) two.1)

type_fine : (done : List Mentioned) (name : List ℕ) (body : WrittenTypeBody) (p : Presentation) → AreFine done
    → IsPresentation done name body p → IsFine p
type_fine done name (extends imports sections) p fine is =
    extension_fine (mentions_with done imports) name sections p (mentions_fine done imports fine) is
type_fine done name (renames base pairs) p fine is =
    renaming_fine (presentation_named done base.name) p name pairs (named_fine done base.name fine) is.0 is.1
type_fine done name (actualises base actuals pairs) p fine is =
    actual_fine (mention_of done base) (mentions_with done actuals) name pairs p (named_fine done base.name fine)
    (mentions_fine done actuals fine) is.0 is.1

-- ---- All types.

one_more_fine : (done : List Mentioned) (x : Mentioned) → AreFine done → IsFine x.presentation → AreFine (done ++ x ∷ [])
one_more_fine done x fine last m at =
    elim (front_or_last done x at.0 m at.1) [
      | inl before ↦ fine m (at.0, before)
      | inr is ↦ subst (λ (y : Mentioned). IsFine y.presentation) (sym is) last
    ]

types_fine : (done all : List Mentioned) (ts : List DeclaredType) → AreFine done → ArePresented done ts all → AreFine all
types_fine done all [] fine (all_presented _) = fine
types_fine done all (t ∷ ts) fine (next_presented _ _ _ _ p one rest) =
    types_fine (done ++ declared_with t p ∷ []) all ts
    (one_more_fine done (declared_with t p) fine (type_fine done t.name t.body p fine one)) rest

nothing_done : AreFine []
nothing_done m at = absurd (none-some m at.1)

informal_fine : (all : List Mentioned) → AreFine all → AreFine (without_formals all)
informal_fine all fine m at = fine m (contributions.no_other all m at).0

data_fine : (types : List DeclaredType) (data_ : Data) → IsFlattening types data_ → IsWellFormedData data_
data_fine types data_ is =
    subst (λ (d : Data). IsWellFormedData d) is.answered
    (unions_fine (without_formals is.all)
    (informal_fine is.all (types_fine [] is.all (types_at types is.order) nothing_done is.presented)) is.united)

pub flattened_data : FlattenedDataAreWellFormed
flattened_data = record { unions = unions_fine; presentations = type_fine; flattened = data_fine }
