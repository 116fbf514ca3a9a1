-- The presentation of one type, part by part.
use Rattle.std.proofs.Common.{◌≡◌, ℕ, Bool, true, false, List, inl, inr, refl, ap, sym, ◌∙◌, subst}
use Rattle.std.specs.Prelude.{Option, None, Some, not}
use Rattle.lotos_base.specs.WrittenTerm.{PlacedName}
use Rattle.syntax_trees.specs.WrittenItem.{WrittenSections, WrittenPairs, renames, actualises}
use Rattle.type_definitions.specs.TypeFault.{TypeFault, not_formal, fault_if, first_fault}
use Rattle.type_definitions.specs.Presentation.{Presentation}
use Rattle.type_definitions.specs.Union.{Mentioned, union_of, union_fault}
use Rattle.type_definitions.specs.Declarations.{with_declarations, declaration_fault}
use Rattle.type_definitions.specs.DeclaredEquations.{GiveAll, HasFirstFault}
use Rattle.type_definitions.specs.Extension.{extended, extended_fault, asked_of, IsExtension, IsExtensionFault}
use Rattle.type_definitions.specs.Renaming.{renamed_presentation, renaming_fault}
use Rattle.type_definitions.specs.Actualisation.{is_formal, actualisation}
use Rattle.type_definitions.specs.ActualisationFaults.{actualising_of, actualising_fault, actualisation_fault}
use Rattle.type_definitions.specs.Flattened.{presentation_named, mention_of, mentions_with, IsPresentation, IsFaultOfType}
use Rattle.type_actualisation.proofs.OneFormalLemmas.{put_together}

-- ---- Extension. Its imports are `ms`, as they were put together.

-- the imports have no fault, and this is their union
pub record AreImported (ms imports : List Mentioned) (union : Presentation) : Type 0 where
  pub these : ms ≡ imports
  pub fine : union_fault ms ≡ None
  pub joined : union ≡ union_of ms

-- the declarations have no fault, and this is what they leave
pub record AreDeclared (union declared : Presentation) (name : List ℕ) (sections : WrittenSections) : Type 0 where
  pub fine : declaration_fault name union sections ≡ None
  pub made : declared ≡ with_declarations name union sections

imports_fine : (ms imports : List Mentioned) (union : Presentation) → AreImported ms imports union → union_fault imports ≡ None
imports_fine ms imports union are = ap union_fault (sym are.these) ∙ are.fine

union_is : (ms imports : List Mentioned) (union : Presentation) → AreImported ms imports union → union ≡ union_of imports
union_is ms imports union are = are.joined ∙ ap union_of are.these

fine_so_far : (ms imports : List Mentioned) (union : Presentation) (name : List ℕ) (sections : WrittenSections) (fault : Option TypeFault)
    → AreImported ms imports union → declaration_fault name union sections ≡ fault
    → extended_fault imports name sections ≡ fault
fine_so_far ms imports union name sections fault are found =
    ap (λ (f : Option TypeFault). first_fault f (declaration_fault name (union_of imports) sections))
    (imports_fine ms imports union are)
    ∙ ap (λ (p : Presentation). declaration_fault name p sections) (sym (union_is ms imports union are)) ∙ found

extended_is : (ms imports : List Mentioned) (union declared : Presentation) (name : List ℕ) (sections : WrittenSections)
    → AreImported ms imports union → AreDeclared union declared name sections → declared ≡ extended imports name sections
extended_is ms imports union declared name sections are have =
    have.made ∙ ap (λ (p : Presentation). with_declarations name p sections) (union_is ms imports union are)

pub extension_made : (ms imports : List Mentioned) (union declared p : Presentation) (name : List ℕ) (sections : WrittenSections)
    → AreImported ms imports union → AreDeclared union declared name sections → GiveAll declared (asked_of sections) p
    → IsExtension imports name sections p
extension_made ms imports union declared p name sections are have gives = (
  fine_so_far ms imports union name sections None are have.fine,
  subst (λ (d : Presentation). GiveAll d (asked_of sections) p) (extended_is ms imports union declared name sections are have) gives,
)

pub imports_faulty : (ms imports : List Mentioned) (name : List ℕ) (sections : WrittenSections) (f : TypeFault)
    → ms ≡ imports → union_fault ms ≡ Some f → IsExtensionFault imports name sections f
imports_faulty ms imports name sections f these found =
    inl (ap (λ (x : Option TypeFault). first_fault x (declaration_fault name (union_of imports) sections))
    (ap union_fault (sym these) ∙ found))

pub declarations_faulty : (ms imports : List Mentioned) (union : Presentation) (name : List ℕ) (sections : WrittenSections)
    (f : TypeFault) → AreImported ms imports union → declaration_fault name union sections ≡ Some f
    → IsExtensionFault imports name sections f
declarations_faulty ms imports union name sections f are found =
    inl (fine_so_far ms imports union name sections (Some f) are found)

pub equations_faulty : (ms imports : List Mentioned) (union declared : Presentation) (name : List ℕ) (sections : WrittenSections)
    (f : TypeFault) → AreImported ms imports union → AreDeclared union declared name sections
    → HasFirstFault name declared (asked_of sections) f → IsExtensionFault imports name sections f
equations_faulty ms imports union declared name sections f are have found =
    inr (
      fine_so_far ms imports union name sections None are have.fine,
      subst (λ (d : Presentation). HasFirstFault name d (asked_of sections) f)
          (extended_is ms imports union declared name sections are have) found,
    )

-- ---- Renaming.

pub renaming_made : (done : List Mentioned) (name : List ℕ) (at : PlacedName) (pairs : WrittenPairs) (base p : Presentation)
    → base ≡ presentation_named done at.name → renaming_fault base name pairs ≡ None → p ≡ renamed_presentation base name pairs
    → IsPresentation done name (renames at pairs) p
renaming_made done name at pairs base p is fine made = (
  ap (λ (q : Presentation). renaming_fault q name pairs) (sym is) ∙ fine,
  ap (λ (q : Presentation). renamed_presentation q name pairs) (sym is) ∙ sym made,
)

pub renaming_faulty : (done : List Mentioned) (name : List ℕ) (at : PlacedName) (pairs : WrittenPairs) (base : Presentation)
    (f : TypeFault) → base ≡ presentation_named done at.name → renaming_fault base name pairs ≡ Some f
    → IsFaultOfType done name (renames at pairs) f
renaming_faulty done name at pairs base f is found =
    ap (λ (q : Presentation). renaming_fault q name pairs) (sym is) ∙ found

-- ---- Actualisation.

-- the base is the one that is mentioned, and something is formal in it
pub record IsFormalBase (done : List Mentioned) (at : PlacedName) (base : Presentation) : Type 0 where
  pub is : base ≡ presentation_named done at.name
  pub formal : is_formal base ≡ true

formal_there : (done : List Mentioned) (at : PlacedName) (base : Presentation) → IsFormalBase done at base
    → is_formal (presentation_named done at.name) ≡ true
formal_there done at base b = ap is_formal (sym b.is) ∙ b.formal

together : (done : List Mentioned) (at : PlacedName) (base : Presentation) (ms actuals : List Mentioned) (actual : Presentation)
    (name : List ℕ) (pairs : WrittenPairs) → IsFormalBase done at base → AreImported ms actuals actual
    → put_together at base actual name pairs ≡ actualising_of (mention_of done at) actuals name pairs
together done at base ms actuals actual name pairs b are =
    ap (λ (q : Presentation). put_together at q actual name pairs) b.is
    ∙ ap (λ (q : Presentation). put_together at (presentation_named done at.name) q name pairs) (union_is ms actuals actual are)

not_faulty : (b : Bool) (f : TypeFault) (later : Option TypeFault) → b ≡ true → first_fault (fault_if (not b) f) later ≡ later
not_faulty true f later h = refl
not_faulty false f later h = cc

behind_base : (done : List Mentioned) (at : PlacedName) (base : Presentation) (actuals : List Mentioned) (name : List ℕ)
    (pairs : WrittenPairs) → IsFormalBase done at base
    → actualisation_fault (mention_of done at) actuals name pairs
    ≡ first_fault (union_fault actuals) (actualising_fault (actualising_of (mention_of done at) actuals name pairs))
behind_base done at base actuals name pairs b =
    not_faulty (is_formal (presentation_named done at.name)) (not_formal at.place at.name)
    (first_fault (union_fault actuals) (actualising_fault (actualising_of (mention_of done at) actuals name pairs)))
    (formal_there done at base b)

behind_actuals : (done : List Mentioned) (at : PlacedName) (base : Presentation) (ms actuals : List Mentioned) (actual : Presentation)
    (name : List ℕ) (pairs : WrittenPairs) (fault : Option TypeFault) → IsFormalBase done at base → AreImported ms actuals actual
    → actualising_fault (put_together at base actual name pairs) ≡ fault
    → actualisation_fault (mention_of done at) actuals name pairs ≡ fault
behind_actuals done at base ms actuals actual name pairs fault b are found =
    behind_base done at base actuals name pairs b
    ∙ ap (λ (x : Option TypeFault). first_fault x (actualising_fault (actualising_of (mention_of done at) actuals name pairs)))
    (imports_fine ms actuals actual are)
    ∙ ap actualising_fault (sym (together done at base ms actuals actual name pairs b are)) ∙ found

pub actualisation_made : (done : List Mentioned) (at : PlacedName) (base : Presentation) (ms : List Mentioned) (names : List PlacedName)
    (actual p : Presentation) (name : List ℕ) (pairs : WrittenPairs) → IsFormalBase done at base
    → AreImported ms (mentions_with done names) actual → actualising_fault (put_together at base actual name pairs) ≡ None
    → p ≡ actualisation (put_together at base actual name pairs)
    → IsPresentation done name (actualises at names pairs) p
actualisation_made done at base ms names actual p name pairs b are fine made = (
  behind_actuals done at base ms (mentions_with done names) actual name pairs None b are fine,
  sym (made ∙ ap actualisation (together done at base ms (mentions_with done names) actual name pairs b are)),
)

pub base_not_formal : (done : List Mentioned) (at : PlacedName) (base : Presentation) (names : List PlacedName) (name : List ℕ)
    (pairs : WrittenPairs) (f : TypeFault) → base ≡ presentation_named done at.name → is_formal base ≡ false
    → f ≡ not_formal at.place at.name → IsFaultOfType done name (actualises at names pairs) f
base_not_formal done at base names name pairs f is none this =
    let plain : is_formal (presentation_named done at.name) ≡ false = ap is_formal (sym is) ∙ none in
    ap (λ (b : Bool). first_fault (fault_if (not b) (not_formal at.place at.name))
    (first_fault (union_fault (mentions_with done names))
    (actualising_fault (actualising_of (mention_of done at) (mentions_with done names) name pairs)))) plain
    ∙ ap (λ (g : TypeFault). Some g) (sym this)

pub actuals_faulty : (done : List Mentioned) (at : PlacedName) (base : Presentation) (ms : List Mentioned) (names : List PlacedName)
    (name : List ℕ) (pairs : WrittenPairs) (f : TypeFault) → IsFormalBase done at base → ms ≡ mentions_with done names
    → union_fault ms ≡ Some f → IsFaultOfType done name (actualises at names pairs) f
actuals_faulty done at base ms names name pairs f b these found =
    behind_base done at base (mentions_with done names) name pairs b
    ∙ ap (λ (x : Option TypeFault).
    first_fault x (actualising_fault (actualising_of (mention_of done at) (mentions_with done names) name pairs)))
    (ap union_fault (sym these) ∙ found)

pub actualisation_faulty : (done : List Mentioned) (at : PlacedName) (base : Presentation) (ms : List Mentioned)
    (names : List PlacedName) (actual : Presentation) (name : List ℕ) (pairs : WrittenPairs) (f : TypeFault)
    → IsFormalBase done at base → AreImported ms (mentions_with done names) actual
    → actualising_fault (put_together at base actual name pairs) ≡ Some f
    → IsFaultOfType done name (actualises at names pairs) f
actualisation_faulty done at base ms names actual name pairs f b are found =
    behind_actuals done at base ms (mentions_with done names) actual name pairs (Some f) b are found
