-- What the calls for the parts of a type say of the type.
use Rattle.std.proofs.Common.{◌≡◌, ℕ, true, false, List, [], refl, sym, subst}
use Rattle.std.specs.Prelude.{Some}
use Rattle.lotos_base.specs.WrittenTerm.{PlacedName}
use Rattle.syntax_trees.specs.WrittenItem.{WrittenTypeBody, WrittenSections, WrittenPairs, extends, renames, actualises}
use Rattle.type_definitions.specs.TypeFault.{TypeFault, not_formal}
use Rattle.type_definitions.specs.Presentation.{Presentation, nothing}
use Rattle.type_definitions.specs.Union.{Mentioned, union_fault}
use Rattle.type_definitions.specs.DeclaredEquations.{GiveAll, none_asked, HasFirstFault}
use Rattle.type_definitions.specs.Extension.{asked_of}
use Rattle.type_definitions.specs.Actualisation.{is_formal}
use Rattle.type_definitions.specs.ActualisationFaults.{actualising_fault}
use Rattle.type_definitions.specs.Declarations.{declaration_fault}
use Rattle.type_definitions.specs.Renaming.{renaming_fault}
use Rattle.type_definitions.specs.Flattened.{presentation_named, mentions_with, IsPresentation, IsFaultOfType}
use Rattle.type_definitions.specs.TypeView.{no_sections}
use Rattle.type_definitions.proofs.HoldsLemmas.{holds_weaker}
use Rattle.type_definitions.specs.FaultView.{HoldsOfFault, IsFaultFound}
use Rattle.type_definitions.specs.declared.type_faults.TypeFault.{TypeFault as CodeFault}
use Rattle.type_definitions.specs.declared.type_faults.TypeFault.TheVariants.{NoMemory}
use Rattle.type_presentations.specs.PresentationView.{IsSound, IsWithinLimits, presentation_of}
use Rattle.type_presentations.specs.declared.presentations.Presentation.{Presentation as CodePresentation}
use Rattle.type_presentations.specs.UnionMade.{IsUnited, IsUnionFault}
use Rattle.type_presentations.specs.DeclarationMade.{IsDeclarationMade, IsDeclarationFault}
use Rattle.type_actualisation.specs.Actualised.{IsActualised}
use Rattle.type_actualisation.specs.HandedOn.{IsRenamed, IsRenamingFault}
use Rattle.type_actualisation.proofs.OneFormalLemmas.{put_together}
use Rattle.type_flatten.specs.FlatView.{IsPresented, IsFirstTypeFault}
use Rattle.type_flatten.proofs.OneTypeLemmas.{AreImported, AreDeclared, IsFormalBase, extension_made, imports_faulty, declarations_faulty, equations_faulty, renaming_made, renaming_faulty, base_not_formal, actuals_faulty, actualisation_made, actualisation_faulty}

-- ---- Extension.

pub imported : (ms imports : List Mentioned) (p : CodePresentation) → ms ≡ imports → IsUnited ms p
    → AreImported ms imports (presentation_of p)
imported ms imports p these united = record { these = these; fine = united.none; joined = united.made }

declared_by : (name : List ℕ) (union : Presentation) (sections : WrittenSections) (p : CodePresentation)
    → IsDeclarationMade name union sections p → AreDeclared union (presentation_of p) name sections
declared_by name union sections p made = record { fine = made.none; made = made.made }

-- want of memory is no fault of the type
pub wanting : (done : List Mentioned) (name : List ℕ) (body : WrittenTypeBody) → IsFirstTypeFault done name body NoMemory
wanting done name body = record { found = tt }

-- a mention of libraries has nothing
pub library_presented : (done : List Mentioned) (name : List ℕ) (body : WrittenTypeBody) (p : CodePresentation)
    → body ≡ extends [] no_sections → presentation_of p ≡ nothing → IsSound p → IsWithinLimits p → IsPresented done name body p
library_presented done name body p is none sound within = record {
  presented = subst (λ (b : WrittenTypeBody). IsPresentation done name b (presentation_of p)) (sym is)
      (refl, subst (λ (q : Presentation). GiveAll nothing [] q) (sym none) (none_asked nothing));
  sound = sound;
  within = within;
}

pub nothing_mentioned : (done : List Mentioned) (name : List ℕ) (imports : List PlacedName) (sections : WrittenSections)
    (ms : List Mentioned) (fault : CodeFault) → ms ≡ mentions_with done imports → IsUnionFault ms fault
    → IsFirstTypeFault done name (extends imports sections) fault
nothing_mentioned done name imports sections ms fault these refused = record {
  found = holds_weaker (λ (f : TypeFault). union_fault ms ≡ Some f)
      (λ (f : TypeFault). IsFaultOfType done name (extends imports sections) f) fault
      (λ (f : TypeFault) found. imports_faulty ms (mentions_with done imports) name sections f these found) refused.found;
}

pub not_declared : (done : List Mentioned) (name : List ℕ) (imports : List PlacedName) (sections : WrittenSections)
    (ms : List Mentioned) (union : CodePresentation) (fault : CodeFault) → ms ≡ mentions_with done imports → IsUnited ms union
    → IsDeclarationFault name (presentation_of union) sections fault → IsFirstTypeFault done name (extends imports sections) fault
not_declared done name imports sections ms union fault these united refused = record {
  found = holds_weaker (λ (f : TypeFault). declaration_fault name (presentation_of union) sections ≡ Some f)
      (λ (f : TypeFault). IsFaultOfType done name (extends imports sections) f) fault
      (λ (f : TypeFault) found.
      declarations_faulty ms (mentions_with done imports) (presentation_of union) name sections f
      (imported ms (mentions_with done imports) union these united) found)
      refused.found;
}

pub no_equations : (done : List Mentioned) (name : List ℕ) (imports : List PlacedName) (sections : WrittenSections)
    (ms : List Mentioned) (union declared : CodePresentation) (fault : CodeFault) → ms ≡ mentions_with done imports
    → IsUnited ms union → IsDeclarationMade name (presentation_of union) sections declared
    → HoldsOfFault fault (HasFirstFault name (presentation_of declared) (asked_of sections))
    → IsFirstTypeFault done name (extends imports sections) fault
no_equations done name imports sections ms union declared fault these united made holds = record {
  found = holds_weaker (HasFirstFault name (presentation_of declared) (asked_of sections))
      (λ (f : TypeFault). IsFaultOfType done name (extends imports sections) f) fault
      (λ (f : TypeFault) found.
      equations_faulty ms (mentions_with done imports) (presentation_of union) (presentation_of declared) name sections f
      (imported ms (mentions_with done imports) union these united)
      (declared_by name (presentation_of union) sections declared made) found)
      holds;
}

-- the presentation, whose equations were added
pub record HasEquations (declared : Presentation) (sections : WrittenSections) (p : CodePresentation) : Type 0 where
  pub given : GiveAll declared (asked_of sections) (presentation_of p)
  pub sound : IsSound p
  pub within : IsWithinLimits p

pub extended_by : (done : List Mentioned) (name : List ℕ) (imports : List PlacedName) (sections : WrittenSections)
    (ms : List Mentioned) (union declared p : CodePresentation) → ms ≡ mentions_with done imports → IsUnited ms union
    → IsDeclarationMade name (presentation_of union) sections declared → HasEquations (presentation_of declared) sections p
    → IsPresented done name (extends imports sections) p
extended_by done name imports sections ms union declared p these united made has = record {
  presented = extension_made ms (mentions_with done imports) (presentation_of union) (presentation_of declared) (presentation_of p) name
      sections (imported ms (mentions_with done imports) union these united)
      (declared_by name (presentation_of union) sections declared made) has.given;
  sound = has.sound;
  within = has.within;
}

-- ---- Renaming.

pub renamed_by : (done : List Mentioned) (name : List ℕ) (at : PlacedName) (pairs : WrittenPairs) (base : Presentation)
    (p : CodePresentation) → base ≡ presentation_named done at.name → IsRenamed base name pairs p
    → IsPresented done name (renames at pairs) p
renamed_by done name at pairs base p is renamed = record {
  presented = renaming_made done name at pairs base (presentation_of p) is renamed.none renamed.made;
  sound = renamed.sound;
  within = renamed.within;
}

pub not_renamed : (done : List Mentioned) (name : List ℕ) (at : PlacedName) (pairs : WrittenPairs) (base : Presentation)
    (fault : CodeFault) → base ≡ presentation_named done at.name → IsRenamingFault base name pairs fault
    → IsFirstTypeFault done name (renames at pairs) fault
not_renamed done name at pairs base fault is refused = record {
  found = holds_weaker (λ (f : TypeFault). renaming_fault base name pairs ≡ Some f)
      (λ (f : TypeFault). IsFaultOfType done name (renames at pairs) f) fault
      (λ (f : TypeFault) found. renaming_faulty done name at pairs base f is found) refused.found;
}

-- ---- Actualisation.

formal_base : (done : List Mentioned) (at : PlacedName) (base : Presentation) → base ≡ presentation_named done at.name
    → is_formal base ≡ true → IsFormalBase done at base
formal_base done at base is formal = record { is = is; formal = formal }

pub nothing_to_actualise : (done : List Mentioned) (name : List ℕ) (at : PlacedName) (names : List PlacedName)
    (pairs : WrittenPairs) (base : Presentation) (fault : CodeFault) → base ≡ presentation_named done at.name
    → is_formal base ≡ false → HoldsOfFault fault (λ (f : TypeFault). f ≡ not_formal at.place at.name)
    → IsFirstTypeFault done name (actualises at names pairs) fault
nothing_to_actualise done name at names pairs base fault is plain holds = record {
  found = holds_weaker (λ (f : TypeFault). f ≡ not_formal at.place at.name)
      (λ (f : TypeFault). IsFaultOfType done name (actualises at names pairs) f) fault
      (λ (f : TypeFault) this. base_not_formal done at base names name pairs f is plain this) holds;
}

pub no_actuals : (done : List Mentioned) (name : List ℕ) (at : PlacedName) (names : List PlacedName) (pairs : WrittenPairs)
    (base : Presentation) (ms : List Mentioned) (fault : CodeFault) → base ≡ presentation_named done at.name
    → is_formal base ≡ true → ms ≡ mentions_with done names → IsUnionFault ms fault
    → IsFirstTypeFault done name (actualises at names pairs) fault
no_actuals done name at names pairs base ms fault is formal these refused = record {
  found = holds_weaker (λ (f : TypeFault). union_fault ms ≡ Some f)
      (λ (f : TypeFault). IsFaultOfType done name (actualises at names pairs) f) fault
      (λ (f : TypeFault) found.
      actuals_faulty done at base ms names name pairs f (formal_base done at base is formal) these found)
      refused.found;
}

pub actualised_by : (done : List Mentioned) (name : List ℕ) (at : PlacedName) (names : List PlacedName) (pairs : WrittenPairs)
    (base : Presentation) (ms : List Mentioned) (actual p : CodePresentation) → base ≡ presentation_named done at.name
    → is_formal base ≡ true → ms ≡ mentions_with done names → IsUnited ms actual
    → IsActualised (put_together at base (presentation_of actual) name pairs) p
    → IsPresented done name (actualises at names pairs) p
actualised_by done name at names pairs base ms actual p is formal these united made = record {
  presented = actualisation_made done at base ms names (presentation_of actual) (presentation_of p) name pairs
      (formal_base done at base is formal) (imported ms (mentions_with done names) actual these united) made.none made.made;
  sound = made.sound;
  within = made.within;
}

pub not_actualised : (done : List Mentioned) (name : List ℕ) (at : PlacedName) (names : List PlacedName) (pairs : WrittenPairs)
    (base : Presentation) (ms : List Mentioned) (actual : CodePresentation) (fault : CodeFault)
    → base ≡ presentation_named done at.name → is_formal base ≡ true → ms ≡ mentions_with done names → IsUnited ms actual
    → IsFaultFound (actualising_fault (put_together at base (presentation_of actual) name pairs)) fault
    → IsFirstTypeFault done name (actualises at names pairs) fault
not_actualised done name at names pairs base ms actual fault is formal these united refused = record {
  found = holds_weaker (λ (f : TypeFault). actualising_fault (put_together at base (presentation_of actual) name pairs) ≡ Some f)
      (λ (f : TypeFault). IsFaultOfType done name (actualises at names pairs) f) fault
      (λ (f : TypeFault) found.
      actualisation_faulty done at base ms names (presentation_of actual) name pairs f (formal_base done at base is formal)
      (imported ms (mentions_with done names) actual these united) found)
      refused;
}
