-- What the faults of each layer tell.
use Rattle.std.proofs.Common.{refl, ap, sym, ◌∙◌, ◌≡◌, ℕ, List, [], ◌∷◌, map, Option, None, Some, option_map}
use Rattle.std.specs.Prelude.{Vec}
use Rattle.std.specs.declared.alloc.Global.{Global}
use Rattle.lotos_base.specs.Name.{spelling}
use Rattle.lotos_base.specs.WrittenTerm.{ListedOperation}
use Rattle.lotos_base.specs.WrittenView.{text_place_of}
use Rattle.lotos_base.specs.declared.names.Name.{Name}
use Rattle.lotos_base.specs.declared.places.Place.{Place}
use Rattle.lotos_base.specs.Equation.{Data}
use Rattle.sort_terms.specs.EquationView.{data_of}
use Rattle.sort_terms.specs.SortedView.{term_in}
use Rattle.sort_terms.specs.declared.sort_faults.SortFault.TheVariants as sort
use Rattle.syntax_trees.specs.WrittenDefinition.{WrittenSpecification}
use Rattle.syntax_trees.specs.TakenItems.{without_items}
use Rattle.refusal_lines.specs.HandedOn.read_faults as read
use Rattle.type_definitions.specs.DeclaredTypes.{DeclaredType}
use Rattle.type_definitions.specs.MentionFaults.{double_type, unknown_type, type_cycle}
use Rattle.type_definitions.specs.TypeFault as plain_type
use Rattle.type_definitions.specs.declared.type_faults.TypeFault.{TypeFault}
use Rattle.type_definitions.specs.declared.type_faults.TypeFault.TheVariants as type
use Rattle.type_flatten.specs.FlatView.{IsRefused}
use Rattle.refusal_lines.specs.HandedOn.scope_fault as scope
use Rattle.refusal_lines.specs.HandedOn.scope_faults as scoped
use Rattle.behaviour_semantics.specs.Behaviour.{Specification}
use Rattle.behaviour_tree.specs.DefinitionView.{functionality_of, specification_of}
use Rattle.refusal_lines.specs.HandedOn.exit_faults as exit
use Rattle.refusal_lines.specs.HandedOn.rank_faults as rank
use Rattle.refusal_lines.specs.HandedOn.{IsBookFault, BookFault, TextFault, text_fault_of, TextIsMisread, ReadFault, SpecificationIs, Told}
use Rattle.refusal_lines.specs.HandedOn.{nothing_told, never_told, told, told_by, OfTold, resolution_faulty as faulty, ScopeFault, Blames}
use Rattle.refusal_lines.specs.HandedOn.{Disagreement, all_disagreements, RefusesRanks, ExitFault, RankFault}
use Rattle.refusal_lines.specs.Refusal.{Refusal, wrong_scopes}
use Rattle.refusal_lines.specs.RefusalView.{told_of_text, told_of_scopes, refused_of}
use Rattle.refusal_lines.specs.declared.refused.Refused.{Refused}
use Rattle.refusal_lines.specs.HandedOn.book_faults as book
use Rattle.refusal_lines.specs.Refusal as plain
use Rattle.refusal_lines.specs.declared.spec_fault.SpecFault.TheVariants as fault
use Rattle.refusal_lines.proofs.HandedOn.{fault_told}
use Rattle.spec_acceptance.specs.Ending.{with_libraries, with_data, with_spec}
use Rattle.spec_acceptance.specs.Texts.{text_refusal, text_told}
use Rattle.spec_acceptance.specs.Types.{of_names, of_declarations, HaveFault, types_told}
use Rattle.spec_acceptance.specs.Scopes.{Breaks, scopes_told}
use Rattle.spec_acceptance.specs.Checks.{KeepsSpecification, differ_at, IsFirstDisagreement, Disagree, functionality_told, unguarded_at, Cyclic, recursion_told}
use Rattle.spec_acceptance.specs.Book.{names_none, names_twice, names_no_status, not_oriented, not_joined, DoesNotOpen, opening_told}
use Rattle.spec_acceptance.specs.Doing.{Faulty, with_libraries_refused, with_data_refused, with_spec_refused}
use Rattle.spec_acceptance.specs.declared.not_accepted.NotAccepted.TheVariants.{Spec}
use Rattle.spec_acceptance.specs.declared.stages.WithData.{WithData}
use Rattle.spec_acceptance.specs.declared.stages.WithSpec.{WithSpec}

-- what is known then, as plain values
abbrev pub by_data : {F : Type 0} → (List (List ℕ) → Data → F → plain.Refused) → WithData → F → plain.Refused
by_data tell known = tell (map spelling known.libraries.items) (data_of known.flat)

abbrev pub by_spec : {F : Type 0} → (List (List ℕ) → Data → Specification → F → plain.Refused) → WithSpec → F → plain.Refused
by_spec tell known = tell (map spelling known.libraries.items) (data_of known.flat) (specification_of known.spec)

abbrev pub order_told : List (List ℕ) → Data → Specification → TextFault → plain.Refused
order_told read data_ spec = text_told (with_spec read data_ spec) 1

-- ---- Texts

refused_text : (number : ℕ) (found : ReadFault) → told_of_text number found ≡ option_map (text_refusal number) (text_fault_of found)
refused_text number read.TooLong = refl
refused_text number (read.BadByte place) = refl
refused_text number (read.OpenComment place) = refl
refused_text number (read.Syntax place) = refl
refused_text number (read.TooDeep place) = refl
refused_text number read.NoMemory = refl

pub text_told_so : (number : ℕ) (found : ReadFault) (plainly : TextFault) → text_fault_of found ≡ Some plainly
    → told_of_text number found ≡ Some (text_refusal number plainly)
text_told_so number found plainly same = refused_text number found ∙ ap (option_map (text_refusal number)) same

text_faulty : (IsFault : ℕ → List ℕ → ReadFault → Type 0) (number : ℕ) (text : List ℕ) (known : Refusal → plain.Refused) (r : Refused)
    (found : ReadFault) → refused_of r ≡ option_map known (told_of_text number found) → IsFault number text found
    → (found ≡ read.NoMemory → ⊥) → Faulty (TextIsMisread IsFault number text) (text_told known number) (Spec r)
text_faulty IsFault number text known r found same is not =
    let plainly = fault_told found not in
    (plainly.0, (found, is, plainly.1), same ∙ ap (option_map known) (text_told_so number found plainly.0 plainly.1))

-- a text that is not read, before anything is known and once all is
pub read_faulty : (IsFault : ℕ → List ℕ → ReadFault → Type 0) (number : ℕ) (text : List ℕ) (libraries : Vec Name Global)
    (found : ReadFault) → IsFault number text found → (found ≡ read.NoMemory → ⊥)
    → Faulty (TextIsMisread IsFault number text) (text_told (with_libraries (map spelling libraries.items)) number)
    (Spec (with_libraries_refused libraries (fault.Read number found)))
read_faulty IsFault number text libraries found is not =
    text_faulty IsFault number text (with_libraries (map spelling libraries.items))
    (with_libraries_refused libraries (fault.Read number found)) found refl is not

pub order_faulty : (IsFault : ℕ → List ℕ → ReadFault → Type 0) (text : List ℕ) (known : WithSpec) (found : ReadFault)
    → IsFault 1 text found → (found ≡ read.NoMemory → ⊥)
    → Faulty (TextIsMisread IsFault 1 text) (by_spec order_told known) (Spec (with_spec_refused known (fault.Read 1 found)))
order_faulty IsFault text known found is not =
    text_faulty IsFault 1 text (by_spec with_spec known) (with_spec_refused known (fault.Read 1 found)) found refl is not

-- ---- Types

pub types_faulty : (types : List DeclaredType) (libraries : Vec Name Global) (found : TypeFault) → IsRefused types found
    → (found ≡ type.NoMemory → ⊥)
    → Faulty (HaveFault types) (types_told (map spelling libraries.items)) (Spec (with_libraries_refused libraries (fault.Types found)))
types_faulty types libraries (type.DoubleType place name) is not =
    (of_names (double_type (text_place_of place) (spelling name)), is, refl)
types_faulty types libraries (type.UnknownType place name) is not =
    (of_names (unknown_type (text_place_of place) (spelling name)), is, refl)
types_faulty types libraries (type.TypeCycle place name) is not =
    (of_names (type_cycle (text_place_of place) (spelling name)), is, refl)
types_faulty types libraries (type.DoubleSort place name) is not =
    (of_declarations (plain_type.double_sort (text_place_of place) (spelling name)), is, refl)
types_faulty types libraries (type.UnknownSort place name) is not =
    (of_declarations (plain_type.unknown_sort (text_place_of place) (Some (spelling name))), is, refl)
types_faulty types libraries (type.DoubleOperation place name) is not =
    (of_declarations (plain_type.double_operation (text_place_of place) (spelling name)), is, refl)
types_faulty types libraries (type.UnknownOperation place name) is not =
    (of_declarations (plain_type.unknown_operation (text_place_of place) (spelling name)), is, refl)
types_faulty types libraries (type.NotFormal place name) is not =
    (of_declarations (plain_type.not_formal (text_place_of place) (spelling name)), is, refl)
types_faulty types libraries (type.MissingActual place name) is not =
    (of_declarations (plain_type.missing_actual (text_place_of place) (spelling name)), is, refl)
types_faulty types libraries (type.TooLarge place name) is not =
    (of_declarations (plain_type.too_large (text_place_of place) (spelling name)), is, refl)
types_faulty types libraries (type.Premised place) is not = (of_declarations (plain_type.premised (text_place_of place)), is, refl)
types_faulty types libraries (type.Term (sort.UnknownName place)) is not =
    (of_declarations (plain_type.unknown_name (text_place_of place)), is, refl)
types_faulty types libraries (type.Term (sort.UnknownSort place)) is not =
    (of_declarations (plain_type.unknown_sort (text_place_of place) None), is, refl)
types_faulty types libraries (type.Term (sort.NoReading place)) is not =
    (of_declarations (plain_type.no_reading (text_place_of place)), is, refl)
types_faulty types libraries (type.Term (sort.TwoReadings place)) is not =
    (of_declarations (plain_type.two_readings (text_place_of place)), is, refl)
types_faulty types libraries (type.Term sort.NoMemory) is not = absurd is.1
types_faulty types libraries type.NoMemory is not = absurd (not refl)

-- ---- Scopes

tells_nothing : (found : ScopeFault) → (found ≡ scoped.NoMemory → ⊥) → told_by found ≡ nothing_told → ⊥
tells_nothing (scoped.UnknownGate place name) not e = cc
tells_nothing (scoped.UnknownProcess place name) not e = cc
tells_nothing (scoped.UnknownSort place name) not e = cc
tells_nothing (scoped.DoubleName place name) not e = cc
tells_nothing (scoped.GateCount place wanted given) not e = cc
tells_nothing (scoped.ValueCount place wanted given) not e = cc
tells_nothing (scoped.NoBool place) not e = cc
tells_nothing (scoped.Term (sort.UnknownName place)) not e = cc
tells_nothing (scoped.Term (sort.UnknownSort place)) not e = cc
tells_nothing (scoped.Term (sort.NoReading place)) not e = cc
tells_nothing (scoped.Term (sort.TwoReadings place)) not e = cc
tells_nothing (scoped.Term sort.NoMemory) not e = cc
tells_nothing scoped.NoMemory not e = not refl

told_faulty : (data_ : Data) (text : WrittenSpecification) (known : Refusal → plain.Refused) (r : Told → Option plain.Refused) (tells :
    Told)
    → ((t : Told) → r t ≡ option_map known (told_of_scopes t)) → (tells ≡ nothing_told → ⊥)
    → OfTold tells (λ (f : scope.ScopeFault). SpecificationIs data_.signature (without_items text) (faulty f))
    → (found : scope.ScopeFault) × Breaks data_ text found × (r tells ≡ Some (known (wrong_scopes found)))
told_faulty data_ text known r nothing_told same not is = absurd (not refl)
told_faulty data_ text known r never_told same not is = absurd is
told_faulty data_ text known r (told f) same not is = (f, is, same (told f))

pub scopes_faulty : (text : WrittenSpecification) (known : WithData) (found : ScopeFault) → (found ≡ scoped.NoMemory → ⊥)
    → OfTold (told_by found) (λ (f : scope.ScopeFault). SpecificationIs (data_of known.flat).signature (without_items text) (faulty f))
    → Faulty (Breaks (data_of known.flat) text) (by_data scopes_told known) (Spec (with_data_refused known (fault.Scope found)))
scopes_faulty text known found not is =
    told_faulty (data_of known.flat) text (by_data with_data known) (λ t. option_map (by_data with_data known) (told_of_scopes t))
    (told_by found) (λ t. refl) (tells_nothing found not) is

-- ---- Functionalities and recursion

first_blamed : (ds : List Disagreement) (place : Place) (left right : Option (Vec ℕ Global)) → Blames ds (exit.Mismatch place left right)
    → IsFirstDisagreement ds (text_place_of place) (functionality_of left) (functionality_of right)
first_blamed [] place left right is = absurd is
first_blamed (d ∷ ds) place left right is = (ap text_place_of (sym is.0), sym is.1, sym is.2)

pub exits_faulty : (data_ : Data) (text : WrittenSpecification) (spec : Specification) (known : WithSpec) (found : ExitFault)
    → KeepsSpecification data_ text spec known.spec → (found ≡ exit.NoMemory → ⊥) → Blames (all_disagreements known.spec) found
    → Faulty (Disagree data_ text spec) (by_spec functionality_told known) (Spec (with_spec_refused known (fault.Exit found)))
exits_faulty data_ text spec known (exit.Mismatch place left right) keeps not is = (
  differ_at (text_place_of place) (functionality_of left) (functionality_of right),
  (known.spec, keeps, first_blamed (all_disagreements known.spec) place left right is),
  refl,
)
exits_faulty data_ text spec known exit.NoMemory keeps not is = absurd (not refl)

pub ranks_faulty : (data_ : Data) (text : WrittenSpecification) (spec : Specification) (known : WithSpec) (found : RankFault)
    → KeepsSpecification data_ text spec known.spec → (found ≡ rank.NoMemory → ⊥) → RefusesRanks known.spec found
    → Faulty (Cyclic data_ text spec) (by_spec recursion_told known) (Spec (with_spec_refused known (fault.Rank found)))
ranks_faulty data_ text spec known (rank.Unguarded place process cycle) keeps not is =
    (unguarded_at (text_place_of place) process cycle.items, (known.spec, place, keeps, refl, is), refl)
ranks_faulty data_ text spec known rank.NoMemory keeps not is = absurd (not refl)

-- ---- The order and the equations

pub book_faulty : (items : List ListedOperation) (known : WithSpec) (found : BookFault) → (found ≡ book.NoMemory → ⊥)
    → IsBookFault items (data_of known.flat) found
    → Faulty (DoesNotOpen items (data_of known.flat)) (by_spec opening_told known) (Spec (with_spec_refused known (fault.Book found)))
book_faulty items known (book.UnknownOperation place name) not is = (names_none (text_place_of place) (spelling name), is, refl)
book_faulty items known (book.TwiceListed place name) not is = (names_twice (text_place_of place) (spelling name), is, refl)
book_faulty items known (book.BadStatus place name) not is = (names_no_status (text_place_of place) (spelling name), is, refl)
book_faulty items known (book.Unorientable equation) not is = (not_oriented equation, is, refl)
book_faulty items known (book.Unjoined first second peak left right) not is =
    (not_joined first second (term_in peak) (term_in left) (term_in right), (is.0, is.2.0, is.1, is.2.1, is.2.2), refl)
book_faulty items known book.NoMemory not is = absurd (not refl)
