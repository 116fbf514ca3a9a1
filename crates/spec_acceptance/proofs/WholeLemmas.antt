-- The whole of the acceptance is determined.
use Rattle.std.proofs.Common.{ap, subst, ℕ, List, Option}
use Rattle.lotos_base.specs.Equation.{Data}
use Rattle.syntax_trees.specs.WrittenDefinition.{WrittenSpecification}
use Rattle.syntax_trees.specs.TakenItems.{without_items}
use Rattle.behaviour_semantics.specs.Behaviour.{Specification}
use Rattle.type_definitions.specs.DeclaredTypes.{types_of}
use Rattle.refusal_lines.proofs.HandedOn.{specification_once}
use Rattle.lotos_base.specs.WrittenTerm.{ListedOperation}
use Rattle.refusal_lines.specs.HandedOn.{Gathered, Files, PlainScopeFault as ScopeFault, Resolution, resolved, resolution_faulty as faulty}
use Rattle.refusal_lines.specs.StartValues.{Start, AreStartValues, IsStartFault}
use Rattle.spec_acceptance.specs.Ending.{with_spec}
use Rattle.spec_acceptance.specs.PartLaws.{IsDetermined, WantsBehindFirst, IsDecided}
use Rattle.spec_acceptance.specs.Texts.{GetsFile, ReadsSpecification, Gathers, Orders}
use Rattle.spec_acceptance.specs.Types.{HaveData, HaveFault, types_told, Flattens}
use Rattle.spec_acceptance.specs.Scopes.{StandsFor, Breaks, scopes_told, Resolves}
use Rattle.spec_acceptance.specs.Checks.{FunctionalitiesAgree, Disagree, functionality_told, ComesToAgreement, Guarded, Cyclic, recursion_told, IsGuardedIn}
use Rattle.spec_acceptance.specs.Book.{Opens, DoesNotOpen, opening_told, OpensBook}
use Rattle.refusal_lines.proofs.OutcomeLemmas.{starts_have_one_outcome}
use Rattle.spec_acceptance.specs.Acceptance.{Asked, Founded, founded_with, FoundedBy, Founds, start_of, StartsWithValues, accepted_with, AcceptsText, IsAccepted, IsFounded}
use Rattle.spec_acceptance.specs.AcceptanceLaws.{TypesAreDecided, DataAreWellFormed, ExitsAreDecided, RanksAreDecided, BooksAreDecided, ScopesAreDecided, AcceptanceIsDetermined}
use Rattle.spec_acceptance.proofs.PartLemmas.{has_determined, looks_determined, then_determined, has_wants, looks_wants, then_wants}
use Rattle.spec_acceptance.proofs.TextLemmas.{gets_determined, gets_wants, reads_determined, reads_wants, gathers_determined, gathers_wants, orders_determined, orders_wants}

-- ---- Scopes

abbrev value_in : Specification → Resolution Specification → Specification
value_in other (resolved spec) = spec
value_in other (faulty fault) = other

abbrev fault_in : ScopeFault → Resolution Specification → ScopeFault
fault_in other (resolved spec) = other
fault_in other (faulty fault) = fault

abbrev IsResolved : Resolution Specification → Type 0
IsResolved (resolved spec) = Unit {0}
IsResolved (faulty fault) = ⊥

pub scopes_are_decided : ScopesAreDecided
scopes_are_decided data_ tree = record {
  one_value = λ b c is also.
      ap (λ (r : Resolution Specification). value_in b r)
      (specification_once data_.signature (without_items tree) (resolved b) (resolved c) is also);
  not_both = λ b fault is not.
      subst (λ (r : Resolution Specification). IsResolved r)
      (specification_once data_.signature (without_items tree) (resolved b) (faulty fault) is not) tt;
  one_fault = λ fault other is also.
      ap (λ (r : Resolution Specification). fault_in fault r)
      (specification_once data_.signature (without_items tree) (faulty fault) (faulty other) is also);
}

-- ---- Start values

starts_decided : (start : Start) → IsDecided (AreStartValues start) (IsStartFault start)
starts_decided start = record {
  one_value = starts_have_one_outcome.one_list start;
  not_both = starts_have_one_outcome.not_both start;
  one_fault = starts_have_one_outcome.one_fault start;
}

-- ---- All of it

module _ (types : TypesAreDecided) (fine : DataAreWellFormed) (exits : ExitsAreDecided) (ranks : RanksAreDecided)
    (books : BooksAreDecided) (got : Files) where
  flattens_determined : (gathered : Gathered) → IsDetermined got (Flattens gathered)
  flattens_determined gathered =
      looks_determined (HaveData (types_of gathered.types)) (HaveFault (types_of gathered.types)) (types_told gathered.read) got
      (types (types_of gathered.types))

  module _ (gathered : Gathered) (data_ : Data) (tree : WrittenSpecification) where
    resolves_determined : IsDetermined got (Resolves gathered data_ tree)
    resolves_determined =
        looks_determined (StandsFor data_ tree) (Breaks data_ tree) (scopes_told gathered.read data_) got (scopes_are_decided data_ tree)

    module _ (spec : Specification) where
      agrees_determined : IsDetermined got (ComesToAgreement gathered data_ tree spec)
      agrees_determined =
          looks_determined (FunctionalitiesAgree data_ tree spec) (Disagree data_ tree spec)
          (functionality_told gathered.read data_ spec) got (exits data_ tree spec)

      guarded_determined : IsDetermined got (IsGuardedIn gathered data_ tree spec)
      guarded_determined =
          looks_determined (Guarded spec) (Cyclic data_ tree spec) (recursion_told gathered.read data_ spec) got (ranks data_ tree spec)

      opens_determined : (items : List ListedOperation) → HaveData (types_of gathered.types) data_
          → IsDetermined got (OpensBook gathered data_ spec items)
      opens_determined items have =
          looks_determined (Opens items data_) (DoesNotOpen items data_) (opening_told gathered.read data_ spec) got
          (books items data_ (fine (types_of gathered.types) data_ have))

  founded_determined : (order : Option (List ℕ)) (tree : WrittenSpecification) → IsDetermined got (FoundedBy order tree)
  founded_determined order tree =
      then_determined (Gathers tree) _ got (gathers_determined tree got) (λ gathered f2 i2.
      then_determined (Flattens gathered) _ got (flattens_determined gathered) (λ data_ f3 have.
      then_determined (Resolves gathered data_ tree) _ got (resolves_determined gathered data_ tree) (λ spec f4 i4.
      then_determined (ComesToAgreement gathered data_ tree spec) _ got (agrees_determined gathered data_ tree spec) (λ same f5 i5.
      then_determined (IsGuardedIn gathered data_ tree spec) _ got (guarded_determined gathered data_ tree spec) (λ also f6 i6.
      then_determined (Orders (with_spec gathered.read data_ spec) order) _ got
      (orders_determined (with_spec gathered.read data_ spec) order got) (λ items f7 i7.
      then_determined (OpensBook gathered data_ spec items) _ got (opens_determined gathered data_ tree spec items have.1) (λ opened f8 i8.
      has_determined (founded_with gathered data_ spec items) got)))))))

  founded_wants : (order : Option (List ℕ)) (tree : WrittenSpecification) → WantsBehindFirst got (FoundedBy order tree)
  founded_wants order tree =
      then_wants (Gathers tree) _ got (gathers_determined tree got) (gathers_wants tree got) (λ gathered f2 i2.
      then_wants (Flattens gathered) _ got (flattens_determined gathered)
      (looks_wants (HaveData (types_of gathered.types)) (HaveFault (types_of gathered.types)) (types_told gathered.read) got)
      (λ data_ f3 have.
      then_wants (Resolves gathered data_ tree) _ got (resolves_determined gathered data_ tree)
      (looks_wants (StandsFor data_ tree) (Breaks data_ tree) (scopes_told gathered.read data_) got) (λ spec f4 i4.
      then_wants (ComesToAgreement gathered data_ tree spec) _ got (agrees_determined gathered data_ tree spec)
      (looks_wants (FunctionalitiesAgree data_ tree spec) (Disagree data_ tree spec) (functionality_told gathered.read data_ spec) got)
      (λ same f5 i5.
      then_wants (IsGuardedIn gathered data_ tree spec) _ got (guarded_determined gathered data_ tree spec)
      (looks_wants (Guarded spec) (Cyclic data_ tree spec) (recursion_told gathered.read data_ spec) got) (λ also f6 i6.
      then_wants (Orders (with_spec gathered.read data_ spec) order) _ got
      (orders_determined (with_spec gathered.read data_ spec) order got) (orders_wants (with_spec gathered.read data_ spec) order got)
      (λ items f7 i7.
      then_wants (OpensBook gathered data_ spec items) _ got (opens_determined gathered data_ tree spec items have.1)
      (looks_wants (Opens items data_) (DoesNotOpen items data_) (opening_told gathered.read data_ spec) got) (λ opened f8 i8.
      has_wants (founded_with gathered data_ spec items) got)))))))

  founds_determined : (text : List ℕ) (order : Option (List ℕ)) → IsDetermined got (Founds text order)
  founds_determined text order =
      then_determined (ReadsSpecification text) _ got (reads_determined text got) (λ tree f1 i1. founded_determined order tree)

  founds_wants : (text : List ℕ) (order : Option (List ℕ)) → WantsBehindFirst got (Founds text order)
  founds_wants text order =
      then_wants (ReadsSpecification text) _ got (reads_determined text got) (reads_wants text got) (λ tree f1 i1. founded_wants order tree)

  starts_determined : (founded : Founded) (words : List (List ℕ)) → IsDetermined got (StartsWithValues founded words)
  starts_determined founded words =
      looks_determined (AreStartValues (start_of founded.data_ founded.spec words))
      (IsStartFault (start_of founded.data_ founded.spec words))
      (with_spec founded.libraries founded.data_ founded.spec) got (starts_decided (start_of founded.data_ founded.spec words))

  accepts_determined : (text : List ℕ) (order : Option (List ℕ)) (words : List (List ℕ)) → IsDetermined got (AcceptsText text order words)
  accepts_determined text order words =
      then_determined (Founds text order) _ got (founds_determined text order) (λ founded f1 i1.
      then_determined (StartsWithValues founded words) _ got (starts_determined founded words) (λ values f2 i2.
      has_determined (accepted_with founded values) got))

  accepts_wants : (text : List ℕ) (order : Option (List ℕ)) (words : List (List ℕ)) → WantsBehindFirst got (AcceptsText text order words)
  accepts_wants text order words =
      then_wants (Founds text order) _ got (founds_determined text order) (founds_wants text order) (λ founded f1 i1.
      then_wants (StartsWithValues founded words) _ got (starts_determined founded words)
      (looks_wants (AreStartValues (start_of founded.data_ founded.spec words)) (IsStartFault (start_of founded.data_ founded.spec words))
      (with_spec founded.libraries founded.data_ founded.spec) got) (λ values f2 i2.
      has_wants (accepted_with founded values) got))

pub acceptance_is_determined : AcceptanceIsDetermined
acceptance_is_determined types fine exits ranks books asked got =
    then_determined (GetsFile asked.spec) _ got (gets_determined asked.spec got) (λ text f0 i0.
    accepts_determined types fine exits ranks books got text asked.order asked.values)

-- up to the book
pub founding_is_determined_so : TypesAreDecided → DataAreWellFormed → ExitsAreDecided → RanksAreDecided → BooksAreDecided
    → (spec : List ℕ) (order : Option (List ℕ)) (got : Files) → IsDetermined got (IsFounded spec order)
founding_is_determined_so types fine exits ranks books spec order got =
    then_determined (GetsFile spec) _ got (gets_determined spec got) (λ text f0 i0.
    founds_determined types fine exits ranks books got text order)

pub wanted_files_are_first_so : TypesAreDecided → DataAreWellFormed → ExitsAreDecided → RanksAreDecided → BooksAreDecided
    → (asked : Asked) (got : Files) → WantsBehindFirst got (IsAccepted asked)
wanted_files_are_first_so types fine exits ranks books asked got =
    then_wants (GetsFile asked.spec) _ got (gets_determined asked.spec got) (gets_wants asked.spec got) (λ text f0 i0.
    accepts_wants types fine exits ranks books got text asked.order asked.values)
