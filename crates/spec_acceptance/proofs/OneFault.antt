-- Types have one thing that is wrong at most, and none where they have data.
use Rattle.std.proofs.Common.{ap, ◌≡◌, ℕ, List, [], Option}
use Rattle.lotos_base.proofs.Options.{none_and_some}
use Rattle.lotos_base.specs.Equation.{Data}
use Rattle.type_definitions.specs.DeclaredTypes.{DeclaredType, mention_graph}
use Rattle.type_definitions.specs.MentionFaults.{MentionFault, double_type, unknown_type, type_cycle, IsMentionFault, second_declaration, unknown_mention}
use Rattle.type_definitions.specs.TypeGraph.{mentioned_by}
use Rattle.type_definitions.proofs.MentionLemmas.{faults_unique}
use Rattle.type_definitions.proofs.NumberLists.{among_at}
use Rattle.type_definitions.specs.TypeFault.{TypeFault}
use Rattle.type_flatten.proofs.OneOutcome.{flattening_is_decided}
use Rattle.type_flatten.proofs.TypesFine.{flattened_data}
use Rattle.refusal_lines.specs.HandedOn.{Files}
use Rattle.spec_acceptance.specs.Acceptance.{IsFounded}
use Rattle.spec_acceptance.specs.AcceptanceLaws.{TypesAreDecided, DataAreWellFormed}
use Rattle.spec_acceptance.specs.PartLaws.{IsDetermined}
use Rattle.spec_acceptance.specs.Types.{AreNamesFine, HaveData, TypesFault, of_names, of_declarations, HaveFault}
use Rattle.spec_acceptance.proofs.WholeLemmas.{acceptance_is_determined, founding_is_determined_so, wanted_files_are_first_so}
use Rattle.spec_acceptance.proofs.DecidedBooks.{books_are_decided}
use Rattle.spec_acceptance.proofs.DecidedLemmas.{exits_are_decided, ranks_are_decided}
use Rattle.spec_acceptance.specs.AcceptanceOutcomes.{AcceptanceHasOneOutcome, WantedFilesAreFirst}

-- ---- Names

names_not_faulty : (types : List DeclaredType) (fault : MentionFault) → AreNamesFine types → IsMentionFault types fault → ⊥
names_not_faulty types (double_type place name) fine is = none_and_some (second_declaration [] types) is.0 fine.0 is.1
names_not_faulty types (unknown_type place name) fine is = none_and_some (unknown_mention types types) is.1.0 fine.1 is.1.1
names_not_faulty types (type_cycle place name) fine is =
    let cyclic = is.2.1 in
    let first = cyclic.is_first in
    fine.2 cyclic.by first.mentioned
    (among_at (mentioned_by (mention_graph types) cyclic.by) cyclic.position first.mentioned first.is_there) first.on_cycle

-- ---- Types

one_fault : (types : List DeclaredType) (fault other : TypesFault) → HaveFault types fault → HaveFault types other → fault ≡ other
one_fault types (of_names fault) (of_names other) is also = ap (λ (f : MentionFault). of_names f) (faults_unique types fault other is also)
one_fault types (of_names fault) (of_declarations other) is also = absurd (names_not_faulty types fault also.0 is)
one_fault types (of_declarations fault) (of_names other) is also = absurd (names_not_faulty types other is.0 also)
one_fault types (of_declarations fault) (of_declarations other) is also =
    ap (λ (f : TypeFault). of_declarations f) ((flattening_is_decided types).one_fault fault other is.1 also.1)

not_faulty : (types : List DeclaredType) (data_ : Data) (fault : TypesFault) → HaveData types data_ → HaveFault types fault → ⊥
not_faulty types data_ (of_names fault) is not = names_not_faulty types fault is.0 not
not_faulty types data_ (of_declarations fault) is not = (flattening_is_decided types).not_both data_ fault is.1 not.1

pub types_are_decided : TypesAreDecided
types_are_decided types = record {
  one_value = λ b c is also. (flattening_is_decided types).one_data b c is.1 also.1;
  not_both = not_faulty types;
  one_fault = one_fault types;
}

pub data_are_well_formed : DataAreWellFormed
data_are_well_formed types data_ have = flattened_data.flattened types data_ have.1

-- ---- All of it

pub acceptance_has_one_outcome : AcceptanceHasOneOutcome
acceptance_has_one_outcome asked got =
    acceptance_is_determined types_are_decided data_are_well_formed exits_are_decided ranks_are_decided books_are_decided asked got

pub wanted_files_are_first : WantedFilesAreFirst
wanted_files_are_first asked got =
    wanted_files_are_first_so types_are_decided data_are_well_formed exits_are_decided ranks_are_decided books_are_decided asked got

pub founding_is_determined : (spec : List ℕ) (order : Option (List ℕ)) (got : Files) → IsDetermined got (IsFounded spec order)
founding_is_determined spec order got =
    founding_is_determined_so types_are_decided data_are_well_formed exits_are_decided ranks_are_decided books_are_decided spec order got
