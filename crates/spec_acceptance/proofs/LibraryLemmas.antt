-- What the reading of libraries says of the part that gathers types.
use Rattle.std.proofs.Common.{refl, ap, sym, subst, ℕ, List, map, option_map}
use Rattle.std.specs.String.{string_bytes}
use Rattle.lotos_base.specs.Name.{spelling}
use Rattle.lotos_base.specs.WrittenView.{text_place_of}
use Rattle.syntax_trees.specs.WrittenItem.{WrittenItem}
use Rattle.refusal_lines.specs.HandedOn.{Gathered, item, too_many, misread, all_gathered, faulty, without_file, memory_wanted, gathered_of}
use Rattle.refusal_lines.specs.HandedOn.{IsGathered, AsksInAll, FailsBy, ShelfState, LibraryFault}
use Rattle.refusal_lines.specs.Refusal.{too_many_libraries}
use Rattle.refusal_lines.specs.RefusalView.{with_known}
use Rattle.refusal_lines.specs.HandedOn.library_faults as library
use Rattle.refusal_lines.specs.HandedOn.gathered as code
use Rattle.refusal_lines.proofs.HandedOn.{some_within}
use Rattle.refusal_lines.specs.declared.spec_fault.SpecFault.TheVariants as fault
use Rattle.spec_acceptance.specs.Ending.{with_libraries}
use Rattle.spec_acceptance.specs.Part.{goes_on, unread}
use Rattle.spec_acceptance.specs.Texts.{text_refusal, GathersTypes}
use Rattle.spec_acceptance.specs.Doing.{AsksBehind, Did, Failed, IsLibraryRefusal, with_libraries_refused}
use Rattle.spec_acceptance.specs.declared.not_accepted.NotAccepted.{NotAccepted}
use Rattle.spec_acceptance.proofs.FaultLemmas.{text_told_so}

pub gathered_did : (a b : ShelfState) (items : List WrittenItem) (now : Gathered) → IsGathered a b (map item items) now →
    Did a b (GathersTypes items) (goes_on now)
gathered_did a b items now is = (is.files, is.given, (all_gathered now, is.becomes, refl))

pub library_failed : (a b : ShelfState) (items : List WrittenItem) (so_far : code.Gathered) (found : LibraryFault) (answer :
    NotAccepted) →
    FailsBy a b (map item items) (gathered_of so_far) found → IsLibraryRefusal so_far found answer → Failed a b (GathersTypes items)
    answer
library_failed a b items so_far (library.TooMany place name) answer is same =
    subst (λ (x : NotAccepted). Failed a b (GathersTypes items) x) (sym same) (
      with_libraries (gathered_of so_far).read (too_many_libraries (text_place_of place) (spelling name)),
      refl,
      (
        is.0,
        is.1,
        (faulty (gathered_of so_far).read (too_many (text_place_of place) (spelling name)), is.2, refl),
      ),
    )
library_failed a b items so_far (library.Misread number found) answer (files, given, (plainly, told, becomes)) same =
    subst (λ (x : NotAccepted). Failed a b (GathersTypes items) x) (sym same) (
      with_libraries (gathered_of so_far).read (text_refusal number plainly),
      ap (option_map (with_known (with_libraries_refused so_far.libraries (fault.Read number found))))
          (text_told_so number found plainly told),
      (files, given, (faulty (gathered_of so_far).read (misread number plainly), becomes, refl)),
    )
library_failed a b items so_far (library.Unread file) answer is same =
    subst (λ (x : NotAccepted). Failed a b (GathersTypes items) x) (sym same.1)
    (subst (λ (n : List ℕ). Did a b (GathersTypes items) (unread n)) (sym same.2)
    (is.0, is.1, (without_file (gathered_of so_far).read (string_bytes file), is.2, refl)))
library_failed a b items so_far library.NoMemory answer (files, given, becomes) same =
    subst (λ (x : NotAccepted). Failed a b (GathersTypes items) x) (sym same) (
      files,
      some_within a b files (AsksInAll (map item items) files) (AsksBehind (GathersTypes items) files)
          (λ asks. (asks.1, (without_file asks.0 asks.1, asks.2, refl))) given,
      (memory_wanted, becomes, refl),
    )
