-- The pairs of an actualisation, and what comes behind them.
use Rattle.std.proofs.Common.{◌≡◌, List, [], map, ap, sym, ◌∙◌, subst}
use Rattle.std.specs.Prelude.{Option, None}
use Rattle.lotos_base.specs.Name.{spelling}
use Rattle.lotos_base.specs.WrittenView.{placed_name_of}
use Rattle.lotos_base.specs.Signature.{Operation}
use Rattle.syntax_trees.specs.WrittenItem.{WrittenPair}
use Rattle.syntax_trees.specs.TreeViews.{pair_of}
use Rattle.syntax_trees.specs.declared.items.PairText.{PairText}
use Rattle.type_presentations.specs.NamesView.{HasNames}
use Rattle.type_definitions.specs.FaultView.{IsFaultFound}
use Rattle.type_definitions.specs.declared.type_faults.TypeFault.{TypeFault as CodeFault}
use Rattle.type_definitions.specs.TypeFault.{TypeFault}
use Rattle.type_definitions.specs.Presentation.{Presentation as PlainPresentation}
use Rattle.type_definitions.specs.Renaming.{operation_pairs_fault}
use Rattle.type_definitions.specs.Actualisation.{Actualising, formal_operations_of}
use Rattle.type_definitions.specs.ActualisationFaults.{actual_pairs_fault, actualising_fault}
use Rattle.type_presentations.specs.PairIndexView.{pairs_in}
use Rattle.type_presentations.specs.PresentationView.{presentation_of}
use Rattle.type_presentations.specs.declared.presentations.Presentation.{Presentation}
use Rattle.type_renaming.specs.declared.source.Source.{Source}
use Rattle.type_actualisation.specs.Actualised.{IsActualised}
use Rattle.type_actualisation.specs.Indexed.{HasSortSource, IsFaultBehindSortPairs, IsFaultOfOperationPairs, IsFaultOfSortPairs, IsActualisingFault, IsWithOperations, fault_behind_sort_pairs}
use Rattle.type_actualisation.specs.Parts.{HasParts, IsBroughtIn, IsFaultBehindPairs, fault_behind_pairs}
use Rattle.type_actualisation.proofs.FaultLemmas.{found_first, found_later, found_same, later_is}

-- ---- Names of the members of a list that is another one.

-- ---- Refusals.

pub sort_pairs_refused : (base : PlainPresentation) (pairs : List PairText) (fault : CodeFault)
    → IsFaultFound (actual_pairs_fault base [] (map pair_of pairs)) fault → IsFaultOfSortPairs base pairs fault
sort_pairs_refused base pairs fault h = record { found = h }

pub operation_pairs_refused : (base : PlainPresentation) (pairs : List PairText) (fault : CodeFault)
    → IsFaultFound (operation_pairs_fault base.signature [] (map pair_of pairs)) fault → IsFaultOfOperationPairs base pairs fault
operation_pairs_refused base pairs fault h = record { found = h }

pub behind_sort_pairs_refused : (a : Actualising) (fault : CodeFault) → IsFaultFound (fault_behind_sort_pairs a) fault
    → IsFaultBehindSortPairs a fault
behind_sort_pairs_refused a fault h = record { found = h }

pub refused : (a : Actualising) (fault : CodeFault) → IsFaultFound (actualising_fault a) fault → IsActualisingFault a fault
refused a fault h = record { found = h }

-- ---- Behind the pairs of operations.

pub parts_of : (a : Actualising) (base p : Presentation) (sorts ops : Source) (pairs : List PairText)
    → HasSortSource a base p sorts pairs → ops.mention.now ≡ sorts.mention.now → ops.type_name.now ≡ sorts.type_name.now
    → HasNames ops.formals.now (map (λ o. o.name) (formal_operations_of (presentation_of base)))
    → pairs_in ops.pairs.now ≡ map pair_of pairs → HasParts a base p sorts ops
parts_of a base p sorts ops pairs source mention name formals indexed = record {
  base_is = source.base_is;
  actual_is = source.actual_is;
  sorts_are = source.sorts_are;
  mention_is = source.sorts_are.at_is ∙ ap (λ m. placed_name_of m) (sym mention);
  name_is = source.sorts_are.name_is ∙ ap (λ n. spelling n) (sym name);
  pairs_are = source.pairs_are ∙ sym indexed;
  formals_are =
      subst (λ (q : PlainPresentation). HasNames ops.formals.now (map (λ (o : Operation). o.name) (formal_operations_of q)))
      (sym source.base_is) formals;
}

-- the fault of the pairs of operations
abbrev pub pairs_fault : Actualising → Option TypeFault
pairs_fault a = operation_pairs_fault a.base.presentation.signature [] a.pairs.operation_pairs

pairs_fault_is : (a : Actualising) (base p : Presentation) (sorts : Source) (pairs : List PairText) → HasSortSource a base p sorts pairs
    → pairs_fault a ≡ operation_pairs_fault (presentation_of base).signature [] (map pair_of pairs)
pairs_fault_is a base p sorts pairs source =
    ap (λ (q : PlainPresentation). operation_pairs_fault q.signature [] a.pairs.operation_pairs) source.base_is
    ∙ ap (λ (ps : List WrittenPair). operation_pairs_fault (presentation_of base).signature [] ps) source.pairs_are

pub with_operations : (a : Actualising) (base p new : Presentation) (sorts : Source) (pairs : List PairText)
    → HasSortSource a base p sorts pairs → operation_pairs_fault (presentation_of base).signature [] (map pair_of pairs) ≡ None
    → IsBroughtIn a new → IsWithOperations a new
with_operations a base p new sorts pairs source none is = record {
  none =
      later_is (pairs_fault a) (fault_behind_pairs a) (pairs_fault_is a base p sorts pairs source ∙ none) ∙ is.none;
  made = is.made;
  sound = is.sound;
  within = is.within;
}

pub pairs_refused : (a : Actualising) (base p : Presentation) (sorts : Source) (pairs : List PairText) (fault : CodeFault)
    → HasSortSource a base p sorts pairs → IsFaultOfOperationPairs (presentation_of base) pairs fault → IsFaultBehindSortPairs a fault
pairs_refused a base p sorts pairs fault source is =
    behind_sort_pairs_refused a fault
    (found_first (pairs_fault a) (fault_behind_pairs a) fault
    (found_same (pairs_fault a) (operation_pairs_fault (presentation_of base).signature [] (map pair_of pairs)) fault
    (pairs_fault_is a base p sorts pairs source) is.found))

pub parts_refused : (a : Actualising) (base p : Presentation) (sorts : Source) (pairs : List PairText) (fault : CodeFault)
    → HasSortSource a base p sorts pairs → operation_pairs_fault (presentation_of base).signature [] (map pair_of pairs) ≡ None
    → IsFaultBehindPairs a fault → IsFaultBehindSortPairs a fault
parts_refused a base p sorts pairs fault source none is =
    behind_sort_pairs_refused a fault
    (found_later (pairs_fault a) (fault_behind_pairs a) fault (pairs_fault_is a base p sorts pairs source ∙ none) is.found)

-- ---- Behind the pairs of sorts.

-- the fault of the pairs of sorts
abbrev pub sort_pairs_fault : Actualising → Option TypeFault
sort_pairs_fault a = actual_pairs_fault a.base.presentation [] a.pairs.sort_pairs

pub actualised : (a : Actualising) (new : Presentation) → actual_pairs_fault a.base.presentation [] a.pairs.sort_pairs ≡ None
    → IsWithOperations a new → IsActualised a new
actualised a new none is = record {
  none = later_is (sort_pairs_fault a) (fault_behind_sort_pairs a) none ∙ is.none;
  made = is.made;
  sound = is.sound;
  within = is.within;
}

pub first_refused : (a : Actualising) (fault : CodeFault)
    → IsFaultFound (actual_pairs_fault a.base.presentation [] a.pairs.sort_pairs) fault → IsActualisingFault a fault
first_refused a fault found = refused a fault (found_first (sort_pairs_fault a) (fault_behind_sort_pairs a) fault found)

pub later_refused : (a : Actualising) (fault : CodeFault) → actual_pairs_fault a.base.presentation [] a.pairs.sort_pairs ≡ None
    → IsFaultBehindSortPairs a fault → IsActualisingFault a fault
later_refused a fault none is =
    refused a fault (found_later (sort_pairs_fault a) (fault_behind_sort_pairs a) fault none is.found)
