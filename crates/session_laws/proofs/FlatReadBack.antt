-- The flat text of what was accepted stands for the same.
use Rattle.std.proofs.Common.{◌≡◌, ◌≤◌, ℕ, suc, List, [], ◌∷◌, ◌++◌, map, length, flat_map, Option, refl, ap, sym, ◌∙◌, subst, append-nil}
use Rattle.lotos_base.specs.Equation.{Data, IsWellFormedData}
use Rattle.lotos_base.specs.Limits.{text_limit}
use Rattle.lotos_base.specs.Outside.{Texts}
use Rattle.lotos_base.specs.Signature.{Sort}
use Rattle.syntax_trees.specs.Depth.{nodes_of_item, nodes_of_specification}
use Rattle.syntax_trees.specs.TakenItems.{items_of_inners, items_of_specification, without_items}
use Rattle.syntax_trees.specs.WrittenItem.{WrittenItem, libraries, type_declared}
use Rattle.syntax_trees.specs.WrittenDefinition.{WrittenInners, inner_item, process, no_inner, inner_then, inners_of, WrittenSpecification}
use Rattle.tree_building.specs.Reading.{node_limit}
use Rattle.behaviour_semantics.specs.Behaviour.{Process, Specification}
use Rattle.type_definitions.specs.DeclaredTypes.{types_of}
use Rattle.scope_parts.specs.Resolution.{resolved}
use Rattle.declaration_laws.proofs.SameResolutions.{same_data_resolve_alike}
use Rattle.session_laws.proofs.DepthLemmas.{IsShallow, shallow_joined}
use Rattle.session_laws.specs.DataLaws.{AreDataOfText, FlattenedDataAreOfText}
use Rattle.session_laws.specs.FlatReadings.{IsSameReading, naming_of_flat}
use Rattle.session_laws.specs.FlatTextReadings.{IsFlatTextReadBack, FlatTextsAreReadBack}
use Rattle.session_laws.specs.WrittenSpecifications.{AreProcessesWritten}
use Rattle.flat_text.specs.FlatText.{flat_text}
use Rattle.printed_texts.specs.BehaviourText.{Naming}
use Rattle.session_laws.specs.TextNames.{HasTextNames}
use Rattle.session_laws.specs.DepthLaws.{nodes_of_definitions, FlatTextsAreNoDeeper}
use Rattle.session_laws.specs.SameSpelling.{AreDataSpelledAlike}
use Rattle.session_laws.specs.WrittenData.{AreItemsWritten, AreDataWritten}
use Rattle.lotos_top.specs.HandedOn.{Founded, FoundedBy, Founds, GetsFile, ReadsSpecification, Gathered, Gathers, goes_on, Becomes, item, nothing_yet, all_gathered, nothing_waits, a_type}
use Rattle.lotos_top.proofs.HandedOn.{data_are_well_formed}
use Rattle.session_laws.specs.AlikeLaws.{FoundedOver}
use Rattle.session_laws.specs.FlatRuns.{FlattenedTextsStandForTheSame}
use Rattle.session_laws.specs.ReadBack.{IsReadBack}
use Rattle.session_laws.proofs.AcceptedNames.{types_of_tree}
use Rattle.session_laws.proofs.AcceptedParts.{StandsOn, founded_on}
use Rattle.session_laws.proofs.DeclaredSpellings.{all_named}
use Rattle.session_laws.proofs.FlatBounds.{few_processes, few_variables}
use Rattle.session_laws.proofs.FlatShallow.{definitions_left, items_stand, equations_fit}
use Rattle.session_laws.proofs.FlattenedNames.{data_spelled}
use Rattle.session_laws.proofs.GatheredNames.{tree_spelled}
use Rattle.session_laws.proofs.SpelledAlike.{same_data}
use Rattle.session_laws.proofs.WentOn.{went_on}

-- ---- What was accepted

-- it stands on the text that was read
pub stands_on : (texts : Texts) (spec : List ℕ) (order : Option (List ℕ)) (founded : Founded) → FoundedOver texts spec order founded
    → StandsOn founded.data_ founded.spec
stands_on texts spec order founded over =
    let gets = went_on (GetsFile spec) (λ bytes. Founds bytes order) over.files founded over.came in
    let reads = went_on (ReadsSpecification gets.found) (λ tree. FoundedBy order tree) gets.later founded gets.second in
    founded_on order gets.found reads.found reads.later founded reads.first.1 reads.second

-- ---- The items of a flat text

-- processes without a `where` have no items
no_items : (naming : Naming) (next : ℕ) (ps : List Process) (ws : WrittenInners) → AreProcessesWritten naming next ps ws
    → items_of_inners ws ≡ []
no_items naming next [] no_inner writes = refl
no_items naming next [] (inner_then w ws) writes = absurd writes
no_items naming next (p ∷ ps) no_inner writes = absurd writes
no_items naming next (p ∷ ps) (inner_then (inner_item it) ws) writes = absurd writes
no_items naming next (p ∷ ps) (inner_then (process heading body (inner_then w rest)) ws) writes = absurd writes
no_items naming next (p ∷ ps) (inner_then (process heading body no_inner) ws) writes = no_items naming (suc next) ps ws writes.2

abbrev gathered_as : List WrittenItem → Gathered
gathered_as items = record { read = []; types = items }

-- one type is gathered without a file
becomes_it : (data_ : Data) (sorts : List Sort) (items : List WrittenItem) → AreItemsWritten data_ sorts items
    → Becomes nothing_yet (map item items) [] (all_gathered (gathered_as items))
becomes_it data_ [] [] writes = nothing_waits nothing_yet
becomes_it data_ [] (it ∷ items) writes = absurd writes
becomes_it data_ (s ∷ ss) [] writes = absurd writes
becomes_it data_ (s ∷ ss) (libraries place names ∷ items) writes = absurd writes
becomes_it data_ (s ∷ ss) (type_declared place name body ∷ it ∷ items) writes = absurd writes
becomes_it data_ (s ∷ ss) (type_declared place name body ∷ []) writes =
    a_type (nothing_waits (gathered_as (type_declared place name body ∷ [])))

gathers_it : (data_ : Data) (naming : Naming) (ps : List Process) (tree : WrittenSpecification) → AreDataWritten data_ tree.items
    → AreProcessesWritten naming 0 ps (inners_of tree.inner) → Gathers tree [] (goes_on (gathered_as tree.items))
gathers_it data_ naming ps tree writes processes =
    let alone : items_of_specification tree ≡ tree.items =
    ap (λ (others : List WrittenItem). tree.items ++ others) (no_items naming 0 ps (inners_of tree.inner) processes)
    ∙ append-nil tree.items in (
      all_gathered (gathered_as tree.items),
      subst (λ (items : List WrittenItem). Becomes nothing_yet (map item items) [] (all_gathered (gathered_as tree.items))) (sym alone)
          (becomes_it data_ data_.signature.sorts tree.items writes),
      refl,
    )

-- ---- The whole text

module _ (deep : FlatTextsAreNoDeeper) (of_text : FlattenedDataAreOfText) (reads : FlatTextsAreReadBack) where
  read_back : (founded : Founded) → StandsOn founded.data_ founded.spec → length (flat_text founded.data_ founded.spec) ≤ text_limit
      → IsReadBack founded (flat_text founded.data_ founded.spec)
  read_back founded on within =
      let data_ : Data = founded.data_ in
      let spec : Specification = founded.spec in
      let text : List ℕ = flat_text data_ spec in
      let well : IsWellFormedData data_ = data_are_well_formed (types_of on.gathered.types) data_ on.has_data in
      let names : HasTextNames data_.signature =
      data_spelled (types_of on.gathered.types) data_
      (types_of_tree on.tree on.files on.gathered (tree_spelled 0 on.text on.tree on.is_text) on.gathers) on.has_data.1 in
      let few = few_processes data_ spec within in
      let form : AreDataOfText data_ =
      of_text (types_of on.gathered.types) data_ on.has_data.1 names (few_variables data_ spec well within) in
      let back : IsFlatTextReadBack 0 data_ spec =
      reads 0 on.text on.is_text.1.tokens on.tree data_ spec form names (all_named data_ spec on) few on.is_text.1.sentence on.stands_for
      in
      let read = back.sentence in
      let tree : WrittenSpecification = read.thing in
      let is : IsSameReading data_ spec tree = read.fitting in
      let shallow : IsShallow node_limit (nodes_of_specification tree) =
      shallow_joined node_limit (flat_map nodes_of_item tree.items) (nodes_of_definitions tree)
      (items_stand node_limit data_ tree.items is.types_written (equations_fit data_ spec on))
      (deep data_.signature (naming_of_flat data_ spec) (without_items on.tree) tree spec node_limit on.stands_for is.flatly
      (definitions_left node_limit on.tree on.is_text.1.shallow)) in
      let spelled : AreDataSpelledAlike data_ is.types.there.0 = is.types.there.2 in
      record {
        data_ = is.types.there.0;
        spec = is.again;
        resolved = record {
          tree = tree;
          read = (
            refl,
            (within, record { tokens = back.tokens; cut_into = back.cut_into; sentence = read.is_one; shallow = shallow }),
          );
          gathered = gathered_as tree.items;
          gathers = gathers_it data_ (naming_of_flat data_ spec) spec.processes tree is.types_written is.flatly.processes;
          has_data = ((is.types.declared_once, is.types.all_known, is.types.acyclic), is.types.there.1);
          stands =
              same_data_resolve_alike data_ is.types.there.0 (without_items tree) (resolved is.again)
              (same_data data_ is.types.there.0 spelled) is.stands;
        };
        spelled = spelled;
        same = is.same;
      }

  pub flattened_texts_stand_for_the_same : FlattenedTextsStandForTheSame
  flattened_texts_stand_for_the_same texts spec order founded over within = read_back founded (stands_on texts spec order founded over) within
