-- The types of a text and of its libraries have names of the form of names.
use Rattle.std.proofs.Common.{ℕ, List, [], ◌∷◌, ◌++◌, map, sym, subst}
use Rattle.syntax_trees.specs.WrittenItem.{WrittenItem, libraries, type_declared}
use Rattle.syntax_trees.specs.WrittenDefinition.{WrittenSpecification, WrittenInner, WrittenInners, inner_item, process, no_inner, inner_then, inners_of}
use Rattle.syntax_trees.specs.TakenItems.{items_of_specification, without_items, process_then, processes_of}
use Rattle.syntax_trees.proofs.TakingItems.{listed-again}
use Rattle.tree_building.specs.Reading.{IsTypesReading, IsSpecificationReading}
use Rattle.type_definitions.specs.DeclaredTypes.{DeclaredType, types_of}
use Rattle.lotos_top.specs.HandedOn.{GotFile, Gathered, nothing_yet, item, all_gathered, Becomes}
use Rattle.scope_parts.specs.Numbering.{own_gates, inner_gates, inners_gates}
use Rattle.scope_parts.specs.Definitions.{declared_gates}
use Rattle.behaviour_semantics.specs.WellFormed.{Every}
use Rattle.behaviour_semantics.proofs.EveryLemmas.{every_front, every_back}
use Rattle.behaviour_semantics.proofs.ListLemmas.{Every-append}
use Rattle.session_laws.specs.TextNames.{IsWordSpelling}
use Rattle.session_laws.proofs.GatheredItems.{all_have}
use Rattle.session_laws.proofs.TokenSpellings.{tokens_spelled}
use Rattle.session_laws.proofs.WrittenNames.{IsBodySpelled, IsItemSpelled, items_spelled, specification_spelled}

-- ---- Texts

pub record IsTreeSpelled (tree : WrittenSpecification) : Type 0 where
  pub items : Every IsItemSpelled (items_of_specification tree)
  pub gates : Every IsWordSpelling (declared_gates tree)

pub tree_spelled : (number : ℕ) (text : List ℕ) (tree : WrittenSpecification) → IsSpecificationReading number text tree
    → IsTreeSpelled tree
tree_spelled number text tree is =
    let parts = specification_spelled text is.1.tokens tree is.1.sentence (tokens_spelled number text is.1.tokens is.1.cut_into) in
    record { items = parts.0; gates = parts.1 }

library_spelled : (number : ℕ) (text : List ℕ) (items : List WrittenItem) → IsTypesReading number text items → Every IsItemSpelled items
library_spelled number text items is =
    items_spelled text is.1.tokens items is.1.sentence (tokens_spelled number text is.1.tokens is.1.cut_into)

-- ---- Declared types

abbrev pub IsTypeSpelled : DeclaredType → Type 0
IsTypeSpelled t = IsBodySpelled t.body

pub types_spelled : (items : List WrittenItem) → Every IsItemSpelled items → Every IsTypeSpelled (types_of items)
types_spelled [] all = tt
types_spelled (libraries place names ∷ items) all = types_spelled items all.1
types_spelled (type_declared place name body ∷ items) all = (all.0, types_spelled items all.1)

pub all_spelled : (tree : WrittenSpecification) (files : List GotFile) (gathered : Gathered) → IsTreeSpelled tree
    → Becomes nothing_yet (map item (items_of_specification tree)) files (all_gathered gathered)
    → Every IsTypeSpelled (types_of gathered.types)
all_spelled tree files gathered is becomes =
    types_spelled gathered.types
    (all_have IsItemSpelled library_spelled (items_of_specification tree) files gathered is.items becomes)

-- ---- The types taken out

mutual
  first_keeps : (first : WrittenInner) (others : WrittenInners) → Every IsWordSpelling (inner_gates first)
      → Every IsWordSpelling (inners_gates others) → Every IsWordSpelling (inners_gates (process_then first others))
  first_keeps (inner_item it) others has have = have
  first_keeps (process heading body inner) others has have =
      Every-append IsWordSpelling (own_gates heading body ++ inners_gates (processes_of inner)) (inners_gates others)
      (Every-append IsWordSpelling (own_gates heading body) (inners_gates (processes_of inner))
      (every_front IsWordSpelling (own_gates heading body) (inners_gates inner) has)
      (inners_keep inner (every_back IsWordSpelling (own_gates heading body) (inners_gates inner) has))) have

  inners_keep : (inners : WrittenInners) → Every IsWordSpelling (inners_gates inners)
      → Every IsWordSpelling (inners_gates (processes_of inners))
  inners_keep no_inner have = tt
  inners_keep (inner_then first others) have =
      first_keeps first (processes_of others) (every_front IsWordSpelling (inner_gates first) (inners_gates others) have)
      (inners_keep others (every_back IsWordSpelling (inner_gates first) (inners_gates others) have))

pub gates_left : (tree : WrittenSpecification) → IsTreeSpelled tree → Every IsWordSpelling (declared_gates (without_items tree))
gates_left tree is =
    let inners = inners_of tree.inner in
    Every-append IsWordSpelling (own_gates tree.heading tree.body) (inners_gates (inners_of (without_items tree).inner))
    (every_front IsWordSpelling (own_gates tree.heading tree.body) (inners_gates inners) is.gates)
    (subst (λ (it : WrittenInners). Every IsWordSpelling (inners_gates it)) (sym (listed-again (processes_of inners)))
    (inners_keep inners (every_back IsWordSpelling (own_gates tree.heading tree.body) (inners_gates inners) is.gates)))
