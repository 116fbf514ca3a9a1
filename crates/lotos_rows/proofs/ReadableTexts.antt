-- The trees of texts: the signs of a `par` are parallel, lists of gates have a gate, and arrows stand with premisses.
use Rattle.std.proofs.Common.{◌≡◌, ℕ, List, [], ◌∷◌, ◌++◌, flat_map, refl, subst}
use Rattle.lotos_base.specs.WrittenTerm.{PlacedName}
use Rattle.lotos_lexer.specs.declared.kinds.TheConstants.{COMMA}
use Rattle.lotos_lexer.specs.declared.tokens.Token.{Token}
use Rattle.syntax_trees.specs.WrittenEquation.{WrittenPremiss, WrittenEquation, WrittenGroup, WrittenEquations}
use Rattle.syntax_trees.specs.WrittenItem.{WrittenSections, WrittenTypeBody, WrittenItem}
use Rattle.syntax_trees.specs.WrittenBehaviour.{WrittenGateChoice, WrittenBehaviour}
use Rattle.syntax_trees.specs.WrittenDefinition.{WrittenInner, inners_of, WrittenSpecification}
use Rattle.syntax_trees.specs.Strength.{PlacedSign, strength_of, joined_by_sign}
use Rattle.syntax_trees.specs.Grouping.{IsGrouped, alone, split}
use Rattle.syntax_trees.specs.ReadableTrees.{AllAre, IsParallel, HasGates, IsReadableBehaviour, HasArrowForPremisses, IsReadableGroup, AreReadableEquations, IsReadableTypeBody, IsReadableItem, AreReadableItems, IsReadableInner, AreReadableInners, IsReadableSpecification}
use Rattle.lotos_rows.specs.Words.{Optional, left_out, there, Many, no_more, and_then, Separated, last, before_more, Behind, behind, between}
use Rattle.lotos_rows.specs.Names.{AreNames, AreWrittenGates}
use Rattle.lotos_rows.specs.Equations.{IsPremiss, IsWrittenEquation, without_premisses, with_premisses, IsEquationList, last_equation, ended_equation, more_equations, IsEquationGroup, group_of_sort, AreEquations, equations}
use Rattle.lotos_rows.specs.Types.{no_equations, AreSections, sections, IsTypeBody, renaming, actualising, extending, extending_nothing, IsItem, a_library, a_type}
use Rattle.lotos_rows.specs.Behaviours.{gate_choices_among, AreGateChoicesAmong, among, AreGateChoices, gate_choices, IsParallelSign, sign_interleaving, sign_full, sign_gates, before_first, AreOperands, hiding, letting, choosing_values, choosing_gates, parallel_over_gates, inner_prefix, guarding, acting, offering, last_operand, before_sign, IsAtom, stopping, exiting, calling, in_brackets, IsBehaviourText, grouped_operands}
use Rattle.lotos_rows.specs.Definitions.{IsProcess, a_process, IsWhere, no_where, a_where, AreInner, no_more_inner, item_then, process_then}
use Rattle.lotos_rows.specs.Starts.{AreItems, IsWrittenSpecification, a_specification}

-- ---- Lists

abbrev IsFull : {X : Type 0} → List X → Type 0
IsFull [] = ⊥
IsFull (x ∷ xs) = Unit {0}

full : {X : Type 0} (x : X) (xs : List X) → (x ∷ xs) ≡ [] → ⊥
full {X} x xs e = subst (λ (l : List X). IsFull l) e tt

all_joined : {X : Type 0} (P : X → Type 0) (first second : List X) → AllAre P first → AllAre P second → AllAre P (first ++ second)
all_joined P [] second h k = k
all_joined P (x ∷ first) second h k = (h.0, all_joined P first second h.1 k)

all_first : {X : Type 0} (P : X → Type 0) (first second : List X) → AllAre P (first ++ second) → AllAre P first
all_first P [] second h = tt
all_first P (x ∷ first) second h = (h.0, all_first P first second h.1)

all_second : {X : Type 0} (P : X → Type 0) (first second : List X) → AllAre P (first ++ second) → AllAre P second
all_second P [] second h = h
all_second P (x ∷ first) second h = all_second P first second h.1

-- ---- Equations

premisses_there : {text : List ℕ} {tokens : List Token} {premisses : List WrittenPremiss}
    → Separated COMMA (IsPremiss text) tokens premisses → premisses ≡ [] → ⊥
premisses_there (last {value = premiss} is) e = full premiss [] e
premisses_there (before_more {value = premiss} {values = premisses} is comma rest) e = full premiss premisses e

equation_has : {text : List ℕ} {tokens : List Token} {equation : WrittenEquation} → IsWrittenEquation text tokens equation
    → HasArrowForPremisses equation
equation_has (without_premisses left sign right) = ((λ e. refl), (λ e. refl))
equation_has (with_premisses premisses arrow left sign right) = ((λ e. absurd (cc e)), (λ e. absurd (premisses_there premisses e)))

list_has : {text : List ℕ} {tokens : List Token} {equations : List WrittenEquation} → IsEquationList text tokens equations
    → AllAre HasArrowForPremisses equations
list_has (last_equation is) = (equation_has is, tt)
list_has (ended_equation is semicolon) = (equation_has is, tt)
list_has (more_equations is semicolon rest) = (equation_has is, list_has rest)

optional_has : {text : List ℕ} {tokens : List Token} {equations : List WrittenEquation} → Optional [] (IsEquationList text) tokens equations
    → AllAre HasArrowForPremisses equations
optional_has left_out = tt
optional_has (there is) = list_has is

group_has : {text : List ℕ} {tokens : List Token} {group : WrittenGroup} → IsEquationGroup text tokens group → IsReadableGroup group
group_has (group_of_sort word sort variables list) = optional_has list

groups_have : {text : List ℕ} {tokens : List Token} {groups : List WrittenGroup} → Many (IsEquationGroup text) tokens groups
    → AllAre IsReadableGroup groups
groups_have no_more = tt
groups_have (and_then is rest) = (group_has is, groups_have rest)

section_has : {text : List ℕ} {tokens : List Token} {section : WrittenEquations} → AreEquations text tokens section
    → AreReadableEquations section
section_has (equations variables groups) = groups_have groups

optional_section : {word : ℕ} {text : List ℕ} {tokens : List Token} {section : WrittenEquations}
    → Optional no_equations (Behind word (AreEquations text)) tokens section → AreReadableEquations section
optional_section left_out = tt
optional_section (there (behind word is)) = section_has is

-- ---- Items

sections_have : {text : List ℕ} {tokens : List Token} {all : WrittenSections} → AreSections text tokens all
    → AreReadableEquations all.formal_equations × AreReadableEquations all.equations
sections_have (sections formal_sorts formal_operations formal_section sorts operations section) =
    (optional_section formal_section, optional_section section)

body_has : {text : List ℕ} {tokens : List Token} {body : WrittenTypeBody} → IsTypeBody text tokens body → IsReadableTypeBody body
body_has (renaming base word pairs) = tt
body_has (actualising base word actuals using pairs) = tt
body_has (extending imports all) = sections_have all
body_has (extending_nothing all) = sections_have all

item_has : {text : List ℕ} {tokens : List Token} {item : WrittenItem} → IsItem text tokens item → IsReadableItem item
item_has (a_library word names end) = tt
item_has (a_type word name is body end) = body_has body

pub items_readable : {text : List ℕ} {tokens : List Token} {items : List WrittenItem} → AreItems text tokens items → AreReadableItems items
items_readable no_more = tt
items_readable (and_then is rest) = (item_has is, items_readable rest)

-- ---- Lists of gates, and signs

names_there : {text : List ℕ} {tokens : List Token} {names : List PlacedName} → AreNames text tokens names → names ≡ [] → ⊥
names_there (last {value = name} is) e = full name [] e
names_there (before_more {value = name} {values = names} is comma rest) e = full name names e

gates_there : {text : List ℕ} {tokens : List Token} {gates : List PlacedName} → AreWrittenGates text tokens gates → gates ≡ [] → ⊥
gates_there (between left names right) = names_there names

choices_have : (names gates : List PlacedName) → (gates ≡ [] → ⊥) → AllAre HasGates (gate_choices_among names gates)
choices_have [] gates full = tt
choices_have (name ∷ names) gates full = (full, choices_have names gates full)

among_have : {text : List ℕ} {tokens : List Token} {choices : List WrittenGateChoice} → AreGateChoicesAmong text tokens choices
    → AllAre HasGates choices
among_have (among {names = names} {gates = gates} are word is) = choices_have names gates (gates_there is)

all_among : {text : List ℕ} {tokens : List Token} {groups : List (List WrittenGateChoice)}
    → Separated COMMA (AreGateChoicesAmong text) tokens groups
    → AllAre HasGates (flat_map (λ (group : List WrittenGateChoice). group) groups)
all_among (last {value = group} is) = all_joined HasGates group [] (among_have is) tt
all_among (before_more {value = group} {values = groups} is comma rest) =
    all_joined HasGates group (flat_map (λ (g : List WrittenGateChoice). g) groups) (among_have is) (all_among rest)

gates_have : {text : List ℕ} {tokens : List Token} {choices : List WrittenGateChoice} → AreGateChoices text tokens choices
    → AllAre HasGates choices
gates_have (gate_choices groups) = all_among groups

sign_is : {text : List ℕ} {tokens : List Token} {sign : PlacedSign} → IsParallelSign text tokens sign → IsParallel sign.sign
sign_is (sign_interleaving sign) = tt
sign_is (sign_full sign) = tt
sign_is (sign_gates left gates right) = tt

-- ---- Behaviours

grouped_has : {operands : List WrittenBehaviour} {signs : List PlacedSign} {behaviour : WrittenBehaviour}
    → IsGrouped strength_of joined_by_sign operands signs behaviour → AllAre IsReadableBehaviour operands → IsReadableBehaviour behaviour
grouped_has alone all = all.0
grouped_has (split {operands = operands} {others = others} before after left right) all = (
  grouped_has left (all_first IsReadableBehaviour operands others all),
  grouped_has right (all_second IsReadableBehaviour operands others all),
)

first_has : (prefix : WrittenBehaviour → WrittenBehaviour) (operands : List WrittenBehaviour)
    → ((b : WrittenBehaviour) → IsReadableBehaviour b → IsReadableBehaviour (prefix b)) → AllAre IsReadableBehaviour operands
    → AllAre IsReadableBehaviour (before_first prefix operands)
first_has prefix [] keeps all = tt
first_has prefix (first ∷ others) keeps all = (keeps first all.0, all.1)

mutual
  operands_have : {text : List ℕ} {tokens : List Token} {operands : List WrittenBehaviour} {signs : List PlacedSign}
      → AreOperands text tokens operands signs → AllAre IsReadableBehaviour operands
  operands_have (hiding word names in_ inside) = (behaviour_has inside, tt)
  operands_have (letting word values in_ inside) = (behaviour_has inside, tt)
  operands_have (choosing_values word chosen sign inside) = (behaviour_has inside, tt)
  operands_have (choosing_gates word gates sign inside) = ((gates_have gates, behaviour_has inside), tt)
  operands_have (parallel_over_gates word gates sign inside) = ((gates_have gates, sign_is sign, behaviour_has inside), tt)
  operands_have (inner_prefix {operands = operands} word semicolon rest) = first_has _ operands (λ b has. has) (operands_have rest)
  operands_have (guarding {operands = operands} left test right arrow rest) = first_has _ operands (λ b has. has) (operands_have rest)
  operands_have (acting {operands = operands} gate semicolon rest) = first_has _ operands (λ b has. has) (operands_have rest)
  operands_have (offering {operands = operands} gate first offers test semicolon rest) =
      first_has _ operands (λ b has. has) (operands_have rest)
  operands_have (last_operand atom) = (atom_has atom, tt)
  operands_have (before_sign atom sign rest) = (atom_has atom, operands_have rest)

  atom_has : {text : List ℕ} {tokens : List Token} {operand : WrittenBehaviour} → IsAtom text tokens operand → IsReadableBehaviour operand
  atom_has (stopping word) = tt
  atom_has (exiting word values) = tt
  atom_has (calling name gates values) = tt
  atom_has (in_brackets left inside right) = behaviour_has inside

  behaviour_has : {text : List ℕ} {tokens : List Token} {behaviour : WrittenBehaviour} → IsBehaviourText text tokens behaviour
      → IsReadableBehaviour behaviour
  behaviour_has (grouped_operands operands grouped) = grouped_has grouped (operands_have operands)

-- ---- Definitions

mutual
  process_has : {text : List ℕ} {tokens : List Token} {inner : WrittenInner} → IsProcess text tokens inner → IsReadableInner inner
  process_has (a_process word head sign body inner end) = (behaviour_has body, where_has inner)

  where_has : {text : List ℕ} {tokens : List Token} {inner : List WrittenInner} → IsWhere text tokens inner
      → AreReadableInners (inners_of inner)
  where_has no_where = tt
  where_has (a_where word inner) = inner_have inner

  inner_have : {text : List ℕ} {tokens : List Token} {inner : List WrittenInner} → AreInner text tokens inner
      → AreReadableInners (inners_of inner)
  inner_have no_more_inner = tt
  inner_have (item_then item rest) = (item_has item, inner_have rest)
  inner_have (process_then definition rest) = (process_has definition, inner_have rest)

pub specification_readable : {text : List ℕ} {tokens : List Token} {tree : WrittenSpecification} → IsWrittenSpecification text tokens tree
    → IsReadableSpecification tree
specification_readable (a_specification word head items behaviour body inner end) =
    (items_readable items, behaviour_has body, where_has inner)
