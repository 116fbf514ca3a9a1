-- The trees of texts have no empty lists where texts have none.
use Rattle.std.proofs.Common.{inl, inr, ℕ, List, [], ◌∷◌, ◌++◌, map, refl, subst}
use Rattle.std.specs.Prelude.{◌≢◌}
use Rattle.lotos_base.specs.WrittenTerm.{PlacedName}
use Rattle.lotos_lexer.specs.declared.tokens.Token.{Token}
use Rattle.syntax_trees.specs.WrittenBehaviour.{WrittenOffer, offer_variable, WrittenBehaviour}
use Rattle.syntax_trees.specs.WrittenDefinition.{WrittenInner, inners_of, WrittenSpecification}
use Rattle.syntax_trees.specs.Strength.{PlacedSign, strength_of, joined_by_sign}
use Rattle.syntax_trees.specs.Grouping.{IsGrouped, alone, split}
use Rattle.syntax_trees.specs.ReadableTrees.{AllAre}
use Rattle.lotos_rows.proofs.ReadableTexts.{specification_readable}
use Rattle.lotos_rows.specs.Words.{Separated, last, before_more}
use Rattle.lotos_rows.specs.Names.{variables_of_sort}
use Rattle.lotos_rows.specs.Behaviours.{IsWrittenOffer, giving, asking, before_first, AreOperands, hiding, letting, choosing_values, choosing_gates, parallel_over_gates, inner_prefix, guarding, acting, offering, last_operand, before_sign, IsAtom, stopping, exiting, calling, in_brackets, IsBehaviourText, grouped_operands}
use Rattle.lotos_rows.specs.Definitions.{IsProcess, a_process, IsWhere, no_where, a_where, AreInner, no_more_inner, item_then, process_then}
use Rattle.lotos_rows.specs.Starts.{IsWrittenSpecification, a_specification}
use Rattle.session_laws.specs.FullLists.{HasFullLists, InnerHasFullLists, InnersHaveFullLists, ReadTextsHaveTextLists}

-- ---- Lists with members

abbrev IsFull : {X : Type 0} → List X → Type 0
IsFull [] = ⊥
IsFull (x ∷ xs) = Unit {0}

pub has_member : {X : Type 0} (x : X) (xs : List X) → (x ∷ xs) ≢ []
has_member {X} x xs same = subst (λ (l : List X). IsFull l) same tt

full_separated : {X : Type 0} {separator : ℕ} {one : List Token → X → Type 0} {tokens : List Token} {xs : List X}
    → Separated separator one tokens xs → xs ≢ []
full_separated (last {value = x} is) = has_member x []
full_separated (before_more {value = x} {values = xs} is sign rest) = has_member x xs

full_asked : (names : List PlacedName) (sort : PlacedName) → names ≢ [] → map offer_variable (variables_of_sort names sort) ≢ []
full_asked [] sort some = absurd (some refl)
full_asked (name ∷ names) sort some = has_member _ _

full_offer : {text : List ℕ} {tokens : List Token} {offers : List WrittenOffer} → IsWrittenOffer text tokens offers → offers ≢ []
full_offer (giving mark is) = has_member _ _
full_offer (asking {names = names} mark are colon sort) = full_asked names _ (full_separated are)

full_joined : {X : Type 0} (first second : List X) → first ≢ [] → first ++ second ≢ []
full_joined [] second some = absurd (some refl)
full_joined (x ∷ first) second some = has_member x (first ++ second)

-- ---- Behaviours

lists_first : (first second : List WrittenBehaviour) → AllAre HasFullLists (first ++ second) → AllAre HasFullLists first
lists_first [] second all = tt
lists_first (b ∷ first) second all = (all.0, lists_first first second all.1)

lists_second : (first second : List WrittenBehaviour) → AllAre HasFullLists (first ++ second) → AllAre HasFullLists second
lists_second [] second all = all
lists_second (b ∷ first) second all = lists_second first second all.1

grouped_full : {operands : List WrittenBehaviour} {signs : List PlacedSign} {behaviour : WrittenBehaviour}
    → IsGrouped strength_of joined_by_sign operands signs behaviour → AllAre HasFullLists operands → HasFullLists behaviour
grouped_full alone all = all.0
grouped_full (split {operands = operands} {others = others} before after left right) all =
    (grouped_full left (lists_first operands others all), grouped_full right (lists_second operands others all))

prefix_full : (prefix : WrittenBehaviour → WrittenBehaviour) (operands : List WrittenBehaviour)
    → ((b : WrittenBehaviour) → HasFullLists b → HasFullLists (prefix b)) → AllAre HasFullLists operands
    → AllAre HasFullLists (before_first prefix operands)
prefix_full prefix [] keeps all = tt
prefix_full prefix (first ∷ others) keeps all = (keeps first all.0, all.1)

mutual
  operands_full : {text : List ℕ} {tokens : List Token} {operands : List WrittenBehaviour} {signs : List PlacedSign}
      → AreOperands text tokens operands signs → AllAre HasFullLists operands
  operands_full (hiding word names in_ inside) = ((full_separated names, behaviour_full inside), tt)
  operands_full (letting word values in_ inside) = ((full_separated values, behaviour_full inside), tt)
  operands_full (choosing_values word chosen sign inside) = (behaviour_full inside, tt)
  operands_full (choosing_gates word gates sign inside) = (behaviour_full inside, tt)
  operands_full (parallel_over_gates word gates sign inside) = (behaviour_full inside, tt)
  operands_full (inner_prefix {operands = operands} word semicolon rest) = prefix_full _ operands (λ b has. has) (operands_full rest)
  operands_full (guarding {operands = operands} left test right arrow rest) =
      prefix_full _ operands (λ b has. has) (operands_full rest)
  operands_full (acting {operands = operands} gate semicolon rest) =
      prefix_full _ operands (λ b has. (inl refl, has)) (operands_full rest)
  operands_full (offering {first = first_offers} {operands = operands} gate first offers test semicolon rest) =
      prefix_full _ operands (λ b has. (inr (full_joined first_offers _ (full_offer first)), has)) (operands_full rest)
  operands_full (last_operand atom) = (atom_full atom, tt)
  operands_full (before_sign atom sign rest) = (atom_full atom, operands_full rest)

  atom_full : {text : List ℕ} {tokens : List Token} {operand : WrittenBehaviour} → IsAtom text tokens operand → HasFullLists operand
  atom_full (stopping word) = tt
  atom_full (exiting word values) = tt
  atom_full (calling name gates values) = tt
  atom_full (in_brackets left inside right) = behaviour_full inside

  behaviour_full : {text : List ℕ} {tokens : List Token} {behaviour : WrittenBehaviour} → IsBehaviourText text tokens behaviour
      → HasFullLists behaviour
  behaviour_full (grouped_operands operands grouped) = grouped_full grouped (operands_full operands)

-- ---- Definitions

mutual
  process_full : {text : List ℕ} {tokens : List Token} {inner : WrittenInner} → IsProcess text tokens inner → InnerHasFullLists inner
  process_full (a_process word head sign body inner end) = (behaviour_full body, where_full inner)

  where_full : {text : List ℕ} {tokens : List Token} {inner : List WrittenInner} → IsWhere text tokens inner
      → InnersHaveFullLists (inners_of inner)
  where_full no_where = tt
  where_full (a_where word inner) = inner_full inner

  inner_full : {text : List ℕ} {tokens : List Token} {inner : List WrittenInner} → AreInner text tokens inner
      → InnersHaveFullLists (inners_of inner)
  inner_full no_more_inner = tt
  inner_full (item_then item rest) = (tt, inner_full rest)
  inner_full (process_then definition rest) = (process_full definition, inner_full rest)

specification_full : {text : List ℕ} {tokens : List Token} {tree : WrittenSpecification} → IsWrittenSpecification text tokens tree
    → HasFullLists tree.body × InnersHaveFullLists (inners_of tree.inner)
specification_full (a_specification word head items behaviour body inner end) = (behaviour_full body, where_full inner)

pub read_texts_have_text_lists : ReadTextsHaveTextLists
read_texts_have_text_lists text tokens tree is =
    let lists = specification_full is in
    let readable = specification_readable is in
    record { body = lists.0; inner = lists.1; body_gates = readable.1; inner_gates = readable.2 }
