-- The lists of gates in a text.
use Rattle.std.proofs.Common.{sym, subst, List, [], ◌∷◌}
use Rattle.syntax_trees.specs.WrittenBehaviour.{WrittenGateChoice, WrittenBehaviour, stop, exit, call, action, inner_action, guard, hide, let_be, choose_value, choose_gate, par_gate, binary}
use Rattle.syntax_trees.specs.WrittenDefinition.{WrittenInner, WrittenInners, inner_item, process, no_inner, inner_then, inners_of}
use Rattle.syntax_trees.specs.TakenItems.{process_then as with_process, processes_of}
use Rattle.syntax_trees.specs.ReadableTrees.{AllAre, HasGates, IsReadableBehaviour, IsReadableInner, AreReadableInners}
use Rattle.syntax_trees.proofs.TakingItems.{listed-again}
use Rattle.lotos_rows.proofs.ReadableTexts.{specification_readable}
use Rattle.scope_parts.specs.GateLists.{HaveGates, HasGateLists, InnerHasGateLists, InnersHaveGateLists}
use Rattle.declaration_laws.specs.ReadGateLists.{ReadTextsHaveGateLists, GateListsStay}

-- ---- Texts that were read

choices_have : (gates : List WrittenGateChoice) → AllAre HasGates gates → HaveGates gates
choices_have [] all = tt
choices_have (gate ∷ gates) all = (all.0, choices_have gates all.1)

behaviour_has : (behaviour : WrittenBehaviour) → IsReadableBehaviour behaviour → HasGateLists behaviour
behaviour_has (stop place) is = tt
behaviour_has (exit place values) is = tt
behaviour_has (call place name gates values) is = tt
behaviour_has (action place gate offers test next) is = behaviour_has next is
behaviour_has (inner_action place next) is = behaviour_has next is
behaviour_has (guard place test next) is = behaviour_has next is
behaviour_has (hide place gates inside) is = behaviour_has inside is
behaviour_has (let_be place values inside) is = behaviour_has inside is
behaviour_has (choose_value place variables inside) is = behaviour_has inside is
behaviour_has (choose_gate place gates inside) is = behaviour_has inside is.1
behaviour_has (par_gate place gates sign inside) is = (choices_have gates is.0, behaviour_has inside is.2)
behaviour_has (binary place sign left right) is = (behaviour_has left is.0, behaviour_has right is.1)

mutual
  inner_has : (inner : WrittenInner) → IsReadableInner inner → InnerHasGateLists inner
  inner_has (inner_item item) is = tt
  inner_has (process heading body inner) is = (behaviour_has body is.0, inners_have inner is.1)

  inners_have : (inners : WrittenInners) → AreReadableInners inners → InnersHaveGateLists inners
  inners_have no_inner are = tt
  inners_have (inner_then inner others) are = (inner_has inner are.0, inners_have others are.1)

pub read_texts_have_gate_lists : ReadTextsHaveGateLists
read_texts_have_gate_lists number text tree is =
    let readable = specification_readable is.1.sentence in
    (behaviour_has tree.body readable.1, inners_have (inners_of tree.inner) readable.2)

-- ---- The types taken out

mutual
  first_keeps : (first : WrittenInner) (others : WrittenInners) → InnerHasGateLists first → InnersHaveGateLists others →
      InnersHaveGateLists (with_process first others)
  first_keeps (inner_item item) others has have = have
  first_keeps (process heading body inner) others has have = ((has.0, inners_keep inner has.1), have)

  inners_keep : (inners : WrittenInners) → InnersHaveGateLists inners → InnersHaveGateLists (processes_of inners)
  inners_keep no_inner have = tt
  inners_keep (inner_then first others) have = first_keeps first (processes_of others) have.0 (inners_keep others have.1)

pub gate_lists_stay : GateListsStay
gate_lists_stay tree has = (
  has.0,
  subst (λ (inners : WrittenInners). InnersHaveGateLists inners) (sym (listed-again (processes_of (inners_of tree.inner))))
      (inners_keep (inners_of tree.inner) has.1),
)
