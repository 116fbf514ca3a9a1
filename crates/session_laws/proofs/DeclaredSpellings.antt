-- All names of an accepted specification have the form of names, those of parameters among them.
use Rattle.std.proofs.Common.{ℕ, List, [], ◌∷◌, ◌++◌, sym, subst}
use Rattle.lotos_base.specs.Equation.{Data, Variable}
use Rattle.lotos_base.specs.WrittenTerm.{WrittenTerm}
use Rattle.syntax_trees.specs.TakenItems.{without_items, processes_of}
use Rattle.syntax_trees.proofs.TakingItems.{listed-again}
use Rattle.syntax_trees.specs.WrittenVariable.{WrittenVariable}
use Rattle.syntax_trees.specs.WrittenBehaviour.{WrittenSign, choice_sign, interleaving, full_synchronisation, synchronising, disabling, enabling, WrittenOffer, offer_value, offer_variable, WrittenBehaviour, stop, exit, call, action, inner_action, guard, hide, let_be, choose_value, choose_gate, par_gate, binary}
use Rattle.syntax_trees.specs.WrittenDefinition.{WrittenInner, WrittenInners, inner_item, process, no_inner, inner_then, inners_of, WrittenSpecification}
use Rattle.behaviour_semantics.specs.Behaviour.{Process, Specification}
use Rattle.behaviour_semantics.specs.WellFormed.{Every}
use Rattle.behaviour_semantics.proofs.ListLemmas.{Every-append}
use Rattle.scope_parts.specs.Numbering.{asked_for, accepted}
use Rattle.scope_parts.specs.Terms.{let_names}
use Rattle.declaration_laws.proofs.NumberLemmas.{declarations_have_the_next_number}
use Rattle.declaration_laws.specs.DeclarationOrder.{declared_variables_in, inner_variables, inners_variables, declared_variables, all_variables_of, Follow, HasVariableNumber}
use Rattle.session_laws.specs.TextNames.{IsWordSpelling}
use Rattle.session_laws.specs.FlatTextLaws.{HasSpecificationNames}
use Rattle.session_laws.specs.BehaviourTextLaws.{IsVariableNamed}
use Rattle.session_laws.specs.PrintedStates.{IsNamedProcess}
use Rattle.session_laws.proofs.AcceptedNames.{gates_of_tree}
use Rattle.session_laws.proofs.AcceptedParts.{StandsOn}
use Rattle.session_laws.proofs.BoundSpellings.{IsNamedSpecification, inners_keep, specification_binds}
use Rattle.session_laws.proofs.GatheredNames.{tree_spelled}
use Rattle.session_laws.proofs.TokenSpellings.{tokens_spelled}
use Rattle.session_laws.proofs.VariableSpellings.{IsVariableSpelled, IsOfferSpelled, IsLetSpelled, DeclaresWords, AreVariablesSpelled, IsInnerNamed, AreInnersNamed, IsTreeNamed, specification_named}

-- ---- What a text declares

in_offers : (offers : List WrittenOffer) → Every IsOfferSpelled offers → Every IsVariableSpelled (asked_for offers)
in_offers [] all = tt
in_offers (offer_value term ∷ offers) all = in_offers offers all.1
in_offers (offer_variable x ∷ offers) all = (all.0, in_offers offers all.1)

in_let : (values : List (WrittenVariable × WrittenTerm)) → Every IsLetSpelled values → Every IsVariableSpelled (let_names values)
in_let [] all = tt
in_let (value ∷ values) all = (all.0, in_let values all.1)

in_sign : (sign : WrittenSign) → DeclaresWords sign → Every IsVariableSpelled (accepted sign)
in_sign choice_sign all = tt
in_sign interleaving all = tt
in_sign full_synchronisation all = tt
in_sign (synchronising gates) all = tt
in_sign disabling all = tt
in_sign (enabling given) all = all

both : (xs ys : List WrittenVariable) → Every IsVariableSpelled xs → Every IsVariableSpelled ys → Every IsVariableSpelled (xs ++ ys)
both xs ys first second = Every-append IsVariableSpelled xs ys first second

in_behaviour : (w : WrittenBehaviour) → AreVariablesSpelled w → Every IsVariableSpelled (declared_variables_in w)
in_behaviour (stop place) all = tt
in_behaviour (exit place values) all = tt
in_behaviour (call place name gates values) all = tt
in_behaviour (action place gate offers test next) all =
    both (asked_for offers) (declared_variables_in next) (in_offers offers all.0) (in_behaviour next all.1)
in_behaviour (inner_action place next) all = in_behaviour next all
in_behaviour (guard place test next) all = in_behaviour next all
in_behaviour (hide place gates inside) all = in_behaviour inside all
in_behaviour (let_be place values inside) all =
    both (let_names values) (declared_variables_in inside) (in_let values all.0) (in_behaviour inside all.1)
in_behaviour (choose_value place given inside) all = both given (declared_variables_in inside) all.0 (in_behaviour inside all.1)
in_behaviour (choose_gate place gates inside) all = in_behaviour inside all
in_behaviour (par_gate place gates sign inside) all = in_behaviour inside all
in_behaviour (binary place sign left right) all =
    both (declared_variables_in left) (accepted sign ++ declared_variables_in right) (in_behaviour left all.0)
    (both (accepted sign) (declared_variables_in right) (in_sign sign all.1) (in_behaviour right all.2))

mutual
  in_inner : (inner : WrittenInner) → IsInnerNamed inner → Every IsVariableSpelled (inner_variables inner)
  in_inner (inner_item item) all = tt
  in_inner (process given body inner) all =
      both (given.parameters ++ declared_variables_in body) (inners_variables inner)
      (both given.parameters (declared_variables_in body) all.3 (in_behaviour body all.1)) (in_inners inner all.2)

  in_inners : (inners : WrittenInners) → AreInnersNamed inners → Every IsVariableSpelled (inners_variables inners)
  in_inners no_inner all = tt
  in_inners (inner_then first others) all =
      both (inner_variables first) (inners_variables others) (in_inner first all.0) (in_inners others all.1)

declared_spelled : (tree : WrittenSpecification) → IsTreeNamed tree → Every IsVariableSpelled (declared_variables (without_items tree))
declared_spelled tree all =
    let inners : WrittenInners = processes_of (inners_of tree.inner) in
    let rest : List WrittenVariable = inners_variables (inners_of (without_items tree).inner) in
    both (tree.heading.parameters ++ declared_variables_in tree.body) rest
    (both tree.heading.parameters (declared_variables_in tree.body) all.parameters (in_behaviour tree.body all.body))
    (subst (λ (ws : WrittenInners). Every IsVariableSpelled (inners_variables ws)) (sym (listed-again inners))
    (in_inners inners (inners_keep (inners_of tree.inner) all.inner)))

-- ---- What it stands for

followed : (next : ℕ) (ws : List WrittenVariable) (xs : List Variable)
    → Follow WrittenVariable Variable HasVariableNumber next ws xs → Every IsVariableSpelled ws → Every IsVariableNamed xs
followed next [] [] follow all = tt
followed next [] (x ∷ xs) follow all = absurd follow
followed next (w ∷ ws) [] follow all = absurd follow
followed next (w ∷ ws) (x ∷ xs) follow all = (
  subst (λ (name : List ℕ). IsWordSpelling name) (sym follow.0.1) all.0,
  followed _ ws xs follow.1 all.1,
)

processes_named : (processes : List Process) → Every IsNamedProcess processes
    → Every (λ (p : Process). IsWordSpelling p.name) processes
processes_named [] all = tt
processes_named (p ∷ processes) all = (all.0.name, processes_named processes all.1)

pub all_named : (data_ : Data) (spec : Specification) → StandsOn data_ spec → HasSpecificationNames spec
all_named data_ spec on =
    let tree : IsTreeNamed on.tree =
    specification_named on.text on.is_text.1.tokens on.tree on.is_text.1.sentence
    (tokens_spelled 0 on.text on.is_text.1.tokens on.is_text.1.cut_into) in
    let named : IsNamedSpecification spec = specification_binds data_.signature on.tree spec on.stands_for tree in
    let ordered = declarations_have_the_next_number data_.signature (without_items on.tree) spec on.stands_for in
    record {
      name = named.name;
      gates = gates_of_tree data_ on.tree spec (tree_spelled 0 on.text on.tree on.is_text) on.stands_for;
      variables =
          followed 0 (declared_variables (without_items on.tree)) (all_variables_of spec) ordered.variables
          (declared_spelled on.tree tree);
      processes = processes_named spec.processes named.processes;
    }
