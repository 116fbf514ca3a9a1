-- The lists of a tree that no text leaves empty, besides those of gates of `choice` and `par`: names of `hide`, bindings of `let`, and
-- the offers before a predicate.
use Rattle.std.specs.Prelude.{◌≡◌, ◌≢◌, ◌⊎◌, ℕ, List, [], None}
use Rattle.lotos_lexer.specs.declared.tokens.Token.{Token}
use Rattle.lotos_base.specs.Signature.{Signature}
use Rattle.lotos_rows.specs.Starts.{IsWrittenSpecification}
use Rattle.syntax_trees.specs.TakenItems.{without_items}
use Rattle.syntax_trees.specs.ReadableTrees.{IsReadableBehaviour, AreReadableInners}
use Rattle.syntax_trees.specs.WrittenBehaviour.{WrittenBehaviour, stop, exit, call, action, inner_action, guard, hide, let_be, choose_value, choose_gate, par_gate, binary}
use Rattle.syntax_trees.specs.WrittenDefinition.{WrittenInner, WrittenInners, inner_item, process, no_inner, inner_then, inners_of, WrittenSpecification}
use Rattle.behaviour_semantics.specs.Behaviour.{Specification}
use Rattle.scope_parts.specs.Resolution.{resolved}
use Rattle.scope_parts.specs.Definitions.{SpecificationIs}
use Rattle.session_laws.specs.FlatWords.{HaveTextForms}

abbrev pub HasFullLists : WrittenBehaviour → Type 0
HasFullLists (stop place) = Unit {0}
HasFullLists (exit place values) = Unit {0}
HasFullLists (call place name gates values) = Unit {0}
HasFullLists (action place gate offers test next) = ((test ≡ None) ⊎ (offers ≢ [])) × HasFullLists next
HasFullLists (inner_action place next) = HasFullLists next
HasFullLists (guard place test next) = HasFullLists next
HasFullLists (hide place gates inside) = (gates ≢ []) × HasFullLists inside
HasFullLists (let_be place values inside) = (values ≢ []) × HasFullLists inside
HasFullLists (choose_value place variables inside) = HasFullLists inside
HasFullLists (choose_gate place gates inside) = HasFullLists inside
HasFullLists (par_gate place gates sign inside) = HasFullLists inside
HasFullLists (binary place sign left right) = HasFullLists left × HasFullLists right

abbrev mutual
  pub InnerHasFullLists : WrittenInner → Type 0
  InnerHasFullLists (inner_item item) = Unit {0}
  InnerHasFullLists (process heading body inner) = HasFullLists body × InnersHaveFullLists inner

  pub InnersHaveFullLists : WrittenInners → Type 0
  InnersHaveFullLists no_inner = Unit {0}
  InnersHaveFullLists (inner_then inner others) = InnerHasFullLists inner × InnersHaveFullLists others

-- the lists of a tree that was read, those of gates among them
pub record HasTextLists (tree : WrittenSpecification) : Type 0 where
  pub body : HasFullLists tree.body
  pub inner : InnersHaveFullLists (inners_of tree.inner)
  pub body_gates : IsReadableBehaviour tree.body
  pub inner_gates : AreReadableInners (inners_of tree.inner)

-- the tree of a text has them
abbrev pub ReadTextsHaveTextLists : Type 0
ReadTextsHaveTextLists = (text : List ℕ) (tokens : List Token) (tree : WrittenSpecification)
    → IsWrittenSpecification text tokens tree → HasTextLists tree

-- and what such a tree stands for has the form that texts give it
abbrev pub TextListsGiveTextForms : Type 0
TextListsGiveTextForms = (signature : Signature) (tree : WrittenSpecification) (specification : Specification)
    → HasTextLists tree → SpecificationIs signature tree (resolved specification) → HaveTextForms specification

-- it has them still where the types are taken out of the tree
abbrev pub TextListsStay : Type 0
TextListsStay = (tree : WrittenSpecification) → HasTextLists tree → HasTextLists (without_items tree)
