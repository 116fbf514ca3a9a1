-- The law of how deep the behaviours of a text that is written flatly are nested.
use Rattle.std.specs.Prelude.{◌≡◌, ℕ, List, ◌++◌, None}
use Rattle.lotos_base.specs.Signature.{Signature}
use Rattle.syntax_trees.specs.Depth.{TreeNode, behaviour_nodes, nodes_of_inners, first_deeper}
use Rattle.syntax_trees.specs.WrittenDefinition.{inners_of, WrittenSpecification}
use Rattle.behaviour_semantics.specs.Behaviour.{Specification}
use Rattle.printed_texts.specs.BehaviourText.{Naming}
use Rattle.scope_parts.specs.Resolution.{resolved}
use Rattle.scope_parts.specs.Definitions.{SpecificationIs}
use Rattle.session_laws.specs.WrittenSpecifications.{IsFlatlyWritten}

-- the nodes of the behaviour of a text, and of what its `where` declares
abbrev pub nodes_of_definitions : WrittenSpecification → List TreeNode
nodes_of_definitions text = behaviour_nodes 1 text.body ++ nodes_of_inners (inners_of text.inner)

-- Where no node of a text is deeper than a limit, none is so in the text that is written flatly: the nodes of the two belong together,
-- each as deep as the other, but that an implied `true` is left out.
abbrev pub FlatTextsAreNoDeeper : Type 0
FlatTextsAreNoDeeper = (signature : Signature) (naming : Naming) (text flat : WrittenSpecification) (specification : Specification)
    (limit : ℕ)
    → SpecificationIs signature text (resolved specification)
    → IsFlatlyWritten naming specification flat
    → first_deeper limit (nodes_of_definitions text) ≡ None
    → first_deeper limit (nodes_of_definitions flat) ≡ None
