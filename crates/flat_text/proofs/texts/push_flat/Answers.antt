use Rattle.std.proofs.Common.{◌++◌, List, ℕ, map, ap, ◌∙◌}
use Rattle.std.proofs.lemmas.Result.{on_ok_weaker}
use Rattle.lotos_base.specs.Signature.{Operation}
use Rattle.behaviour_tree.specs.DefinitionView.{specification_of}
use Rattle.sort_terms.specs.EquationView.{data_of}
use Rattle.sort_terms.specs.Operations.{operation_of}
use Rattle.sort_terms.specs.declared.operations.Op.{Op}
use Rattle.flat_text.specs.EquationNames.{free_names}
use Rattle.flat_text.specs.FlatText.{text_with}
use Rattle.flat_text.proofs.LongerNames.{names_serve}
use Rattle.flat_text.proofs.texts.push_flat.Goals as goal

pub push_named-requires-clause-names : goal.push_named-requires-clause-names
push_named-requires-clause-names c =
    names_serve c.args.flat.now c.in_ok-names.names.items c.most_variables.result
    (c.in_ok-names.ensures
    ∙ ap (λ (ops : List Op). free_names (map (λ (o : Operation). o.name) (map operation_of ops)) c.most_variables.result 1) c.ops.ensures)
    c.most_variables.ensures

pub returns : goal.returns
returns c =
    on_ok_weaker c.push_named.result
    (λ h. h ∙ ap (λ (given : List (List ℕ)). c.args.into.now.items
    ++ text_with (data_of c.args.flat.now) (specification_of c.args.spec.now) given) c.in_ok-given.ensures)
    c.push_named.ensures
