use Rattle.std.proofs.Common.{◌++◌, List, ℕ, length, map, ap, sym, ◌∙◌}
use Rattle.std.specs.Prelude.{true}
use Rattle.std.proofs.lemmas.List.{length-map}
use Rattle.std.proofs.lemmas.Result.{on_ok_weaker}
use Rattle.lotos_base.proofs.Pieces.{two_pieces}
use Rattle.report_text.proofs.HandedOn.{closed_text, filled_list}
use Rattle.behaviour_tree.specs.BehaviourView.{variables_of}
use Rattle.report_text.specs.NamingView.{naming_of}
use Rattle.sort_terms.specs.EquationView.{variable_of}
use Rattle.flat_text.proofs.FilledLists.{parameters_filled}
use Rattle.flat_text.proofs.headings.push_parameters.Goals as goal

pub returns : goal.returns
returns c =
    on_ok_weaker c.close_bracket.result
    (λ h. two_pieces c.args.into.now.items _ _ _ _ c.in_ok-push_text.ensures
    (closed_text true c.push_text.new.into.items _ _ _ _ _ c.in_ok-position.ensures.opened c.in_ok-position.ensures.place
    c.in_ok-push_sorted_variables.ensures h)
    ∙ ap (λ (text : List ℕ). c.args.into.now.items ++ text)
    (sym (parameters_filled (naming_of c.args.naming.now) (variables_of c.args.parameters.now.items)
    (λ none. filled_list c.args.parameters.now.items _ c.args.parameters.now.ok.0 (sym c.is_empty.ensures ∙ c.if-is_empty.false)
    (sym (length-map c.args.parameters.now.items variable_of) ∙ none)))))
    c.close_bracket.ensures
