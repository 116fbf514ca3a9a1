use Rattle.std.proofs.Common.{◌++◌, List, map, ap, ◌∙◌}
use Rattle.std.proofs.lemmas.Result.{on_ok_weaker}
use Rattle.sort_terms.specs.SignatureView.{signature_of}
use Rattle.sort_terms.specs.SortedView.{term_in}
use Rattle.sort_terms.specs.declared.sorted.Sorted.{Sorted}
use Rattle.behaviour_tree.specs.BehaviourView.{terms_of}
use Rattle.path_order.specs.RulesView.{plain_rules_in}
use Rattle.value_lists.specs.ListText.{value_list_text}
use Rattle.value_lists.proofs.AnswerLemmas.{values_added, too_many_added}
use Rattle.value_lists.proofs.value_lines.push_values_of.Goals as goal

pub returns-in-Ok : goal.returns-in-Ok
returns-in-Ok c = λ basis name has named.
    on_ok_weaker c.push_values.result
    (λ added.
    values_added basis (signature_of c.args.signature.now) (plain_rules_in c.args.rules.now) has name c.args.size c.args.sort named
    (map term_in c.in-Ok.values.items) c.args.into.now.items c.push_values.new.into.items c.in-Ok.ensures.list c.in-Ok.ensures.few
    (added
    ∙ ap (λ (values : List Sorted).
    c.args.into.now.items ++ value_list_text (signature_of c.args.signature.now) (terms_of values)) c.as_slice.ensures.value))
    c.push_values.ensures

pub returns-in-Err-TooManyValues : goal.returns-in-Err-TooManyValues
returns-in-Err-TooManyValues c = λ basis name has named.
    on_ok_weaker c.push_text.result
    (λ added.
    too_many_added basis (signature_of c.args.signature.now) (plain_rules_in c.args.rules.now) has name c.args.size c.args.sort named
    c.args.into.now.items c.push_text.new.into.items
    (rw c.in-Err-TooManyValues.field-0-is at c.in-Err-TooManyValues.ensures.fault) added)
    c.push_text.ensures
