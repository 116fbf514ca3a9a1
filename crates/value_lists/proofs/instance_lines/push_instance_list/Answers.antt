use Rattle.std.proofs.Common.{◌++◌, ◌∙◌, inl}
use Rattle.std.proofs.lemmas.Result.{on_ok_weaker}
use Rattle.event_offers.specs.OfferView.{plain_entry}
use Rattle.value_lists.specs.InstanceList.{term_lists_of}
use Rattle.value_lists.specs.ListText.{instance_list_text}
use Rattle.value_lists.specs.ListView.{printing_with}
use Rattle.value_lists.proofs.AnswerLemmas.{instances_added, ways_added}
use Rattle.value_lists.proofs.instance_lines.push_instance_list.Goals as goal

pub instances_of-requires-clause-tested : goal.instances_of-requires-clause-tested
instances_of-requires-clause-tested g c = inl c.requires.sides

pub returns-in-Ok-clause-added : goal.returns-in-Ok-clause-added
returns-in-Ok-clause-added g c = λ basis menu size is at has.
    on_ok_weaker c.push_instances.result
    (λ added.
    instances_added basis (g.D.Deciding.known_data c.args.decider.now) (g.D.Deciding.canon c.args.decider.now) c.args.gates.now is menu
    c.args.number size c.args.entry.now (term_lists_of c.args.choices.now) at has c.args.signature.now (term_lists_of c.in-Ok.tuples.items)
    c.args.into.now.items c.push_instances.new.into.items c.requires.shown c.in-Ok.ensures.instances
    c.in-Ok.ensures.few
    (added
    ∙ (λ i. c.args.into.now.items
    ++ instance_list_text (printing_with c.args.signature.now c.args.gates.now (c.in-Ok.ensures.same_known.same_canon i))
    c.args.number (plain_entry c.args.entry.now) (term_lists_of (c.as_slice.ensures.value i)))))
    c.push_instances.ensures.added

pub returns-in-Err-TooManyInstances-clause-added : goal.returns-in-Err-TooManyInstances-clause-added
returns-in-Err-TooManyInstances-clause-added g c = λ basis menu size is at has.
    on_ok_weaker c.push_text.result
    (λ added.
    ways_added basis (g.D.Deciding.known_data c.args.decider.now) (g.D.Deciding.canon c.args.decider.now) c.args.gates.now is menu
    c.args.number size c.args.entry.now (term_lists_of c.args.choices.now) at has c.args.into.now.items c.push_text.new.into.items
    (rw c.in-Err-TooManyInstances.field-0-is at c.in-Err-TooManyInstances.ensures.fault) added)
    c.push_text.ensures
