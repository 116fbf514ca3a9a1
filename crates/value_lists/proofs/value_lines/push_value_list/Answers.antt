-- The name that is read is the one that is given.
use Rattle.std.proofs.Common.{◌∙◌}
use Rattle.std.proofs.lemmas.Result.{on_ok_weaker}
use Rattle.lotos_base.specs.Name.{spelling}
use Rattle.path_order.specs.RulesView.{plain_rules_in}
use Rattle.sort_terms.specs.ReaderView.{signature_read}
use Rattle.sort_terms.specs.SignatureView.{signature_of}
use Rattle.value_lists.proofs.AnswerLemmas.{no_sort_added, sort_there}
use Rattle.value_lists.proofs.value_lines.push_value_list.Goals as goal

pub returns-in-None : goal.returns-in-None
returns-in-None c = λ basis has.
    on_ok_weaker c.push_no_sort.result
    (λ added.
    no_sort_added basis (signature_read c.args.reader.now) (signature_of c.args.signature.now) (plain_rules_in c.args.rules.now)
    (spelling c.of-called.result) c.args.name.now c.args.size c.args.into.now.items c.push_no_sort.new.into.items has c.requires.read
    (c.of-called.ensures ∙ c.in_ok-from_slice.ensures.items) (rw c.in-None.is at c.in_ok-found.ensures) added)
    c.push_no_sort.ensures

pub returns : goal.returns
returns c = λ basis has.
    let there = rw c.in-Some.is at c.in_ok-found.ensures in
    c.push_values_of.ensures basis c.args.name.now has
    (sort_there (signature_read c.args.reader.now) (signature_of c.args.signature.now) (spelling c.of-called.result) c.args.name.now
    c.in-Some.sort c.requires.read (c.of-called.ensures ∙ c.in_ok-from_slice.ensures.items) there.0)
