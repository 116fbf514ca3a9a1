use Rattle.std.proofs.Common.{List, Vec, Global, map, ap, refl, subst, sym}
use Rattle.std.proofs.lemmas.Result.{on_ok_weaker}
use Rattle.lotos_base.specs.Name.{spelling}
use Rattle.session_log.specs.HandedOn.{plain_entry, book_canon, book_sided, plain_rules_in}
use Rattle.session_log.specs.CourseView.{basis_over}
use Rattle.sort_terms.specs.EquationView.{data_of}
use Rattle.sort_terms.specs.SignatureView.{signature_of}
use Rattle.sort_terms.specs.declared.sorted.Sorted.{Sorted}
use Rattle.value_lists.specs.InstanceList.{term_lists_of}
use Rattle.value_lists.specs.ListView.{HasChoices, HasRules}
use Rattle.value_lists.proofs.AnswerLemmas.{has_choices, more_there}
use Rattle.history_lines.proofs.ListingLemmas.{book_rules, too_many_added}
use Rattle.history_lines.proofs.listing.push_instances_of.Goals as goal

pub push_instance_list-requires-clause-sides : goal.push_instance_list-requires-clause-sides
push_instance_list-requires-clause-sides c = book_sided c.args.book.now

pub returns-in-Ok-clause-added : goal.returns-in-Ok-clause-added
returns-in-Ok-clause-added c = λ menu at.
    let basis = basis_over (data_of c.args.book.now.flat) (book_canon c.args.book.now) c.args.spec.now in
    let signature = signature_of c.args.signature.now in
    let rules : HasRules basis signature (plain_rules_in c.rules.result.now) =
    subst (λ it. HasRules basis signature (plain_rules_in it)) (sym c.rules.ensures)
    (book_rules c.args.book.now c.args.spec.now signature c.requires.shown) in
    c.push_instance_list.ensures.added basis menu c.args.size
    (record { same_data = refl; same_canon = refl; named = ap (map spelling) c.as_slice.ensures.value }) at
    (subst (λ (lists : List (Vec Sorted Global)). HasChoices basis (plain_entry c.args.entry.now) c.args.size (term_lists_of lists))
    (sym c.as_slice-in-Ok.ensures.value)
    (has_choices basis signature (plain_rules_in c.rules.result.now) rules (plain_entry c.args.entry.now) c.args.size
    (term_lists_of c.in-Ok.choices.items) c.in-Ok.ensures.lists c.in-Ok.ensures.few))

pub returns-in-Err-TooManyValues-clause-added : goal.returns-in-Err-TooManyValues-clause-added
returns-in-Err-TooManyValues-clause-added c = λ menu at.
    let basis = basis_over (data_of c.args.book.now.flat) (book_canon c.args.book.now) c.args.spec.now in
    let signature = signature_of c.args.signature.now in
    let rules : HasRules basis signature (plain_rules_in c.rules.result.now) =
    subst (λ it. HasRules basis signature (plain_rules_in it)) (sym c.rules.ensures)
    (book_rules c.args.book.now c.args.spec.now signature c.requires.shown) in
    let more = rw c.in-Err-TooManyValues.field-0-is at c.in-Err-TooManyValues.ensures.fault in
    on_ok_weaker c.push_text.result
    (λ added.
    too_many_added basis menu c.args.number c.args.size (plain_entry c.args.entry.now) c.args.into.now.items c.push_text.new.into.items at
    more.0
    (more_there basis signature (plain_rules_in c.rules.result.now) rules (plain_entry c.args.entry.now) c.args.size more.1) added)
    c.push_text.ensures
