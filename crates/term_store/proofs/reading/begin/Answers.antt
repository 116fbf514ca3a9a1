use Rattle.std.proofs.Common.{ap, ◌∙◌, ◌∷◌}
use Rattle.std.proofs.lemmas.Result.{on_ok_weaker}
use Rattle.sort_terms.specs.MadeTerms.{made_of}
use Rattle.sort_terms.proofs.CopyLemmas.{made_more}
use Rattle.path_order.specs.RulesView.{signature_in}
use Rattle.term_store.specs.Made.{all_made}
use Rattle.term_store.specs.SharedView.{keys_in}
use Rattle.term_store.proofs.MadeLemmas.{operation_begun, operation_less, operation_within, variable_less}
use Rattle.term_store.proofs.SearchLemmas.{members_below}
use Rattle.term_store.proofs.reading.begin.Goals as goal

pub returns-in_ok-push-in-None-clause-same : goal.returns-in_ok-push-in-None-clause-same
returns-in_ok-push-in-None-clause-same c =
    ap (all_made (signature_in c.args.rules.now) (keys_in c.args.shared.now) c.args.left.now.items)
    (made_more c.push.new.self.items c.args.made.now.items c.read_variable.result c.in_ok-push-in-None.ensures.items
    ∙ ap (λ t. t ∷ made_of c.args.made.now.items) c.read_variable.ensures)

pub returns-in_ok-push-in-None-clause-less : goal.returns-in_ok-push-in-None-clause-less
returns-in_ok-push-in-None-clause-less c =
    variable_less (signature_in c.args.rules.now) (keys_in c.args.shared.now) c.args.number c.args.left.now.items

pub returns-in_ok-push-in-Some-clause-same : goal.returns-in_ok-push-in-Some-clause-same
returns-in_ok-push-in-Some-clause-same c =
    on_ok_weaker c.add_terms.result
    (λ h. operation_begun c.args.rules.now (keys_in c.args.shared.now) c.args.number _ c.in-Some.arguments.now c.args.left.now.items
    c.push-in-Some.new.self.items c.add_terms.new.left.items (made_of c.args.made.now.items) c.requires.have c.requires.within
    c.in-Some.ensures c.in_ok-push-in-Some.ensures.items h)
    c.add_terms.ensures

pub returns-in_ok-push-in-Some-clause-within : goal.returns-in_ok-push-in-Some-clause-within
returns-in_ok-push-in-Some-clause-within c =
    on_ok_weaker c.add_terms.result
    (λ h within. operation_within (keys_in c.args.shared.now) c.args.number c.in-Some.arguments.now c.args.left.now.items
    c.push-in-Some.new.self.items c.add_terms.new.left.items c.requires.within
    (members_below (keys_in c.args.shared.now) c.args.number _ c.in-Some.arguments.now c.requires.have.cells c.requires.within
    c.in-Some.ensures)
    c.in_ok-push-in-Some.ensures.items h within)
    c.add_terms.ensures

pub returns-in_ok-push-in-Some-clause-less : goal.returns-in_ok-push-in-Some-clause-less
returns-in_ok-push-in-Some-clause-less c =
    on_ok_weaker c.add_terms.result
    (λ h. operation_less c.args.rules.now (keys_in c.args.shared.now) c.args.number _ c.in-Some.arguments.now c.args.left.now.items
    c.push-in-Some.new.self.items c.add_terms.new.left.items c.requires.have c.requires.within c.in-Some.ensures
    c.in_ok-push-in-Some.ensures.items h)
    c.add_terms.ensures
