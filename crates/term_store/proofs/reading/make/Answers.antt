use Rattle.std.proofs.Common.{arith, ◌<◌, ◌+◌, ◌∙◌, ap, length, subst, sym}
use Rattle.std.proofs.lemmas.Result.{on_ok_weaker}
use Rattle.sort_terms.specs.MadeTerms.{made_of}
use Rattle.sort_terms.specs.TermView.{profiled_of}
use Rattle.path_order.specs.RulesView.{signature_in}
use Rattle.term_store.specs.Made.{all_made, number_of_making, making_turns, making_turns_of, with_made, with_made_operation}
use Rattle.term_store.specs.SharedView.{keys_in}
use Rattle.term_store.specs.declared.reading.Making.{Making}
use Rattle.term_store.proofs.MadeLemmas.{operation_made}
use Rattle.term_store.proofs.ReadLemmas.{profile_inside}
use Rattle.term_store.proofs.reading.make.Goals as goal

pub begin-requires-clause-within : goal.begin-requires-clause-within
begin-requires-clause-within c =
    subst (λ (next : Making). number_of_making next < length (keys_in c.args.shared.now)) c.in-Term.is c.requires.within

pub returns-in-Term-clause-same : goal.returns-in-Term-clause-same
returns-in-Term-clause-same c =
    on_ok_weaker c.begin.result
    (λ h. h
    ∙ ap (λ next. all_made (signature_in c.args.rules.now) (keys_in c.args.shared.now) c.args.left.now.items
    (with_made (signature_in c.args.rules.now) (keys_in c.args.shared.now) next (made_of c.args.made.now.items))) (sym c.in-Term.is))
    c.begin.ensures.same

pub returns-in-Term-clause-less : goal.returns-in-Term-clause-less
returns-in-Term-clause-less c =
    on_ok_weaker c.begin.result
    (λ h. subst (λ (next : Making). making_turns_of (signature_in c.args.rules.now) (keys_in c.args.shared.now) c.begin.new.left.items
    < making_turns (signature_in c.args.rules.now) (keys_in c.args.shared.now) next
    + making_turns_of (signature_in c.args.rules.now) (keys_in c.args.shared.now) c.args.left.now.items) (sym c.in-Term.is) h)
    c.begin.ensures.less

pub operation-requires : goal.operation-requires
operation-requires c =
    subst (λ (next : Making). number_of_making next < length (keys_in c.args.shared.now)) c.in-Operation.is c.requires.within

pub returns-in-None-clause-same : goal.returns-in-None-clause-same
returns-in-None-clause-same c =
    let s = signature_in c.args.rules.now in
    let keys = keys_in c.args.shared.now in
    let made = made_of c.args.made.now.items in
    ap (all_made s keys c.args.left.now.items)
    (ap (λ found. with_made_operation s found made) c.in-None.ensures ∙ ap (λ next. with_made s keys next made) (sym c.in-Operation.is))

pub returns-in-None-clause-less : goal.returns-in-None-clause-less
returns-in-None-clause-less c =
    let s = signature_in c.args.rules.now in
    let keys = keys_in c.args.shared.now in
    subst (λ (next : Making). making_turns_of s keys c.args.left.now.items < making_turns s keys next
    + making_turns_of s keys c.args.left.now.items)
    (sym c.in-Operation.is) (omega arith)

pub index-requires : goal.index-requires
index-requires c =
    let within =
    subst (λ (next : Making). number_of_making next < length (keys_in c.args.shared.now)) c.in-Operation.is c.requires.within in
    let inside = profile_inside c.args.rules.now (keys_in c.args.shared.now) c.in-Operation.number c.in-Some.op c.in-Some.arguments.now
    c.args.profiles.now.items c.requires.profiled c.requires.have within c.in-Some.ensures in
    omega (arith, inside, c.args.profiles.now.ok.0)

pub returns-in_ok-push-in-Some-clause-same : goal.returns-in_ok-push-in-Some-clause-same
returns-in_ok-push-in-Some-clause-same c =
    let within =
    subst (λ (next : Making). number_of_making next < length (keys_in c.args.shared.now)) c.in-Operation.is c.requires.within in
    operation_made c.args.rules.now (keys_in c.args.shared.now) c.in-Operation.number c.in-Some.op c.in-Some.arguments.now
    c.args.profiles.now.items c.index.result.now c.in_ok-clone-in-Some.field-0 c.in_ok-parts-in-Some.parts
    c.in_ok-term-in-Some.term c.args.made.now.items c.taken.new.made.items c.push.new.self.items c.args.left.now.items
    c.requires.profiled c.requires.have within c.in-Some.ensures c.index.ensures c.in_ok-clone-in-Some.ensures.cases
    c.in_ok-parts-in-Some.ensures.0 c.in_ok-parts-in-Some.ensures.1 (ap profiled_of c.in_ok-term-in-Some.ensures)
    c.in_ok-push-in-Some.ensures.items
    ∙ ap (λ next. all_made (signature_in c.args.rules.now) (keys_in c.args.shared.now) c.args.left.now.items
    (with_made (signature_in c.args.rules.now) (keys_in c.args.shared.now) next (made_of c.args.made.now.items))) (sym c.in-Operation.is)

pub returns-in_ok-push-in-Some-clause-less : goal.returns-in_ok-push-in-Some-clause-less
returns-in_ok-push-in-Some-clause-less c =
    let s = signature_in c.args.rules.now in
    let keys = keys_in c.args.shared.now in
    subst (λ (next : Making). making_turns_of s keys c.args.left.now.items < making_turns s keys next
    + making_turns_of s keys c.args.left.now.items)
    (sym c.in-Operation.is) (omega arith)
