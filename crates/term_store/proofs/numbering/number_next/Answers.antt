use Rattle.std.proofs.Common.{◌∷◌, ◌++◌, [], subst}
use Rattle.std.proofs.lemmas.Result.{on_ok_weaker}
use Rattle.term_store.specs.OnTheWay.{halfway_of, IsOnItsWay}
use Rattle.term_store.specs.SharedView.{keys_in}
use Rattle.term_store.proofs.OnTheWayLemmas.{head_taken, way_head, way_list}
use Rattle.term_store.proofs.numbering.number_next.Goals as goal

-- ---- The first terms of a list

pub returns-in-First-clause-way : goal.returns-in-First-clause-way
returns-in-First-clause-way c =
    let now = keys_in c.args.shared.now in
    on_ok_weaker c.begin_last.result
    (λ h t before way. h t before (way_list t before now c.args.left.now.items c.args.made.now.items c.in-First.terms c.in-First.count
    (subst (λ next. IsOnItsWay t before [] (halfway_of now (c.args.left.now.items ++ next ∷ []) c.args.made.now.items)) c.in-First.is way)))
    c.begin_last.ensures.way

pub returns-in-First-clause-taken : goal.returns-in-First-clause-taken
returns-in-First-clause-taken c t before way =
    let now = keys_in c.args.shared.now in
    c.begin_last.ensures.taken t before (way_list t before now c.args.left.now.items c.args.made.now.items c.in-First.terms c.in-First.count
    (subst (λ next. IsOnItsWay t before [] (halfway_of now (c.args.left.now.items ++ next ∷ []) c.args.made.now.items)) c.in-First.is way))

-- ---- An operation

pub returns-in_err-number-in-Head-clause-taken : goal.returns-in_err-number-in-Head-clause-taken
returns-in_err-number-in-Head-clause-taken c t before way =
    let now = keys_in c.args.shared.now in
    head_taken t before now (keys_in c.number_above.new.shared) c.args.left.now.items c.args.made.now.items c.in-Head.op c.in-Head.count
    c.in-Head.field-1
    (subst (λ next. IsOnItsWay t before [] (halfway_of now (c.args.left.now.items ++ next ∷ []) c.args.made.now.items)) c.in-Head.is way)
    c.number_above.ensures.more

pub returns-in_err-push-in-Head-clause-taken : goal.returns-in_err-push-in-Head-clause-taken
returns-in_err-push-in-Head-clause-taken c t before way =
    let now = keys_in c.args.shared.now in
    head_taken t before now (keys_in c.number_above.new.shared) c.args.left.now.items c.args.made.now.items c.in-Head.op c.in-Head.count
    c.in-Head.field-1
    (subst (λ next. IsOnItsWay t before [] (halfway_of now (c.args.left.now.items ++ next ∷ []) c.args.made.now.items)) c.in-Head.is way)
    c.number_above.ensures.more

pub returns-in_ok-push-in-Head-clause-taken : goal.returns-in_ok-push-in-Head-clause-taken
returns-in_ok-push-in-Head-clause-taken c t before way =
    let now = keys_in c.args.shared.now in
    head_taken t before now (keys_in c.number_above.new.shared) c.args.left.now.items c.args.made.now.items c.in-Head.op c.in-Head.count
    c.in-Head.field-1
    (subst (λ next. IsOnItsWay t before [] (halfway_of now (c.args.left.now.items ++ next ∷ []) c.args.made.now.items)) c.in-Head.is way)
    c.number_above.ensures.more

pub returns-in_ok-push-in-Head-clause-way : goal.returns-in_ok-push-in-Head-clause-way
returns-in_ok-push-in-Head-clause-way c t before way =
    let now = keys_in c.args.shared.now in
    way_head t before now (keys_in c.number_above.new.shared) c.args.left.now.items c.args.made.now.items c.number_above.new.made.items
    c.push.new.self.items c.in-Head.op c.in-Head.count c.in_ok-number-in-Head.number c.in-Head.field-1
    (subst (λ next. IsOnItsWay t before [] (halfway_of now (c.args.left.now.items ++ next ∷ []) c.args.made.now.items)) c.in-Head.is way)
    c.number_above.ensures.more c.in_ok-number-in-Head.ensures.stands c.in_ok-number-in-Head.ensures.rest c.in_ok-push-in-Head.ensures.items
