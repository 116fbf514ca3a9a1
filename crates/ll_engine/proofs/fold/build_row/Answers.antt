use Rattle.std.proofs.Common.{◌∙◌, ℕ, Bool, take, drop, reverse, ap}
use Rattle.std.proofs.lemmas.Result.{IfOk-weaker}
use Rattle.ll_engine.specs.Fold.{first_if}
use Rattle.ll_engine.specs.Run.{rest_if}
use Rattle.ll_engine.proofs.Steps.{row_step}
use Rattle.ll_engine.proofs.fold.build_row.Goals as goal

pub returns : goal.returns
returns g c =
    let value_of = g.A.Actions.value_of c.args.actions.now in
    let ahead = reverse c.args.ahead.now.items in
    let old = c.args.values.now.items in
    let token_is = c.take_token-token.ensures.token ∙ ap (λ (takes : Bool). first_if takes ahead) c.begins_kept.ensures in
    let rest_is = c.take_token-token.ensures.rest ∙ ap (λ (takes : Bool). rest_if takes ahead) c.begins_kept.ensures in
    let taken = c.in_ok-parts.ensures.taken ∙ ap (λ (n : ℕ). take n (reverse old)) c.count_parts.ensures in
    let left = c.in_ok-parts.ensures.left ∙ ap (λ (n : ℕ). drop n (reverse old)) c.count_parts.ensures in
    IfOk-weaker c.build.result _ _
    (λ built is.
    row_step g.A.Actions.meaning value_of g.A.Actions.keeps c.args.row c.args.right.now old c.take_values.new.values.items
    c.in_ok-parts.parts.items
    ahead (reverse c.take_token-token.new.ahead.items) c.take_token-token.result built is token_is rest_is taken left)
    c.build.ensures
