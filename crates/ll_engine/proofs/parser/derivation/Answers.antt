use Rattle.std.proofs.Common.{◌≡◌, ◌∙◌, ℕ, List, ◌++◌, ◌∷◌, [], sym, ap, subst, arith, reverse}
use Rattle.std.specs.Prelude.{Some, slice_get}
use Rattle.ll_engine.specs.declared.symbol.Symbol.{Symbol}
use Rattle.ll_engine.specs.declared.symbol.Symbol.TheVariants.{Token, Part}
use Rattle.ll_engine.specs.Derivation.{Production}
use Rattle.ll_engine.specs.Prediction.{IsPredictedBy}
use Rattle.ll_engine.specs.Walk.{IsReachedByRows}
use Rattle.ll_engine.proofs.Walks.{IsReached-start, IsReached-next, IsReached-row, IsReached-top, IsReached-empty, place-below, IsUnexpectedAt-other, IsUnexpectedAt-part, IsUnexpectedAt-more, IsLeftmostDerivation-end}
use Rattle.ll_engine.proofs.parser.derivation.Goals as goal
use Rattle.ll_engine.proofs.parser.derivation.Goals.{In-Token, In-Part, In_default}

token_on_top : (c : In-Token) → IsReachedByRows c.args.grammar.now c.args.tokens.now c.loop-symbol.at c.loop-symbol.rows.items
    (Token c.in-Token.token ∷ reverse c.pop.new.self.items)
token_on_top c =
    IsReached-top c.args.grammar.now c.args.tokens.now c.loop-symbol.at c.loop-symbol.rows.items c.loop-symbol.stack.items
    c.pop.new.self.items c.in-Some.symbol (Token c.in-Token.token)
    c.in-Some.ensures.items c.in-Token.is c.loop-symbol.invariant

part_on_top : (c : In-Part) → IsReachedByRows c.args.grammar.now c.args.tokens.now c.loop-symbol.at c.loop-symbol.rows.items
    (Part c.in-Part.part ∷ reverse c.pop.new.self.items)
part_on_top c =
    IsReached-top c.args.grammar.now c.args.tokens.now c.loop-symbol.at c.loop-symbol.rows.items c.loop-symbol.stack.items
    c.pop.new.self.items c.in-Some.symbol (Part c.in-Part.part)
    c.in-Some.ensures.items c.in-Part.is c.loop-symbol.invariant

empty_stack : (c : In_default) → IsReachedByRows c.args.grammar.now c.args.tokens.now c.loop-symbol.at c.loop-symbol.rows.items []
empty_stack c =
    IsReached-empty c.args.grammar.now c.args.tokens.now c.loop-symbol.at c.loop-symbol.rows.items c.loop-symbol.stack.items
    (let none = c.in_default.ensures.cases.0 in sym c.loop-symbol.stack.ok.0 ∙ none) c.loop-symbol.invariant

pub loop-symbol-init : goal.loop-symbol-init
loop-symbol-init c =
    let start = IsReached-start c.args.grammar.now c.start.ensures.well_formed c.args.tokens.now in
    let stack : c.push.new.self.items ≡ Part c.args.grammar.now.start ∷ [] =
    c.in_ok-push.ensures.items ∙ ap (λ (xs : List Symbol). xs ++ Part c.start.result ∷ []) c.new-stack.ensures.items
    ∙ ap (λ (p : ℕ). Part p ∷ []) c.start.ensures.start in
    subst (λ (rows : List ℕ). IsReachedByRows c.args.grammar.now c.args.tokens.now 0 rows (reverse c.push.new.self.items))
    (sym c.new-rows.ensures.items)
    (subst (IsReachedByRows c.args.grammar.now c.args.tokens.now 0 []) (sym (ap reverse stack)) start)

pub returns-then-token-next : goal.returns-then-token-next
returns-then-token-next c =
    IsUnexpectedAt-other c.args.grammar.now c.start.ensures.well_formed c.args.tokens.now c.start.ensures.predictive c.loop-symbol.at
    c.loop-symbol.rows.items
    c.in-Token.token (reverse c.pop.new.self.items) (token_on_top (goal.at.returns-then-token-next c).In-Token)
    (λ e. c.if-token-next.true (e ∙ sym c.token_at-next.ensures))

pub loop-symbol-smaller-in-Token : goal.loop-symbol-smaller-in-Token
loop-symbol-smaller-in-Token c =
    let lt = place-below c.args.grammar.now c.start.ensures.well_formed c.args.tokens.now c.loop-symbol.at c.loop-symbol.rows.items
    c.in-Token.token (reverse c.pop.new.self.items)
    (sym c.token_at-next.ensures ∙ sym c.if-token-next.false) (token_on_top (goal.at.loop-symbol-smaller-in-Token c).In-Token) in
    omega arith

pub loop-symbol-preserved-in-Token : goal.loop-symbol-preserved-in-Token
loop-symbol-preserved-in-Token c =
    IsReached-next c.args.grammar.now c.start.ensures.well_formed c.args.tokens.now c.loop-symbol.at c.loop-symbol.rows.items
    c.in-Token.token (reverse c.pop.new.self.items)
    (sym c.token_at-next.ensures ∙ sym c.if-token-next.false) (token_on_top (goal.at.loop-symbol-preserved-in-Token c).In-Token)

pub returns-in_default-predicted : goal.returns-in_default-predicted
returns-in_default-predicted c =
    IsUnexpectedAt-part c.args.grammar.now c.start.ensures.well_formed c.args.tokens.now c.start.ensures.predictive c.loop-symbol.at
    c.loop-symbol.rows.items
    c.in-Part.part (reverse c.pop.new.self.items) (part_on_top (goal.at.returns-in_default-predicted c).In-Part)
    (subst (λ (t : ℕ). (r : ℕ) (row : Production) → slice_get c.args.grammar.now.rows r ≡ Some row → row.left ≡ c.in-Part.part
    → ¬ IsPredictedBy c.args.grammar.now row t)
    c.token_at-next.ensures c.in_default-predicted.ensures.none)

pub loop-symbol-preserved : goal.loop-symbol-preserved
loop-symbol-preserved c =
    let found = c.in-Some-predicted.ensures.some in
    let only = subst (λ (t : ℕ). (number : ℕ) (other : Production) → slice_get c.args.grammar.now.rows number ≡ Some other
    → other.left ≡ c.in-Part.part →
    IsPredictedBy c.args.grammar.now other t → number ≡ c.in-Some-predicted.row) c.token_at-next.ensures found.only in
    let reached = IsReached-row c.args.grammar.now c.start.ensures.well_formed c.args.tokens.now c.start.ensures.predictive c.loop-symbol.at
    c.loop-symbol.rows.items
    c.in-Part.part (reverse c.pop.new.self.items) c.in-Some-predicted.row found.row found.is_row found.left_is only
    (part_on_top (goal.at.loop-symbol-preserved c).In-Part) in
    subst (λ (rows : List ℕ). IsReachedByRows c.args.grammar.now c.args.tokens.now c.loop-symbol.at rows
    (reverse c.push_right.new.stack.items)) (sym c.in_ok-push-in-Part.ensures.items)
    (subst (IsReachedByRows c.args.grammar.now c.args.tokens.now c.loop-symbol.at
    (c.loop-symbol.rows.items ++ c.in-Some-predicted.row ∷ [])) (sym (c.in_ok-push_right-in-Part.ensures found.row found.is_row))
    reached)

pub returns-then-at-tokens : goal.returns-then-at-tokens
returns-then-at-tokens c =
    IsUnexpectedAt-more c.args.grammar.now c.start.ensures.well_formed c.args.tokens.now c.start.ensures.predictive c.loop-symbol.at
    c.loop-symbol.rows.items
    (empty_stack (goal.at.returns-then-at-tokens c).In_default) c.if-at-tokens.true

pub returns : goal.returns
returns c =
    IsLeftmostDerivation-end c.args.grammar.now c.start.ensures.well_formed c.args.tokens.now c.start.ensures.predictive c.loop-symbol.at
    c.loop-symbol.rows.items
    (empty_stack (goal.at.returns c).In_default) c.if-at-tokens.false
