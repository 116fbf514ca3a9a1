use Rattle.std.proofs.Common.{◌≡◌, ℕ, Bool, List, subst}
use Rattle.std.specs.Prelude.{Some, None, not, MatchResult}
use Rattle.std.proofs.lemmas.Result.{MatchResult-weaker}
use Rattle.ll_engine.specs.View.{productions}
use Rattle.ll_engine.specs.Computed.{is_marked, is_candidate, IsLeastBelow}
use Rattle.ll_engine.specs.Related.{related, IsFirstSets, IsFollowSets}
use Rattle.ll_engine.specs.Table.{IsTable, IsTableFault}
use Rattle.ll_engine.proofs.Ranges.{AllProductive}
use Rattle.ll_engine.proofs.Verdicts.{parts-below, IsFirstBarren-least, AllProductive-none, IsFirstLeftCyclic-least, not_left_cyclic-none, first-tokens, IsChecked-table, IsFaultOf-table}
use Rattle.ll_engine.proofs.check.checked_table.Goals as goal
use Rattle.ll_engine.proofs.check.checked_table.Goals.{After-least_left_cycle}

pub deriving_parts-requires : goal.deriving_parts-requires
deriving_parts-requires c = parts-below c.args.rows.now c.args.parts c.args.tokens c.args.start c.requires

pub returns-in-Some : goal.returns-in-Some
returns-in-Some c =
    IsFirstBarren-least c.args.rows.now c.args.parts c.args.tokens c.args.start c.requires c.in_ok-productive.productive.items
    c.in_ok-productive.ensures c.in-Some.part
    (subst (λ (m : List Bool). IsLeastBelow (λ p. not (is_marked m p)) c.args.parts (Some c.in-Some.part)) c.deref.ensures.value
    c.in-Some.ensures)

pub deriving_parts-requires-2 : goal.deriving_parts-requires-2
deriving_parts-requires-2 c = parts-below c.args.rows.now c.args.parts c.args.tokens c.args.start c.requires

-- every part derives something
productive : (c : After-least_left_cycle) → AllProductive (productions c.args.rows.now) c.args.parts
productive c =
    AllProductive-none c.args.rows.now c.args.parts c.args.tokens c.args.start c.requires c.in_ok-productive.productive.items
    c.in_ok-productive.ensures
    (subst (λ (m : List Bool). IsLeastBelow (λ p. not (is_marked m p)) c.args.parts None) c.deref.ensures.value c.in_default.ensures)

sets : (c : After-least_left_cycle) → IsFirstSets c.args.rows.now c.args.parts c.args.tokens (is_marked c.in_ok-nullable.nullable.items)
    c.in_ok-first.first
sets c =
    subst (λ (m : List Bool). IsFirstSets c.args.rows.now c.args.parts c.args.tokens (is_marked m) c.in_ok-first.first)
    c.deref-2.ensures.value c.in_ok-first.ensures

pub returns-in-Some-least_left_cycle : goal.returns-in-Some-least_left_cycle
returns-in-Some-least_left_cycle c =
    let d = (goal.at.returns-in-Some-least_left_cycle c).After-least_left_cycle in
    IsFirstLeftCyclic-least c.args.rows.now c.args.parts c.args.tokens c.args.start c.requires (productive d)
    c.in_ok-nullable.nullable.items c.in_ok-nullable.ensures
    c.in_ok-first.first (sets d) c.in-Some-least_left_cycle.part c.in-Some-least_left_cycle.ensures

pub returns : goal.returns
returns c =
    let d = (goal.at.returns c).After-least_left_cycle in
    let rows = c.args.rows.now in
    let parts = c.args.parts in
    let tokens = c.args.tokens in
    let start = c.args.start in
    let nullable = c.in_ok-nullable.nullable.items in
    let first = c.in_ok-first.first in
    let follow = c.in_ok-follow.follow in
    let same : first.tokens ≡ tokens = first-tokens rows parts tokens start c.requires (productive d) nullable c.in_ok-nullable.ensures
    first (sets d) in
    let not_cyclic = not_left_cyclic-none rows parts tokens start c.requires (productive d) nullable c.in_ok-nullable.ensures first (sets d)
    c.in_default-least_left_cycle.ensures in
    let follows : IsFollowSets rows parts tokens start (is_marked nullable) first follow =
    subst (λ (m : List Bool). IsFollowSets rows parts tokens start (is_marked m) first follow) c.deref-3.ensures.value
    (subst (λ (t : ℕ). IsFollowSets rows parts t start (is_marked c.deref-3.result.now) first follow) same c.in_ok-follow.ensures) in
    let table : MatchResult c.table.result (λ table. IsTable (is_candidate (is_marked nullable) (related first) (related follow) tokens)
    rows parts tokens table.items)
    (IsTableFault (is_candidate (is_marked nullable) (related first) (related follow) tokens) rows parts tokens) =
    subst (λ (m : List Bool). MatchResult c.table.result (λ table.
    IsTable (is_candidate (is_marked m) (related first) (related follow) tokens) rows parts tokens table.items)
    (IsTableFault (is_candidate (is_marked m) (related first) (related follow) tokens) rows parts tokens)) c.deref-4.ensures.value
    (subst (λ (t : ℕ). MatchResult c.table.result (λ table.
    IsTable (is_candidate (is_marked c.deref-4.result.now) (related first) (related follow) t) rows parts t table.items)
    (IsTableFault (is_candidate (is_marked c.deref-4.result.now) (related first) (related follow) t) rows parts t)) same c.table.ensures) in
    MatchResult-weaker c.table.result table
    (λ table is. IsChecked-table rows parts tokens start c.requires (productive d) nullable c.in_ok-nullable.ensures first (sets d)
    not_cyclic follow follows table.items is)
    (λ fault is. IsFaultOf-table rows parts tokens start c.requires (productive d) nullable c.in_ok-nullable.ensures first (sets d)
    not_cyclic follow follows fault is)
