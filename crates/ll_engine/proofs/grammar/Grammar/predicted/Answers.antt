use Rattle.std.proofs.Common.{◌≡◌, ◌∙◌, ℕ, List, subst, sym, ap, arith}
use Rattle.std.specs.Prelude.{IfSome, IfNone, Option, Some, slice_get}
use Rattle.ll_engine.specs.Derivation.{Production}
use Rattle.ll_engine.specs.Language.{ContextFree}
use Rattle.ll_engine.specs.Prediction.{IsPredictedBy}
use Rattle.ll_engine.specs.Table.{entry_at}
use Rattle.ll_engine.specs.Walk.{IsOnlyRow}
use Rattle.ll_engine.specs.Checked.{IsChecked}
use Rattle.ll_engine.proofs.OnlyRows.{checked_at, written_at, entry_none, entry_some, row_some}
use Rattle.ll_engine.proofs.grammar.Grammar.predicted.Goals as goal
use Rattle.ll_engine.proofs.grammar.Grammar.predicted.Goals.{After-entry_at}

checked : (c : After-entry_at) → IsChecked c.args.self.now c.in-Checked.entries.items
checked c =
    let i = c.self.inside in
    checked_at i.rows i.parts i.tokens i.start c.in-Checked.rows c.in-Checked.entries c.args.self.now c.self.invariant c.in-Checked.is
    c.self.view_is

entry_is : (c : After-entry_at) → c.entry_at.result ≡ entry_at c.in-Checked.entries.items c.args.self.now.tokens c.args.part c.args.token
entry_is c =
    c.entry_at.ensures
    ∙ ap (λ (list : List ℕ). entry_at list c.self.inside.tokens c.args.part c.args.token) c.deref.ensures.value
    ∙ ap (λ (g : ContextFree). entry_at c.in-Checked.entries.items g.tokens c.args.part c.args.token) c.self.view_is

pub returns-in-Checked-clause-none : goal.returns-in-Checked-clause-none
returns-in-Checked-clause-none c =
    let P = (r : ℕ) (row : Production) → slice_get c.args.self.now.rows r ≡ Some row → row.left ≡ c.args.part
    → ¬ IsPredictedBy c.args.self.now row c.args.token in
    subst (λ (found : Option ℕ). IfNone found P) (sym (entry_is c))
    (entry_none c.args.self.now c.in-Checked.entries.items c.args.part c.args.token (checked c) c.requires.part c.requires.token)

pub returns-in-Checked-clause-some : goal.returns-in-Checked-clause-some
returns-in-Checked-clause-some c =
    subst (λ (found : Option ℕ). IfSome found (IsOnlyRow c.args.self.now c.args.part c.args.token)) (sym (entry_is c))
    (entry_some c.args.self.now c.in-Checked.entries.items c.args.part c.args.token (checked c) c.requires.part c.requires.token)

pub row_at-requires-clause-part : goal.row_at-requires-clause-part
row_at-requires-clause-part c =
    let i = c.self.inside in
    let written = written_at i.rows i.parts i.tokens i.start c.in-Written.table c.args.self.now c.self.invariant c.in-Written.is
    c.self.view_is in
    omega (arith, c.requires.part, written.0.one_each)

pub returns-in-Written-clause-some : goal.returns-in-Written-clause-some
returns-in-Written-clause-some c =
    let i = c.self.inside in
    let written = written_at i.rows i.parts i.tokens i.start c.in-Written.table c.args.self.now c.self.invariant c.in-Written.is
    c.self.view_is in
    let found = row_some c.args.self.now c.in-Written.table.now c.args.part c.args.token written.0 written.1 c.requires.token in
    subst (λ (row : Option ℕ). IfSome row (IsOnlyRow c.args.self.now c.args.part c.args.token))
    (sym c.row_at.ensures) found
