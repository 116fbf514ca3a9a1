use Rattle.std.proofs.Common.{◌++◌, ◌∷◌, [], List, ℕ, ap, ◌∙◌}
use Rattle.sort_terms.proofs.NameIndexLemmas.{err_anyway, pushed_under, unpushed_under, inserted_under}
use Rattle.sort_terms.proofs.name_index.NameIndex.add.Goals as goal

pub returns-in_err-push-clause-unchanged : goal.returns-in_err-push-clause-unchanged
returns-in_err-push-clause-unchanged c = err_anyway c.from_residual-in_err-push.result (λ key.
    unpushed_under _ _ c.as_slice.result.now key c.in-Some.numbers.now c.push.new.self c.in-Some.ensures.value
    (c.get_mut.follows.holds c.push.new.self).0 c.in_err-push.ensures.items)

pub returns-in-Some-clause-added : goal.returns-in-Some-clause-added
returns-in-Some-clause-added c = λ key.
    pushed_under _ _ c.as_slice.result.now _ key c.in-Some.numbers.now c.push.new.self c.args.number
    (c.as_slice.ensures.value ∙ c.in_ok-key.ensures) c.in-Some.ensures.value
    (c.get_mut.follows.holds c.push.new.self).0 c.in_ok-push.ensures.items

pub returns-clause-added : goal.returns-clause-added
returns-clause-added c = λ key.
    inserted_under c.args.self.now.numbers.entries c.get_mut.follows.lender-at-none.entries c.insert.new.self.entries c.in_ok-key.key.items
    _ c.as_slice.result.now key c.push-2.new.self c.args.number
    (ap (λ m. m.entries) c.get_mut.follows.holds-at-none)
    c.as_slice.ensures.value c.in_ok-key.ensures c.in_default.ensures.value c.in_ok-insert.ensures.updates.1
    c.in_ok-insert.ensures.updates.3
    (c.in_ok-push-2.ensures.items ∙ ap (λ (xs : List ℕ). xs ++ c.args.number ∷ []) c.new-numbers.ensures.items)
