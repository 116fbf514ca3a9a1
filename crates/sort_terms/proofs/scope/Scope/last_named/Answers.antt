use Rattle.std.proofs.Common.{◌<◌, ℕ, sym, subst, ◌∙◌}
use Rattle.std.specs.Prelude.{Some, None}
use Rattle.sort_terms.proofs.PositionLemmas.{last_at_place}
use Rattle.sort_terms.proofs.ScopeLemmas.{last_within, last_variable, no_variable}
use Rattle.sort_terms.proofs.scope.Scope.last_named.Goals as goal

pub index-requires : goal.index-requires
index-requires c =
    subst (λ (n : ℕ). c.in-Some.number.now < n) (sym c.args.self.now.variables.ok.0)
    (last_within c.args.self.now.variables.items _ c.in-Some.number.now
    (last_at_place _ _ c.in_ok-numbers.numbers.now (Some c.in-Some.number.now)
    (c.in_ok-numbers.ensures ∙ c.args.self.now.indexed _) c.in-Some.ensures.value))

pub returns-in-Some : goal.returns-in-Some
returns-in-Some c =
    last_variable c.args.self.now.variables.items _ c.in-Some.number.now c.index.result.now
    (last_at_place _ _ c.in_ok-numbers.numbers.now (Some c.in-Some.number.now)
    (c.in_ok-numbers.ensures ∙ c.args.self.now.indexed _) c.in-Some.ensures.value)
    c.index.ensures

pub returns-in-None : goal.returns-in-None
returns-in-None c =
    no_variable c.args.self.now.variables.items _
    (last_at_place _ _ c.in_ok-numbers.numbers.now None (c.in_ok-numbers.ensures ∙ c.args.self.now.indexed _) c.in-None.ensures.value)
