use Rattle.std.proofs.Common.{◌≡◌, ◌<◌, ℕ, ap, sym, ◌∙◌, subst}
use Rattle.std.specs.Prelude.{Some}
use Rattle.std.proofs.lemmas.Option.{get_or_from_slice_get, slice_get_within}
use Rattle.lotos_base.specs.Name.{spelling}
use Rattle.sort_terms.specs.EquationView.{variable_of}
use Rattle.scope_parts.specs.BindingsView.{bindings_in}
use Rattle.scope_parts.proofs.VisibleLemmas.{found_variable, found_none}
use Rattle.scope_parts.proofs.visible.Visible.named.Goals as goal

pub index-requires : goal.index-requires
index-requires c =
    let found =
    found_variable c.args.self.now.variables.items (bindings_in c.args.self.now.positions) (spelling c.args.name.now) c.in-Some.position
    c.args.self.now.positioned (sym c.in_ok-position.ensures ∙ c.in-Some.is) in
    subst (λ (n : ℕ). c.in-Some.position < n) (sym c.args.self.now.variables.ok.0)
    (slice_get_within c.args.self.now.variables.items c.in-Some.position found.0 found.1)

pub returns-in-Some : goal.returns-in-Some
returns-in-Some c =
    let found =
    found_variable c.args.self.now.variables.items (bindings_in c.args.self.now.positions) (spelling c.args.name.now) c.in-Some.position
    c.args.self.now.positioned (sym c.in_ok-position.ensures ∙ c.in-Some.is) in
    let same : c.index.result.now ≡ found.0 =
    c.index.ensures ∙ get_or_from_slice_get c.args.self.now.variables.items c.in-Some.position found.0 c.index.result.now found.1 in
    ap (λ v. Some (variable_of v)) same ∙ sym found.2

pub returns-in-None : goal.returns-in-None
returns-in-None c =
    found_none c.args.self.now.variables.items (bindings_in c.args.self.now.positions) (spelling c.args.name.now)
    c.args.self.now.positioned (sym c.in_ok-position.ensures ∙ c.in-None.is)
