use Rattle.std.proofs.Common.{ℕ, List, length, map, ap, sym, ◌∙◌}
use Rattle.std.specs.Prelude.{Some}
use Rattle.std.proofs.lemmas.Bool.{ltb-true, ltb-false}
use Rattle.std.proofs.lemmas.Option.{slice_get_past, slice_get-get_or}
use Rattle.lotos_base.specs.Equation.{Variable}
use Rattle.sort_terms.specs.declared.equations.Variable.{Variable as CodeVariable}
use Rattle.sort_terms.specs.EquationView.{variable_of}
use Rattle.type_equations.proofs.CollectLemmas.{not_in_scope, in_scope}
use Rattle.type_equations.proofs.making.push_variable.Goals as goal

abbrev named : List ℕ → ℕ → ℕ → Variable
named name number sort = record { name = name; number = number; sort = sort }

pub returns-in_default : goal.returns-in_default
returns-in_default c = not_in_scope (map variable_of c.args.made.now.items) c.args.scope.now c.args.number c.args.old
    (slice_get_past c.args.scope.now c.args.old (ltb-false c.args.old (length c.args.scope.now) (sym c.in_default.ensures.lookup.0)))

pub returns : goal.returns
returns c =
    in_scope c.args.made.now.items c.push.new.self.items c.args.scope.now c.args.number c.args.old c.in-Some.variable.now _
    c.in_ok-push.ensures.items
    (slice_get-get_or c.args.scope.now c.args.old c.in-Some.variable.now
    (ltb-true c.args.old (length c.args.scope.now) (sym c.in-Some.ensures.lookup.0))
    ∙ ap (λ (v : CodeVariable). Some v) (sym c.in-Some.ensures.lookup.1))
    (ap (λ (name : List ℕ). named name c.args.number c.in-Some.variable.now.sort) c.in_ok-copy.ensures)
