use Rattle.std.proofs.Common.{◌≡◌, ◌≤◌, ◌++◌, List, [], length, drop, map, ap, sym, ◌∙◌, subst}
use Rattle.std.proofs.lemmas.List.{append-nil, drop_all}
use Rattle.lotos_base.specs.Equation as plain
use Rattle.lotos_base.specs.Name.{spelling}
use Rattle.sort_terms.specs.EquationView.{variable_of}
use Rattle.sort_terms.specs.declared.equations.Variable.{Variable}
use Rattle.flat_text.proofs.LongerNames.{all_named}
use Rattle.flat_text.proofs.equation_names.renamed.Goals as goal

pub returns : goal.returns
returns c =
    let past : length c.args.variables.now.items ≤ c.loop-index.index =
    subst (λ (xs : List Variable). length xs ≤ c.loop-index.index) c.deref-variable-items.ensures.value c.loop-index-test.false in
    let none : map variable_of (drop c.loop-index.index c.args.variables.now.items) ≡ [] =
    ap (map variable_of) (drop_all c.loop-index.index c.args.variables.now.items past) in
    sym (append-nil (map variable_of c.loop-index.made.items))
    ∙ ap (λ (rest : List plain.Variable). map variable_of c.loop-index.made.items ++ rest)
    (sym (all_named (map spelling (drop c.loop-index.index c.args.names.now.items))
    (map variable_of (drop c.loop-index.index c.args.variables.now.items)) none))
    ∙ c.loop-index.invariant
