use Rattle.std.proofs.Common.{◌≡◌, ℕ, List, ◌++◌, length, map, ap, sym, ◌∙◌, subst, arith}
use Rattle.std.proofs.lemmas.List.{append-nil, length-map}
use Rattle.std.proofs.lemmas.Result.{err_from_is_err_and}
use Rattle.lotos_base.proofs.Pieces.{take_whole}
use Rattle.lotos_base.specs.Name.{spelling}
use Rattle.lotos_base.specs.Equation.{Variable}
use Rattle.syntax_trees.specs.TreeViews.{written_variables_of}
use Rattle.syntax_trees.specs.declared.named.VarText.{VarText}
use Rattle.sort_terms.specs.EquationView.{variable_of}
use Rattle.type_definitions.proofs.HoldsLemmas.{holds_weaker}
use Rattle.type_definitions.specs.DeclaredEquations.{GiveAll, HasFirstFault, none_asked, asked_of_variables, scope_from}
use Rattle.type_definitions.specs.TypeFault.{TypeFault}
use Rattle.type_equations.proofs.AskedLemmas.{given_more, faulty_here, scope_more, pushed_view}
use Rattle.type_equations.proofs.sorts.add_variables.Goals as goal

abbrev row : List ℕ → ℕ → ℕ → Variable
row name number sort = record { name = name; number = number; sort = sort }

pub loop-text-init : goal.loop-text-init
loop-text-init c = λ p same. (none_asked p, sym (append-nil (map variable_of c.args.variables.now.items)))

pub loop-text-preserved : goal.loop-text-preserved
loop-text-preserved c = λ p same.
    let before = c.loop-text.invariant p same in
    let here = c.in_ok-sort.ensures p same in (
      given_more p c.args.written.now c.loop-text.text-index c.text-item.result c.loop-text-test.true c.text-item.is before.0 here.0,
      scope_more p c.args.written.now c.loop-text.text-index c.text-item.result (map variable_of c.args.variables.now.items)
          (map variable_of c.loop-text.variables.items) (map variable_of c.push.new.self.items) (length c.args.variables.now.items)
          c.len-number.result
          (row (spelling c.in_ok-copy.field-0) c.len-number.result c.in_ok-sort.sort)
          c.loop-text-test.true c.text-item.is before.1 (sym (length-map c.args.variables.now.items variable_of))
          (c.len-number.ensures ∙ c.loop-text.variables.ok.0 ∙ sym (length-map c.loop-text.variables.items variable_of))
          (pushed_view c.loop-text.variables.items c.push.new.self.items _ c.in_ok-push.ensures.items)
          (ap (λ (n : List ℕ). row n c.len-number.result c.in_ok-sort.sort) c.in_ok-copy.ensures
          ∙ ap (λ (s : ℕ). row (spelling c.text-item.result.name) c.len-number.result s) here.1),
    )

pub returns-in_err-sort : goal.returns-in_err-sort
returns-in_err-sort c =
    let p = err_from_is_err_and c.from_residual.result c.from_residual.ensures.1 in
    rw (p.1, p.2) (λ q same.
    holds_weaker _ _ c.in_err-sort.field-0.0
    (λ f found type_name.
    subst (λ (g : TypeFault). HasFirstFault type_name q (asked_of_variables (written_variables_of c.args.written.now)) g) (sym found.1)
    (faulty_here type_name q c.args.written.now c.loop-text.text-index c.text-item.result c.loop-text-test.true c.text-item.is
    (c.loop-text.invariant q same).0 found.0))
    (c.in_err-sort.ensures q same))

pub returns : goal.returns
returns c = λ p same.
    let all : c.loop-text.text-index ≡ length c.args.written.now = omega arith in
    subst
    (λ (vs : List VarText). GiveAll p (asked_of_variables (written_variables_of vs)) p
    × (map variable_of c.loop-text.variables.items
    ≡ map variable_of c.args.variables.now.items ++ scope_from p (length c.args.variables.now.items) (written_variables_of vs)))
    (take_whole c.args.written.now c.loop-text.text-index all) (c.loop-text.invariant p same)
