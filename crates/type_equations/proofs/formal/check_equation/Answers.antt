use Rattle.std.proofs.Common.{List, map, ap, sym, ◌∙◌, subst}
use Rattle.std.proofs.lemmas.Result.{err_from_is_err_and}
use Rattle.syntax_trees.specs.TreeViews.{premiss_of}
use Rattle.syntax_trees.specs.WrittenEquation.{WrittenEquation, WrittenPremiss}
use Rattle.syntax_trees.specs.declared.equations.TestText.{TestText}
use Rattle.type_definitions.proofs.HoldsLemmas.{holds_weaker}
use Rattle.type_definitions.specs.DeclaredEquations.{AreReadPremisses, IsFirstPremissFault, formal_is_read, formal_side, formal_premiss}
use Rattle.type_equations.proofs.formal.check_equation.Goals as goal

pub returns-in_err-read_sides : goal.returns-in_err-read_sides
returns-in_err-read_sides c =
    let e = err_from_is_err_and c.from_residual.result c.from_residual.ensures.1 in
    rw (e.1, e.2) (λ p asked same scope truth is.
    holds_weaker _ _ c.in_err-read_sides.field-0.0 (λ f found type_name. formal_side asked f found)
    (c.in_err-read_sides.ensures p asked same scope is))

pub returns-in_err-check_premisses : goal.returns-in_err-check_premisses
returns-in_err-check_premisses c =
    let e = err_from_is_err_and c.from_residual-in_err-check_premisses.result c.from_residual-in_err-check_premisses.ensures.1 in
    rw (e.1, e.2) (λ p asked same scope truth is.
    let sides = c.in_ok-read_sides.ensures p asked same scope is in
    holds_weaker _ _ c.in_err-check_premisses.field-0.0
    (λ f found type_name.
    formal_premiss asked _ _ f sides.0 sides.1
    (subst (λ (ws : List WrittenPremiss). IsFirstPremissFault p asked ws f)
    (ap (λ (ts : List TestText). map premiss_of ts) c.as_slice.ensures.value ∙ ap (λ (d : WrittenEquation). d.premisses) (sym is))
    found))
    (c.in_err-check_premisses.ensures p asked same scope truth))

pub returns : goal.returns
returns c = λ p asked same scope truth is.
    let sides = c.in_ok-read_sides.ensures p asked same scope is in
    formal_is_read asked _ _ sides.0 sides.1
    (subst (λ (ws : List WrittenPremiss). AreReadPremisses p asked ws)
    (ap (λ (ts : List TestText). map premiss_of ts) c.as_slice.ensures.value ∙ ap (λ (d : WrittenEquation). d.premisses) (sym is))
    (c.in_ok-check_premisses.ensures p asked same scope truth))

pub read_sides-requires : goal.read_sides-requires
read_sides-requires c = c.requires

pub check_premisses-requires : goal.check_premisses-requires
check_premisses-requires c = c.requires
