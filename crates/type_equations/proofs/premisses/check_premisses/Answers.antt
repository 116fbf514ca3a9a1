use Rattle.std.proofs.Common.{List, map, take, drop, ap, sym, subst, ◌∙◌, ◌≡◌, ◌++◌, length, arith}
use Rattle.std.proofs.lemmas.List.{map-append, take-append-drop}
use Rattle.std.proofs.lemmas.Result.{err_from_is_err_and}
use Rattle.lotos_base.proofs.Pieces.{take_whole}
use Rattle.syntax_trees.specs.TreeViews.{premiss_of}
use Rattle.syntax_trees.specs.WrittenEquation.{WrittenPremiss}
use Rattle.syntax_trees.specs.declared.equations.TestText.{TestText}
use Rattle.type_definitions.proofs.HoldsLemmas.{holds_weaker}
use Rattle.type_definitions.proofs.WalkLemmas.{next_of, so_far}
use Rattle.type_definitions.specs.DeclaredEquations.{AreReadPremisses, IsFirstPremissFault}
use Rattle.type_equations.proofs.PremissLemmas.{read_append, fault_behind}
use Rattle.type_equations.proofs.premisses.check_premisses.Goals as goal

pub loop-premiss-init : goal.loop-premiss-init
loop-premiss-init c = λ p asked same scope truth. tt

pub loop-premiss-preserved : goal.loop-premiss-preserved
loop-premiss-preserved c = λ p asked same scope truth.
    subst (λ (ws : List WrittenPremiss). AreReadPremisses p asked ws)
    (sym (so_far premiss_of c.args.premisses.now c.loop-premiss.premiss-index c.premiss-item.result c.loop-premiss-test.true
    c.premiss-item.is))
    (read_append p asked (map premiss_of (take c.loop-premiss.premiss-index c.args.premisses.now)) (premiss_of c.premiss-item.result)
    (c.loop-premiss.invariant p asked same scope truth) (c.in_ok-check_premiss.ensures p asked same scope truth))

pub returns-in_err-check_premiss : goal.returns-in_err-check_premiss
returns-in_err-check_premiss c =
    let e = err_from_is_err_and c.from_residual.result c.from_residual.ensures.1 in
    rw (e.1, e.2) (λ p asked same scope truth.
    holds_weaker _ _ c.in_err-check_premiss.field-0.0
    (λ f found.
    subst (λ (ws : List WrittenPremiss). IsFirstPremissFault p asked ws f)
    (ap (λ (ws : List WrittenPremiss). map premiss_of (take c.loop-premiss.premiss-index c.args.premisses.now) ++ ws)
    (sym (next_of premiss_of c.args.premisses.now c.loop-premiss.premiss-index c.premiss-item.result c.loop-premiss-test.true
    c.premiss-item.is))
    ∙ sym (map-append premiss_of (take c.loop-premiss.premiss-index c.args.premisses.now)
    (drop c.loop-premiss.premiss-index c.args.premisses.now))
    ∙ ap (λ (ts : List TestText). map premiss_of ts) (take-append-drop c.loop-premiss.premiss-index c.args.premisses.now))
    (fault_behind p asked (map premiss_of (take c.loop-premiss.premiss-index c.args.premisses.now)) _ (premiss_of c.premiss-item.result) f
    (c.loop-premiss.invariant p asked same scope truth) found))
    (c.in_err-check_premiss.ensures p asked same scope truth))

pub returns : goal.returns
returns c = λ p asked same scope truth.
    let all : c.loop-premiss.premiss-index ≡ length c.args.premisses.now = omega arith in
    subst (λ (ts : List TestText). AreReadPremisses p asked (map premiss_of ts))
    (take_whole c.args.premisses.now c.loop-premiss.premiss-index all) (c.loop-premiss.invariant p asked same scope truth)
