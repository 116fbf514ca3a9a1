use Rattle.std.proofs.Common.{true, sym, subst}
use Rattle.std.proofs.lemmas.Result.{on_ok_weaker}
use Rattle.lotos_base.specs.Signature.{Signature}
use Rattle.syntax_trees.specs.TreeViews.{equations_of}
use Rattle.type_definitions.specs.DeclaredEquations.{asked_of_section}
use Rattle.type_actualisation.specs.FormalLists.{AreFormalsOver, AreKeptFormals, over_signature}
use Rattle.type_actualisation.proofs.own_formals.own_formals.Goals as goal

pub own_formals_over-requires : goal.own_formals_over-requires
own_formals_over-requires c =
    subst (λ (s : Signature). AreFormalsOver s c.args.list.now) (sym c.in_ok-signature.ensures) c.requires.over

pub returns-clause-kept : goal.returns-clause-kept
returns-clause-kept c =
    on_ok_weaker c.own_formals_over.result
    (subst (λ (s : Signature).
    AreKeptFormals (over_signature s) (asked_of_section true (equations_of c.args.section.now)) c.args.list.now c.own_formals_over.new.list)
    c.in_ok-signature.ensures)
    c.own_formals_over.ensures.kept

pub returns-clause-over : goal.returns-clause-over
returns-clause-over c =
    on_ok_weaker c.own_formals_over.result
    (subst (λ (s : Signature). AreFormalsOver s c.own_formals_over.new.list) c.in_ok-signature.ensures) c.own_formals_over.ensures.over
