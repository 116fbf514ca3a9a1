use Rattle.std.proofs.Common.{true, sym, subst}
use Rattle.std.proofs.lemmas.Result.{on_ok_weaker}
use Rattle.lotos_base.specs.Signature.{Signature}
use Rattle.syntax_trees.specs.TreeViews.{equations_of}
use Rattle.type_definitions.specs.DeclaredEquations.{asked_of_section}
use Rattle.type_actualisation.specs.FormalLists.{AreFormalsOver, AreKeptFormals, over_signature}
use Rattle.type_actualisation.proofs.own_formals.own_formals_over.Goals as goal

pub keep_section-requires : goal.keep_section-requires
keep_section-requires c =
    subst (λ (s : Signature). AreFormalsOver s c.args.list.now) (sym c.in_ok-reader.ensures) c.requires

pub returns-clause-kept : goal.returns-clause-kept
returns-clause-kept c =
    on_ok_weaker c.keep_section.result
    (subst (λ (s : Signature).
    AreKeptFormals (over_signature s) (asked_of_section true (equations_of c.args.section.now)) c.args.list.now c.keep_section.new.list)
    c.in_ok-reader.ensures)
    c.keep_section.ensures.kept

pub returns-clause-over : goal.returns-clause-over
returns-clause-over c =
    on_ok_weaker c.keep_section.result
    (subst (λ (s : Signature). AreFormalsOver s c.keep_section.new.list) c.in_ok-reader.ensures) c.keep_section.ensures.over
