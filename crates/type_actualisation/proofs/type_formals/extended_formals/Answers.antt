use Rattle.std.proofs.Common.{List, ap, sym, subst, ◌∙◌, true, ◌++◌, ℕ}
use Rattle.lotos_base.specs.Equation.{Equation}
use Rattle.syntax_trees.specs.TreeViews.{equations_of, placed_names_of}
use Rattle.syntax_trees.specs.WrittenEquation.{WrittenEquations}
use Rattle.syntax_trees.specs.WrittenItem.{WrittenSections}
use Rattle.type_definitions.specs.DeclaredEquations.{asked_of_section}
use Rattle.type_definitions.specs.FormalEquations.{AreOwnFormals, FlattenedType, mentioned_formals}
use Rattle.type_presentations.specs.PresentationView.{presentation_of}
use Rattle.type_actualisation.proofs.FormalListLemmas.{larger_formals}
use Rattle.type_actualisation.proofs.OneFormalLemmas.{extension_larger}
use Rattle.type_actualisation.proofs.OwnLemmas.{kept_over_presentation}
use Rattle.type_actualisation.proofs.type_formals.extended_formals.Goals as goal

pub union_named-requires : goal.union_named-requires
union_named-requires c = (c.requires.types.0, c.requires.types.3)

pub own_formals-requires : goal.own_formals-requires
own_formals-requires c =
    let all = c.requires.types.0 in
    let imports = placed_names_of c.args.imports.now in
    let p = presentation_of c.args.presentation.now in
    record {
      sound = c.requires.sound;
      within = c.requires.within;
      over = larger_formals (mentioned_formals all imports).presentation.signature p.signature c.in_ok-union.union.equations
          (extension_larger all c.requires.types.1 imports c.requires.types.2 p c.requires.types.4)
          (c.in_ok-union.ensures all c.requires.types.3).formals;
    }

pub returns : goal.returns
returns c = λ (all : List FlattenedType) (name : List ℕ) (sections : WrittenSections) are same presented.
    let p = presentation_of c.args.presentation.now in
    let is = c.in_ok-union.ensures all are in
    let kept =
    kept_over_presentation p (asked_of_section true (equations_of c.args.formal_equations.now)) c.in_ok-union.union.equations
    c.own_formals.new.list c.in_ok-own_formals.ensures.kept in
    record {
      are = (
        kept.0,
        subst (λ (es : WrittenEquations). AreOwnFormals p (asked_of_section true es) kept.0) (sym same) kept.1,
        sym (kept.2 ∙ ap (λ (es : List Equation). es ++ kept.0) is.formals_are),
      );
      over = c.in_ok-own_formals.ensures.over;
    }
