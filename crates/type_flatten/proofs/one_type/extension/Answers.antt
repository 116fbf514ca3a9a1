use Rattle.std.proofs.Common.{◌∙◌, List, ap, sym, subst}
use Rattle.std.proofs.lemmas.Result.{MatchResult-weaker, err_from_is_err_and}
use Rattle.lotos_base.specs.Name.{spelling}
use Rattle.syntax_trees.specs.TreeViews.{placed_names_of}
use Rattle.syntax_trees.specs.WrittenItem.{extends}
use Rattle.type_presentations.specs.SectionView.{sections_of}
use Rattle.type_presentations.specs.MentionView.{mentions_of, AreSoundMentions}
use Rattle.type_presentations.specs.declared.mentions.Mention.{Mention}
use Rattle.type_presentations.specs.PresentedView.{presented_in}
use Rattle.type_flatten.proofs.OneTypeSteps.{wanting, nothing_mentioned, not_declared, no_equations, extended_by}
use Rattle.type_flatten.proofs.one_type.extension.Goals as goal

pub union_of_mentions-requires : goal.union_of_mentions-requires
union_of_mentions-requires c =
    subst (λ (xs : List Mention). AreSoundMentions xs) (sym c.as_slice-imported.ensures.value) c.in_ok-mentions.ensures.sound

pub declare-requires : goal.declare-requires
declare-requires c = record { sound = c.in_ok-union.ensures.sound; within = c.in_ok-union.ensures.within }

pub declare_equations-requires : goal.declare_equations-requires
declare_equations-requires c = record { sound = c.in_ok-declared.ensures.sound; within = c.in_ok-declared.ensures.within }

pub returns-in_err-union : goal.returns-in_err-union
returns-in_err-union c =
    let p = err_from_is_err_and c.from_residual-in_err-union.result c.from_residual-in_err-union.ensures.1 in
    rw (p.1, p.2)
    (nothing_mentioned (presented_in c.args.types.now) (spelling c.args.type_name.now) (placed_names_of c.args.imports.now)
    (sections_of c.args.sections.now) (mentions_of c.as_slice-imported.result.now) c.in_err-union.field-0.0
    (ap (λ (xs : List Mention). mentions_of xs) c.as_slice-imported.ensures.value ∙ c.in_ok-mentions.ensures.mentions)
    c.in_err-union.ensures)

pub returns-in_err-declared : goal.returns-in_err-declared
returns-in_err-declared c =
    let p = err_from_is_err_and c.from_residual-in_err-declared.result c.from_residual-in_err-declared.ensures.1 in
    rw (p.1, p.2)
    (not_declared (presented_in c.args.types.now) (spelling c.args.type_name.now) (placed_names_of c.args.imports.now)
    (sections_of c.args.sections.now) (mentions_of c.as_slice-imported.result.now) c.in_ok-union.union c.in_err-declared.field-0.0
    (ap (λ (xs : List Mention). mentions_of xs) c.as_slice-imported.ensures.value ∙ c.in_ok-mentions.ensures.mentions)
    c.in_ok-union.ensures c.in_err-declared.ensures)

pub returns : goal.returns
returns c =
    MatchResult-weaker c.declare_equations.result c.declare_equations.ensures
    (λ p made.
    extended_by (presented_in c.args.types.now) (spelling c.args.type_name.now) (placed_names_of c.args.imports.now)
    (sections_of c.args.sections.now) (mentions_of c.as_slice-imported.result.now) c.in_ok-union.union c.in_ok-declared.declared p
    (ap (λ (xs : List Mention). mentions_of xs) c.as_slice-imported.ensures.value ∙ c.in_ok-mentions.ensures.mentions)
    c.in_ok-union.ensures c.in_ok-declared.ensures (record { given = made.0; sound = made.1; within = made.2 }))
    (λ fault holds.
    no_equations (presented_in c.args.types.now) (spelling c.args.type_name.now) (placed_names_of c.args.imports.now)
    (sections_of c.args.sections.now) (mentions_of c.as_slice-imported.result.now) c.in_ok-union.union c.in_ok-declared.declared fault
    (ap (λ (xs : List Mention). mentions_of xs) c.as_slice-imported.ensures.value ∙ c.in_ok-mentions.ensures.mentions)
    c.in_ok-union.ensures c.in_ok-declared.ensures holds)

pub returns-in_err-mentions : goal.returns-in_err-mentions
returns-in_err-mentions c =
    let p = err_from_is_err_and c.from_residual.result c.from_residual.ensures.1 in
    rw (p.1, p.2)
    (wanting (presented_in c.args.types.now) (spelling c.args.type_name.now)
    (extends (placed_names_of c.args.imports.now) (sections_of c.args.sections.now)))
