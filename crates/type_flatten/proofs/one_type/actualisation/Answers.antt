use Rattle.std.proofs.Common.{◌∙◌, List, ap, sym, subst}
use Rattle.std.proofs.lemmas.Result.{MatchResult-weaker, err_from_is_err_and}
use Rattle.lotos_base.specs.Name.{spelling}
use Rattle.lotos_base.specs.WrittenView.{placed_name_of}
use Rattle.syntax_trees.specs.TreeViews.{placed_names_of, pairs_of}
use Rattle.syntax_trees.specs.WrittenItem.{actualises}
use Rattle.type_presentations.specs.PresentationView.{presentation_of}
use Rattle.type_presentations.specs.MentionView.{mentions_of, AreSoundMentions}
use Rattle.type_presentations.specs.declared.mentions.Mention.{Mention}
use Rattle.type_presentations.specs.PresentedView.{presented_in}
use Rattle.type_flatten.proofs.OneTypeSteps.{wanting, nothing_to_actualise, no_actuals, actualised_by, not_actualised}
use Rattle.type_flatten.proofs.one_type.actualisation.Goals as goal

pub is_formal-requires : goal.is_formal-requires
is_formal-requires c = record { sound = c.in_ok-base.ensures.sound.0; within = c.in_ok-base.ensures.sound.1 }

pub actualise-requires : goal.actualise-requires
actualise-requires c = record {
  sound = c.in_ok-base.ensures.sound.0;
  within = c.in_ok-base.ensures.sound.1;
  actual_sound = c.in_ok-actual.ensures.sound;
  actual_within = c.in_ok-actual.ensures.within;
}

pub returns-then-not-is_formal : goal.returns-then-not-is_formal
returns-then-not-is_formal c =
    let done = presented_in c.args.types.now in
    let at = placed_name_of c.args.mentioned.now.base.now in
    let names = placed_names_of c.args.mentioned.now.actuals.now in
    let name = spelling c.args.type_name.now in
    let pairs = pairs_of c.args.sort_pairs.now c.args.op_pairs.now in
    let base = presentation_of c.in_ok-base.base.now in
    nothing_to_actualise done name at names pairs base c.not_formal.result c.in_ok-base.ensures.presentation
    (sym c.is_formal.ensures ∙ c.if-not-is_formal.true) c.not_formal.ensures

pub union_of_mentions-requires : goal.union_of_mentions-requires
union_of_mentions-requires c =
    subst (λ (xs : List Mention). AreSoundMentions xs) (sym c.as_slice-given.ensures.value) c.in_ok-mentions.ensures.sound

pub returns-in_err-actual : goal.returns-in_err-actual
returns-in_err-actual c =
    let done = presented_in c.args.types.now in
    let at = placed_name_of c.args.mentioned.now.base.now in
    let names = placed_names_of c.args.mentioned.now.actuals.now in
    let name = spelling c.args.type_name.now in
    let pairs = pairs_of c.args.sort_pairs.now c.args.op_pairs.now in
    let base = presentation_of c.in_ok-base.base.now in
    let p = err_from_is_err_and c.from_residual-in_err-actual.result c.from_residual-in_err-actual.ensures.1 in
    rw (p.1, p.2)
    (no_actuals done name at names pairs base (mentions_of c.as_slice-given.result.now) c.in_err-actual.field-0.0
    c.in_ok-base.ensures.presentation (sym c.is_formal.ensures ∙ c.if-not-is_formal.false)
    (ap (λ (xs : List Mention). mentions_of xs) c.as_slice-given.ensures.value ∙ c.in_ok-mentions.ensures.mentions)
    c.in_err-actual.ensures)

pub returns : goal.returns
returns c =
    let done = presented_in c.args.types.now in
    let at = placed_name_of c.args.mentioned.now.base.now in
    let names = placed_names_of c.args.mentioned.now.actuals.now in
    let name = spelling c.args.type_name.now in
    let pairs = pairs_of c.args.sort_pairs.now c.args.op_pairs.now in
    let base = presentation_of c.in_ok-base.base.now in
    MatchResult-weaker c.actualise.result c.actualise.ensures
    (λ p made.
    actualised_by done name at names pairs base (mentions_of c.as_slice-given.result.now) c.in_ok-actual.actual p
    c.in_ok-base.ensures.presentation (sym c.is_formal.ensures ∙ c.if-not-is_formal.false)
    (ap (λ (xs : List Mention). mentions_of xs) c.as_slice-given.ensures.value ∙ c.in_ok-mentions.ensures.mentions)
    c.in_ok-actual.ensures made)
    (λ fault refused.
    not_actualised done name at names pairs base (mentions_of c.as_slice-given.result.now) c.in_ok-actual.actual fault
    c.in_ok-base.ensures.presentation (sym c.is_formal.ensures ∙ c.if-not-is_formal.false)
    (ap (λ (xs : List Mention). mentions_of xs) c.as_slice-given.ensures.value ∙ c.in_ok-mentions.ensures.mentions)
    c.in_ok-actual.ensures refused)

pub returns-in_err-base : goal.returns-in_err-base
returns-in_err-base c =
    let p = err_from_is_err_and c.from_residual.result c.from_residual.ensures.1 in
    rw (p.1, p.2)
    (wanting (presented_in c.args.types.now) (spelling c.args.type_name.now)
    (actualises (placed_name_of c.args.mentioned.now.base.now) (placed_names_of c.args.mentioned.now.actuals.now)
    (pairs_of c.args.sort_pairs.now c.args.op_pairs.now)))

pub returns-in_err-mentions : goal.returns-in_err-mentions
returns-in_err-mentions c =
    let p = err_from_is_err_and c.from_residual-in_err-mentions.result c.from_residual-in_err-mentions.ensures.1 in
    rw (p.1, p.2)
    (wanting (presented_in c.args.types.now) (spelling c.args.type_name.now)
    (actualises (placed_name_of c.args.mentioned.now.base.now) (placed_names_of c.args.mentioned.now.actuals.now)
    (pairs_of c.args.sort_pairs.now c.args.op_pairs.now)))
