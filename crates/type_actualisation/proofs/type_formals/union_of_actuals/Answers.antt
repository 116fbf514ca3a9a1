use Rattle.std.proofs.Common.{List, ap, sym, subst, ◌∙◌}
use Rattle.std.proofs.lemmas.Result.{MatchResult-weaker}
use Rattle.syntax_trees.specs.TreeViews.{placed_names_of}
use Rattle.type_definitions.specs.Flattened.{mentions_with}
use Rattle.type_definitions.specs.Union.{Mentioned}
use Rattle.type_presentations.specs.MentionView.{AreSoundMentions, mentions_of}
use Rattle.type_presentations.specs.PresentedView.{presented_in}
use Rattle.type_presentations.specs.UnionMade.{IsUnited}
use Rattle.type_presentations.specs.declared.mentions.Mention.{Mention}
use Rattle.type_actualisation.proofs.type_formals.union_of_actuals.Goals as goal

pub mentions-requires : goal.mentions-requires
mentions-requires c = c.requires

pub union_of_mentions-requires : goal.union_of_mentions-requires
union_of_mentions-requires c =
    subst (λ (xs : List Mention). AreSoundMentions xs) (sym c.as_slice-given.ensures.value) c.in_ok-mentions.ensures.sound

pub returns : goal.returns
returns c =
    MatchResult-weaker c.union_of_mentions.result c.union_of_mentions.ensures
    (λ p made.
    subst (λ (ms : List Mentioned). IsUnited ms p)
    (ap (λ (xs : List Mention). mentions_of xs) c.as_slice-given.ensures.value ∙ c.in_ok-mentions.ensures.mentions) made)
    (λ fault h. tt)
