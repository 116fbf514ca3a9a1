use Rattle.std.proofs.Common.{◌+◌, List, drop, ap}
use Rattle.std.proofs.lemmas.Result.{err_from_is_err_and}
use Rattle.std.proofs.lemmas.List.{drop_all}
use Rattle.lotos_base.proofs.Pieces.{next_member}
use Rattle.lotos_base.proofs.Members.{read_member}
use Rattle.type_presentations.specs.MentionView.{mentioned_of, mentions_of}
use Rattle.type_presentations.specs.declared.mentions.Mention.{Mention}
use Rattle.type_presentations.proofs.MentionLemmas.{at_the_start, joined_next, refused_next, all_united}
use Rattle.type_presentations.proofs.mentions.join_all.Goals as goal

pub loop-mention-init : goal.loop-mention-init
loop-mention-init c =
    at_the_start c.args.union.now (mentions_of c.args.mentions.now) c.requires.sound c.requires.within c.requires.nothing_there

pub join-requires : goal.join-requires
join-requires c =
    let found =
    read_member c.args.mentions.now c.loop-mention.mention-index c.mention-item.result c.loop-mention-test.true c.mention-item.is in
    record {
      sound = c.loop-mention.invariant.sound;
      within = c.loop-mention.invariant.within;
      other_sound = c.requires.mentioned.sound c.loop-mention.mention-index c.mention-item.result found;
      other_within = c.requires.mentioned.within c.loop-mention.mention-index c.mention-item.result found;
    }

pub returns-in_err-join : goal.returns-in_err-join
returns-in_err-join c =
    let p = err_from_is_err_and c.from_residual.result c.from_residual.ensures.1 in
    rw (p.1, p.2)
    (refused_next c.loop-mention.union (mentioned_of c.mention-item.result)
    (mentions_of (drop c.loop-mention.mention-index c.args.mentions.now))
    (mentions_of (drop (c.loop-mention.mention-index + 1) c.args.mentions.now)) (mentions_of c.args.mentions.now)
    c.in_err-join.field-0.0 c.loop-mention.invariant
    (ap (λ (ms : List Mention). mentions_of ms)
    (next_member c.args.mentions.now c.loop-mention.mention-index c.mention-item.result c.loop-mention-test.true c.mention-item.is))
    c.in_err-join.ensures)

pub loop-mention-preserved : goal.loop-mention-preserved
loop-mention-preserved c =
    joined_next c.loop-mention.union _ (mentioned_of c.mention-item.result)
    (mentions_of (drop c.loop-mention.mention-index c.args.mentions.now))
    (mentions_of (drop (c.loop-mention.mention-index + 1) c.args.mentions.now)) (mentions_of c.args.mentions.now)
    c.loop-mention.invariant
    (ap (λ (ms : List Mention). mentions_of ms)
    (next_member c.args.mentions.now c.loop-mention.mention-index c.mention-item.result c.loop-mention-test.true c.mention-item.is))
    c.in_ok-join.ensures

pub returns : goal.returns
returns c =
    all_united c.loop-mention.union (mentions_of (drop c.loop-mention.mention-index c.args.mentions.now))
    (mentions_of c.args.mentions.now) c.loop-mention.invariant
    (ap (λ (ms : List Mention). mentions_of ms)
    (drop_all c.loop-mention.mention-index c.args.mentions.now c.loop-mention-test.false))
