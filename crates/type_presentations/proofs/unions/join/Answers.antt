use Rattle.type_presentations.specs.PresentationView.{presentation_of}
use Rattle.type_presentations.specs.JoiningView.{in_one}
use Rattle.type_presentations.specs.MentionView.{mentioned_of}
use Rattle.type_presentations.proofs.JoinSteps.{sorts_refused, operations_refused, size_refused, all_joined, sound_in_one}
use Rattle.type_presentations.proofs.unions.join.Goals as goal

pub put_together-requires : goal.put_together-requires
put_together-requires c = record {
  sound = sound_in_one c.args.first.now c.requires.sound;
  within = c.requires.within;
  other_sound = c.requires.other_sound;
  other_within = c.requires.other_within;
}

pub returns-then-clashes : goal.returns-then-clashes
returns-then-clashes c =
    sorts_refused (presentation_of c.args.first.now) (mentioned_of c.args.mention.now)
    (in_one c.put_together.new.sorts c.put_together.new.ops c.put_together.new.equations c.put_together.new.formal_sorts
    c.put_together.new.formal_ops)
    c.in_ok-clashes.clashes c.double_sort.result c.in_ok-clashes.ensures c.if-clashes.true c.double_sort.ensures

pub returns-then-clashes-2 : goal.returns-then-clashes-2
returns-then-clashes-2 c =
    operations_refused (presentation_of c.args.first.now) (mentioned_of c.args.mention.now)
    (in_one c.put_together.new.sorts c.put_together.new.ops c.put_together.new.equations c.put_together.new.formal_sorts
    c.put_together.new.formal_ops)
    c.in_ok-clashes.clashes c.double_operation.result c.in_ok-clashes.ensures c.if-clashes.false c.if-clashes-2.true
    c.double_operation.ensures

pub returns-then-is_too_large : goal.returns-then-is_too_large
returns-then-is_too_large c =
    size_refused (presentation_of c.args.first.now) (mentioned_of c.args.mention.now)
    (in_one c.put_together.new.sorts c.put_together.new.ops c.put_together.new.equations c.put_together.new.formal_sorts
    c.put_together.new.formal_ops)
    c.in_ok-clashes.clashes c.is_too_large.result c.too_large.result c.in_ok-clashes.ensures c.if-clashes.false
    c.if-clashes-2.false c.is_too_large.ensures c.if-is_too_large.true c.too_large.ensures

pub returns : goal.returns
returns c =
    all_joined (presentation_of c.args.first.now) (mentioned_of c.args.mention.now)
    (in_one c.put_together.new.sorts c.put_together.new.ops c.put_together.new.equations c.put_together.new.formal_sorts
    c.put_together.new.formal_ops)
    c.in_ok-clashes.clashes c.is_too_large.result c.in_ok-clashes.ensures c.if-clashes.false c.if-clashes-2.false
    c.is_too_large.ensures c.if-is_too_large.false
