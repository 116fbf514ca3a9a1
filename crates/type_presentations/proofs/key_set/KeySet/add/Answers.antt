use Rattle.std.proofs.Common.{◌∙◌, ap, not}
use Rattle.type_presentations.proofs.KeySetLemmas.{inserted, numbered, any_items}
use Rattle.type_presentations.proofs.key_set.KeySet.add.Goals as goal

pub returns-clause-keys : goal.returns-clause-keys
returns-clause-keys c =
    inserted c.args.self.now.keys.keys c.insert_full.new.self.keys c.args.key c.in_ok-number.ensures.keys

pub returns-clause-number : goal.returns-clause-number
returns-clause-number c =
    numbered c.args.self.now.keys.keys c.insert_full.new.self.keys c.args.key c.in_ok-number.number c.in_ok-number.ensures.keys
    c.in_ok-number.ensures.index

pub returns-clause-is_new : goal.returns-clause-is_new
returns-clause-is_new c =
    c.in_ok-number.ensures.added ∙ ap not (any_items c.args.self.now.keys.keys c.args.key.items)
