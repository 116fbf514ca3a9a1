use Rattle.draft_solving.proofs.NameLemmas.{turned_first, turned_second}
use Rattle.draft_solving.proofs.naming.turned_variable.Goals as goal

pub returns-then-count-clause-turned : goal.returns-then-count-clause-turned
returns-then-count-clause-turned c =
    turned_second c.args.names.now.items c.set_name.new.names.items c.args.first c.args.second c.args.sort c.smaller-name.result
    c.name_of.result c.name_of-2.result c.of.result c.name_of.ensures c.name_of-2.ensures c.smaller-name.ensures
    c.set_name.ensures c.of.ensures

pub returns-clause-turned : goal.returns-clause-turned
returns-clause-turned c =
    turned_first c.args.names.now.items c.set_name-2.new.names.items c.args.first c.args.second c.args.sort c.smaller-name.result
    c.name_of.result c.name_of-2.result c.of-2.result c.name_of.ensures c.name_of-2.ensures c.smaller-name.ensures
    c.set_name-2.ensures c.of-2.ensures
