use Rattle.type_renaming.proofs.MarkedNames.{added_name, no_name}
use Rattle.type_renaming.proofs.formal_names.add_if.Goals as goal

pub returns-then-is_formal : goal.returns-then-is_formal
returns-then-is_formal c = λ given has many.
    added_name c.add.new.self given _ c.args.is_formal c.args.count c.if-is_formal.true many (c.in_ok-add.ensures given has many)

pub returns : goal.returns
returns c = λ given has many. no_name c.args.names.now given _ c.args.is_formal c.args.count c.if-is_formal.false many has
