use Rattle.type_actualisation.proofs.formal_types.FormalTypes.union_named.Goals as goal

pub join_all-requires : goal.join_all-requires
join_all-requires c = record { types = c.requires; nothing = c.new-union.ensures }

pub returns : goal.returns
returns c = c.in_ok-join_all.ensures
