use Rattle.type_renaming.specs.Condensed.{sort_kind, operation_kind}
use Rattle.type_renaming.proofs.CondensedLemmas.{tells, sorts_are_a_kind, operations_are_a_kind}
use Rattle.type_renaming.proofs.coming_laws.condensed_members_tell_clashes.Goals as goal

pub returns-clause-sorts : goal.returns-clause-sorts
returns-clause-sorts c = tells sort_kind sorts_are_a_kind

pub returns-clause-operations : goal.returns-clause-operations
returns-clause-operations c = tells operation_kind operations_are_a_kind
