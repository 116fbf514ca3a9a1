-- Equal terms have one normal form, and a member of the list is its own.
use Rattle.value_lists.proofs.ClassLemmas.{only_member, member_small, stays_itself}
use Rattle.value_lists.proofs.laws.classes_have_one_value.Goals as goal

pub returns-clause-one : goal.returns-clause-one
returns-clause-one c = only_member

pub returns-clause-none : goal.returns-clause-none
returns-clause-none c = member_small

pub returns-clause-irreducible : goal.returns-clause-irreducible
returns-clause-irreducible c = stays_itself
