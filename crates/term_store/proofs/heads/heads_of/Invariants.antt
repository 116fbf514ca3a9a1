use Rattle.std.proofs.Common.{◌≡◌, true, take}
use Rattle.std.specs.List.{list_all}
use Rattle.term_store.proofs.HeadLemmas.{rule_has_bit}
use Rattle.term_store.proofs.heads.heads_of.Given as goal

abbrev pub invariant-loop-rule : goal.invariant-loop-rule
invariant-loop-rule l = list_all (rule_has_bit l.heads) (take l.rule-index l.rule-items) ≡ true
