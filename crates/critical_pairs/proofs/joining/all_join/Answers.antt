use Rattle.std.proofs.Common.{List, sym, ◌∙◌, ap, subst}
use Rattle.std.specs.Prelude.{Option, IfNone, IfSome, slice_get}
use Rattle.path_order.specs.RulesView.{plain_rules_in, signature_in}
use Rattle.critical_pairs.specs.Joining.{NoneUnjoinedAmong, AnswersFirst, IsAnswerOver}
use Rattle.critical_pairs.specs.PairView.{critical_pairs_in}
use Rattle.critical_pairs.specs.declared.joining.Unjoined.{Unjoined}
use Rattle.critical_pairs.specs.declared.pair.Pair.{Pair}
use Rattle.critical_pairs.specs.JoinedFacts.{joined_confluent}
use Rattle.critical_pairs.proofs.JoiningLemmas.{joined_rules, unjoined_rules}
use Rattle.critical_pairs.proofs.joining.all_join.Goals as goal

pub first_unjoined-requires-clause-over : goal.first_unjoined-requires-clause-over
first_unjoined-requires-clause-over c = λ k pair is.
    c.in_ok-found.ensures.is_of k pair (ap (λ (xs : List Pair). slice_get xs k) (sym c.as_slice.ensures.value) ∙ is)

pub of-requires : goal.of-requires
of-requires c = ∣ c.in_ok-joined.ensures.joined c.if-joined.true ∣₁

pub returns-then-joined-clause-confluent : goal.returns-then-joined-clause-confluent
returns-then-joined-clause-confluent c = joined_confluent c.of.result

pub of-requires-in-None : goal.of-requires-in-None
of-requires-in-None c =
    ∣ joined_rules c.args.rules c.in_ok-found.found.items c.in_ok-found.ensures.listed
    (subst (λ (xs : List Pair). NoneUnjoinedAmong (plain_rules_in c.args.rules) (critical_pairs_in xs)) c.as_slice.ensures.value
    (subst (λ (o : Option Unjoined). IfNone o (NoneUnjoinedAmong (plain_rules_in c.args.rules) (critical_pairs_in c.as_slice.result.now)))
    c.in-None.is c.in_ok-first_unjoined.ensures.none)) ∣₁

pub returns-in-None-clause-confluent : goal.returns-in-None-clause-confluent
returns-in-None-clause-confluent c = joined_confluent c.of-in-None.result

pub returns-in-Some-clause-unjoined : goal.returns-in-Some-clause-unjoined
returns-in-Some-clause-unjoined c =
    unjoined_rules (signature_in c.args.rules) c.args.rules c.in_ok-found.found.items c.in-Some.unjoined c.in_ok-found.ensures.listed
    c.in_ok-found.ensures.is_of
    (subst (λ (xs : List Pair). AnswersFirst (plain_rules_in c.args.rules) (critical_pairs_in xs) c.in-Some.unjoined)
    c.as_slice.ensures.value
    (subst
    (λ (o : Option Unjoined). IfSome o (λ answer. AnswersFirst (plain_rules_in c.args.rules) (critical_pairs_in c.as_slice.result.now)
    answer))
    c.in-Some.is c.in_ok-first_unjoined.ensures.some))

pub returns-in-Some-clause-over : goal.returns-in-Some-clause-over
returns-in-Some-clause-over c =
    subst (λ (o : Option Unjoined). IfSome o (λ answer. IsAnswerOver (signature_in c.args.rules) answer))
    c.in-Some.is c.in_ok-first_unjoined.ensures.over
