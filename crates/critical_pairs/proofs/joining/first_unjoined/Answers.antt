use Rattle.std.proofs.Common.{◌<◌, [], ◌∷◌, sym, ◌∙◌, subst, arith, below_more}
use Rattle.std.specs.Prelude.{Option, IfNone, IfSome}
use Rattle.std.proofs.lemmas.Option.{same_Some}
use Rattle.path_order.specs.RulesView.{plain_rules_in, signature_in}
use Rattle.critical_pairs.specs.Joining.{NoneUnjoinedAmong, AnswersPair, IsAnswerOver}
use Rattle.critical_pairs.specs.PairView.{critical_pair_of}
use Rattle.critical_pairs.specs.declared.joining.Unjoined.{Unjoined}
use Rattle.critical_pairs.proofs.JoiningLemmas.{pair_listed, item_there, listed_within, alone}
use Rattle.critical_pairs.proofs.joining.first_unjoined.Goals as goal

pub unjoined_at-requires-clause-over : goal.unjoined_at-requires-clause-over
unjoined_at-requires-clause-over c =
    c.requires.over c.loop-pair.pair-index c.pair-item.result
    (item_there c.args.pairs.now c.loop-pair.pair-index c.pair-item.result c.loop-pair-test.true c.pair-item.is)

pub returns-in-Some-clause-some : goal.returns-in-Some-clause-some
returns-in-Some-clause-some c = record {
  number = c.loop-pair.pair-index;
  pair = critical_pair_of c.pair-item.result;
  is_pair = pair_listed c.args.pairs.now c.loop-pair.pair-index c.pair-item.result
      (item_there c.args.pairs.now c.loop-pair.pair-index c.pair-item.result c.loop-pair-test.true c.pair-item.is);
  answers = subst (λ (o : Option Unjoined). IfSome o
      (λ answer. AnswersPair (plain_rules_in c.args.rules.now) (critical_pair_of c.pair-item.result) answer))
      c.in-Some.is c.in_ok-unjoined.ensures.some;
  none_before = λ k earlier t u less is. c.loop-pair.invariant.0 k less earlier t u is;
}

pub returns-in-Some-clause-over : goal.returns-in-Some-clause-over
returns-in-Some-clause-over c =
    subst (λ (o : Option Unjoined). IfSome o (λ answer. IsAnswerOver (signature_in c.args.rules.now) answer))
    c.in-Some.is c.in_ok-unjoined.ensures.over

pub loop-pair-preserved : goal.loop-pair-preserved
loop-pair-preserved c =
    let none : NoneUnjoinedAmong (plain_rules_in c.args.rules.now) (critical_pair_of c.pair-item.result ∷ []) =
    subst
    (λ (o : Option Unjoined). IfNone o (NoneUnjoinedAmong (plain_rules_in c.args.rules.now) (critical_pair_of c.pair-item.result ∷ [])))
    c.in_default.is c.in_ok-unjoined.ensures.none in
    let there = pair_listed c.args.pairs.now c.loop-pair.pair-index c.pair-item.result
    (item_there c.args.pairs.now c.loop-pair.pair-index c.pair-item.result c.loop-pair-test.true c.pair-item.is) in (
      below_more _ _ c.loop-pair.invariant.0
          (λ pair t u is. alone (plain_rules_in c.args.rules.now) (critical_pair_of c.pair-item.result) pair t u none
          (same_Some _ _ (sym there ∙ is))),
      c.unjoined_at.ensures.finder,
    )

pub returns-clause-none : goal.returns-clause-none
returns-clause-none c = λ k pair t u is.
    let within = listed_within c.args.pairs.now k pair is in
    let less : k < c.loop-pair.pair-index = omega (arith, within) in
    c.loop-pair.invariant.0 k less pair t u is
