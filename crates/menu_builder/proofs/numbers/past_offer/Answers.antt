use Rattle.std.proofs.lemmas.Result.{IfOk-weaker}
use Rattle.menu_builder.proofs.NumberLemmas.{asked_most, given_most}
use Rattle.menu_builder.proofs.numbers.past_offer.Goals as goal

pub returns-in-Give-clause-above : goal.returns-in-Give-clause-above
returns-in-Give-clause-above c = given_most c.args.offer.now _ c.args.least c.in-Give.is

pub returns-in-Ask-clause-above : goal.returns-in-Ask-clause-above
returns-in-Ask-clause-above c =
    IfOk-weaker c.past.result _ _ (λ n less. asked_most c.args.offer.now c.in-Ask.variable n c.in-Ask.is less) c.past.ensures.above
