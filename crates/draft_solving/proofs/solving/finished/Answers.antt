use Rattle.std.proofs.Common.{Some, sym, ◌∙◌, subst}
use Rattle.std.proofs.lemmas.Result.{IfOk-weaker}
use Rattle.behaviour_semantics.specs.Draft as plain
use Rattle.behaviour_semantics.specs.Solving.{entry_of, SolvesTo}
use Rattle.event_offers.specs.OfferView.{plain_draft}
use Rattle.event_offers.specs.Offers.{AreConditionsOf}
use Rattle.event_offers.specs.declared.renaming.Renaming.TheVariants.{Placed}
use Rattle.event_offers.proofs.RenamingLemmas.{renamed_pairs_of}
use Rattle.draft_solving.specs.Putting.{tests_in}
use Rattle.draft_solving.proofs.NamedWay.{ends_open}
use Rattle.draft_solving.proofs.solving.finished.Goals as goal

pub returns-clause-finished : goal.returns-clause-finished
returns-clause-finished c =
    IfOk-weaker c.gathered.result _ _ (λ made same data_ canon is_canon under passed.
    subst (λ (d : plain.Draft). SolvesTo canon (plain_draft c.args.work.draft) (Some (entry_of d)))
    (sym (same under.named.way.change (c.in_ok-spread.ensures.same ∙ under.named.way.told)))
    (ends_open data_ canon is_canon (plain_draft c.args.work.draft) c.args.work.names.items (tests_in c.args.work) under.named
    under.open_still passed)) c.gathered.ensures.same

pub returns-clause-values : goal.returns-clause-values
returns-clause-values c =
    IfOk-weaker c.gathered.result _ _ (λ made h signature are.
    h signature (subst (AreConditionsOf signature) (sym c.in_ok-spread.ensures.profiles) (renamed_pairs_of signature
    (Placed c.args.work.names) _ are))) c.gathered.ensures.values

pub returns-clause-leaves : goal.returns-clause-leaves
returns-clause-leaves c =
    IfOk-weaker c.gathered.result _ _ (λ made h signature are.
    h signature (subst (AreConditionsOf signature) (sym c.in_ok-spread.ensures.profiles) (renamed_pairs_of signature
    (Placed c.args.work.names) _ are))) c.gathered.ensures.leaves

pub returns-clause-conditions : goal.returns-clause-conditions
returns-clause-conditions c =
    IfOk-weaker c.gathered.result _ _ (λ made h signature are.
    h signature (subst (AreConditionsOf signature) (sym c.in_ok-spread.ensures.profiles) (renamed_pairs_of signature
    (Placed c.args.work.names) _ are))) c.gathered.ensures.conditions
