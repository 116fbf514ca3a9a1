use Rattle.std.proofs.Common.{Option, option_map, option_to_list, ap, sym, subst}
use Rattle.std.specs.Prelude.{IfSome}
use Rattle.std.proofs.lemmas.Result.{IfOk-weaker}
use Rattle.event_offers.specs.OfferView.{plain_draft, plain_entry}
use Rattle.event_offers.specs.Offers.{IsDraftOver}
use Rattle.event_offers.specs.declared.drafts.Draft.{Draft}
use Rattle.shared_entries.specs.Joined.{SolvesMore}
use Rattle.shared_entries.proofs.PushedLemmas.{entry_over_terms}
use Rattle.shared_entries.proofs.SolvedLemmas.{no_more, one_more}
use Rattle.shared_entries.proofs.joins.push_solved.Goals as goal

pub returns-in-None-clause-solved : goal.returns-in-None-clause-solved
returns-in-None-clause-solved g c =
    no_more (g.D.Deciding.canon c.args.decider.now) c.args.items.now.items (option_to_list (option_map plain_draft c.args.draft))
    (ap (λ (o : Option Draft). option_to_list (option_map plain_draft o)) c.in-None.is)

pub solve-requires : goal.solve-requires
solve-requires g c =
    subst (λ (o : Option Draft). IfSome o (λ (d : Draft). IsDraftOver (g.D.Deciding.known_data c.args.decider.now).signature d))
    c.in-Some.is c.requires

pub returns-in_ok-entry-in-Some-clause-solved : goal.returns-in_ok-entry-in-Some-clause-solved
returns-in_ok-entry-in-Some-clause-solved g c =
    IfOk-weaker c.push_entry.result _ _ (λ done e.
    subst (λ (o : Option Draft). SolvesMore (g.D.Deciding.canon c.args.decider.now) c.args.items.now.items c.push_entry.new.items.items
    (option_to_list (option_map plain_draft o))) (sym c.in-Some.is)
    (one_more (g.D.Deciding.canon c.args.decider.now) c.args.items.now.items c.push_entry.new.items.items (plain_draft c.in-Some.draft)
    (option_map plain_entry c.in_ok-entry-in-Some.entry) e c.in_ok-entry-in-Some.ensures.solved)) c.push_entry.ensures.same

pub returns-in_ok-entry-in-Some-clause-terms : goal.returns-in_ok-entry-in-Some-clause-terms
returns-in_ok-entry-in-Some-clause-terms g c =
    IfOk-weaker c.push_entry.result _ _ (λ done e k. e (g.D.Deciding.known_data c.args.decider.now).signature
    (entry_over_terms (g.D.Deciding.known_data c.args.decider.now).signature c.in_ok-entry-in-Some.entry
    c.in_ok-entry-in-Some.ensures.over) k) c.push_entry.ensures.terms
