use Rattle.std.proofs.Common.{◌≡◌, ◌++◌, map, drop}
use Rattle.behaviour_tree.specs.BehaviourView.{offer_of, variables_of}
use Rattle.printed_texts.specs.BehaviourText.{offers_text}
use Rattle.report_text.specs.NamingView.{naming_of}
use Rattle.report_text.proofs.premisses.push_offers.Given as goal

-- the offers so far are written
abbrev pub invariant-loop-offer : goal.invariant-loop-offer
invariant-loop-offer l =
    l.into.items ++ offers_text (naming_of l.naming) (variables_of l.names) (map offer_of (drop l.offer-index l.offer-items))
    ≡ l.initial.into.items ++ offers_text (naming_of l.naming) (variables_of l.names) (map offer_of l.offer-items)
