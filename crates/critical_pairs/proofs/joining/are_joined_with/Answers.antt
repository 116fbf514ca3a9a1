use Rattle.std.proofs.Common.{List, ap, sym, ◌∙◌, subst}
use Rattle.std.specs.Prelude.{Option, IfNone, slice_get}
use Rattle.rewriting_theory.specs.Places.{places_with}
use Rattle.path_order.specs.RulesView.{plain_rules_in, signature_in}
use Rattle.critical_pairs.specs.Extended.{AddsPairsOf}
use Rattle.critical_pairs.specs.Joining.{NoneUnjoinedAmong}
use Rattle.critical_pairs.specs.Listing.{ArePairsOver}
use Rattle.critical_pairs.specs.PairView.{critical_pairs_in}
use Rattle.critical_pairs.specs.declared.joining.Unjoined.{Unjoined}
use Rattle.critical_pairs.specs.declared.pair.Pair.{Pair}
use Rattle.critical_pairs.proofs.ExtendLemmas.{nothing_over}
use Rattle.critical_pairs.proofs.JoiningLemmas.{joined_found}
use Rattle.critical_pairs.proofs.RuleLemmas.{plain_there}
use Rattle.critical_pairs.proofs.joining.are_joined_with.Goals as goal

pub first_unjoined-requires-clause-over : goal.first_unjoined-requires-clause-over
first_unjoined-requires-clause-over c = λ k pair is.
    let rule = plain_there c.args.rules.now.rules.items c.args.first c.requires.first in
    (c.in_ok-found.ensures rule.0 rule.1).over
    (subst (λ (ps : List Pair). ArePairsOver (signature_in c.args.rules.now) ps) (sym c.new.ensures.items)
    (nothing_over (signature_in c.args.rules.now)))
    k pair (ap (λ (xs : List Pair). slice_get xs k) (sym c.as_slice.ensures.value) ∙ is)

pub returns-in-None-clause-joined : goal.returns-in-None-clause-joined
returns-in-None-clause-joined c = λ _ rule is.
    joined_found c.args.rules.now (places_with c.args.first rule 0 (plain_rules_in c.args.rules.now)) c.in_ok-found.found.items
    (subst (λ (ps : List Pair). AddsPairsOf c.args.rules.now (places_with c.args.first rule 0 (plain_rules_in c.args.rules.now)) ps
    c.in_ok-found.found.items) c.new.ensures.items (c.in_ok-found.ensures rule is))
    (subst (λ (xs : List Pair). NoneUnjoinedAmong (plain_rules_in c.args.rules.now) (critical_pairs_in xs)) c.as_slice.ensures.value
    (subst
    (λ (o : Option Unjoined). IfNone o (NoneUnjoinedAmong (plain_rules_in c.args.rules.now) (critical_pairs_in c.as_slice.result.now)))
    c.in-None.is c.in_ok-first_unjoined.ensures.none))
