use Rattle.std.proofs.Common.{map, subst, ◌∙◌, ap}
use Rattle.std.specs.Prelude.{Option}
use Rattle.lotos_base.specs.WrittenTerm.{PlacedName}
use Rattle.behaviour_tree.specs.BehaviourTerms.{joined, offer_profiles}
use Rattle.behaviour_tree.specs.BehaviourView.{offer_of}
use Rattle.syntax_trees.specs.TreeViews.{written_offer_of as written_offer}
use Rattle.behaviour_tree.specs.Over.{AreTermsOf}
use Rattle.sort_terms.specs.ReaderView.{signature_read}
use Rattle.scope_parts.specs.FaultView.{Answers}
use Rattle.scope_parts.specs.Resolution.{Beside}
use Rattle.scope_parts.specs.Scope.{first_double}
use Rattle.scope_parts.specs.Terms.{OffersFollow}
use Rattle.scope_parts.specs.VisibleView.{visible_in}
use Rattle.scope_parts.proofs.AnswerLemmas.{answer_beside, beside_keeps}
use Rattle.scope_parts.proofs.DoubleLemmas.{offers_declared}
use Rattle.scope_parts.proofs.terms.Terms.offers.Goals as goal

pub returns-clause-read : goal.returns-clause-read
returns-clause-read c =
    subst
    (λ (double : Option PlacedName). Answers (λ made. map offer_of made.items) c.beside.result
    (Beside double (OffersFollow (signature_read c.args.self.now.reader) (visible_in c.args.visible.now) c.args.first
    (map written_offer c.args.texts.now.items))))
    (c.in_ok-double.ensures ∙ ap first_double (offers_declared c.args.texts.now.items))
    (answer_beside (λ made. map offer_of made.items) c.in_ok-double.double c.following_offers.result c.beside.result
    (OffersFollow (signature_read c.args.self.now.reader) (visible_in c.args.visible.now) c.args.first
    (map written_offer c.args.texts.now.items))
    c.following_offers.ensures.read c.beside.ensures)

pub returns-clause-profiles : goal.returns-clause-profiles
returns-clause-profiles c =
    beside_keeps c.in_ok-double.double c.following_offers.result c.beside.result
    (λ made. AreTermsOf (signature_read c.args.self.now.reader) (joined
    (map offer_profiles made.items))) c.beside.ensures c.following_offers.ensures.profiles
