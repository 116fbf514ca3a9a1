use Rattle.std.proofs.Common.{ap, sym, ◌∙◌, subst}
use Rattle.std.proofs.lemmas.Result.{IfOk-weaker}
use Rattle.rewriting_theory.specs.Reduction.{Reaches, reached_already}
use Rattle.rewriting_theory.specs.Rewriting.{IsNormal, Rewrites}
use Rattle.path_order.specs.RulesView.{plain_rules_in, signature_in}
use Rattle.sort_terms.specs.ProfiledTerm.{bare, IsOf}
use Rattle.sort_terms.specs.SortedView.{term_in}
use Rattle.term_store.proofs.StoreLemmas.{normal_is_canon}
use Rattle.term_store.proofs.store.Store.canonical_term.Goals as goal

-- a term that no rule can be used in
pub returns-then-leaves-clause-canonical : goal.returns-then-leaves-clause-canonical
returns-then-leaves-clause-canonical c =
    IfOk-weaker c.copy.result _ _
    (λ form h. ap bare h ∙ normal_is_canon c.args.self.now (term_in c.args.term.now) (c.leaves.ensures c.if-leaves.true)) c.copy.ensures

pub returns-then-leaves-clause-normal : goal.returns-then-leaves-clause-normal
returns-then-leaves-clause-normal c =
    IfOk-weaker c.copy.result _ _
    (λ form h. subst (IsNormal (plain_rules_in c.args.self.now.rules)) (sym (ap bare h)) (c.leaves.ensures c.if-leaves.true))
    c.copy.ensures

pub returns-then-leaves-clause-reached : goal.returns-then-leaves-clause-reached
returns-then-leaves-clause-reached c =
    IfOk-weaker c.copy.result _ _
    (λ form h. subst (Reaches (Rewrites (plain_rules_in c.args.self.now.rules)) (term_in c.args.term.now)) (sym (ap bare h))
    reached_already) c.copy.ensures

pub returns-then-leaves-clause-is_of : goal.returns-then-leaves-clause-is_of
returns-then-leaves-clause-is_of c =
    IfOk-weaker c.copy.result _ _ (λ form h. subst (IsOf (signature_in c.args.self.now.rules)) (sym h) c.requires) c.copy.ensures
