use Rattle.std.proofs.Common.{ap, sym, ◌∙◌, subst}
use Rattle.std.proofs.lemmas.Result.{IfOk-weaker}
use Rattle.rewriting_theory.specs.Reduction.{Reaches, reached_already}
use Rattle.rewriting_theory.specs.Rewriting.{IsNormal, Rewrites}
use Rattle.path_order.specs.RulesView.{plain_rules_in, signature_in}
use Rattle.sort_terms.specs.ProfiledTerm.{bare, IsOf}
use Rattle.sort_terms.specs.SortedView.{term_in}
use Rattle.sort_terms.specs.TermView.{profiled_of, term_of}
use Rattle.sort_terms.specs.declared.terms.Term.{Term as CodeTerm}
use Rattle.term_store.proofs.StoreLemmas.{read_canonical, normal_is_canon}
use Rattle.term_store.proofs.store.Store.form_of.Goals as goal

pub of-requires : goal.of-requires
of-requires c =
    (read_canonical c.args.self.now.rules c.number.new.self.rules c.number.new.self.forms c.args.term.now (profiled_of c.in_ok-made.made)
    c.in_ok-found.found.number c.number.ensures.rules c.number.new.self.sound c.requires c.in_ok-found.ensures.number
    c.in_ok-made.ensures).fits

pub returns-clause-normal : goal.returns-clause-normal
returns-clause-normal c =
    subst (λ (t : CodeTerm). IsNormal (plain_rules_in c.args.self.now.rules) (term_of t)) (sym c.of.ensures)
    (read_canonical c.args.self.now.rules c.number.new.self.rules c.number.new.self.forms c.args.term.now (profiled_of c.in_ok-made.made)
    c.in_ok-found.found.number c.number.ensures.rules c.number.new.self.sound c.requires c.in_ok-found.ensures.number
    c.in_ok-made.ensures).normal

pub returns-clause-reached : goal.returns-clause-reached
returns-clause-reached c =
    subst (λ (t : CodeTerm). Reaches (Rewrites (plain_rules_in c.args.self.now.rules)) (term_in c.args.term.now) (term_of t))
    (sym c.of.ensures)
    (read_canonical c.args.self.now.rules c.number.new.self.rules c.number.new.self.forms c.args.term.now (profiled_of c.in_ok-made.made)
    c.in_ok-found.found.number c.number.ensures.rules c.number.new.self.sound c.requires c.in_ok-found.ensures.number
    c.in_ok-made.ensures).reached

-- a term that is its own canonical term
pub returns-then-found-clause-canonical : goal.returns-then-found-clause-canonical
returns-then-found-clause-canonical c =
    IfOk-weaker c.copy.result _ _
    (λ form h. ap bare h ∙ normal_is_canon c.args.self.now (term_in c.args.term.now) (c.in_ok-found.ensures.own c.if-found.true))
    c.copy.ensures

pub returns-then-found-clause-normal : goal.returns-then-found-clause-normal
returns-then-found-clause-normal c =
    IfOk-weaker c.copy.result _ _
    (λ form h. subst (IsNormal (plain_rules_in c.args.self.now.rules)) (sym (ap bare h)) (c.in_ok-found.ensures.own c.if-found.true))
    c.copy.ensures

pub returns-then-found-clause-reached : goal.returns-then-found-clause-reached
returns-then-found-clause-reached c =
    IfOk-weaker c.copy.result _ _
    (λ form h. subst (Reaches (Rewrites (plain_rules_in c.args.self.now.rules)) (term_in c.args.term.now)) (sym (ap bare h))
    reached_already) c.copy.ensures

pub returns-then-found-clause-is_of : goal.returns-then-found-clause-is_of
returns-then-found-clause-is_of c =
    IfOk-weaker c.copy.result _ _ (λ form h. subst (IsOf (signature_in c.args.self.now.rules)) (sym h) c.requires) c.copy.ensures
