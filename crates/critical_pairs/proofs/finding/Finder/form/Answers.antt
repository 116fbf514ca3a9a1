use Rattle.std.proofs.Common.{ap, sym, ◌∙◌, subst}
use Rattle.rewriting_theory.specs.ChosenForm.{Chosen}
use Rattle.path_order.specs.RulesView.{plain_rules_in, signature_in}
use Rattle.sort_terms.specs.ProfiledTerm.{IsOf, bare}
use Rattle.sort_terms.specs.SortedView.{term_in}
use Rattle.sort_terms.specs.TermView.{profiled_of, term_of}
use Rattle.sort_terms.specs.declared.terms.Term.{Term as CodeTerm}
use Rattle.term_store.proofs.CanonicalLemmas.{canonical_fits, canonical_of}
use Rattle.critical_pairs.proofs.finding.Finder.form.Goals as goal

pub read-requires-clause-profiled : goal.read-requires-clause-profiled
read-requires-clause-profiled c = c.requires.finder.profiled

pub read-requires-clause-have : goal.read-requires-clause-have
read-requires-clause-have c = c.requires.finder.sound.have

pub read-requires-clause-within : goal.read-requires-clause-within
read-requires-clause-within c = c.requires.number.within

pub of-requires : goal.of-requires
of-requires c =
    canonical_fits c.args.rules.now c.args.self.now.forms c.args.term.now (profiled_of c.in_ok-made.made) c.args.number
    c.requires.finder.sound c.requires.term c.requires.number c.in_ok-made.ensures

pub returns-clause-form : goal.returns-clause-form
returns-clause-form c = ap term_of c.of.ensures ∙ ap bare c.in_ok-made.ensures ∙ c.requires.number.is

pub returns-clause-chosen : goal.returns-clause-chosen
returns-clause-chosen c =
    subst (λ (t : CodeTerm). Chosen (plain_rules_in c.args.rules.now) (term_in c.args.term.now) (term_of t)) (sym c.of.ensures)
    (canonical_of c.args.rules.now c.args.self.now.forms c.args.term.now (profiled_of c.in_ok-made.made) c.args.number
    c.requires.finder.sound c.requires.number c.in_ok-made.ensures).chosen

pub returns-clause-is_of : goal.returns-clause-is_of
returns-clause-is_of c =
    subst (λ (t : CodeTerm). IsOf (signature_in c.args.rules.now) (profiled_of t)) (sym c.of.ensures)
    (canonical_of c.args.rules.now c.args.self.now.forms c.args.term.now (profiled_of c.in_ok-made.made) c.args.number
    c.requires.finder.sound c.requires.number c.in_ok-made.ensures).is_of
