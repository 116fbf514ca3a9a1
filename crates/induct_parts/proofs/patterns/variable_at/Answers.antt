use Rattle.std.proofs.Common.{◌≡◌, ℕ, ap, sym, ◌∙◌, subst}
use Rattle.std.specs.Option.{option_map}
use Rattle.std.specs.Prelude.{Some, MatchOption}
use Rattle.lotos_base.specs.Path.{subterm}
use Rattle.lotos_base.specs.Term.{variable}
use Rattle.sort_terms.specs.TermView.{profiled_of, term_of}
use Rattle.sort_terms.specs.declared.terms.Term.{Term as CodeTerm}
use Rattle.induct_parts.proofs.PartFacts.{variable_there, no_part_there}
use Rattle.induct_parts.proofs.patterns.variable_at.Goals as goal

pub returns-in-None : goal.returns-in-None
returns-in-None c =
    subst (λ (t : CodeTerm). (n s : ℕ) → ¬ (subterm c.args.path.now (term_of t) ≡ Some (variable n s))) c.term.ensures
    (no_part_there c.args.path.now c.term.result.now c.in-None.ensures)

pub returns-in-Some : goal.returns-in-Some
returns-in-Some c =
    subst (λ (t : CodeTerm). MatchOption c.variable_of.result ((n s : ℕ) → ¬ (subterm c.args.path.now (term_of t) ≡ Some (variable n s)))
    (λ found. subterm c.args.path.now (term_of t) ≡ Some (variable found.0 found.1))) c.term.ensures
    (variable_there c.args.path.now c.term.result.now c.in-Some.part.now c.variable_of.result
    (ap (option_map (λ t. profiled_of t.now)) (sym c.in-Some.is) ∙ c.part_at.ensures) c.variable_of.ensures)
