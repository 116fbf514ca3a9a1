use Rattle.std.proofs.Common.{sym, subst}
use Rattle.lotos_base.specs.Signature.{Signature}
use Rattle.sort_terms.specs.ProfiledTerm.{IsOf}
use Rattle.sort_terms.specs.SortedView.{profiled_in}
use Rattle.path_order.specs.RulesView.{rules_in}
use Rattle.term_rewriter.proofs.oriented.normal_over.Goals as goal

pub normalise-requires : goal.normalise-requires
normalise-requires c =
    subst (λ (signature : Signature). IsOf signature (profiled_in c.args.term.now)) (sym c.in_ok-rules.ensures.signature) c.requires.term

pub returns-clause-chosen : goal.returns-clause-chosen
returns-clause-chosen c = record {
  rules = rules_in c.in_ok-rules.rules;
  are_rules = c.in_ok-rules.ensures.rules;
  chosen = c.in_ok-normalise.ensures.chosen;
}
