use Rattle.std.proofs.Common.{map, ap, ◌∙◌}
use Rattle.lotos_base.specs.Equation.{Variable}
use Rattle.sort_terms.specs.EquationView.{variable_of}
use Rattle.induct_parts.specs.SettingView.{IsKnownLemma}
use Rattle.induct_parts.proofs.StepLemmas.{each_pushed}
use Rattle.induct_check.specs.KnownView.{known_signature}
use Rattle.induct_check.proofs.ReadingLemmas.{newly_known}
use Rattle.induct_check.proofs.reading.add_lemma.Goals as goal

pub returns-clause-known : goal.returns-clause-known
returns-clause-known c = λ known stated over. record {
  certificate = record {
    trees = known.certificate.trees;
    lemmas = each_pushed (IsKnownLemma (known_signature c.args.known.now)) c.args.reading.now.certificate.lemmas.items
        c.push-2.new.self.items _ c.in_ok-push-2.ensures.items
        (newly_known (known_signature c.args.known.now) (map variable_of c.args.variables.items) c.args.statement c.in_ok-sorts.sorts _
        (c.in_ok-sorts.ensures ∙ ap (λ vs. map (λ (v : Variable). v.sort) (map variable_of vs)) c.as_slice-2.ensures.value) stated over)
        known.certificate.lemmas;
  };
  covers = known.covers;
  part = tt;
}
