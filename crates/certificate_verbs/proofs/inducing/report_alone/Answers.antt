use Rattle.std.proofs.Common.{◌≡◌, ℕ, List, [], ◌++◌, length, map, refl, subst, ◌∙◌}
use Rattle.lotos_base.specs.Name.{spelling}
use Rattle.sort_terms.specs.EquationView.{equation_of}
use Rattle.induct_check.specs.HandedOn.{lemmas_in}
use Rattle.command_words.specs.HandedOn.{TextNames}
use Rattle.sort_terms.specs.declared.equations.Equation.{Equation}
use Rattle.certificate_verbs.specs.Inducing.{AreLines}
use Rattle.certificate_verbs.proofs.InducingLemmas.{report_made}
use Rattle.certificate_verbs.proofs.inducing.report_alone.Goals as goal

pub returns : goal.returns
returns c =
    let names : TextNames = record { spec = c.args.spec.now; order = []; libraries = map spelling c.as_slice.result.now } in
    report_made c.args.spec.now c.args.required.now c.args.lemmas.now names _ (length c.args.lemmas.now) c.len.result
    c.new-text.result.items c.push_counts.new.into.items
    (λ i. record { spec = c.args.spec.now; order = []; libraries = map spelling (c.as_slice.ensures.value i) }) refl
    (c.len.ensures ∙ c.args.required.now.equations.ok.0) c.new-text.ensures.items c.in_ok-push_counts.ensures
    (subst (λ (es : List Equation). (lines : List ℕ) × AreLines names (lemmas_in c.args.lemmas.now) (map equation_of es) lines
    × (c.push_requirements.new.into.items ≡ c.push_counts.new.into.items ++ lines)) c.as_slice-2.ensures.value
    c.in_ok-push_requirements.ensures)
    refl
