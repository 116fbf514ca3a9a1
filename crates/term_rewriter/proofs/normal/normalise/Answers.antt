use Rattle.std.proofs.Common.{ap, sym, ◌∙◌}
use Rattle.sort_terms.specs.TermView.{profiled_of}
use Rattle.term_rewriter.proofs.NormalisedLemmas.{whole_reduced, form_of_whole, form_has_profiles, normalised}
use Rattle.term_rewriter.proofs.normal.normalise.Goals as goal

pub form-requires-clause-values : goal.form-requires-clause-values
form-requires-clause-values c =
    whole_reduced c.args.rules.now c.args.term.now c.term-2.result.now c.in_ok-instance.instance c.term-2.ensures
    (c.in_ok-instance.ensures ∙ ap profiled_of (c.term.ensures ∙ sym c.term-2.ensures)) c.requires

pub of-requires : goal.of-requires
of-requires c =
    form_has_profiles c.args.rules.now c.args.term.now c.in_ok-form.field-0 c.requires
    (form_of_whole c.args.rules.now c.args.term.now c.term.result.now c.in_ok-instance.instance c.in_ok-form.field-0 c.term.ensures
    c.in_ok-instance.ensures c.in_ok-form.ensures)

pub returns-clause-normal : goal.returns-clause-normal
returns-clause-normal c =
    (normalised c.args.rules.now c.args.term.now c.of.result c.in_ok-form.field-0 c.of.ensures c.requires
    (form_of_whole c.args.rules.now c.args.term.now c.term.result.now c.in_ok-instance.instance c.in_ok-form.field-0 c.term.ensures
    c.in_ok-instance.ensures c.in_ok-form.ensures)).normal

pub returns-clause-reached : goal.returns-clause-reached
returns-clause-reached c =
    (normalised c.args.rules.now c.args.term.now c.of.result c.in_ok-form.field-0 c.of.ensures c.requires
    (form_of_whole c.args.rules.now c.args.term.now c.term.result.now c.in_ok-instance.instance c.in_ok-form.field-0 c.term.ensures
    c.in_ok-instance.ensures c.in_ok-form.ensures)).reached

pub returns-clause-sort : goal.returns-clause-sort
returns-clause-sort c =
    (normalised c.args.rules.now c.args.term.now c.of.result c.in_ok-form.field-0 c.of.ensures c.requires
    (form_of_whole c.args.rules.now c.args.term.now c.term.result.now c.in_ok-instance.instance c.in_ok-form.field-0 c.term.ensures
    c.in_ok-instance.ensures c.in_ok-form.ensures)).sort
