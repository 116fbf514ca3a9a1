use Rattle.std.proofs.Common.{◌≡◌, ap, sym, ◌∙◌, subst}
use Rattle.sort_terms.specs.Operations.{operation_of}
use Rattle.sort_terms.specs.ProfiledTerm.{ProfiledTerms, FitArguments, FitsProfiles}
use Rattle.sort_terms.specs.TermView.{all_profiled, profiled_of}
use Rattle.induct_parts.specs.Variables.{profiled_variables}
use Rattle.induct_parts.proofs.PutLemmas.{variables_fit}
use Rattle.induct_parts.proofs.operations.operation_on.Goals as goal

pub of-requires : goal.of-requires
of-requires c =
    let arguments : all_profiled c.in_ok-arguments.arguments.items
    ≡ profiled_variables c.args.next (operation_of c.args.op.now).arguments =
    c.in_ok-arguments.ensures ∙ ap (profiled_variables c.args.next) c.as_slice.ensures.value in
    let profile : operation_of c.in_ok-profile.profile.value ≡ operation_of c.args.op.now =
    ap operation_of c.in_ok-profile.ensures.ok ∙ c.in_ok-copy.ensures in
    subst FitsProfiles (sym (ap profiled_of c.in_ok-node.ensures))
    (subst (FitArguments (all_profiled c.in_ok-arguments.arguments.items)) (sym (ap (λ o. o.arguments) profile))
    (subst (λ (ts : ProfiledTerms). FitArguments ts (operation_of c.args.op.now).arguments) (sym arguments)
    (variables_fit c.args.next (operation_of c.args.op.now).arguments)))
