use Rattle.std.proofs.Common.{ap, sym, ◌∙◌}
use Rattle.std.specs.Option.{option_map}
use Rattle.sort_terms.specs.SortedView.{profiled_in, term_in}
use Rattle.induct_parts.proofs.UseSteps.{no_part, part_stands}
use Rattle.induct_parts.proofs.uses.used_of.Goals as goal

pub returns-in_default-clause-none : goal.returns-in_default-clause-none
returns-in_default-clause-none c =
    let site = c.args.site.now in
    no_part site.setting.now site.proving.now site.point.now site.use_.now c.side.result.now c.as_slice.result.now c.side.ensures
    c.as_slice.ensures.value (ap (option_map (λ t. term_in t)) (sym c.in_default.is) ∙ c.in_ok-part.ensures.part)

pub used_at-requires-clause-part : goal.used_at-requires-clause-part
used_at-requires-clause-part c =
    let site = c.args.site.now in
    part_stands site.use_.now site.point.now c.side.result.now c.in-Some.part c.as_slice.result.now c.side.ensures
    c.as_slice.ensures.value (ap (option_map (λ t. profiled_in t)) (sym c.in-Some.is) ∙ c.in_ok-part.ensures.profiles)
