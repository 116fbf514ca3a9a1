use Rattle.std.proofs.Common.{◌≡◌, ap, sym, ◌∙◌}
use Rattle.std.specs.Option.{option_map}
use Rattle.std.specs.Prelude.{Some}
use Rattle.std.proofs.lemmas.Result.{IfOk-weaker}
use Rattle.lotos_base.specs.Path.{put_at}
use Rattle.sort_terms.specs.SortedView.{profiled_in, term_in}
use Rattle.sort_terms.specs.declared.sorted.Sorted.{Sorted}
use Rattle.induct_parts.proofs.Outcomes.{if_some_at}
use Rattle.induct_parts.proofs.UseSteps.{values_sorted, part_leads, replaced_used, replaced_over}
use Rattle.induct_parts.proofs.uses.replaced.Goals as goal

pub apply-requires : goal.apply-requires
apply-requires c =
    let site = c.args.site.now in
    record {
      keeps_sorts =
          values_sorted site.setting.now site.proving.now site.point.now site.use_.now site.statement.now c.args.subst.now
          c.placed.result.now c.requires.known c.requires.source c.requires.matched c.placed.ensures;
    }

pub returns-clause-used : goal.returns-clause-used
returns-clause-used c =
    let site = c.args.site.now in
    IfOk-weaker c.with_side.result _ _
    (λ made h. replaced_used site.setting.now site.proving.now site.point.now site.use_.now site.statement.now c.args.subst.now
    c.placed.result.now c.side.result.now c.in_ok-new.new c.in-Some.after c.as_slice.result.now made c.requires.known c.requires.source
    c.requires.matched c.placed.ensures c.side.ensures c.as_slice.ensures.value c.in_ok-new.ensures.instance
    (if_some_at (λ (after : Sorted). put_at c.as_slice.result.now (term_in c.in_ok-new.new) (term_in c.side.result.now)
    ≡ Some (term_in after))
    c.in_ok-whole.whole c.in-Some.after c.in-Some.is c.in_ok-whole.ensures.plain)
    h)
    c.with_side.ensures

pub returns-clause-over : goal.returns-clause-over
returns-clause-over c =
    let site = c.args.site.now in
    IfOk-weaker c.with_side.result _ _
    (λ made h. replaced_over site.setting.now site.proving.now site.point.now site.use_.now site.statement.now c.args.subst.now
    c.placed.result.now c.side.result.now c.in_ok-new.new c.in-Some.after c.as_slice.result.now made c.requires.known c.requires.source
    c.requires.matched c.placed.ensures c.side.ensures c.as_slice.ensures.value c.in_ok-new.ensures.profiles c.in_ok-new.ensures.sort
    (ap (option_map (λ (t : Sorted). profiled_in t)) (sym c.in-Some.is) ∙ c.in_ok-whole.ensures.profiles) h)
    c.with_side.ensures

pub unreachable-requires : goal.unreachable-requires
unreachable-requires c =
    let site = c.args.site.now in
    c.in_ok-whole.ensures.none.0 c.in-None.is
    (part_leads site.setting.now site.proving.now site.point.now site.use_.now site.statement.now c.args.subst.now
    c.placed.result.now c.side.result.now c.in_ok-new.new c.as_slice.result.now c.requires.source c.requires.matched c.placed.ensures
    c.side.ensures c.as_slice.ensures.value c.in_ok-new.ensures.sort)
