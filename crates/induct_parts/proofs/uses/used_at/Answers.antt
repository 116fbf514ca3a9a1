use Rattle.std.proofs.Common.{◌≡◌, ap, sym, ◌∙◌, subst}
use Rattle.std.specs.Prelude.{IsTrue}
use Rattle.lotos_base.proofs.Each.{Each}
use Rattle.sort_terms.specs.ProfiledTerm.{head_sort}
use Rattle.sort_terms.specs.SortedView.{profiled_in, term_in}
use Rattle.sort_terms.specs.TermView.{term_of}
use Rattle.sort_terms.specs.declared.sorted.Sorted.{Sorted}
use Rattle.term_match.specs.Matched.{TermHasOneSortPerNumber, IsMatchedBy}
use Rattle.term_match.specs.SubstView.{profiled_pairs}
use Rattle.term_match.specs.declared.substitutions.Subst.{Subst}
use Rattle.certificate_theory.proofs.CertificateTests.{each_variable}
use Rattle.induct_parts.specs.CertificateView.{use_source_of}
use Rattle.induct_parts.specs.SettingView.{proving_in}
use Rattle.induct_parts.specs.StatementView.{taken_in}
use Rattle.induct_parts.specs.UseView.{StandsRight, closes}
use Rattle.induct_parts.proofs.UseSteps.{no_match, no_standing, not_closed, matched_part, sorts_agree, taken_one_sort}
use Rattle.induct_parts.proofs.Outcomes.{if_some_at}
use Rattle.induct_parts.proofs.uses.used_at.Goals as goal

pub matches-requires : goal.matches-requires
matches-requires c =
    let site = c.args.site.now in
    record {
      one_sort =
          subst (λ (t : Sorted). TermHasOneSortPerNumber (term_in t)) (sym c.taken-old.ensures)
          (taken_one_sort site.setting.now site.proving.now site.point.now site.use_.now site.statement.now c.requires.source);
    }

pub returns-in_default-clause-none : goal.returns-in_default-clause-none
returns-in_default-clause-none c =
    let site = c.args.site.now in
    no_match site.setting.now site.proving.now site.point.now site.use_.now site.statement.now c.taken-old.result.now
    c.args.part.now
    c.requires.known c.requires.source c.taken-old.ensures c.requires.part (c.in_ok-subst.ensures.none.0 c.in_default.is)

pub returns-then-not-stand_right-clause-none : goal.returns-then-not-stand_right-clause-none
returns-then-not-stand_right-clause-none c =
    let site = c.args.site.now in
    let same : (taken_in site.use_.now.direction site.statement.now).sort ≡ head_sort (profiled_in c.args.part.now) =
    ap (λ (t : Sorted). t.sort) (sym c.taken-old.ensures)
    ∙ sorts_agree c.taken-old.result.now c.args.part.now c.in_ok-subst.field-0 c.in-Some.subst c.in-Some.is c.in_ok-subst.ensures.none in
    let matched : IsMatchedBy (profiled_in (taken_in site.use_.now.direction site.statement.now)) (profiled_in c.args.part.now)
    (profiled_pairs c.in-Some.subst.pairs.items) =
    subst (λ (t : Sorted). IsMatchedBy (profiled_in t) (profiled_in c.args.part.now) (profiled_pairs c.in-Some.subst.pairs.items))
    c.taken-old.ensures
    (if_some_at (λ (found : Subst). IsMatchedBy (profiled_in c.taken-old.result.now) (profiled_in c.args.part.now)
    (profiled_pairs found.pairs.items)) c.in_ok-subst.field-0 c.in-Some.subst c.in-Some.is c.in_ok-subst.ensures.some) in
    no_standing site.setting.now site.proving.now site.point.now site.use_.now site.statement.now c.in-Some.subst
    (profiled_in c.args.part.now)
    (matched_part site.setting.now site.proving.now site.point.now site.use_.now site.statement.now c.in-Some.subst
    (profiled_in c.args.part.now) c.requires.known c.requires.source c.requires.part same matched)
    c.requires.source c.requires.part
    (λ all.
    let t : IsTrue c.stand_right.result =
    c.stand_right.ensures.1 (subst (Each (StandsRight site.proving.now site.use_.now.source)) (sym c.pairs.ensures) all) in
    absurd (cc (t, c.if-not-stand_right.true)))

pub returns-then-not-is_closed-clause-none : goal.returns-then-not-is_closed-clause-none
returns-then-not-is_closed-clause-none c =
    let site = c.args.site.now in
    not_closed site.setting.now site.proving.now site.point.now site.use_.now site.statement.now (profiled_in c.args.part.now)
    c.requires.source c.requires.part
    ((λ i. each_variable (closes (proving_in site.proving.now) (use_source_of site.use_.now.source)
    (term_of (sym (c.term-2.ensures ∙ ap (λ (t : Sorted). t.term) c.taken-old.ensures) i)))
    (term_of (sym (c.term.ensures ∙ ap (λ (t : Sorted). t.term) c.placed-new.ensures) i)))
    ∙ (sym c.is_closed.ensures ∙ cc c.if-not-is_closed.true))

pub replaced-requires-clause-matched : goal.replaced-requires-clause-matched
replaced-requires-clause-matched c =
    let site = c.args.site.now in
    let same : (taken_in site.use_.now.direction site.statement.now).sort ≡ head_sort (profiled_in c.args.part.now) =
    ap (λ (t : Sorted). t.sort) (sym c.taken-old.ensures)
    ∙ sorts_agree c.taken-old.result.now c.args.part.now c.in_ok-subst.field-0 c.in-Some.subst c.in-Some.is c.in_ok-subst.ensures.none in
    let matched : IsMatchedBy (profiled_in (taken_in site.use_.now.direction site.statement.now)) (profiled_in c.args.part.now)
    (profiled_pairs c.in-Some.subst.pairs.items) =
    subst (λ (t : Sorted). IsMatchedBy (profiled_in t) (profiled_in c.args.part.now) (profiled_pairs c.in-Some.subst.pairs.items))
    c.taken-old.ensures
    (if_some_at (λ (found : Subst). IsMatchedBy (profiled_in c.taken-old.result.now) (profiled_in c.args.part.now)
    (profiled_pairs found.pairs.items)) c.in_ok-subst.field-0 c.in-Some.subst c.in-Some.is c.in_ok-subst.ensures.some) in
    record {
      part = profiled_in c.args.part.now;
      is_there = c.requires.part;
      one_sort = same;
      matched = matched;
      stand = subst (Each (StandsRight site.proving.now site.use_.now.source)) c.pairs.ensures
          (c.stand_right.ensures.0 (cc c.if-not-stand_right.false));
      closed = (λ i. each_variable (closes (proving_in site.proving.now) (use_source_of site.use_.now.source)
          (term_of (sym (c.term-2.ensures ∙ ap (λ (t : Sorted). t.term) c.taken-old.ensures) i)))
          (term_of (sym (c.term.ensures ∙ ap (λ (t : Sorted). t.term) c.placed-new.ensures) i)))
          ∙ (sym c.is_closed.ensures ∙ cc c.if-not-is_closed.false);
    }
