use Rattle.std.proofs.Common.{◌≡◌, refl, inl, inr}
use Rattle.std.specs.Prelude.{None}
use Rattle.std.proofs.lemmas.Result.{IfOk-weaker, IfErr-weaker}
use Rattle.lotos_base.specs.Term.{variable}
use Rattle.sort_terms.specs.SortedView.{term_in}
use Rattle.rewriting_theory.proofs.OverlapLemmas.{subterm_occurs}
use Rattle.certificate_theory.specs.InductionCertificate.{split_pattern}
use Rattle.certificate_theory.specs.Covers.{cover_of}
use Rattle.certificate_theory.specs.Faults.{no_cover}
use Rattle.certificate_theory.specs.Patterns.{IsWrongAtPattern}
use Rattle.induct_parts.specs.CaseView.{pattern_in}
use Rattle.induct_parts.specs.SettingView.{setting_rules, setting_covers}
use Rattle.induct_parts.proofs.LineSteps.{fault_more}
use Rattle.induct_parts.proofs.patterns.split.Goals as goal

pub split_of-requires-clause-occurs : goal.split_of-requires-clause-occurs
split_of-requires-clause-occurs c =
    subterm_occurs c.args.path.now (term_in c.args.pattern.now.term)
    (variable c.in-Some.number c.in-Some.sort) c.in-Some.number c.in-Some.sort
    c.in-Some.ensures (refl, refl)

pub returns-in-Some-clause-comes : goal.returns-in-Some-clause-comes
returns-in-Some-clause-comes c =
    IfOk-weaker c.split_of.result _ _ (λ parts h. (c.in-Some.number, c.in-Some.sort, h.0, c.in-Some.ensures, h.1, h.2))
    c.split_of.ensures.made

pub returns-in-Some-clause-wrong : goal.returns-in-Some-clause-wrong
returns-in-Some-clause-wrong c =
    IfErr-weaker c.split_of.result _ _
    (λ fault h. fault_more
    (λ told. (cover_of (setting_covers c.args.setting.now) c.in-Some.sort ≡ None) × (told ≡ no_cover))
    (IsWrongAtPattern (setting_rules c.args.setting.now) (setting_covers c.args.setting.now) (pattern_in c.args.pattern.now)
    (split_pattern c.args.path.now))
    (λ told k. inr (c.in-Some.number, c.in-Some.sort, c.in-Some.ensures, k.0, k.1)) fault h)
    c.split_of.ensures.wrong

pub returns-in-None-clause-wrong : goal.returns-in-None-clause-wrong
returns-in-None-clause-wrong c = inl (c.in-None.ensures, refl)
