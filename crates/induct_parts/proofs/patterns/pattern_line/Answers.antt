use Rattle.std.proofs.Common.{ap, sym, ◌∙◌, subst, IfOk, IfErr}
use Rattle.certificate_theory.specs.InductionCertificate.{TreeLine as PlainLine, split_pattern}
use Rattle.certificate_theory.specs.Patterns.{PatternComesTo, IsWrongAtPattern}
use Rattle.induct_parts.specs.CaseView.{pattern_in, patterns_in}
use Rattle.induct_parts.specs.CertificateView.{tree_line_of}
use Rattle.induct_parts.specs.FaultView.{HoldsOfLineFault}
use Rattle.induct_parts.specs.SettingView.{setting_signature, setting_rules, setting_covers}
use Rattle.induct_parts.proofs.patterns.pattern_line.Goals as goal

pub returns-in-Split-clause-comes : goal.returns-in-Split-clause-comes
returns-in-Split-clause-comes c =
    subst (λ (l : PlainLine). IfOk c.split.result (λ parts. PatternComesTo (setting_signature c.args.setting.now)
    (setting_rules c.args.setting.now) (setting_covers c.args.setting.now) (pattern_in c.args.pattern.now) l (patterns_in parts.items)))
    (ap split_pattern c.as_slice.ensures.value ∙ sym (ap tree_line_of c.in-Split.is)) c.split.ensures.comes

pub returns-in-Split-clause-wrong : goal.returns-in-Split-clause-wrong
returns-in-Split-clause-wrong c =
    subst (λ (l : PlainLine). IfErr c.split.result (λ fault. HoldsOfLineFault (IsWrongAtPattern (setting_rules c.args.setting.now)
    (setting_covers c.args.setting.now) (pattern_in c.args.pattern.now) l) fault))
    (ap split_pattern c.as_slice.ensures.value ∙ sym (ap tree_line_of c.in-Split.is)) c.split.ensures.wrong

pub returns-in-Leaf-clause-comes : goal.returns-in-Leaf-clause-comes
returns-in-Leaf-clause-comes c =
    subst (λ (l : PlainLine). IfOk c.leaf.result (λ parts. PatternComesTo (setting_signature c.args.setting.now)
    (setting_rules c.args.setting.now) (setting_covers c.args.setting.now) (pattern_in c.args.pattern.now) l (patterns_in parts.items)))
    (sym (ap tree_line_of c.in-Leaf.is)) c.leaf.ensures.comes

pub returns-in-Leaf-clause-wrong : goal.returns-in-Leaf-clause-wrong
returns-in-Leaf-clause-wrong c =
    subst (λ (l : PlainLine). IfErr c.leaf.result (λ fault. HoldsOfLineFault (IsWrongAtPattern (setting_rules c.args.setting.now)
    (setting_covers c.args.setting.now) (pattern_in c.args.pattern.now) l) fault))
    (sym (ap tree_line_of c.in-Leaf.is)) c.leaf.ensures.wrong
