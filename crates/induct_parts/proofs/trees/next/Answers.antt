use Rattle.std.proofs.Common.{List, ◌∷◌, map, reverse, sym, ◌∙◌}
use Rattle.std.proofs.lemmas.List.{nil_from_length}
use Rattle.induct_parts.specs.CaseView.{pattern_in, IsKnownPattern}
use Rattle.induct_parts.specs.CertificateView.{tree_line_of}
use Rattle.induct_parts.specs.SettingView.{setting_signature, setting_rules, setting_covers}
use Rattle.certificate_theory.specs.Patterns.{PatternComesTo, IsWrongAtPattern}
use Rattle.certificate_theory.specs.InductionCertificate.{TreeLine}
use Rattle.certificate_theory.specs.Faults.{bad_line}
use Rattle.certificate_theory.specs.Lines.{FailsToDeal}
use Rattle.induct_parts.specs.FaultView.{HoldsOfLineFault}
use Rattle.induct_parts.specs.declared.line_fault.LineFault.{LineFault}
use Rattle.induct_parts.proofs.Outcomes.{handed_on}
use Rattle.induct_parts.proofs.LineSteps.{next_reach, next_known, next_wrong, next_surplus, top_known}
use Rattle.induct_parts.proofs.trees.next.Goals as goal

pub pattern_line-requires-clause-known : goal.pattern_line-requires-clause-known
pattern_line-requires-clause-known c =
    top_known (λ p. IsKnownPattern (pattern_in p)) c.args.left.now.items c.pop.new.self.items c.in-Some.pattern c.in-Some.ensures.items
    c.requires.known

pub returns-in_default-clause-wrong : goal.returns-in_default-clause-wrong
returns-in_default-clause-wrong c =
    next_surplus (PatternComesTo (setting_signature c.args.setting.now) (setting_rules c.args.setting.now)
    (setting_covers c.args.setting.now))
    (IsWrongAtPattern (setting_rules c.args.setting.now) (setting_covers c.args.setting.now)) pattern_in c.args.left.now.items
    (tree_line_of c.args.line.now)
    (nil_from_length c.args.left.now.items (sym c.args.left.now.ok.0 ∙ c.in_default.ensures.cases.0))

pub returns-in_err-parts-clause-wrong : goal.returns-in_err-parts-clause-wrong
returns-in_err-parts-clause-wrong c =
    handed_on (λ (fault : LineFault). (rest : List TreeLine) → HoldsOfLineFault (FailsToDeal (PatternComesTo
    (setting_signature c.args.setting.now) (setting_rules c.args.setting.now) (setting_covers c.args.setting.now))
    (IsWrongAtPattern (setting_rules c.args.setting.now) (setting_covers c.args.setting.now)) bad_line
    (map pattern_in (reverse c.args.left.now.items)) (tree_line_of c.args.line.now ∷ rest) 0) fault)
    c.from_residual.result c.in_err-parts.field-0.0 c.from_residual.ensures.1
    (next_wrong (PatternComesTo (setting_signature c.args.setting.now) (setting_rules c.args.setting.now)
    (setting_covers c.args.setting.now))
    (IsWrongAtPattern (setting_rules c.args.setting.now) (setting_covers c.args.setting.now)) pattern_in c.args.left.now.items
    c.pop.new.self.items c.in-Some.pattern (tree_line_of c.args.line.now) c.in_err-parts.field-0.0 c.in-Some.ensures.items
    c.in_err-parts.ensures.wrong)

pub returns-clause-comes : goal.returns-clause-comes
returns-clause-comes c =
    next_reach (PatternComesTo (setting_signature c.args.setting.now) (setting_rules c.args.setting.now)
    (setting_covers c.args.setting.now))
    (IsWrongAtPattern (setting_rules c.args.setting.now) (setting_covers c.args.setting.now)) pattern_in c.args.left.now.items
    c.pop.new.self.items c.pile.new.left.items c.in_ok-parts.parts.items c.in-Some.pattern (tree_line_of c.args.line.now)
    c.in-Some.ensures.items
    c.in_ok-parts.ensures.comes c.in_ok-pile.ensures

pub returns-clause-known : goal.returns-clause-known
returns-clause-known c =
    next_known (λ p. IsKnownPattern (pattern_in p)) c.args.left.now.items c.pop.new.self.items c.pile.new.left.items
    c.in_ok-parts.parts.items
    c.in-Some.pattern c.in-Some.ensures.items c.requires.known c.in_ok-parts.ensures.known c.in_ok-pile.ensures
