use Rattle.std.proofs.Common.{◌≡◌, ◌≤◌, ◌<◌, ◌+◌, [], ◌∷◌, map, reverse, length, ap, sym, subst, refl, arith}
use Rattle.lotos_base.proofs.Each.{Each}
use Rattle.induct_parts.specs.CaseView.{pattern_in, patterns_in, IsKnownPattern}
use Rattle.induct_parts.specs.CertificateView.{tree_line_of}
use Rattle.induct_parts.specs.SettingView.{setting_signature, setting_rules, setting_covers}
use Rattle.certificate_theory.specs.Patterns.{PatternComesTo, IsWrongAtPattern}
use Rattle.sort_terms.proofs.SizeLemmas.{no_members}
use Rattle.induct_parts.proofs.LineSteps.{deal_begins, deal_goes_on, deal_ends, deal_wrong, deal_missing, pushed_alone, some_left, stack_some}
use Rattle.induct_parts.proofs.trees.deal.Goals as goal

pub loop-number-init : goal.loop-number-init
loop-number-init c =
    let alone = pushed_alone c.new-left.result.items c.push.new.self.items c.args.first c.new-left.ensures.items
    c.in_ok-push.ensures.items in
    record {
      so_far = deal_begins (PatternComesTo (setting_signature c.args.setting.now) (setting_rules c.args.setting.now)
          (setting_covers c.args.setting.now))
          (IsWrongAtPattern (setting_rules c.args.setting.now) (setting_covers c.args.setting.now)) tree_line_of
          (pattern_in c.args.first ∷ [])
          c.args.lines.now (patterns_in (reverse c.push.new.self.items)) (ap (map pattern_in) alone);
      known = subst (Each (λ p. IsKnownPattern (pattern_in p))) (sym alone) (c.requires.known, tt);
    }

pub loop-number-preserved : goal.loop-number-preserved
loop-number-preserved c = record {
  so_far = deal_goes_on (PatternComesTo (setting_signature c.args.setting.now) (setting_rules c.args.setting.now)
      (setting_covers c.args.setting.now))
      (IsWrongAtPattern (setting_rules c.args.setting.now) (setting_covers c.args.setting.now)) tree_line_of (pattern_in c.args.first ∷ [])
      c.args.lines.now c.loop-number.number (patterns_in (reverse c.loop-number.left.items)) (patterns_in (reverse c.next.new.left.items))
      c.index-lines-number.result c.loop-number-test.true c.index-lines-number.is c.in-Ok.ensures.comes c.loop-number.invariant.so_far;
  known = c.in-Ok.ensures.known;
}

pub returns-in-Err-clause-wrong : goal.returns-in-Err-clause-wrong
returns-in-Err-clause-wrong c =
    deal_wrong (PatternComesTo (setting_signature c.args.setting.now) (setting_rules c.args.setting.now)
    (setting_covers c.args.setting.now))
    (IsWrongAtPattern (setting_rules c.args.setting.now) (setting_covers c.args.setting.now)) tree_line_of (pattern_in c.args.first ∷ [])
    c.args.lines.now c.loop-number.number c.args.begin (c.args.begin + c.loop-number.number)
    (patterns_in (reverse c.loop-number.left.items)) c.index-lines-number.result c.in-Err.fault c.loop-number-test.true
    c.index-lines-number.is c.in-Err.ensures.wrong refl c.loop-number.invariant.so_far

pub returns-then-not-is_empty-clause-wrong : goal.returns-then-not-is_empty-clause-wrong
returns-then-not-is_empty-clause-wrong c =
    let past : length c.args.lines.now ≤ c.loop-number.number = c.loop-number-test.false in
    let at : c.args.begin + length c.args.lines.now ≡ c.args.begin + c.loop-number.number =
    omega (arith, past, c.loop-number.auto.number-end) in
    let more : 0 < length c.loop-number.left.items =
    stack_some c.loop-number.left.items c.loop-number.left.len c.is_empty.result c.loop-number.left.ok.0 c.is_empty.ensures
    (cc c.if-not-is_empty.true) in
    let some = some_left pattern_in c.loop-number.left.items more in
    deal_missing (PatternComesTo (setting_signature c.args.setting.now) (setting_rules c.args.setting.now)
    (setting_covers c.args.setting.now))
    (IsWrongAtPattern (setting_rules c.args.setting.now) (setting_covers c.args.setting.now)) tree_line_of (pattern_in c.args.first ∷ [])
    c.args.lines.now c.loop-number.number c.args.begin (c.args.begin + length c.args.lines.now)
    (patterns_in (reverse c.loop-number.left.items)) some.1 some.0 past some.2 at c.loop-number.invariant.so_far

pub returns-clause-right : goal.returns-clause-right
returns-clause-right c =
    let none = no_members c.loop-number.left.items c.loop-number.left.len c.is_empty.result c.loop-number.left.ok.0 c.is_empty.ensures
    (cc c.if-not-is_empty.false) in
    deal_ends (PatternComesTo (setting_signature c.args.setting.now) (setting_rules c.args.setting.now) (setting_covers c.args.setting.now))
    (IsWrongAtPattern (setting_rules c.args.setting.now) (setting_covers c.args.setting.now)) tree_line_of (pattern_in c.args.first ∷ [])
    c.args.lines.now c.loop-number.number (patterns_in (reverse c.loop-number.left.items)) c.loop-number-test.false
    (ap (λ xs. patterns_in (reverse xs)) none) c.loop-number.invariant.so_far
