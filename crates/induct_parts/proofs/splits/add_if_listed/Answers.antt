use Rattle.std.proofs.Common.{◌++◌, ◌∷◌, [], ap, sym, ◌∙◌}
use Rattle.lotos_base.specs.Substitution.{is_listed}
use Rattle.certificate_theory.specs.Splits.{Case as PlainCase}
use Rattle.induct_parts.specs.CaseView.{case_in, cases_in, IsKnownCase}
use Rattle.induct_parts.specs.SettingView.{setting_signature}
use Rattle.induct_parts.proofs.StepLemmas.{kept_unless, added_where, pushed, each_pushed}
use Rattle.induct_parts.proofs.splits.add_if_listed.Goals as goal

pub returns-then-not-is_listed-clause-added : goal.returns-then-not-is_listed-clause-added
returns-then-not-is_listed-clause-added g c = λ o at.
    kept_unless (is_listed c.args.operations.now c.args.operation) (cases_in c.args.made.now.items) _
    (sym c.is_listed.ensures ∙ cc c.if-not-is_listed.true)

pub part-requires-clause-scope : goal.part-requires-clause-scope
part-requires-clause-scope g c = (
  c.requires.operation.0,
  c.requires.operation.1,
  c.requires.operation.2 (sym c.is_listed.ensures ∙ cc c.if-not-is_listed.false),
)

pub returns-clause-added : goal.returns-clause-added
returns-clause-added g c = λ o at.
    added_where (is_listed c.args.operations.now c.args.operation) (cases_in c.args.made.now.items) _
    (cases_in c.push.new.self.items) (sym c.is_listed.ensures ∙ cc c.if-not-is_listed.false)
    (pushed case_in c.args.made.now.items c.push.new.self.items c.in_ok-part.part c.in_ok-push.ensures.items
    ∙ ap (λ (p : PlainCase). cases_in c.args.made.now.items ++ p ∷ []) (c.in_ok-part.ensures.made o at))

pub returns-clause-known : goal.returns-clause-known
returns-clause-known g c = λ each.
    each_pushed (IsKnownCase (setting_signature c.args.setting.now) c.args.proving.now.free) c.args.made.now.items
    c.push.new.self.items c.in_ok-part.part c.in_ok-push.ensures.items c.in_ok-part.ensures.known each
