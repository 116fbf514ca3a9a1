use Rattle.std.proofs.Common.{◌≡◌, ◌<◌, length, sym, ◌∙◌, arith}
use Rattle.std.proofs.lemmas.Result.{IfOk-weaker}
use Rattle.lotos_base.specs.declared.written_terms.Form.TheVariants.{Prefix, Infix}
use Rattle.lotos_base.specs.declared.written_terms.Written.{out-Written}
use Rattle.sort_terms.specs.ScopeView.{variables_in}
use Rattle.sort_terms.proofs.CountedLemmas.{bare_variable, bare_of, applied_visible, infix_visible}
use Rattle.sort_terms.proofs.reader.Reader.variable_at.Goals as goal

pub returns-in-Infix : goal.returns-in-Infix
returns-in-Infix c =
    infix_visible (variables_in c.args.scope.now) c.args.written.now
    (λ same. let both : Infix ≡ Prefix = sym c.in-Infix.is ∙ same in cc)

pub returns-then-len-gt0 : goal.returns-then-len-gt0
returns-then-len-gt0 c =
    let some = c.if-len-gt0.true in
    let counted = c.len.ensures in
    let as_many = (out-Written c.args.written.now).args.ok.0 in
    applied_visible (variables_in c.args.scope.now) c.args.written.now (omega (arith, some, counted, as_many))

pub returns-else-len-gt0 : goal.returns-else-len-gt0
returns-else-len-gt0 c =
    IfOk-weaker c.last_named.result _ _
    (λ found h. bare_variable (variables_in c.args.scope.now) c.args.written.now found (bare_of c.args.written.now c.in-Prefix.is few) h)
    c.last_named.ensures
  where
    few : 0 < length (out-Written c.args.written.now).args.items → ⊥
    few some =
        let none = c.if-len-gt0.false in
        let counted = c.len.ensures in
        let as_many = (out-Written c.args.written.now).args.ok.0 in
        omega (arith, some, none, counted, as_many)
