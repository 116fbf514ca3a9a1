use Rattle.std.proofs.Common.{◌≤◌, List, length, ap, ◌∙◌, subst, sym, arith}
use Rattle.std.specs.Prelude.{IfOk}
use Rattle.lotos_base.proofs.Each.{Each}
use Rattle.lotos_base.specs.Equation.{Data}
use Rattle.lotos_base.specs.Limits.{text_limit}
use Rattle.sort_terms.specs.EquationView.{data_of}
use Rattle.induct_check.specs.BookView.{book_theory}
use Rattle.induct_check.specs.HandedOn.{IsKnownLemma, StatedLemma}
use Rattle.sort_terms.specs.declared.equations.Flat.{Flat}
use Rattle.certificate_verbs.specs.Printed.{IsReportAlone}
use Rattle.certificate_verbs.proofs.InducingLemmas.{theory_there, proofs_long, fault_told, report_yes}
use Rattle.certificate_verbs.proofs.inducing.checked.Goals as goal

pub returns-then-text-gt-TEXT_LIMIT : goal.returns-then-text-gt-TEXT_LIMIT
returns-then-text-gt-TEXT_LIMIT c = λ first now h.
    proofs_long c.args.spec.now first now c.args.text.now c.plainly_refused.result (omega (arith, c.if-text-gt-TEXT_LIMIT.true))
    c.plainly_refused.ensures

pub report_alone-requires : goal.report_alone-requires
report_alone-requires c = record {
  known = (
    (data_of c.args.one.now.accepted.book.flat).signature,
    subst (λ (ls : List StatedLemma). Each (IsKnownLemma (data_of c.args.one.now.accepted.book.flat).signature) ls)
        (sym c.as_slice.ensures.value) c.in-Ok.ensures.known,
  );
}

pub returns-in-Ok : goal.returns-in-Ok
returns-in-Ok c = λ first now h.
    let short : length c.args.text.now ≤ text_limit = omega (arith, c.if-text-gt-TEXT_LIMIT.false) in
    report_yes c.args.spec.now first now c.args.text.now c.report_alone.result (book_theory c.args.one.now.accepted.book) short
    (theory_there first c.args.one.now h) c.args.one.now.required h.required c.in-Ok.lemmas.items c.in-Ok.ensures.certified
    c.in-Ok.ensures.hold
    (subst (λ (ls : List StatedLemma). IfOk c.report_alone.result (IsReportAlone c.args.spec.now c.args.one.now.required ls))
    c.as_slice.ensures.value c.report_alone.ensures)

pub returns-in-Err : goal.returns-in-Err
returns-in-Err c = λ first now h.
    let short : length c.args.text.now ≤ text_limit = omega (arith, c.if-text-gt-TEXT_LIMIT.false) in
    fault_told c.args.spec.now first now c.args.text.now c.fault_alone.result (book_theory c.args.one.now.accepted.book) short
    (theory_there first c.args.one.now h) c.in-Err.at (data_of c.flat.result.now).signature
    (ap (λ (f : Flat). (data_of f).signature) c.flat.ensures
    ∙ ap (λ (d : Data). d.signature) c.in-Err.ensures.same_data
    ∙ ap (λ (d : Data). d.signature) h.holds.data_is)
    c.in-Err.ensures.refused c.fault_alone.ensures
