use Rattle.std.proofs.Common.{refl, sym, inr, subst}
use Rattle.std.specs.Option.{option_map}
use Rattle.induct_parts.specs.declared.at_line.AtLine.{AtLine}
use Rattle.induct_parts.specs.declared.line_fault.LineFault.TheVariants.{BadLine}
use Rattle.induct_check.specs.CheckView.{IsFirstOf}
use Rattle.induct_check.specs.ReadingView.{stop_of}
use Rattle.induct_check.proofs.NameLemmas.{not_true}
use Rattle.induct_check.proofs.checking.first_fault.Goals as goal

pub returns : goal.returns
returns c =
    let told : AtLine = record { line = c.in-Some.stop.line; fault = BadLine } in
    subst (λ stop. IsFirstOf (option_map stop_of stop) c.args.at told) (sym c.in-Some.is)
    (inr ((λ before. not_true c.comes_before.result c.if-comes_before.false (c.comes_before.ensures.1 before)), refl, refl))
