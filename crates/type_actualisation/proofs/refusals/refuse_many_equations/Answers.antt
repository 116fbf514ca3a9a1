use Rattle.std.proofs.Common.{length, sym, ◌∙◌}
use Rattle.std.specs.Prelude.{nat_lt}
use Rattle.lotos_base.specs.WrittenView.{placed_name_of}
use Rattle.type_presentations.specs.EquationListView.{equations_in}
use Rattle.type_definitions.specs.Presentation.{presentation_limit}
use Rattle.type_definitions.specs.TypeFault.{too_large}
use Rattle.type_actualisation.proofs.FaultLemmas.{found_where}
use Rattle.type_actualisation.proofs.refusals.refuse_many_equations.Goals as goal

pub returns-then-is_past : goal.returns-then-is_past
returns-then-is_past c =
    found_where (nat_lt presentation_limit (length (equations_in c.args.equations.now)))
    (too_large (placed_name_of c.args.mention.now).place (placed_name_of c.args.mention.now).name) c.too_large.result
    (sym c.is_past_limit-is_past.ensures ∙ c.if-is_past.true) c.too_large.ensures

pub returns : goal.returns
returns c = sym c.is_past_limit-is_past.ensures ∙ c.if-is_past.false
