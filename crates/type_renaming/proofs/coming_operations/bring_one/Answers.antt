use Rattle.std.proofs.Common.{refl, sym, subst}
use Rattle.std.specs.Prelude.{ℕ, OnOk, Option}
use Rattle.sort_terms.specs.Operations.{operation_of}
use Rattle.type_definitions.specs.Actualisation.{Actualising}
use Rattle.type_renaming.specs.Condensed.{operation_kind}
use Rattle.type_renaming.specs.CameView.{HasSettled, operations_with}
use Rattle.type_renaming.specs.SourceView.{IsSourceOfOperations, coming_operation}
use Rattle.type_renaming.proofs.MemberLemmas.{given}
use Rattle.type_renaming.proofs.coming_operations.bring_one.Goals as goal

pub returns-in_default-clause-came : goal.returns-in_default-clause-came
returns-in_default-clause-came c =
    subst
    (λ (o : Option ℕ).
    OnOk c.bring_image.result ((a : Actualising) → IsSourceOfOperations a c.args.source.now c.args.sorts.now
    → HasSettled operation_kind a.base.at (coming_operation a (operation_of c.args.op.now))
    (operations_with c.args.list.now c.args.came.now)
    (operations_with c.bring_image.new.list c.bring_image.new.came) o))
    (sym c.in_default.is) c.bring_image.ensures.came

pub returns-clause-came : goal.returns-clause-came
returns-clause-came c = λ a of.
    given operation_kind a.base.at (coming_operation a (operation_of c.args.op.now)) (operations_with c.args.list.now c.args.came.now)
    (operations_with c.args.list.now (record {
      numbers = c.push.new.self;
      clash = c.args.came.now.clash;
      too_many = c.args.came.now.too_many;
      makers = c.args.came.now.makers;
    }))
    c.args.actual c.in-Some.number c.in-Some.is (record {
      list = refl;
      numbers = c.in_ok-push.ensures.items;
      makers = refl;
      clash = refl;
      too_many = refl;
    })
