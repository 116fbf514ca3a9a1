use Rattle.std.proofs.Common.{refl, sym, subst}
use Rattle.std.specs.Prelude.{ℕ, OnOk, Option}
use Rattle.sort_terms.specs.Operations.{sort_of}
use Rattle.type_definitions.specs.Actualisation.{Actualising}
use Rattle.type_renaming.specs.Condensed.{sort_kind}
use Rattle.type_renaming.specs.CameView.{HasSettled, sorts_with}
use Rattle.type_renaming.specs.SourceView.{IsSourceOfSorts, coming_sort}
use Rattle.type_renaming.proofs.MemberLemmas.{given}
use Rattle.type_renaming.proofs.coming_sorts.bring_one.Goals as goal

pub returns-in_default-clause-came : goal.returns-in_default-clause-came
returns-in_default-clause-came c =
    subst
    (λ (o : Option ℕ).
    OnOk c.bring_image.result ((a : Actualising) → IsSourceOfSorts a c.args.source.now
    → HasSettled sort_kind a.base.at (coming_sort a (sort_of c.args.sort.now)) (sorts_with c.args.list.now c.args.came.now)
    (sorts_with c.bring_image.new.list c.bring_image.new.came) o))
    (sym c.in_default.is) c.bring_image.ensures.came

pub returns-clause-came : goal.returns-clause-came
returns-clause-came c = λ a of.
    given sort_kind a.base.at (coming_sort a (sort_of c.args.sort.now)) (sorts_with c.args.list.now c.args.came.now)
    (sorts_with c.args.list.now (record {
      numbers = c.push.new.self;
      clash = c.args.came.now.clash;
      too_many = c.args.came.now.too_many;
      makers = c.args.came.now.makers;
    }))
    c.args.actual c.in-Some.number c.in-Some.is (record {
      list = refl;
      numbers = c.in_ok-push.ensures.items;
      makers = refl;
      clash = refl;
      too_many = refl;
    })
