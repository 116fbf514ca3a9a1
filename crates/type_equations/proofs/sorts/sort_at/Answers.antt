use Rattle.std.proofs.Common.{ℕ, List, ap, sym, subst}
use Rattle.std.specs.Prelude.{Some}
use Rattle.lotos_base.specs.Name.{spelling}
use Rattle.lotos_base.specs.WrittenView.{text_place_of}
use Rattle.lotos_base.specs.Signature.{Signature}
use Rattle.sort_terms.specs.Reading.{IsSortNamed}
use Rattle.sort_terms.proofs.UnknownLemmas.{sort_name_unknown}
use Rattle.type_definitions.specs.TypeFault.{unknown_sort}
use Rattle.type_equations.proofs.SortLemmas.{sort_found}
use Rattle.type_equations.proofs.sorts.sort_at.Goals as goal

pub returns-in_default : goal.returns-in_default
returns-in_default c = λ p same.
    let none = rw c.in_default.is at c.in_ok-found.ensures in (
      sort_name_unknown p.signature (spelling c.args.name.now)
          (subst (λ (g : Signature). (s : ℕ) → ¬ IsSortNamed g s (spelling c.args.name.now)) (sym same) none),
      ap (λ (name : List ℕ). unknown_sort (text_place_of c.args.place) (Some name)) c.in_ok-copy.ensures,
    )

pub returns : goal.returns
returns c = λ p same.
    let here = rw c.in-Some.is at c.in_ok-found.ensures in
    sort_found p (spelling c.args.name.now) c.in-Some.number
    (subst (λ (g : Signature). IsSortNamed g c.in-Some.number (spelling c.args.name.now)) (sym same) here.0)
    (λ s at. here.1 s (subst (λ (g : Signature). IsSortNamed g s (spelling c.args.name.now)) same at))
