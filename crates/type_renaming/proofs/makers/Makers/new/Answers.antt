use Rattle.std.proofs.Common.{◌≡◌, ℕ, suc, ◌+◌, List, [], ◌∷◌, ◌++◌, map, ap, ◌∙◌, arith}
use Rattle.std.specs.Prelude.{Option, None}
use Rattle.std.proofs.lemmas.List.{map-append}
use Rattle.lotos_base.specs.declared.places.Place.{Place as CodePlace}
use Rattle.lotos_base.specs.Equation.{Place}
use Rattle.type_renaming.specs.MakersView.{place_seen}
use Rattle.type_renaming.specs.Noting.{no_makers}
use Rattle.type_renaming.proofs.NotingLemmas.{one_more_none}
use Rattle.type_renaming.proofs.makers.Makers.new.Goals as goal

pub loop-number-preserved : goal.loop-number-preserved
loop-number-preserved c =
    let n : ℕ = c.loop-number._number in
    let next : suc n ≡ n + 1 = omega arith in
    ap (λ (xs : List (Option CodePlace)). map place_seen xs) c.in_ok-push.ensures.items
    ∙ map-append place_seen c.loop-number.places.items (None ∷ [])
    ∙ ap (λ (ps : List (Option Place)). ps ++ None ∷ []) c.loop-number.invariant ∙ one_more_none n
    ∙ ap (λ (m : ℕ). no_makers m) next

pub returns : goal.returns
returns c =
    let all : c.loop-number._number ≡ c.args.count = omega arith in
    c.loop-number.invariant ∙ ap (λ (m : ℕ). no_makers m) all
