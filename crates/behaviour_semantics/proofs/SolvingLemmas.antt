-- A draft has one outcome at most.
use Rattle.std.proofs.Common.{◌≡◌, ℕ, Option, refl, sym, ◌∙◌, subst}
use Rattle.lotos_base.specs.Term.{Term}
use Rattle.behaviour_semantics.specs.Draft.{Draft}
use Rattle.behaviour_semantics.specs.Solving.{Entry, SolvesTo, unsolvable, settled, replacing, tidied, replaced}
use Rattle.behaviour_semantics.proofs.OptionLemmas.{some_value}

pub determined : {canon : Term → Term} {draft : Draft} {outcome other : Option Entry} → SolvesTo canon draft outcome
    → SolvesTo canon draft other → outcome ≡ other
determined (unsolvable draft closed) (unsolvable draft' closed') = refl
determined (unsolvable draft closed) (settled draft' not_closed none) = absurd (cc (closed, not_closed))
determined (unsolvable draft closed) (replacing draft' found outcome not_closed some rest) = absurd (cc (closed, not_closed))
determined (settled draft not_closed none) (unsolvable draft' closed) = absurd (cc (closed, not_closed))
determined (settled draft not_closed none) (settled draft' not_closed' none') = refl
determined (settled draft not_closed none) (replacing draft' found outcome not_closed' some rest) = absurd (cc (none, some))
determined (replacing draft found outcome not_closed some rest) (unsolvable draft' closed) = absurd (cc (closed, not_closed))
determined (replacing draft found outcome not_closed some rest) (settled draft' not_closed' none) = absurd (cc (none, some))
determined {canon = canon} (replacing draft found outcome not_closed some rest) (replacing draft' found' outcome' not_closed' some' rest') =
    let same : found' ≡ found = some_value (sym some' ∙ some) in
    determined rest (subst (λ (f : ℕ × Term). SolvesTo canon (replaced f (tidied canon draft)) outcome') same rest')
