-- What holds of an object's data and canon holds again where a call keeps them.
use Rattle.std.proofs.Common.{refl, ◌∙◌, sym, subst}
use Rattle.lotos_base.specs.Equation.{Data}
use Rattle.lotos_base.specs.Term.{Term}
use Rattle.event_offers.specs.Keeping.{KeepsData}

pub keeps_itself : {S : Type 0} {known : S → Data} {canon : S → Term → Term} {it : S} → KeepsData known canon it it
keeps_itself = record { same_data = refl; same_canon = refl }

pub keeps_both : {S : Type 0} {known : S → Data} {canon : S → Term → Term} {first next last : S} → KeepsData known canon first next
    → KeepsData known canon next last → KeepsData known canon first last
keeps_both one other = record {
  same_data = other.same_data ∙ one.same_data;
  same_canon = other.same_canon ∙ one.same_canon;
}

-- what holds before the call holds after it, and the other way round
pub holds_after : {S : Type 0} {known : S → Data} {canon : S → Term → Term} {before after : S}
    (P : Data → (Term → Term) → Type 0) → KeepsData known canon before after → P (known before) (canon before)
    → P (known after) (canon after)
holds_after {known = known} {canon = canon} {before = before} {after = after} P kept h =
    subst (P (known after)) (sym kept.same_canon) (subst (λ (d : Data). P d (canon before)) (sym kept.same_data) h)

pub held_before : {S : Type 0} {known : S → Data} {canon : S → Term → Term} {before after : S}
    (P : Data → (Term → Term) → Type 0) → KeepsData known canon before after → P (known after) (canon after)
    → P (known before) (canon before)
held_before {known = known} {canon = canon} {before = before} {after = after} P kept h =
    subst (P (known before)) kept.same_canon (subst (λ (d : Data). P d (canon after)) kept.same_data h)
