-- Texts that are written piece by piece, and the texts of parts.
use Rattle.std.proofs.Common.{◌≡◌, ◌++◌, ℕ, List, ap, ◌∙◌}
use Rattle.lotos_base.specs.Equation.{Variable}
use Rattle.behaviour_semantics.specs.Behaviour.{Behaviour}
use Rattle.printed_texts.specs.BehaviourText.{Naming, behaviour_text, unit_text}

-- the text of a part, where the behaviour and the variables in scope are known by equations
pub part_text : (naming : Naming) (mid end : List ℕ) (names known : List Variable) (b c : Behaviour) → names ≡ known → b ≡ c
    → end ≡ mid ++ behaviour_text naming names b → end ≡ mid ++ behaviour_text naming known c
part_text naming mid end names known b c n e h =
    h ∙ (ap (λ (vs : List Variable). mid ++ behaviour_text naming vs b) n ∙ ap (λ (x : Behaviour). mid ++ behaviour_text naming known x) e)

pub unit_part : (naming : Naming) (mid end : List ℕ) (names known : List Variable) (b c : Behaviour) → names ≡ known → b ≡ c
    → end ≡ mid ++ unit_text b (behaviour_text naming names b) → end ≡ mid ++ unit_text c (behaviour_text naming known c)
unit_part naming mid end names known b c n e h =
    h ∙ (ap (λ (vs : List Variable). mid ++ unit_text b (behaviour_text naming vs b)) n
    ∙ ap (λ (x : Behaviour). mid ++ unit_text x (behaviour_text naming known x)) e)
