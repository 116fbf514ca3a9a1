-- Chosen forms of oriented data: rewriting ends, so they are there; where it is confluent, they are a canon.
use Rattle.std.proofs.Common.{◌≡◌, ℕ, List, sym, ◌∙◌}
use Rattle.std.specs.Prelude.{◌↔◌}
use Rattle.lotos_base.specs.Term.{Term}
use Rattle.lotos_base.specs.Sorting.{IsGroundOf}
use Rattle.lotos_base.specs.Equation.{Data, HasSortedSides}
use Rattle.lotos_base.specs.Equality.{Equal}
use Rattle.lotos_base.specs.Canon.{IsCanon}
use Rattle.lotos_base.proofs.CanonLemmas.{canon_tells}
use Rattle.rewriting_theory.specs.Rule.{Rule, AreSortedRulesOf}
use Rattle.rewriting_theory.specs.Rewriting.{AreConfluent}
use Rattle.rewriting_theory.specs.ChosenForm.{Chosen, Chooses}
use Rattle.rewriting_theory.specs.ConfluenceLaws.{PairsAgree}
use Rattle.rewriting_theory.proofs.ChosenLemmas.{chosen_one}
use Rattle.rewriting_theory.proofs.PublicLemmas.{chosen_form, chosen_rewritten, chosen_normal, agreeing_confluent, confluent_agreeing}
use Rattle.rewriting_theory.proofs.NormalLemmas.{normal_form_canon}
use Rattle.rewriting_theory.specs.Precedence.{Precedence}
use Rattle.rewriting_theory.specs.Orientation.{AreOriented, NumberedRule, rules_of, IsOrientation}
use Rattle.rewriting_theory.proofs.OrientationLemmas.{oriented_well_formed, rules_of_data}
use Rattle.rewriting_theory.proofs.TerminationLemmas.{rewriting_ends}

pub one_chosen : (p : Precedence) (rules : List Rule) (t : Term) → AreOriented p rules
    → (u : Term) × Chosen rules t u × ((v : Term) → Chosen rules t v → v ≡ u)
one_chosen p rules t oriented =
    let form = chosen_form rules (rewriting_ends p rules oriented) t in
    (form.0, form.1, λ v other. chosen_one (oriented_well_formed p rules oriented) other form.1)

pub pairs_tell : (p : Precedence) (rules : List Rule) → AreOriented p rules → AreConfluent rules ↔ PairsAgree rules
pairs_tell p rules oriented =
    let well = oriented_well_formed p rules oriented in
    (confluent_agreeing rules well, agreeing_confluent rules well (rewriting_ends p rules oriented))

pub sorted_rules : (p : Precedence) (data_ : Data) (rules : List NumberedRule) → HasSortedSides data_
    → IsOrientation p data_ rules → AreSortedRulesOf data_ (rules_of rules)
sorted_rules p data_ rules sorted orientation =
    let of = rules_of_data p data_ rules orientation in
    record {
      sorted_sides = sorted;
      rules_of_data = of.0;
      well_formed = oriented_well_formed p (rules_of rules) of.1;
    }

pub chosen_canon : (p : Precedence) (data_ : Data) (rules : List NumberedRule) (canon : Term → Term) → HasSortedSides data_
    → IsOrientation p data_ rules → AreConfluent (rules_of rules) → Chooses (rules_of rules) canon → IsCanon data_ canon
chosen_canon p data_ rules canon sorted orientation confluent chosen =
    let of = sorted_rules p data_ rules sorted orientation in
    normal_form_canon data_ (rules_of rules) canon of confluent
    (record { reached = λ t. chosen_rewritten (chosen t); irreducible = λ t. chosen_normal of.well_formed (chosen t) })

pub some_canon : (p : Precedence) (data_ : Data) (rules : List NumberedRule) → HasSortedSides data_
    → IsOrientation p data_ rules → AreConfluent (rules_of rules)
    → (canon : Term → Term) × Chooses (rules_of rules) canon × IsCanon data_ canon
some_canon p data_ rules sorted orientation confluent =
    let oriented = (rules_of_data p data_ rules orientation).1 in
    let form = λ (t : Term). chosen_form (rules_of rules) (rewriting_ends p (rules_of rules) oriented) t in
    let canon = λ (t : Term). (form t).0 in
    let chosen = λ (t : Term). (form t).1 in
    (canon, chosen, chosen_canon p data_ rules canon sorted orientation confluent chosen)

pub chosen_decide : (p : Precedence) (data_ : Data) (rules : List NumberedRule) (t u c d : Term) (s : ℕ)
    → HasSortedSides data_ → IsOrientation p data_ rules → AreConfluent (rules_of rules)
    → IsGroundOf data_.signature s t → IsGroundOf data_.signature s u
    → Chosen (rules_of rules) t c → Chosen (rules_of rules) u d → Equal data_ t u ↔ (c ≡ d)
chosen_decide p data_ rules t u c d s sorted orientation confluent h k one two =
    let well = (sorted_rules p data_ rules sorted orientation).well_formed in
    let found = some_canon p data_ rules sorted orientation confluent in
    let first : found.0 t ≡ c = chosen_one well (found.1 t) one in
    let second : found.0 u ≡ d = chosen_one well (found.1 u) two in (
      (λ equal. sym first ∙ found.2.decides t u s h k equal ∙ second),
      (λ same. canon_tells data_ found.0 t u s found.2 h k (first ∙ same ∙ sym second)),
    )
