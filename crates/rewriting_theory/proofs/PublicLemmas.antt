-- What holds of steps by recursion holds of links at a path.
use Rattle.std.proofs.Common.{◌≡◌, List, sym, subst}
use Rattle.lotos_base.specs.Term.{Term}
use Rattle.rewriting_theory.specs.Rule.{Rule, AreWellFormedRules}
use Rattle.rewriting_theory.specs.Reduction.{Reaches, reached_after, Join, IsIrreducible, EndsFor, IsConfluent}
use Rattle.rewriting_theory.specs.Rewriting.{Rewrites, IsNormal, Terminates, AreConfluent, AreLocallyConfluent}
use Rattle.rewriting_theory.specs.Step.{Step}
use Rattle.rewriting_theory.specs.ChosenForm.{Chosen}
use Rattle.rewriting_theory.specs.CriticalPair.{CriticalPair, IsCriticalPair}
use Rattle.rewriting_theory.proofs.NewmanLemmas.{newman, reaches_map, join_map, one_normal_form, irreducible_stays, chain_map, reaches_then}
use Rattle.rewriting_theory.proofs.PlaceLemmas.{step_of_link, link_of_step}
use Rattle.rewriting_theory.proofs.LocalLemmas.{locally_confluent}
use Rattle.rewriting_theory.proofs.ChosenLemmas.{Form, chosen_exists, chosen_reached, chosen_stuck}
use Rattle.rewriting_theory.proofs.PairLemmas.{places_overlaps, places_join, pair_joins, peak_left, peak_right}

pub reaches_by_links : {rules : List Rule} {t u : Term} → Reaches (Step rules) t u → Reaches (Rewrites rules) t u
reaches_by_links chain = reaches_map (λ w. w) (λ v w step. link_of_step step) chain

pub reaches_by_steps : {rules : List Rule} {t u : Term} → Reaches (Rewrites rules) t u → Reaches (Step rules) t u
reaches_by_steps chain = reaches_map (λ w. w) (λ v w link. step_of_link link) chain

pub join_by_links : {rules : List Rule} {t u : Term} → Join (Step rules) t u → Join (Rewrites rules) t u
join_by_links join = join_map (λ w. w) (λ v w step. link_of_step step) join

pub join_by_steps : {rules : List Rule} {t u : Term} → Join (Rewrites rules) t u → Join (Step rules) t u
join_by_steps join = join_map (λ w. w) (λ v w link. step_of_link link) join

pub stuck_by_links : {rules : List Rule} {t : Term} → IsIrreducible (Step rules) t → IsNormal rules t
stuck_by_links stuck = λ u link. stuck u (step_of_link link)

pub stuck_by_steps : {rules : List Rule} {t : Term} → IsNormal rules t → IsIrreducible (Step rules) t
stuck_by_steps stuck = λ u step. stuck u (link_of_step step)

pub ends_by_steps : (rules : List Rule) → Terminates rules → (t : Term) → EndsFor (Step rules) t
ends_by_steps rules ends t =
    ((ends t).0, λ n u chain. (ends t).1 n u (chain_map (λ w. w) (λ v w step. link_of_step step) chain))

pub confluent_by_steps : (rules : List Rule) → AreConfluent rules → IsConfluent (Step rules)
confluent_by_steps rules confluent = λ t u v one two.
    join_by_steps (confluent t u v (reaches_by_links one) (reaches_by_links two))

pub confluent_by_links : (rules : List Rule) → IsConfluent (Step rules) → AreConfluent rules
confluent_by_links rules confluent = λ t u v one two.
    join_by_links (confluent t u v (reaches_by_steps one) (reaches_by_steps two))

-- ---- The critical pair lemma

-- where all critical pairs join, any two links can be joined
pub pairs_local : (rules : List Rule) → AreWellFormedRules rules
    → ((pair : CriticalPair) → IsCriticalPair rules pair → Join (Rewrites rules) pair.left pair.right) → AreLocallyConfluent rules
pairs_local rules well all = λ t u v one two.
    join_by_links
    (locally_confluent rules well
    (places_overlaps rules well (places_join (λ pair is. join_by_steps (all pair is))))
    t u v (step_of_link one) (step_of_link two))

-- where all critical pairs join and rewriting ends, the rules are confluent
pub pairs_confluent : (rules : List Rule) → AreWellFormedRules rules → Terminates rules
    → ((pair : CriticalPair) → IsCriticalPair rules pair → Join (Rewrites rules) pair.left pair.right) → AreConfluent rules
pairs_confluent rules well ends all = newman ends (pairs_local rules well all)

-- ---- Chosen forms

pub chosen_form : (rules : List Rule) → Terminates rules → (t : Term) → Form rules t
chosen_form rules ends t = chosen_exists rules (ends_by_steps rules ends) t

pub chosen_rewritten : {rules : List Rule} {t u : Term} → Chosen rules t u → Reaches (Rewrites rules) t u
chosen_rewritten chosen = reaches_by_links (chosen_reached chosen)

pub chosen_normal : {rules : List Rule} {t u : Term} → AreWellFormedRules rules → Chosen rules t u → IsNormal rules u
chosen_normal well chosen = stuck_by_links (chosen_stuck well chosen)

-- where the rules are confluent, what two terms that join are put into is one term
pub chosen_joined : {rules : List Rule} {t u v w : Term} → AreWellFormedRules rules → AreConfluent rules
    → Join (Rewrites rules) t u → Chosen rules t v → Chosen rules u w → v ≡ w
chosen_joined {rules = rules} {t = t} {u = u} {v = v} {w = w} well confluent join one two =
    let left = confluent t v join.meeting (chosen_rewritten one) join.first in
    let same : v ≡ left.meeting = irreducible_stays (chosen_normal well one) left.first in
    let reached : Reaches (Rewrites rules) join.meeting v =
    subst (λ (x : Term). Reaches (Rewrites rules) join.meeting x) (sym same) left.second in
    one_normal_form confluent (reaches_then join.second reached) (chosen_rewritten two) (chosen_normal well one) (chosen_normal well two)

-- terms with one chosen form join
pub same_chosen_join : {rules : List Rule} {t u v w : Term} → Chosen rules t v → Chosen rules u w → v ≡ w → Join (Rewrites rules) t u
same_chosen_join {rules = rules} {u = u} {v = v} one two same = record {
  meeting = v;
  first = chosen_rewritten one;
  second = subst (λ (x : Term). Reaches (Rewrites rules) u x) (sym same) (chosen_rewritten two);
}

-- what is irreducible is its own chosen form
pub normal_chosen : {rules : List Rule} {t : Term} → Terminates rules → IsNormal rules t → Chosen rules t t
normal_chosen {rules = rules} {t = t} ends stuck =
    let form = chosen_form rules ends t in
    subst (λ (x : Term). Chosen rules t x) (sym (irreducible_stays stuck (chosen_rewritten form.1))) form.1

-- ---- Confluence by chosen forms

-- The two sides of each critical pair have one chosen form.
abbrev PairsAgree : List Rule → Type 0
PairsAgree rules = (pair : CriticalPair) (left right : Term) → IsCriticalPair rules pair → Chosen rules pair.left left
    → Chosen rules pair.right right → left ≡ right

pub agreeing_confluent : (rules : List Rule) → AreWellFormedRules rules → Terminates rules → PairsAgree rules → AreConfluent rules
agreeing_confluent rules well ends agree = pairs_confluent rules well ends (λ pair is.
    let left = chosen_form rules ends pair.left in
    let right = chosen_form rules ends pair.right in
    same_chosen_join left.1 right.1 (agree pair left.0 right.0 is left.1 right.1))

pub confluent_agreeing : (rules : List Rule) → AreWellFormedRules rules → AreConfluent rules → PairsAgree rules
confluent_agreeing rules well confluent = λ pair left right is one two.
    chosen_joined well confluent (join_by_links (pair_joins (confluent_by_steps rules confluent) is)) one two

-- the one irreducible term that a term reaches is its chosen form
pub normal_is_chosen : {rules : List Rule} {t u v : Term} → AreWellFormedRules rules → AreConfluent rules → Reaches (Rewrites rules) t u
    → IsNormal rules u → Chosen rules t v → u ≡ v
normal_is_chosen well confluent reached stuck chosen =
    one_normal_form confluent reached (chosen_rewritten chosen) stuck (chosen_normal well chosen)

-- each critical pair's peak rewrites to the chosen forms of both its sides
pub peak_reaches_left : {rules : List Rule} {pair : CriticalPair} {left : Term} → IsCriticalPair rules pair → Chosen rules pair.left left
    → Reaches (Rewrites rules) pair.peak left
peak_reaches_left is chosen = reached_after (link_of_step (peak_left is)) (chosen_rewritten chosen)

pub peak_reaches_right : {rules : List Rule} {pair : CriticalPair} {right : Term} → IsCriticalPair rules pair
    → Chosen rules pair.right right
    → Reaches (Rewrites rules) pair.peak right
peak_reaches_right is chosen = reached_after (link_of_step (peak_right is)) (chosen_rewritten chosen)
