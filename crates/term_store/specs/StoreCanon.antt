-- The canon of a store: the canonical term by its rules, which is the one irreducible term that a term rewrites to.
use Rattle.lotos_base.specs.Term.{Term}
use Rattle.lotos_base.specs.Canon.{IsCanon}
use Rattle.std.specs.Prelude.{◌⊎◌, List}
use Rattle.std.proofs.Common.{inl, inr}
use Rattle.std.proofs.Math.Logic.{∥∥₁_elim}
use Rattle.rewriting_theory.specs.Rule.{Rule, AreWellFormedRules}
use Rattle.rewriting_theory.specs.Rewriting.{Terminates, AreConfluent}
use Rattle.rewriting_theory.specs.ChosenForm.{Chooses}
use Rattle.rewriting_theory.specs.CriticalPair.{CriticalPair}
use Rattle.rewriting_theory.specs.PairList.{AreCriticalPairs}
use Rattle.rewriting_theory.proofs.PairListLemmas.{NoneUnjoined, SomeUnjoined, first_unjoined, none_unjoined_confluent, unjoined_not_confluent}
use Rattle.rewriting_theory.proofs.ExistLemmas.{list_exists}
use Rattle.rewriting_theory.proofs.PublicLemmas.{chosen_rewritten, chosen_normal}
use Rattle.rewriting_theory.proofs.NormalLemmas.{normal_form_canon}
use Rattle.path_order.specs.RulesView.{plain_rules_in}
use Rattle.path_order.specs.declared.rules.Rules.{Rules}
use Rattle.path_order.proofs.RulesLemmas.{rules_have_forms, rules_well_formed, rules_end, rules_data, rules_sorted}
use Rattle.term_store.specs.declared.store.Store.{Store}

-- the chosen form of the term by the rules of the store
abbrev pub store_canon : Store → Term → Term
store_canon store t = (rules_have_forms store.rules t).0

-- it is the chosen form
pub store_chooses : (store : Store) → Chooses (plain_rules_in store.rules) (store_canon store)
store_chooses store t = (rules_have_forms store.rules t).1

-- ---- Whether rules are confluent is decided, so what a store keeps can be used

decided : (rules : List Rule) (pairs : List CriticalPair) → AreWellFormedRules rules → Terminates rules → AreCriticalPairs rules pairs
    → NoneUnjoined rules pairs ⊎ SomeUnjoined rules pairs → AreConfluent rules ⊎ (¬ AreConfluent rules)
decided rules pairs well ends are (inl none) = inl (none_unjoined_confluent rules pairs well ends are none)
decided rules pairs well ends are (inr (number, left, right, first)) =
    inr (unjoined_not_confluent rules first.pair left right well (are.critical number first.pair first.is_pair) first.unjoined)

confluence_decided : (rules : Rules) → AreConfluent (plain_rules_in rules) ⊎ (¬ AreConfluent (plain_rules_in rules))
confluence_decided rules =
    decided (plain_rules_in rules) (list_exists (plain_rules_in rules)).0 (rules_well_formed rules) (rules_end rules)
    (list_exists (plain_rules_in rules)).1
    (first_unjoined (plain_rules_in rules) (rules_well_formed rules) (rules_end rules) (list_exists (plain_rules_in rules)).0)

-- the rules of a store are confluent
pub store_confluent : (store : Store) → AreConfluent (plain_rules_in store.rules)
store_confluent store = go (confluence_decided store.rules)
  where
    go : AreConfluent (plain_rules_in store.rules) ⊎ (¬ AreConfluent (plain_rules_in store.rules))
        → AreConfluent (plain_rules_in store.rules)
    go (inl is) = is
    go (inr is_not) = absurd (∥∥₁_elim store.confluent (λ a b. absurd a) is_not)

-- so it is a canon of the rules as data
pub store_is_canon : (store : Store) → IsCanon (rules_data store.rules) (store_canon store)
store_is_canon store =
    normal_form_canon (rules_data store.rules) (plain_rules_in store.rules) (store_canon store) (rules_sorted store.rules)
    (store_confluent store)
    (record {
      reached = λ t. chosen_rewritten (store_chooses store t);
      irreducible = λ t. chosen_normal (rules_well_formed store.rules) (store_chooses store t);
    })
