-- Numbers above all that a list binds, found member by member.
use Rattle.std.proofs.Common.{◌≡◌, ◌<◌, ◌≤◌, ℕ, suc, ◌+◌, max, List, [], ◌∷◌, length, map, drop, get_or, ap, sym, ◌∙◌, subst, add-one, arith}
use Rattle.std.proofs.Math.ListN.{drop_of_length-le}
use Rattle.std.proofs.Math.Seq.{drop-cons}
use Rattle.behaviour_semantics.specs.Behaviour.{asked_variables}
use Rattle.behaviour_semantics.specs.Draft.{above, above_variables}
use Rattle.sort_terms.specs.declared.equations.Variable.{Variable}
use Rattle.sort_terms.specs.declared.sorted.Sorted.{Sorted}
use Rattle.behaviour_tree.specs.BehaviourView.{behaviour_of, offer_of}
use Rattle.behaviour_tree.specs.declared.behaviours.Beh.{Beh}
use Rattle.behaviour_tree.specs.declared.behaviours.Offer.{Offer}
use Rattle.behaviour_tree.specs.declared.behaviours.Offer.TheVariants.{Give, Ask}
use Rattle.behaviour_tree.specs.declared.states.Node.{Node}
use Rattle.menu_builder.specs.NodeNumbers.{above_node}

module _ {A : Type 0} (bound : List A → ℕ) where
  -- what is above the number so far and above what the rest binds is above all
  abbrev pub Covers : List A → ℕ → ℕ → Type 0
  Covers items i above = (n : ℕ) → above ≤ n → bound (drop i items) ≤ n → bound items ≤ n

  pub covers_turn : (items : List A) (i : ℕ) (x : A) (above more : ℕ) → i < length items → x ≡ get_or items i x
      → ((n : ℕ) (rest : List A) → more ≤ n → bound rest ≤ n → (above ≤ n) × (bound (x ∷ rest) ≤ n)) → Covers items i above
      → Covers items (i + 1) more
  covers_turn items i x above more within is step before n le less =
      let here : drop i items ≡ x ∷ drop (suc i) items =
      drop-cons items i x within ∙ ap (λ (y : A). y ∷ drop (suc i) items) (sym is) in
      let both : (above ≤ n) × (bound (x ∷ drop (suc i) items) ≤ n) =
      step n (drop (suc i) items) le (subst (λ (j : ℕ). bound (drop j items) ≤ n) (add-one i) less) in
      before n both.0 (subst (λ (xs : List A). bound xs ≤ n) (sym here) both.1)

-- one more number
pub step_past : (above number more n rest : ℕ) → above ≤ more → number < more → more ≤ n → rest ≤ n
    → (above ≤ n) × (max (suc number) rest ≤ n)
step_past above number more n rest a b c d = (omega arith, omega arith)

-- one more process
pub step_process : (above bound more n rest ps bs : ℕ) → above ≤ bound → ps ≤ bound → bound ≤ more → bs ≤ more → more ≤ n → rest ≤ n
    → (above ≤ n) × (max (max ps bs) rest ≤ n)
step_process above bound more n rest ps bs a b c d e f = (omega arith, omega arith)

-- one more offer
pub given_most : (offer : Offer) (t : Sorted) (n : ℕ) → offer ≡ Give t → above_variables (asked_variables (offer_of offer ∷ [])) ≤ n
given_most offer t n is =
    subst (λ (o : Offer). above_variables (asked_variables (offer_of o ∷ [])) ≤ n) (sym is) (let none : 0 ≤ n = omega arith in none)

pub asked_most : (offer : Offer) (x : Variable) (n : ℕ) → offer ≡ Ask x → x.number < n
    → above_variables (asked_variables (offer_of offer ∷ [])) ≤ n
asked_most offer x n is less =
    subst (λ (o : Offer). above_variables (asked_variables (offer_of o ∷ [])) ≤ n) (sym is)
    (let most : max (suc x.number) 0 ≤ n = omega arith in most)

pub step_offer : (offer : Offer) (rest : List Offer) (above more n : ℕ) → above ≤ more
    → above_variables (asked_variables (offer_of offer ∷ [])) ≤ more → more ≤ n → above_variables (asked_variables (map offer_of rest)) ≤ n
    → (above ≤ n) × (above_variables (asked_variables (map offer_of (offer ∷ rest))) ≤ n)
step_offer (Give t) rest above more n a b c d = (omega arith, d)
step_offer (Ask x) rest above more n a b c d =
    let first : max (suc x.number) 0 ≤ more = b in
    let both : max (suc x.number) (above_variables (asked_variables (map offer_of rest))) ≤ n = omega arith in
    (omega arith, both)

-- ---- Behaviours and nodes by their forms, and their parts as they are read from their boxes.
pub zero_most : (n : ℕ) → 0 ≤ n
zero_most n = omega arith

pub both_most : (x y n : ℕ) → x ≤ n → y ≤ n → max x y ≤ n
both_most x y n h k = omega arith

pub later_most : (x m n : ℕ) → x ≤ m → m ≤ n → x ≤ n
later_most x m n h k = omega arith

pub past_most : (x m n : ℕ) → x < m → m ≤ n → suc x ≤ n
past_most x m n h k = omega arith

pub above_form : (b form : Beh) → b ≡ form → (n : ℕ) → above (behaviour_of form) ≤ n → above (behaviour_of b) ≤ n
above_form b form is n h = subst (λ (x : Beh). above (behaviour_of x) ≤ n) (sym is) h

pub read_above : (part read : Beh) → read ≡ part → (n : ℕ) → above (behaviour_of read) ≤ n → above (behaviour_of part) ≤ n
read_above part read e n h = subst (λ (x : Beh). above (behaviour_of x) ≤ n) e h

pub node_form : (node form : Node) → node ≡ form → (n : ℕ) → above_node form ≤ n → above_node node ≤ n
node_form node form is n h = subst (λ (x : Node). above_node x ≤ n) (sym is) h

pub read_node : (part read : Node) → read ≡ part → (n : ℕ) → above_node read ≤ n → above_node part ≤ n
read_node part read e n h = subst (λ (x : Node). above_node x ≤ n) e h
