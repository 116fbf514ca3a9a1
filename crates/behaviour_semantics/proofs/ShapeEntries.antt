-- The entry of a shape's draft: its variables stand at leaves of their own, in order.
use Rattle.std.proofs.Common.{◌≡◌, ℕ, List, map, slice_get, Some, sym, ◌∙◌, subst}
use Rattle.lotos_base.proofs.Members.{at_map}
use Rattle.lotos_base.specs.Term.{Term, variable}
use Rattle.lotos_base.specs.Equation.{Data}
use Rattle.lotos_base.specs.Equality.{Equal}
use Rattle.lotos_base.specs.Substitution.{substituted}
use Rattle.behaviour_semantics.specs.Derives.{leaves_in}
use Rattle.behaviour_semantics.specs.Draft.{Draft}
use Rattle.behaviour_semantics.specs.Solving.{Entry}
use Rattle.behaviour_semantics.specs.SolvingLaws.{StandAtLeaves, IsSolved}
use Rattle.behaviour_semantics.specs.Menu.{EqualTerms, derivation_at}
use Rattle.behaviour_semantics.specs.DraftOrder.{IsLeaf}
use Rattle.behaviour_semantics.specs.DraftOrderLaws.{StandWhereTheyStood, IsSolvedFrom}
use Rattle.behaviour_semantics.proofs.OptionLemmas.{some_value}
use Rattle.behaviour_semantics.proofs.DraftFineness.{FineDraft, own_number}
use Rattle.behaviour_semantics.proofs.MeetingLeaves.{equal_at}

-- Where leaf number `k` of the draft is the variable number `k`, a variable stands at the leaf of its number.
stand_at : (data_ : Data) (draft : Draft) (entry : Entry) (numbers : List ℕ) → FineDraft data_ draft
    → StandWhereTheyStood draft.leaves entry.variables entry.leaves numbers → StandAtLeaves entry.variables entry.leaves numbers
stand_at data_ draft entry numbers f stand = record {
  rising = stand.rising;
  leaf = λ k s at.
      let n : (n : ℕ) × (slice_get numbers k ≡ Some n) × IsLeaf draft.leaves n s = stand.number k s at in
      (n.0, n.1, stand.leaf k s n.0 n.0 at n.1 (own_number data_ draft f n.0 s n.2));
}

pub shape_entry : (data_ : Data) (canon : Term → Term) (draft : Draft) (entry : Entry) → FineDraft data_ draft
    → IsSolvedFrom data_.signature canon draft entry → IsSolved canon entry
shape_entry data_ canon draft entry f h = record {
  values = h.values;
  leaves = h.leaves;
  conditions = h.conditions;
  over_values = h.over_values;
  over_leaves = h.over_leaves;
  over_left = h.over_left;
  over_right = h.over_right;
  places = h.numbers;
  own = stand_at data_ draft entry h.numbers f h.stand;
}

pub own_value : (data_ : Data) (entry : Entry) (places : List ℕ) (values leaves : List Term)
    → StandAtLeaves entry.variables entry.leaves places → EqualTerms data_ (derivation_at entry values).leaves leaves → (k n s : ℕ)
    → slice_get entry.variables k ≡ Some s → slice_get places k ≡ Some n → Equal data_ (leaves_in values k s) (leaves_in leaves n s)
own_value data_ entry places values leaves own equal k n s at place =
    let l : _ = own.leaf k s at in
    let same : l.0 ≡ n = some_value (sym l.1 ∙ place) in
    let leaf : slice_get entry.leaves n ≡ Some (variable k s) = subst
    (λ (j : ℕ). slice_get entry.leaves j ≡ Some (variable k s)) same l.2 in
    equal_at data_ (map (substituted (leaves_in values)) entry.leaves) leaves n s (leaves_in values k s) equal
    (at_map (substituted (leaves_in values)) entry.leaves n (variable k s) leaf)
