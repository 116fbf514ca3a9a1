-- What both sides of a parallel make of their drafts are the drafts of the moves that they make together.
use Rattle.std.proofs.Common.{◌≡◌, ◌≤◌, ◌++◌, ℕ, suc, ◌+◌, List, [], ◌∷◌, map, filter_map, length, Option, None, Some, Bool, ◌&&◌, nat_eq, if◌then◌else◌, refl, ap, sym, ◌∙◌, arith, le-ltb}
use Rattle.std.specs.List.{cons_option}
use Rattle.std.proofs.lemmas.List.{map-append}
use Rattle.lotos_base.specs.Signature.{Signature}
use Rattle.lotos_base.specs.Term.{Term, variable, node}
use Rattle.lotos_base.specs.Sorting.{head_sort_of}
use Rattle.lotos_base.specs.Substitution.{Substitution, substituted, renaming}
use Rattle.behaviour_semantics.specs.Behaviour.{SynchronisationSet}
use Rattle.behaviour_semantics.specs.Draft.{Draft, draft_with, label_with, leaves_from}
use Rattle.behaviour_semantics.specs.Join.{both_drafts, raised_from}
use Rattle.behaviour_semantics.specs.Label.{Label, inner_event, gate_event, exit_event}
use Rattle.behaviour_semantics.specs.Listing.{ShapedMove, below, each_below, one_behind, both_below}
use Rattle.behaviour_semantics.specs.Move.{taken, together}
use Rattle.behaviour_semantics.specs.Replacement.{test_with}
use Rattle.behaviour_semantics.specs.Rule.{is_same_known_sort, have_same_sorts, move_together, synchronises}
use Rattle.behaviour_semantics.specs.Shape.{both_sides}
use Rattle.behaviour_semantics.proofs.OptionLemmas.{some_value}
use Rattle.draft_parts.specs.DraftRules.{open_draft, together_draft}
use Rattle.draft_parts.proofs.DraftRuleLemmas.{rules_make}
use Rattle.draft_parts.specs.Lists.{meet_each, both_lists}
use Rattle.draft_parts.specs.ListLaws.{BothListsAreTheDrafts}
use Rattle.draft_parts.specs.HigherLists.{raised_move}

-- ---- Sides meet whatever the numbers of the right variables are.
module _ (signature : Signature) (f : ℕ → ℕ → ℕ) where
  sort_renamed : (t : Term) → head_sort_of signature (substituted (renaming f) t) ≡ head_sort_of signature t
  sort_renamed (variable n s) = refl
  sort_renamed (node g ts) = refl

  sorts_renamed : (ts us : List Term) → have_same_sorts signature ts (map (substituted (renaming f)) us) ≡ have_same_sorts signature ts us
  sorts_renamed [] [] = refl
  sorts_renamed [] (u ∷ us) = refl
  sorts_renamed (t ∷ ts) [] = refl
  sorts_renamed (t ∷ ts) (u ∷ us) =
      ap (λ (o : Option ℕ). is_same_known_sort (head_sort_of signature t) o
      && have_same_sorts signature ts (map (substituted (renaming f)) us))
      (sort_renamed u)
      ∙ ap (λ (b : Bool). is_same_known_sort (head_sort_of signature t) (head_sort_of signature u) && b) (sorts_renamed ts us)

  together_renamed : (meet : SynchronisationSet) (label other : Label)
      → move_together signature meet label (label_with (renaming f) other) ≡ move_together signature meet label other
  together_renamed meet inner_event other = refl
  together_renamed meet (gate_event g ts) inner_event = refl
  together_renamed meet (gate_event g ts) (gate_event h us) =
      ap (λ (b : Bool). nat_eq g h && synchronises meet g && b) (sorts_renamed ts us)
  together_renamed meet (gate_event g ts) (exit_event us) = refl
  together_renamed meet (exit_event ts) inner_event = refl
  together_renamed meet (exit_event ts) (gate_event h us) = refl
  together_renamed meet (exit_event ts) (exit_event us) = sorts_renamed ts us

met_renamed : (signature : Signature) (f : ℕ → ℕ → ℕ) (meet : SynchronisationSet) (left : Draft) (rights : List Draft)
    → filter_map (together_draft signature meet left) (map (draft_with (renaming f)) rights)
    ≡ filter_map (meet_each signature meet (renaming f) left) rights
met_renamed signature f meet left [] = refl
met_renamed signature f meet left (right ∷ rights) =
    ap (λ (b : Bool). cons_option (if b then Some (both_drafts left (draft_with (renaming f) right)) else None)
    (filter_map (together_draft signature meet left) (map (draft_with (renaming f)) rights)))
    (together_renamed signature f meet left.label right.label)
    ∙ ap (λ (ds : List Draft). cons_option (meet_each signature meet (renaming f) left right) ds)
    (met_renamed signature f meet left rights)

-- ---- The drafts of raised moves are the raised drafts.
raised_high : (first shift n s : ℕ) → first ≤ n → raised_from first shift n s ≡ variable (n + shift) s
raised_high first shift n s le = ap (λ (b : Bool). variable (if b then n else n + shift) s) (le-ltb n first le)

taken-raised : (base first shift next : ℕ) (sorts : List ℕ) → first ≤ base + next
    → taken (leaves_from base) (next + shift) sorts ≡ map (substituted (raised_from first shift)) (taken (leaves_from base) next sorts)
taken-raised base first shift next [] le = refl
taken-raised base first shift next (s ∷ sorts) le =
    let further : first ≤ base + suc next = omega arith in
    let number : base + (next + shift) ≡ base + next + shift = omega arith in
    let later : suc (next + shift) ≡ suc next + shift = omega arith in
    let here : leaves_from base (next + shift) s ≡ raised_from first shift (base + next) s =
    ap (λ (n : ℕ). variable n s) number ∙ sym (raised_high first shift (base + next) s le) in
    ap (λ (t : Term). t ∷ taken (leaves_from base) (suc (next + shift)) sorts) here
    ∙ ap (λ (ts : List Term). raised_from first shift (base + next) s ∷ ts)
    (ap (λ (n : ℕ). taken (leaves_from base) n sorts) later ∙ taken-raised base first shift (suc next) sorts further)

open_raised : (base next shift : ℕ) (y : ShapedMove) → open_draft base (next + shift) (raised_move (base + next) shift y)
    ≡ draft_with (raised_from (base + next) shift) (open_draft base next y)
open_raised base next shift y =
    let le : base + next ≤ base + next = omega arith in
    ap (λ (ts : List Term). record {
      shape = y.shape;
      label = label_with (raised_from (base + next) shift) y.move.label;
      leaves = ts;
      conditions = map (test_with (raised_from (base + next) shift)) y.move.asked;
    }) (taken-raised base (base + next) shift next y.move.sorts le)

all_raised : (base next shift : ℕ) (rights : List ShapedMove)
    → map (open_draft base (next + shift)) (map (raised_move (base + next) shift) rights)
    ≡ map (draft_with (raised_from (base + next) shift)) (map (open_draft base next) rights)
all_raised base next shift [] = refl
all_raised base next shift (y ∷ rights) =
    let here : open_draft base (next + shift) (raised_move (base + next) shift y)
    ≡ draft_with (raised_from (base + next) shift) (open_draft base next y) = open_raised base next shift y in
    let rest : map (open_draft base (next + shift)) (map (raised_move (base + next) shift) rights)
    ≡ map (draft_with (raised_from (base + next) shift)) (map (open_draft base next) rights) = all_raised base next shift rights in
    λ i. here i ∷ rest i

length-taken : (leaves : Substitution) (next : ℕ) (sorts : List ℕ) → length (taken leaves next sorts) ≡ length sorts
length-taken leaves next [] = refl
length-taken leaves next (s ∷ sorts) =
    let rest : length (taken leaves (suc next) sorts) ≡ length sorts = length-taken leaves (suc next) sorts in omega arith

-- ---- One left move with the right ones, and then the others.
module _ (base next : ℕ) (signature : Signature) (meet : SynchronisationSet) (rights_at : ℕ → Option (List ShapedMove))
    (rights : List ShapedMove) where
  abbrev opened : List ShapedMove → List Draft
  opened moves = map (open_draft base next) moves

  abbrev met : ShapedMove → ℕ → List Draft
  met x shift = filter_map (meet_each signature meet (raised_from (base + next) shift) (open_draft base next x)) (opened rights)

  one_met : (x : ShapedMove) (moves : List ShapedMove) → moves ≡ map (raised_move (base + next) (length x.move.sorts)) rights
      → met x (length (open_draft base next x).leaves)
      ≡ opened (filter_map (below (both_sides x.shape) (together signature meet x.move)) moves)
  one_met x moves e =
      ap (met x) (length-taken (leaves_from base) next x.move.sorts)
      ∙ (sym (met_renamed signature _ meet (open_draft base next x) (opened rights))
      ∙ (ap (λ (ds : List Draft). filter_map (together_draft signature meet (open_draft base next x)) ds)
      (sym (all_raised base next (length x.move.sorts) rights)
      ∙ ap (λ (ys : List ShapedMove). map (open_draft base (next + length x.move.sorts)) ys) (sym e))
      ∙ sym (rules_make.both base next signature meet x moves)))

  step : (x : ShapedMove) (lefts : List ShapedMove) (others : List Draft) (o : Option (List ShapedMove))
      → ((moves : List ShapedMove) → o ≡ Some moves → moves ≡ map (raised_move (base + next) (length x.move.sorts)) rights)
      → (p : Option (List ShapedMove)) → ((moves : List ShapedMove) → p ≡ Some moves → others ≡ opened moves)
      → (moves : List ShapedMove)
      → one_behind (each_below (both_sides x.shape) (together signature meet x.move) o) p ≡ Some moves
      → met x (length (open_draft base next x).leaves) ++ others ≡ opened moves
  step x lefts others None h p k moves e = absurd (cc e)
  step x lefts others (Some list) h None k moves e = absurd (cc e)
  step x lefts others (Some list) h (Some tail) k moves e =
      ap (λ (ds : List Draft). ds ++ others) (one_met x list (h list refl))
      ∙ (ap (λ (ds : List Draft). opened (filter_map (below (both_sides x.shape) (together signature meet x.move)) list) ++ ds)
      (k tail refl)
      ∙ (sym (map-append (open_draft base next) (filter_map (below (both_sides x.shape) (together signature meet x.move)) list) tail)
      ∙ ap opened (some_value e)))

  both_met : ((shift : ℕ) (moves : List ShapedMove) → rights_at (next + shift) ≡ Some moves
      → moves ≡ map (raised_move (base + next) shift) rights)
      → (lefts moves : List ShapedMove) → both_below signature meet next rights_at lefts ≡ Some moves
      → both_lists signature meet (base + next) (opened lefts) (opened rights) ≡ opened moves
  both_met h [] moves e = ap opened (some_value e)
  both_met h (x ∷ lefts) moves e =
      step x lefts (both_lists signature meet (base + next) (opened lefts) (opened rights)) (rights_at (next + length x.move.sorts))
      (h (length x.move.sorts)) (both_below signature meet next rights_at lefts) (both_met h lefts) moves e

pub both_are_drafts : BothListsAreTheDrafts
both_are_drafts base next signature meet rights_at lefts rights h = both_met base next signature meet rights_at rights h lefts
