-- A draft of a move alone meets nothing, and one that may meet makes no move alone.
use Rattle.std.proofs.Common.{◌≡◌, ◌++◌, ℕ, List, [], ◌∷◌, length, filter, filter_map, Option, None, Some, Bool, true, false, ◌&&◌, nat_eq, if◌then◌else◌, refl, ap, sym, ◌∙◌}
use Rattle.std.specs.List.{cons_option}
use Rattle.std.proofs.lemmas.Bool.{eqb-true, not-true}
use Rattle.lotos_base.specs.Signature.{Signature}
use Rattle.lotos_base.specs.Substitution.{Substitution}
use Rattle.behaviour_semantics.specs.Behaviour.{SynchronisationSet}
use Rattle.behaviour_semantics.specs.Draft as plain
use Rattle.behaviour_semantics.specs.Draft.{draft_with}
use Rattle.behaviour_semantics.specs.Join.{both_drafts, raised_from}
use Rattle.behaviour_semantics.specs.Label.{Label, inner_event, gate_event, exit_event}
use Rattle.behaviour_semantics.specs.Rule.{have_same_sorts, move_together, moves_alone, synchronises}
use Rattle.behaviour_semantics.specs.Shape.{Shape}
use Rattle.behaviour_semantics.specs.WellFormed.{Every}
use Rattle.behaviour_tree.specs.MoveView.{label_of}
use Rattle.event_offers.specs.OfferView.{plain_draft}
use Rattle.event_offers.specs.declared.drafts.Draft.{Draft}
use Rattle.draft_parts.specs.DraftRules.{alone_draft, draft_within}
use Rattle.draft_parts.specs.Lists.{both_lists, meet_each, plain_drafts}
use Rattle.draft_parts.specs.Parting.{alone_among, meeting_among}

pub left_apart : (signature : Signature) (meet : SynchronisationSet) (l r : Label) → moves_alone meet l ≡ true
    → move_together signature meet l r ≡ false
left_apart signature meet inner_event r e = refl
left_apart signature meet (gate_event g us) inner_event e = refl
left_apart signature meet (gate_event g us) (exit_event vs) e = refl
left_apart signature meet (gate_event g us) (gate_event k vs) e =
    ap (λ (b : Bool). nat_eq g k && b && have_same_sorts signature us vs) (not-true (synchronises meet g) e) ∙ go (nat_eq g k)
  where
    go : (b : Bool) → (b && false && have_same_sorts signature us vs) ≡ false
    go true = refl
    go false = refl
left_apart signature meet (exit_event us) r e = absurd (cc e)

pub right_apart : (signature : Signature) (meet : SynchronisationSet) (l r : Label) → moves_alone meet r ≡ true
    → move_together signature meet l r ≡ false
right_apart signature meet inner_event r e = refl
right_apart signature meet (gate_event g us) inner_event e = refl
right_apart signature meet (gate_event g us) (exit_event vs) e = refl
right_apart signature meet (gate_event g us) (gate_event k vs) e = go (nat_eq g k) refl
  where
    go : (b : Bool) → nat_eq g k ≡ b → (b && synchronises meet g && have_same_sorts signature us vs) ≡ false
    go true is = ap (λ (c : Bool). true && c && have_same_sorts signature us vs)
        (ap (synchronises meet) (eqb-true g k is) ∙ not-true (synchronises meet k) e)
    go false is = refl
right_apart signature meet (exit_event us) inner_event e = refl
right_apart signature meet (exit_event us) (gate_event k vs) e = refl
right_apart signature meet (exit_event us) (exit_event vs) e = absurd (cc e)

pub alone_same : (meet : SynchronisationSet) (variant : Shape → Shape) (drafts : List Draft)
    → filter_map (alone_draft meet variant) (plain_drafts (alone_among meet drafts))
    ≡ filter_map (alone_draft meet variant) (plain_drafts drafts)
alone_same meet variant [] = refl
alone_same meet variant (d ∷ drafts) = go (moves_alone meet (label_of d.label)) refl (alone_same meet variant drafts)
  where
    go : (b : Bool) → moves_alone meet (label_of d.label) ≡ b
        → filter_map (alone_draft meet variant) (plain_drafts (alone_among meet drafts))
        ≡ filter_map (alone_draft meet variant) (plain_drafts drafts)
        → filter_map (alone_draft meet variant) (plain_drafts (if b then d ∷ alone_among meet drafts else alone_among meet drafts))
        ≡ cons_option (alone_draft meet variant (plain_draft d)) (filter_map (alone_draft meet variant) (plain_drafts drafts))
    go true e rest = ap (λ (ds : List plain.Draft). cons_option (alone_draft meet variant (plain_draft d)) ds) rest
    go false e rest = rest ∙ sym (ap (λ (b : Bool). cons_option (if b then Some (draft_within variant (plain_draft d)) else None)
        (filter_map (alone_draft meet variant) (plain_drafts drafts))) e)

-- Each draft that moves alone is kept.
pub alone_kept : (meet : SynchronisationSet) (variant : Shape → Shape) (drafts : List Draft)
    → filter_map (λ (d : plain.Draft). Some (draft_within variant d)) (plain_drafts (alone_among meet drafts))
    ≡ filter_map (alone_draft meet variant) (plain_drafts drafts)
alone_kept meet variant [] = refl
alone_kept meet variant (d ∷ drafts) = go (moves_alone meet (label_of d.label)) (alone_kept meet variant drafts)
  where
    go : (b : Bool)
        → filter_map (λ (x : plain.Draft). Some (draft_within variant x)) (plain_drafts (alone_among meet drafts))
        ≡ filter_map (alone_draft meet variant) (plain_drafts drafts)
        → filter_map (λ (x : plain.Draft). Some (draft_within variant x))
        (plain_drafts (if b then d ∷ alone_among meet drafts else alone_among meet drafts))
        ≡ cons_option (if b then Some (draft_within variant (plain_draft d)) else None)
        (filter_map (alone_draft meet variant) (plain_drafts drafts))
    go true rest = ap (λ (ds : List plain.Draft). draft_within variant (plain_draft d) ∷ ds) rest
    go false rest = rest

pub alone_filtered : (meet : SynchronisationSet) (drafts : List Draft)
    → filter (λ (d : Draft). moves_alone meet (label_of d.label)) drafts ≡ alone_among meet drafts
alone_filtered meet [] = refl
alone_filtered meet (d ∷ drafts) =
    ap (λ (ds : List Draft). if moves_alone meet (label_of d.label) then d ∷ ds else ds) (alone_filtered meet drafts)

-- The drafts from an index on all move alone only if all do.
pub record AreAloneIf (meet : SynchronisationSet) (rest drafts : List Draft) : Type 0 where
  pub alone : rest ≡ alone_among meet rest → drafts ≡ alone_among meet drafts
  pub meeting : [] ≡ meeting_among meet rest → [] ≡ meeting_among meet drafts

module _ (signature : Signature) (meet : SynchronisationSet) where
  -- what a left draft makes with a right one, by whether they move together
  abbrev made_if : Bool → Substitution → plain.Draft → plain.Draft → Option plain.Draft
  made_if b values left right = if b then Some (both_drafts left (draft_with values right)) else None

  right_turn : (values : Substitution) (left : plain.Draft) (d : Draft) (rights : List Draft) (b : Bool)
      → moves_alone meet (label_of d.label) ≡ b
      → filter_map (meet_each signature meet values left) (plain_drafts (meeting_among meet rights))
      ≡ filter_map (meet_each signature meet values left) (plain_drafts rights)
      → filter_map (meet_each signature meet values left)
      (plain_drafts (if b then meeting_among meet rights else d ∷ meeting_among meet rights))
      ≡ cons_option (meet_each signature meet values left (plain_draft d))
      (filter_map (meet_each signature meet values left) (plain_drafts rights))
  right_turn values left d rights true e rest =
      rest ∙ sym (ap (λ (b : Bool). cons_option (made_if b values left (plain_draft d))
      (filter_map (meet_each signature meet values left) (plain_drafts rights)))
      (right_apart signature meet left.label (label_of d.label) e))
  right_turn values left d rights false e rest =
      ap (λ (ds : List plain.Draft). cons_option (meet_each signature meet values left (plain_draft d)) ds) rest

  right_same : (values : Substitution) (left : plain.Draft) (rights : List Draft)
      → filter_map (meet_each signature meet values left) (plain_drafts (meeting_among meet rights))
      ≡ filter_map (meet_each signature meet values left) (plain_drafts rights)
  right_same values left [] = refl
  right_same values left (d ∷ rights) =
      right_turn values left d rights (moves_alone meet (label_of d.label)) refl (right_same values left rights)

  rights_same : (first : ℕ) (lefts : List plain.Draft) (rights : List Draft)
      → both_lists signature meet first lefts (plain_drafts (meeting_among meet rights))
      ≡ both_lists signature meet first lefts (plain_drafts rights)
  rights_same first [] rights = refl
  rights_same first (left ∷ lefts) rights =
      let one = right_same (raised_from first (length left.leaves)) left rights in
      let others = rights_same first lefts rights in λ i. one i ++ others i

  left_unmet : (values : Substitution) (left : plain.Draft) (rights : List plain.Draft) → moves_alone meet left.label ≡ true
      → filter_map (meet_each signature meet values left) rights ≡ []
  left_unmet values left [] e = refl
  left_unmet values left (right ∷ rights) e =
      ap (λ (b : Bool). cons_option (made_if b values left right) (filter_map (meet_each signature meet values left) rights))
      (left_apart signature meet left.label right.label e)
      ∙ left_unmet values left rights e

  left_turn : (first : ℕ) (d : Draft) (lefts : List Draft) (rights : List plain.Draft) (b : Bool)
      → moves_alone meet (label_of d.label) ≡ b
      → both_lists signature meet first (plain_drafts (meeting_among meet lefts)) rights
      ≡ both_lists signature meet first (plain_drafts lefts) rights
      → both_lists signature meet first (plain_drafts (if b then meeting_among meet lefts else d ∷ meeting_among meet lefts)) rights
      ≡ filter_map (meet_each signature meet (raised_from first (length (plain_draft d).leaves)) (plain_draft d)) rights
      ++ both_lists signature meet first (plain_drafts lefts) rights
  left_turn first d lefts rights true e rest =
      rest ∙ sym (ap (λ (ds : List plain.Draft). ds ++ both_lists signature meet first (plain_drafts lefts) rights)
      (left_unmet (raised_from first (length (plain_draft d).leaves)) (plain_draft d) rights e))
  left_turn first d lefts rights false e rest =
      ap (λ (ds : List plain.Draft). filter_map (meet_each signature meet (raised_from first (length (plain_draft d).leaves))
      (plain_draft d)) rights ++ ds) rest

  lefts_same : (first : ℕ) (lefts : List Draft) (rights : List plain.Draft)
      → both_lists signature meet first (plain_drafts (meeting_among meet lefts)) rights
      ≡ both_lists signature meet first (plain_drafts lefts) rights
  lefts_same first [] rights = refl
  lefts_same first (d ∷ lefts) rights =
      left_turn first d lefts rights (moves_alone meet (label_of d.label)) refl (lefts_same first lefts rights)

pub both_same : (signature : Signature) (meet : SynchronisationSet) (first : ℕ) (lefts rights : List Draft)
    → both_lists signature meet first (plain_drafts (meeting_among meet lefts)) (plain_drafts (meeting_among meet rights))
    ≡ both_lists signature meet first (plain_drafts lefts) (plain_drafts rights)
both_same signature meet first lefts rights =
    lefts_same signature meet first lefts (plain_drafts (meeting_among meet rights))
    ∙ rights_same signature meet first (plain_drafts lefts) rights

pub alone_over : (P : Draft → Type 0) (meet : SynchronisationSet) (drafts : List Draft) → Every P drafts
    → Every P (alone_among meet drafts)
alone_over P meet [] h = tt
alone_over P meet (d ∷ drafts) h = go (moves_alone meet (label_of d.label)) (alone_over P meet drafts h.1)
  where
    go : (b : Bool) → Every P (alone_among meet drafts) → Every P (if b then d ∷ alone_among meet drafts else alone_among meet drafts)
    go true rest = (h.0, rest)
    go false rest = rest

pub meeting_over : (P : Draft → Type 0) (meet : SynchronisationSet) (drafts : List Draft) → Every P drafts
    → Every P (meeting_among meet drafts)
meeting_over P meet [] h = tt
meeting_over P meet (d ∷ drafts) h = go (moves_alone meet (label_of d.label)) (meeting_over P meet drafts h.1)
  where
    go : (b : Bool) → Every P (meeting_among meet drafts)
        → Every P (if b then meeting_among meet drafts else d ∷ meeting_among meet drafts)
    go true rest = rest
    go false rest = (h.0, rest)
