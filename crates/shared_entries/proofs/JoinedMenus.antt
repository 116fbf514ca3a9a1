-- What both sides of a parallel do together: the joins of the entries of their menus, solved.
use Rattle.std.proofs.Common.{◌≡◌, ◌⊎◌, inl, inr, List, [], ◌∷◌, length, Bool, true, false, Option, None, Some, option_and_then, if◌then◌else◌, refl, ap, sym, ◌∙◌, subst}
use Rattle.lotos_base.specs.Term.{Term}
use Rattle.lotos_base.specs.Equation.{Data}
use Rattle.lotos_base.proofs.Options.{chained, none_and_some}
use Rattle.behaviour_semantics.specs.Behaviour.{Behaviour, parallel, SynchronisationSet, all_gates, Specification}
use Rattle.behaviour_semantics.specs.Rule.{move_together}
use Rattle.behaviour_semantics.specs.Shape.{Shape, both_sides, Before, in_first, in_second}
use Rattle.behaviour_semantics.specs.Draft.{Draft, draft_of, draft_with}
use Rattle.behaviour_semantics.specs.DraftOrder.{as_draft}
use Rattle.behaviour_semantics.specs.Join.{both_drafts, raised, join_of_drafts, meets_with}
use Rattle.behaviour_semantics.specs.JoinLaws.{AreSolvedSides}
use Rattle.behaviour_semantics.specs.NumberingLaws.{joined_at}
use Rattle.behaviour_semantics.specs.Solving.{Entry, SolvesTo}
use Rattle.behaviour_semantics.specs.Listing.{AllSolveTo, IsAmong}
use Rattle.behaviour_semantics.specs.WellFormed.{AreOver}
use Rattle.behaviour_semantics.proofs.ListLemmas.{IsAmong-left, IsAmong-right, IsAmong-filter_map, Every-among}
use Rattle.behaviour_semantics.proofs.OptionLemmas.{tested}
use Rattle.behaviour_semantics.proofs.OrderLemmas.{Agree-refl}
use Rattle.behaviour_semantics.proofs.SolvingLemmas.{determined}
use Rattle.behaviour_semantics.proofs.SolvingAnyDraft.{solving_any}
use Rattle.behaviour_semantics.proofs.SolvedSides.{solved_sides}
use Rattle.behaviour_semantics.proofs.JoinedDrafts.{joined_drafts}
use Rattle.shared_entries.specs.PartMenus.{joins_of, joins}
use Rattle.shared_entries.proofs.LabelKinds.{same_kind}
use Rattle.shared_entries.proofs.RuleLabels.{same_meets}
use Rattle.shared_entries.proofs.RisingLists.{RisingBy, or_else, entry_shape, draft_shape, rising_append, rising_filter_map, CameFrom, from_filter_map, from_append, SolvedFrom, solved_from, solved_to, rising_solved, same_shape}
use Rattle.shared_entries.proofs.FormDrafts.{over_part}
use Rattle.shared_entries.proofs.FormShapes.{IsOfBoth}
use Rattle.shared_entries.proofs.SolvedMenus.{IsSolvedForm, form_order, IsMenu}
use Rattle.shared_entries.proofs.Shares.{IsShare}

-- A draft is a join of two entries at a gate where the sides meet.
pub record IsJoin (data_ : Data) (meet : SynchronisationSet) (lefts rights : List Entry) (draft : Draft) : Type 0 where
  pub left : Entry
  pub right : Entry
  pub left_listed : IsAmong left lefts
  pub right_listed : IsAmong right rights
  pub is : joined_at data_ meet (as_draft left) (as_draft right) ≡ Some draft

module _ (data_ : Data) (meet : SynchronisationSet) where
  abbrev join_with : Entry → Entry → Option Draft
  join_with left right = joined_at data_ meet (as_draft left) (as_draft right)

  -- what a join at a gate is
  pub parts_of : (left right whole : Draft) → joined_at data_ meet left right ≡ Some whole
      → (meets_with meet left.label ≡ true) × (join_of_drafts data_.signature left right ≡ Some whole)
  parts_of left right whole e = by (meets_with meet left.label) (join_of_drafts data_.signature left right) e
    where
      by : (test : Bool) (o : Option Draft) → (if test then o else None) ≡ Some whole → (test ≡ true) × (o ≡ Some whole)
      by true o e = (refl, e)
      by false o e = absurd (cc e)

  join_shape : (left right whole : Draft) → joined_at data_ meet left right ≡ Some whole → whole.shape ≡ both_sides left.shape right.shape
  join_shape left right whole e =
      sym (ap draft_shape (tested (move_together data_.signature all_gates left.label right.label)
      (both_drafts left (draft_with (raised (length left.leaves)) right)) (parts_of left right whole e).1).1)

  pub from_joins : (lefts rights : List Entry) (draft : Draft) → IsAmong draft (joins data_ meet lefts rights)
      → IsJoin data_ meet lefts rights draft
  from_joins [] rights draft a = absurd a
  from_joins (left ∷ lefts) rights draft a =
      by (or_else (from_joins lefts rights draft) (from_append draft (joins_of data_ meet left rights) (joins data_ meet lefts rights) a))
    where
      by : IsAmong draft (joins_of data_ meet left rights) ⊎ IsJoin data_ meet lefts rights draft
          → IsJoin data_ meet (left ∷ lefts) rights draft
      by (inl here) =
          let from : CameFrom (join_with left) rights draft = from_filter_map (join_with left) rights draft here in
          record { left = left; right = from.origin; left_listed = inl refl; right_listed = from.listed; is = from.gives }
      by (inr j) =
          record { left = j.left; right = j.right; left_listed = inr j.left_listed; right_listed = j.right_listed; is = j.is }

  pub to_joins : (lefts rights : List Entry) (left right : Entry) (draft : Draft) → IsAmong left lefts → IsAmong right rights
      → joined_at data_ meet (as_draft left) (as_draft right) ≡ Some draft → IsAmong draft (joins data_ meet lefts rights)
  to_joins [] rights left right draft a b is = absurd a
  to_joins (first ∷ lefts) rights left right draft (inl same) b is =
      IsAmong-left draft (joins_of data_ meet first rights) (joins data_ meet lefts rights)
      (IsAmong-filter_map (join_with first) right draft rights
      (ap (λ (l : Entry). joined_at data_ meet (as_draft l) (as_draft right)) same ∙ is) b)
  to_joins (first ∷ lefts) rights left right draft (inr a) b is =
      IsAmong-right draft (joins_of data_ meet first rights) (joins data_ meet lefts rights) (to_joins lefts rights left right draft a b is)

  -- The joins stand in the order of their shapes.
  pub joins_rise : (lefts rights : List Entry) → RisingBy entry_shape lefts → RisingBy entry_shape rights
      → RisingBy draft_shape (joins data_ meet lefts rights)
  joins_rise [] rights h k = tt
  joins_rise (left ∷ lefts) rights h k =
      rising_append draft_shape (joins_of data_ meet left rights) (joins data_ meet lefts rights)
      (rising_filter_map (join_with left) entry_shape draft_shape
      (λ r r' d d' e e' before.
      subst (λ (s : Shape). Before s d'.shape) (sym (join_shape (as_draft left) (as_draft r) d e))
      (subst (λ (s : Shape). Before (both_sides left.shape r.shape) s) (sym (join_shape (as_draft left) (as_draft r') d' e'))
      (in_second (Agree-refl left.shape) before)))
      rights k)
      (joins_rise lefts rights h.1 k)
      (λ d d' a a'.
      let from : CameFrom (join_with left) rights d = from_filter_map (join_with left) rights d a in
      let j : IsJoin data_ meet lefts rights d' = from_joins lefts rights d' a' in
      subst (λ (s : Shape). Before s d'.shape) (sym (join_shape (as_draft left) (as_draft from.origin) d from.gives))
      (subst (λ (s : Shape). Before (both_sides left.shape from.origin.shape) s)
      (sym (join_shape (as_draft j.left) (as_draft j.right) d' j.is))
      (in_first (Every-among (λ (y : Entry). Before left.shape y.shape) lefts j.left h.0 j.left_listed))))

-- An option that is not missing is there.
there_is : {X : Type 0} (o : Option X) → (o ≡ None → ⊥) → (x : X) × (o ≡ Some x)
there_is None never = absurd (never refl)
there_is (Some x) never = (x, refl)

module _ (data_ : Data) (canon : Term → Term) (specification : Specification) (meet : SynchronisationSet) (b c : Behaviour)
    (over : AreOver data_ canon specification (parallel meet b c)) where
  over_left : AreOver data_ canon specification b
  over_left = over_part data_ canon specification (parallel meet b c) b over over.closed.1

  over_right : AreOver data_ canon specification c
  over_right = over_part data_ canon specification (parallel meet b c) c over over.closed.2

  -- Solved forms of the two sides, with their drafts.
  sides : (s t : Shape) (l r : Entry) (f : IsSolvedForm data_ canon specification b s l) (g : IsSolvedForm data_ canon specification c t r)
      → AreSolvedSides data_ canon f.draft g.draft l r
  sides s t l r f g = record {
    left_order = form_order data_ canon specification b s f.draft over_left f.drafted;
    right_order = form_order data_ canon specification c t g.draft over_right g.drafted;
    left_solves = f.solves;
    right_solves = g.solves;
  }

  meets_alike : (s : Shape) (l : Entry) (f : IsSolvedForm data_ canon specification b s l)
      → meets_with meet l.label ≡ meets_with meet f.draft.label
  meets_alike s l f =
      same_meets data_.signature meet l.label f.draft.label
      (same_kind data_ canon over.is_canon f.solves (form_order data_ canon specification b s f.draft over_left f.drafted))

  at_gate_where : (left right whole : Draft) → meets_with meet left.label ≡ true → join_of_drafts data_.signature left right ≡ Some whole
      → joined_at data_ meet left right ≡ Some whole
  at_gate_where left right whole meets e =
      ap (λ (test : Bool). if test then join_of_drafts data_.signature left right else None) meets ∙ e

  whole_draft : (s t : Shape) (left right whole : Draft) → draft_of data_ canon specification.processes s b ≡ Some left
      → draft_of data_ canon specification.processes t c ≡ Some right → joined_at data_ meet left right ≡ Some whole
      → draft_of data_ canon specification.processes (both_sides s t) (parallel meet b c) ≡ Some whole
  whole_draft s t left right whole e f is =
      joined_drafts data_ canon specification meet b c over s t
      ∙ (ap (option_and_then (λ (l : Draft). option_and_then (joined_at data_ meet l) (draft_of data_ canon specification.processes t c))) e
      ∙ (ap (option_and_then (joined_at data_ meet left)) f ∙ is))

  -- A solved join of solved forms is a solved form of the whole.
  pub join_sound : (s t : Shape) (l r made : Entry) (draft : Draft) → IsSolvedForm data_ canon specification b s l
      → IsSolvedForm data_ canon specification c t r → joined_at data_ meet (as_draft l) (as_draft r) ≡ Some draft
      → SolvesTo canon draft (Some made) → IsSolvedForm data_ canon specification (parallel meet b c) (both_sides s t) made
  join_sound s t l r made draft f g is solves =
      let both : AreSolvedSides data_ canon f.draft g.draft l r = sides s t l r f g in
      let parts = parts_of data_ meet (as_draft l) (as_draft r) draft is in
      let whole : (d : Draft) × (join_of_drafts data_.signature f.draft g.draft ≡ Some d) =
      there_is (join_of_drafts data_.signature f.draft g.draft) (λ none.
      none_and_some (join_of_drafts data_.signature (as_draft l) (as_draft r)) draft
      ((solved_sides.same_joins data_ canon f.draft g.draft l r over.is_canon both).0 none) parts.1) in
      record {
        draft = whole.0;
        drafted = whole_draft s t f.draft g.draft whole.0 f.drafted g.drafted
            (at_gate_where f.draft g.draft whole.0 (sym (meets_alike s l f) ∙ parts.0) whole.1);
        solves = (solved_sides.same_outcomes data_ canon f.draft g.draft l r whole.0 draft (Some made) over.is_canon both whole.1
            parts.1).1 solves;
      }

  -- The solved forms of the sides, and their solved join, from which a solved form of both comes.
  pub record ComesFromBoth (s t : Shape) (made : Entry) : Type 0 where
    pub left : Entry
    pub right : Entry
    pub left_form : IsSolvedForm data_ canon specification b s left
    pub right_form : IsSolvedForm data_ canon specification c t right
    pub draft : Draft
    pub is : joined_at data_ meet (as_draft left) (as_draft right) ≡ Some draft
    pub solves : SolvesTo canon draft (Some made)

  -- The draft of both with the drafts of the sides.
  record DraftsOfBoth (s t : Shape) (whole : Draft) : Type 0 where
    left : Draft
    right : Draft
    left_drafted : draft_of data_ canon specification.processes s b ≡ Some left
    right_drafted : draft_of data_ canon specification.processes t c ≡ Some right
    is : joined_at data_ meet left right ≡ Some whole

  drafts_of_both : (s t : Shape) (whole : Draft)
      → draft_of data_ canon specification.processes (both_sides s t) (parallel meet b c) ≡ Some whole → DraftsOfBoth s t whole
  drafts_of_both s t whole e =
      let l = chained (λ (left : Draft). option_and_then (joined_at data_ meet left) (draft_of data_ canon specification.processes t c))
      (draft_of data_ canon specification.processes s b) (sym (joined_drafts data_ canon specification meet b c over s t) ∙ e) in
      let r = chained (joined_at data_ meet l.0) (draft_of data_ canon specification.processes t c) l.2 in
      record { left = l.0; right = r.0; left_drafted = l.1; right_drafted = r.1; is = r.2 }

  by_outcomes : (s t : Shape) (made : Entry) (whole : Draft) (d : DraftsOfBoth s t whole) → SolvesTo canon whole (Some made)
      → (o p : Option Entry) → SolvesTo canon d.left o → SolvesTo canon d.right p → ComesFromBoth s t made
  by_outcomes s t made whole d solves None p left right =
      absurd (cc (determined (solved_sides.left_nothing data_ canon d.left d.right whole over.is_canon
      (form_order data_ canon specification b s d.left over_left d.left_drafted)
      (form_order data_ canon specification c t d.right over_right d.right_drafted)
      (parts_of data_ meet d.left d.right whole d.is).1 left) solves))
  by_outcomes s t made whole d solves (Some l) None left right =
      absurd (cc (determined (solved_sides.right_nothing data_ canon d.left d.right whole over.is_canon
      (form_order data_ canon specification b s d.left over_left d.left_drafted)
      (form_order data_ canon specification c t d.right over_right d.right_drafted)
      (parts_of data_ meet d.left d.right whole d.is).1 right) solves))
  by_outcomes s t made whole d solves (Some l) (Some r) left right =
      let f : IsSolvedForm data_ canon specification b s l = record { draft = d.left; drafted = d.left_drafted; solves = left } in
      let g : IsSolvedForm data_ canon specification c t r = record { draft = d.right; drafted = d.right_drafted; solves = right } in
      let both : AreSolvedSides data_ canon d.left d.right l r = sides s t l r f g in
      let parts = parts_of data_ meet d.left d.right whole d.is in
      let join : (x : Draft) × (join_of_drafts data_.signature (as_draft l) (as_draft r) ≡ Some x) =
      there_is (join_of_drafts data_.signature (as_draft l) (as_draft r)) (λ none.
      none_and_some (join_of_drafts data_.signature d.left d.right) whole
      ((solved_sides.same_joins data_ canon d.left d.right l r over.is_canon both).1 none) parts.1) in
      record {
        left = l;
        right = r;
        left_form = f;
        right_form = g;
        draft = join.0;
        is = at_gate_where (as_draft l) (as_draft r) join.0 (meets_alike s l f ∙ parts.0) join.1;
        solves = (solved_sides.same_outcomes data_ canon d.left d.right l r whole join.0 (Some made) over.is_canon both parts.1
            join.1).0 solves;
      }

  -- Each solved form of both comes from solved forms of the sides.
  pub join_complete : (s t : Shape) (made : Entry) → IsSolvedForm data_ canon specification (parallel meet b c) (both_sides s t) made
      → ComesFromBoth s t made
  join_complete s t made f =
      let d : DraftsOfBoth s t f.draft = drafts_of_both s t f.draft f.drafted in
      let o = solving_any.outcome data_ canon d.left over.is_canon
      (form_order data_ canon specification b s d.left over_left d.left_drafted) in
      let p = solving_any.outcome data_ canon d.right over.is_canon
      (form_order data_ canon specification c t d.right over_right d.right_drafted) in
      by_outcomes s t made f.draft d f.solves o.0 p.0 o.1 p.1

  -- The share of what both do together.
  pub both_share : (lefts rights boths : List Entry) → IsMenu data_ canon specification b lefts → IsMenu data_ canon specification c rights
      → AllSolveTo canon (joins data_ meet lefts rights) boths
      → IsShare data_ canon specification (parallel meet b c) IsOfBoth boths
  both_share lefts rights boths left_menu right_menu solve = record {
    rising = rising_solved canon solve (joins_rise data_ meet lefts rights left_menu.rising right_menu.rising);
    sound = λ made a.
        let from : SolvedFrom canon (joins data_ meet lefts rights) made = solved_from canon solve made a in
        let j : IsJoin data_ meet lefts rights from.draft = from_joins data_ meet lefts rights from.draft from.listed in
        let shape : made.shape ≡ both_sides j.left.shape j.right.shape =
        same_shape from.solves ∙ join_shape data_ meet (as_draft j.left) (as_draft j.right) from.draft j.is in (
          (j.left.shape, j.right.shape, shape),
          subst (λ (s : Shape). IsSolvedForm data_ canon specification (parallel meet b c) s made) (sym shape)
              (join_sound j.left.shape j.right.shape j.left j.right made from.draft (left_menu.sound j.left j.left_listed)
              (right_menu.sound j.right j.right_listed) j.is from.solves),
        );
    complete = λ s made is f.
        let from : ComesFromBoth is.0 is.1 made =
        join_complete is.0 is.1 made (subst (λ (t : Shape). IsSolvedForm data_ canon specification (parallel meet b c) t made) is.2 f) in
        solved_to canon solve from.draft made
        (to_joins data_ meet lefts rights from.left from.right from.draft (left_menu.complete is.0 from.left from.left_form)
        (right_menu.complete is.1 from.right from.right_form) from.is)
        from.solves;
  }
