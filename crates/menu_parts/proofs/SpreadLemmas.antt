-- Parts side by side: no entries end together, and the entries of all parts as the whole has them make up its menu.
use Rattle.std.proofs.Common.{◌≡◌, List, [], ◌∷◌, ◌++◌, length, filter_map, Bool, true, false, if◌then◌else◌, Option, None, Some, refl, ap, sym, ◌∙◌, subst, append-nil}
use Rattle.std.specs.List.{cons_option}
use Rattle.std.proofs.lemmas.List.Elements.{filter_map-append}
use Rattle.lotos_base.specs.Equation.{Data}
use Rattle.lotos_base.specs.Term.{Term}
use Rattle.behaviour_semantics.specs.Behaviour.{no_gates, all_gates, Relabelling}
use Rattle.behaviour_semantics.specs.Draft.{Draft, draft_with}
use Rattle.behaviour_semantics.specs.DraftOrder.{as_draft}
use Rattle.behaviour_semantics.specs.Join.{both_drafts, meets_with, raised}
use Rattle.behaviour_semantics.specs.Label.{Label, inner_event, gate_event, exit_event, label_under}
use Rattle.behaviour_semantics.specs.Listing.{AllSolveTo, none_left}
use Rattle.behaviour_semantics.specs.NumberingLaws.{joined_at}
use Rattle.behaviour_semantics.specs.Rule.{is_exit, move_together, moves_alone}
use Rattle.behaviour_semantics.specs.Shape.{Shape, left_side, right_side}
use Rattle.behaviour_semantics.specs.Solving.{Entry}
use Rattle.behaviour_semantics.specs.WellFormed.{Every}
use Rattle.behaviour_semantics.proofs.ListLemmas.{Every-append}
use Rattle.shared_entries.specs.PartMenus.{joins, parallel_menu, relabel_menu}
use Rattle.shared_entries.specs.PartRule.{PartRule, all_by_rule, alone_rule, by_rule, changed}
use Rattle.menu_parts.specs.Spread.{NoneEnds, of_left, of_right}

-- ---- What does not end.
never_ends : (label : Label) → moves_alone no_gates label ≡ true → is_exit label ≡ false
never_ends inner_event e = refl
never_ends (gate_event g values) e = refl
never_ends (exit_event values) e = absurd (cc e)

under_ends : (pairs : Relabelling) (label : Label) → is_exit label ≡ false → is_exit (label_under pairs label) ≡ false
under_ends pairs inner_event e = e
under_ends pairs (gate_event g values) e = refl
under_ends pairs (exit_event values) e = absurd (cc e)

alone_none : (variant : Shape → Shape) (entries : List Entry) → NoneEnds (filter_map (by_rule (alone_rule no_gates variant)) entries)
alone_none variant [] = tt
alone_none variant (x ∷ entries) = by (moves_alone no_gates x.label) refl (alone_none variant entries)
  where
    by : (b : Bool) → moves_alone no_gates x.label ≡ b → NoneEnds (filter_map (by_rule (alone_rule no_gates variant)) entries)
        → NoneEnds (cons_option (if b then Some (changed (alone_rule no_gates variant) x) else None)
        (filter_map (by_rule (alone_rule no_gates variant)) entries))
    by true e h = (never_ends x.label e, h)
    by false e h = h

pub parallel_none : (lefts rights : List Entry) → NoneEnds (parallel_menu no_gates lefts rights [])
parallel_none lefts rights =
    Every-append (λ (entry : Entry). is_exit entry.label ≡ false) (of_left lefts) (of_right rights ++ []) (alone_none left_side lefts)
    (Every-append (λ (entry : Entry). is_exit entry.label ≡ false) (of_right rights) [] (alone_none right_side rights) tt)

pub relabel_none : (pairs : Relabelling) (entries : List Entry) → NoneEnds entries → NoneEnds (relabel_menu pairs entries)
relabel_none pairs [] h = tt
relabel_none pairs (x ∷ entries) h = (under_ends pairs x.label h.0, relabel_none pairs entries h.1)

-- ---- Sides of which one does not end have no joins.
dropped : {X Y : Type 0} (f : X → Option Y) (xs : List X) → Every (λ x. f x ≡ None) xs → filter_map f xs ≡ []
dropped f [] h = refl
dropped f (x ∷ xs) h = ap (λ o. cons_option o (filter_map f xs)) h.0 ∙ dropped f xs h.1

module _ (data_ : Data) where
  -- the join of drafts with these labels
  abbrev join_of : Label → Label → Draft → Option Draft
  join_of l r both = if meets_with no_gates l then (if move_together data_.signature all_gates l r then Some both else None) else None

  left_stays : (l r : Label) (both : Draft) → is_exit l ≡ false → join_of l r both ≡ None
  left_stays inner_event r both e = refl
  left_stays (gate_event g values) r both e = refl
  left_stays (exit_event values) r both e = absurd (cc e)

  right_stays : (l r : Label) (both : Draft) → is_exit r ≡ false → join_of l r both ≡ None
  right_stays inner_event r both e = refl
  right_stays (gate_event g values) r both e = refl
  right_stays (exit_event values) inner_event both e = refl
  right_stays (exit_event values) (gate_event g others) both e = refl
  right_stays (exit_event values) (exit_event others) both e = absurd (cc e)

  abbrev both_of : Entry → Entry → Draft
  both_of left right = both_drafts (as_draft left) (draft_with (raised (length left.leaves)) (as_draft right))

  unjoined : (left : Entry) (rights : List Entry) → is_exit left.label ≡ false
      → Every (λ right. joined_at data_ no_gates (as_draft left) (as_draft right) ≡ None) rights
  unjoined left [] e = tt
  unjoined left (right ∷ rights) e = (left_stays left.label right.label (both_of left right) e, unjoined left rights e)

  unjoined_any : (left : Entry) (rights : List Entry) → NoneEnds rights
      → Every (λ right. joined_at data_ no_gates (as_draft left) (as_draft right) ≡ None) rights
  unjoined_any left [] h = tt
  unjoined_any left (right ∷ rights) h = (right_stays left.label right.label (both_of left right) h.0, unjoined_any left rights h.1)

  none_of_left : (lefts rights : List Entry) → NoneEnds lefts → joins data_ no_gates lefts rights ≡ []
  none_of_left [] rights h = refl
  none_of_left (left ∷ lefts) rights h =
      ap (λ (xs : List Draft). xs ++ joins data_ no_gates lefts rights)
      (dropped (λ (right : Entry). joined_at data_ no_gates (as_draft left) (as_draft right)) rights (unjoined left rights h.0))
      ∙ none_of_left lefts rights h.1

  none_of_right : (lefts rights : List Entry) → NoneEnds rights → joins data_ no_gates lefts rights ≡ []
  none_of_right [] rights h = refl
  none_of_right (left ∷ lefts) rights h =
      ap (λ (xs : List Draft). xs ++ joins data_ no_gates lefts rights)
      (dropped (λ (right : Entry). joined_at data_ no_gates (as_draft left) (as_draft right)) rights (unjoined_any left rights h))
      ∙ none_of_right lefts rights h

  pub solved_of_left : (canon : Term → Term) (lefts rights : List Entry) → NoneEnds lefts
      → AllSolveTo canon (joins data_ no_gates lefts rights) []
  solved_of_left canon lefts rights h = subst (λ (ds : List Draft). AllSolveTo canon ds []) (sym (none_of_left lefts rights h)) none_left

  pub solved_of_right : (canon : Term → Term) (lefts rights : List Entry) → NoneEnds rights
      → AllSolveTo canon (joins data_ no_gates lefts rights) []
  solved_of_right canon lefts rights h = subst (λ (ds : List Draft). AllSolveTo canon ds []) (sym (none_of_right lefts rights h)) none_left

-- ---- Entries go up one by one.
abbrev pub Splits : (List Entry → List Entry) → Type 0
Splits way = (xs ys : List Entry) → way (xs ++ ys) ≡ way xs ++ way ys

pub by_rule_splits : (rule : PartRule) (way : List Entry → List Entry) → Splits way → Splits (λ entries. way (all_by_rule rule entries))
by_rule_splits rule way h xs ys = ap way (filter_map-append (by_rule rule) xs ys) ∙ h (all_by_rule rule xs) (all_by_rule rule ys)

pub parallel_splits : (way : List Entry → List Entry) → Splits way → (lefts rights : List Entry)
    → way (parallel_menu no_gates lefts rights []) ≡ way (of_left lefts) ++ way (of_right rights)
parallel_splits way h lefts rights =
    ap (λ (xs : List Entry). way (of_left lefts ++ xs)) (append-nil (of_right rights)) ∙ h (of_left lefts) (of_right rights)

-- each entry is taken as it is
pub all_kept : (entries : List Entry) → filter_map (λ (entry : Entry). Some entry) entries ≡ entries
all_kept [] = refl
all_kept (entry ∷ entries) = ap (λ (es : List Entry). entry ∷ es) (all_kept entries)
