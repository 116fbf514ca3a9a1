-- The drafts of a behaviour of each form are made of those of its parts.
use Rattle.std.proofs.Common.{◌≡◌, ℕ, zero, suc, ◌+◌, List, [], ◌∷◌, ◌++◌, map, zip, filter_map, slice_get, Option, None, Some, option_and_then, refl, ap, sym, ◌∙◌, append_assoc}
use Rattle.std.proofs.lemmas.List.{map-append}
use Rattle.lotos_base.specs.Term.{Term, variable}
use Rattle.behaviour_semantics.specs.Behaviour.{Behaviour, stop, exit_with, action, inner_action, guard, choice, parallel, hide, enable, disable, let_be, choose_value, choose_gate, par_gate, call, relabel, SynchronisationSet, Process, let_variables, let_terms}
use Rattle.behaviour_semantics.specs.Draft.{Draft, leaves_from}
use Rattle.behaviour_semantics.specs.Listing.{ShapedMove, Parts, single, each_below, one_behind, both_below, at_gates_below, called_below, moves_by_form, listed_moves}
use Rattle.behaviour_semantics.specs.Move.{Setting, Move, alone, relabelling, opened, act_move, quit_move}
use Rattle.behaviour_semantics.specs.Replacement.{with_values, binding_of}
use Rattle.behaviour_semantics.specs.Rule.{copies}
use Rattle.behaviour_semantics.specs.Shape.{Shape, act, quit, left_side, right_side, at_gate, let_bound, called, relabelled}
use Rattle.behaviour_semantics.proofs.OptionLemmas.{some_value}
use Rattle.behaviour_semantics.proofs.OpenedLemmas.{opened-copies}
use Rattle.draft_parts.specs.HigherLists.{raised_move}
use Rattle.draft_parts.specs.DraftRules.{open_draft, alone_draft}
use Rattle.draft_parts.specs.Lists.{both_lists}
use Rattle.draft_parts.specs.ListLaws.{AreDraftsOf}
use Rattle.draft_parts.proofs.RuleListLemmas.{rule_lists}
use Rattle.draft_parts.proofs.BothListLemmas.{both_are_drafts}
use Rattle.draft_parts.specs.HasDrafts.{HasDrafts, all_relabelled, gate_drafts, beside_drafts}
use Rattle.draft_parts.specs.FormLaws.{FormsHaveTheirDrafts}

-- ---- Lists put together.
no_moves : (base next : ℕ) → AreDraftsOf base next (Some []) []
no_moves base next moves e = ap (map (open_draft base next)) (some_value e)

one_move : (base next : ℕ) (shape : Shape) (o : Option Move) (draft : Draft)
    → ((m : Move) → o ≡ Some m → draft ≡ open_draft base next (record { shape = shape; move = m })) → (there : Move) → o ≡ Some there
    → AreDraftsOf base next (Some (single shape o)) (draft ∷ [])
one_move base next shape None draft h there is moves e = absurd (cc is)
one_move base next shape (Some m) draft h there is moves e =
    ap (λ (d : Draft). d ∷ []) (h m refl) ∙ ap (map (open_draft base next)) (some_value e)

behind : (base next : ℕ) (o p : Option (List ShapedMove)) (first second : List Draft) → AreDraftsOf base next o first
    → AreDraftsOf base next p second → AreDraftsOf base next (one_behind o p) (first ++ second)
behind base next None p first second h k moves e = absurd (cc e)
behind base next (Some xs) None first second h k moves e = absurd (cc e)
behind base next (Some xs) (Some ys) first second h k moves e =
    ap (λ (ds : List Draft). ds ++ second) (h xs refl)
    ∙ (ap (λ (ds : List Draft). map (open_draft base next) xs ++ ds) (k ys refl)
    ∙ (sym (map-append (open_draft base next) xs ys) ∙ ap (map (open_draft base next)) (some_value e)))

nothing_behind : (o q : Option (List ShapedMove)) (moves : List ShapedMove) → one_behind o (one_behind None q) ≡ Some moves → ⊥
nothing_behind None q moves e = absurd (cc e)
nothing_behind (Some xs) q moves e = absurd (cc e)

-- ---- A parallel, from the lists of its sides.
module _ (setting : Setting) (base next : ℕ) (meet : SynchronisationSet) (b c : Behaviour) (rights_at : ℕ → Option (List ShapedMove))
    (lefts rights : List Draft) where
  abbrev whole : Option (List ShapedMove) → Option (List ShapedMove) → Option (List ShapedMove)
  whole o p =
      one_behind (each_below left_side (alone meet (λ (target : Behaviour). parallel meet target c)) o)
      (one_behind (each_below right_side (alone meet (λ (target : Behaviour). parallel meet b target)) p)
      (option_and_then (both_below setting.signature meet next rights_at) o))

  sides_beside : (o p : Option (List ShapedMove)) → AreDraftsOf base next o lefts → AreDraftsOf base next p rights
      → ((shift : ℕ) (moves others : List ShapedMove) → p ≡ Some moves → rights_at (next + shift) ≡ Some others
      → others ≡ map (raised_move (base + next) shift) moves)
      → AreDraftsOf base next (whole o p) (beside_drafts setting.signature meet (base + next) lefts rights)
  sides_beside None p h k raises moves e = absurd (cc e)
  sides_beside (Some xs) None h k raises moves e =
      absurd (nothing_behind (each_below left_side (alone meet (λ (target : Behaviour). parallel meet target c)) (Some xs))
      (both_below setting.signature meet next rights_at xs) moves e)
  sides_beside (Some xs) (Some ys) h k raises moves e =
      append_assoc (filter_map (alone_draft meet left_side) lefts) (filter_map (alone_draft meet right_side) rights)
      (both_lists setting.signature meet (base + next) lefts rights)
      ∙ behind base next (each_below left_side (alone meet (λ (target : Behaviour). parallel meet target c)) (Some xs))
      (one_behind (each_below right_side (alone meet (λ (target : Behaviour). parallel meet b target)) (Some ys))
      (both_below setting.signature meet next rights_at xs))
      (filter_map (alone_draft meet left_side) lefts)
      (filter_map (alone_draft meet right_side) rights ++ both_lists setting.signature meet (base + next) lefts rights)
      (rule_lists.sides base next meet left_side (λ (target : Behaviour). parallel meet target c) (Some xs) lefts h)
      (behind base next (each_below right_side (alone meet (λ (target : Behaviour). parallel meet b target)) (Some ys))
      (both_below setting.signature meet next rights_at xs) (filter_map (alone_draft meet right_side) rights)
      (both_lists setting.signature meet (base + next) lefts rights)
      (rule_lists.sides base next meet right_side (λ (target : Behaviour). parallel meet b target) (Some ys) rights k) both)
      moves e
    where
      both : AreDraftsOf base next (both_below setting.signature meet next rights_at xs)
          (both_lists setting.signature meet (base + next) lefts rights)
      both found is =
          ap (λ (ds : List Draft). both_lists setting.signature meet (base + next) ds rights) (h xs refl)
          ∙ (ap (λ (ds : List Draft). both_lists setting.signature meet (base + next) (map (open_draft base next) xs) ds) (k ys refl)
          ∙ both_are_drafts base next setting.signature meet rights_at xs ys (λ shift others at. raises shift ys others refl at) found is)

-- ---- The forms, one level down.
module _ (setting : Setting) (base : ℕ) where
  by_form : (next : ℕ) (b : Behaviour) (drafts : List Draft)
      → ((depth : ℕ) → AreDraftsOf base next (moves_by_form setting (leaves_from base) next
      (listed_moves setting (leaves_from base) depth) (opened b)) drafts)
      → HasDrafts setting base next b drafts
  by_form next b drafts h zero moves e = absurd (cc e)
  by_form next b drafts h (suc depth) moves e = h depth moves e

  gates_below : (next g k : ℕ) (gates : List ℕ) (o : Option (List ShapedMove)) (drafts : List Draft) → AreDraftsOf base next o drafts
      → AreDraftsOf base next (at_gates_below g k gates o) (gate_drafts g k gates drafts)
  gates_below next g k [] o drafts h = no_moves base next
  gates_below next g k (a ∷ gates) o drafts h =
      behind base next (each_below (at_gate k) (λ (m : Move). Some (relabelling ((g, a) ∷ []) m)) o) (at_gates_below g (suc k) gates o)
      (all_relabelled (at_gate k) ((g, a) ∷ []) drafts) (gate_drafts g (suc k) gates drafts)
      (rule_lists.relabels base next (at_gate k) ((g, a) ∷ []) o drafts h) (gates_below next g (suc k) gates o drafts h)

  body_below : (next : ℕ) (parts : Parts) (gates : List ℕ) (arguments : List Term) (o : Option Process) (process : Process)
      (drafts : List Draft) → o ≡ Some process
      → AreDraftsOf base next (parts next (with_values (binding_of process.parameters (map setting.represent arguments)) process.body))
      drafts
      → AreDraftsOf base next (called_below setting next parts gates arguments o) (all_relabelled called (zip process.gates gates) drafts)
  body_below next parts gates arguments None process drafts is h = absurd (cc is)
  body_below next parts gates arguments (Some found) process drafts is h =
      at found (some_value is)
    where
      at : (found : Process) → found ≡ process
          → AreDraftsOf base next (called_below setting next parts gates arguments (Some found))
          (all_relabelled called (zip process.gates gates) drafts)
      at found same moves e =
          rule_lists.relabels base next called (zip process.gates gates)
          (parts next (with_values (binding_of process.parameters (map setting.represent arguments)) process.body)) drafts h moves
          (ap (λ (p : Process). called_below setting next parts gates arguments (Some p)) (sym same) ∙ e)

  no_body_below : (next : ℕ) (parts : Parts) (gates : List ℕ) (arguments : List Term) (o : Option Process) → o ≡ None
      → AreDraftsOf base next (called_below setting next parts gates arguments o) []
  no_body_below next parts gates arguments None is = no_moves base next
  no_body_below next parts gates arguments (Some found) is = absurd (cc is)

  -- a gate `par` is listed as its copies are
  as_copies : (next g : ℕ) (gates : List ℕ) (meet : SynchronisationSet) (b : Behaviour) (drafts : List Draft)
      → HasDrafts setting base next (copies g gates meet b) drafts → HasDrafts setting base next (par_gate g gates meet b) drafts
  as_copies next g gates meet b drafts h =
      by_form next (par_gate g gates meet b) drafts (λ depth moves e.
      h (suc depth) moves (ap (moves_by_form setting (leaves_from base) next (listed_moves setting (leaves_from base) depth))
      (opened-copies g gates meet b) ∙ e))

pub forms : FormsHaveTheirDrafts
forms = record {
  of_stop = λ setting base next. by_form setting base next stop [] (λ depth. no_moves base next);
  of_exit = λ setting base next results draft h. by_form setting base next (exit_with results) (draft ∷ [])
      (λ depth. one_move base next quit (quit_move setting (leaves_from base) next (exit_with results)) draft h _ refl);
  of_action = λ setting base next g offers test b draft h. by_form setting base next (action g offers test b) (draft ∷ [])
      (λ depth. one_move base next act (act_move setting (leaves_from base) next (action g offers test b)) draft h _ refl);
  of_inner = λ setting base next b. by_form setting base next (inner_action b) _
      (λ depth moves e. ap (map (open_draft base next)) (some_value e));
  of_guard = λ setting base next test b drafts h. by_form setting base next (guard test b) _
      (λ depth. rule_lists.guards base next test (listed_moves setting (leaves_from base) depth next b) drafts (h depth));
  of_choice = λ setting base next b c lefts rights h k. by_form setting base next (choice b c) _
      (λ depth. behind base next (each_below left_side (λ (m : Move). Some m) (listed_moves setting (leaves_from base) depth next b))
      (each_below right_side (λ (m : Move). Some m) (listed_moves setting (leaves_from base) depth next c)) _ _
      (rule_lists.kept base next left_side (listed_moves setting (leaves_from base) depth next b) lefts (h depth))
      (rule_lists.kept base next right_side (listed_moves setting (leaves_from base) depth next c) rights (k depth)));
  of_disable = λ setting base next b c lefts rights h k. by_form setting base next (disable b c) _
      (λ depth. behind base next _
      (each_below right_side (λ (m : Move). Some m) (listed_moves setting (leaves_from base) depth next c)) _ _
      (rule_lists.disabled base next left_side c (listed_moves setting (leaves_from base) depth next b) lefts (h depth))
      (rule_lists.kept base next right_side (listed_moves setting (leaves_from base) depth next c) rights (k depth)));
  of_parallel = λ setting base next meet b c lefts rights h k raises. by_form setting base next (parallel meet b c) _
      (λ depth. sides_beside setting base next meet b c (λ (n : ℕ). listed_moves setting (leaves_from base) depth n c) lefts rights
      (listed_moves setting (leaves_from base) depth next b) (listed_moves setting (leaves_from base) depth next c) (h depth) (k depth)
      (λ shift moves others. raises depth shift moves others));
  of_hide = λ setting base next gates b drafts h. by_form setting base next (hide gates b) _
      (λ depth. rule_lists.hides base next gates (listed_moves setting (leaves_from base) depth next b) drafts (h depth));
  of_enable = λ setting base next b variables c drafts h. by_form setting base next (enable b variables c) _
      (λ depth. rule_lists.enables base next setting.signature variables c (listed_moves setting (leaves_from base) depth next b) drafts
      (h depth));
  of_let = λ setting base next bindings b drafts h. by_form setting base next (let_be bindings b) _
      (λ depth. rule_lists.kept base next let_bound (listed_moves setting (leaves_from base) depth next
      (with_values (binding_of (let_variables bindings) (map setting.represent (let_terms bindings))) b)) drafts (h depth));
  of_value = λ setting base next x b drafts h. by_form setting base next (choose_value x b) _
      (λ depth. rule_lists.values base next x.sort (listed_moves setting (leaves_from base) depth (suc next)
      (with_values (binding_of (x ∷ []) (setting.represent (variable (base + next) x.sort) ∷ [])) b)) drafts (h depth));
  of_gates = λ setting base next g gates b drafts h. by_form setting base next (choose_gate g gates b) _
      (λ depth. gates_below setting base next g 0 gates (listed_moves setting (leaves_from base) depth next b) drafts (h depth));
  of_par = λ setting base next g gates meet b drafts h. as_copies setting base next g gates meet b drafts h;
  of_call = λ setting base next number gates arguments process drafts is h. by_form setting base next (call number gates arguments) _
      (λ depth. body_below setting base next (listed_moves setting (leaves_from base) depth) gates arguments
      (slice_get setting.processes number) process drafts is (h depth));
  of_no_call = λ setting base next number gates arguments is. by_form setting base next (call number gates arguments) []
      (λ depth. no_body_below setting base next (listed_moves setting (leaves_from base) depth) gates arguments
      (slice_get setting.processes number) is);
  of_relabel = λ setting base next pairs b drafts h. by_form setting base next (relabel pairs b) _
      (λ depth. rule_lists.relabels base next relabelled pairs (listed_moves setting (leaves_from base) depth next b) drafts (h depth));
}
