-- Exact menus of the parts make the exact menu of the whole, form by form.
use Rattle.std.proofs.Common.{◌≡◌, ◌⊎◌, inl, inr, ◌≤◌, zero-add, List, [], ◌++◌, zip, slice_get, Some, ap, sym, ◌∙◌, subst, arith}
use Rattle.lotos_base.specs.Term.{Term}
use Rattle.lotos_base.specs.Equation.{Data}
use Rattle.behaviour_semantics.specs.Behaviour.{Behaviour, stop, guard, choice, parallel, hide, enable, disable, let_be, choose_gate, par_gate, call, relabel, SynchronisationSet, Specification}
use Rattle.behaviour_semantics.specs.Rule.{copies}
use Rattle.behaviour_semantics.specs.Shape.{Shape, guarded, left_side, right_side, enabled, passed, let_bound, called, relabelled, Before, left_then_right, left_then_both, right_then_both}
use Rattle.behaviour_semantics.specs.Draft.{Draft, draft_of}
use Rattle.behaviour_semantics.specs.Solving.{Entry}
use Rattle.behaviour_semantics.specs.Menu.{Exact}
use Rattle.behaviour_semantics.specs.Listing.{AllSolveTo}
use Rattle.behaviour_semantics.specs.WellFormed.{AreOver}
use Rattle.shared_entries.specs.PartRule.{PartRule, all_by_rule, passing_on, alone_rule, under_rule, hide_rule}
use Rattle.shared_entries.specs.PartMenus.{sides_menu, enable_menu, gates_menu, joins, parallel_menu, called_body, let_body}
use Rattle.shared_entries.specs.PartMenuLaws.{MakeTheMenu, PartsMakeTheMenu}
use Rattle.shared_entries.proofs.RuleDrafts.{MovesBy}
use Rattle.shared_entries.proofs.FormDrafts.{choice_left, choice_right, disable_left, disable_right, parallel_left, parallel_right, hide_part, relabel_part, let_part, call_part, copies_drafts}
use Rattle.shared_entries.proofs.FormShapes.{IsOfBoth, IsAtGate, in_stop, in_guard, in_choice, in_disable, in_parallel, in_hide, in_enable, in_let, in_gates, in_call, in_relabel}
use Rattle.shared_entries.proofs.SolvedMenus.{IsSolvedForm, IsMenu, exact_of, menu_of}
use Rattle.shared_entries.proofs.RuleMenus.{Carries, carries}
use Rattle.shared_entries.proofs.Shares.{IsBelow, no_share, rule_share, both_shares, whole_share}
use Rattle.shared_entries.proofs.GuardMenus.{guard_carries, guard_ends}
use Rattle.shared_entries.proofs.EnableMenus.{enable_share}
use Rattle.shared_entries.proofs.GateMenus.{IsFrom, gates_share}
use Rattle.shared_entries.proofs.JoinedMenus.{both_share}

left_before_right : (s t : Shape) → IsBelow left_side s → IsBelow right_side t → Before s t
left_before_right s t (u, e) (v, f) =
    subst (λ (x : Shape). Before x t) (sym e) (subst (λ (y : Shape). Before (left_side u) y) (sym f) left_then_right)

right_before_both : (s t : Shape) → IsBelow right_side s → IsOfBoth t → Before s t
right_before_both s t (u, e) (v, w, f) =
    subst (λ (x : Shape). Before x t) (sym e) (subst (λ (y : Shape). Before (right_side u) y) (sym f) right_then_both)

left_before_all : (s t : Shape) → IsBelow left_side s → IsBelow right_side t ⊎ IsOfBoth t → Before s t
left_before_all s t below (inl right) = left_before_right s t below right
left_before_all s t (u, e) (inr (v, w, f)) =
    subst (λ (x : Shape). Before x t) (sym e) (subst (λ (y : Shape). Before (left_side u) y) (sym f) left_then_both)

from_first : (s : Shape) → IsAtGate s → IsFrom 0 s
from_first s (k, t, e) = (k, t, (let le : 0 ≤ k = omega arith in le), e)

module _ (data_ : Data) (canon : Term → Term) (specification : Specification) where
  -- A form with one part and one rule.
  one_part : (rule : PartRule) (whole part : Behaviour) (entries : List Entry) → AreOver data_ canon specification whole
      → Carries data_ canon specification rule whole part
      → ((s : Shape) (draft : Draft) → draft_of data_ canon specification.processes s whole ≡ Some draft → IsBelow rule.variant s)
      → Exact data_ canon specification.processes part entries
      → Exact data_ canon specification.processes whole (all_by_rule rule entries)
  one_part rule whole part entries over rules fits exact =
      whole_share data_ canon specification whole (IsBelow rule.variant) (all_by_rule rule entries) over
      (rule_share data_ canon specification rule whole part rules entries (menu_of data_ canon specification part entries exact)) fits

  -- A form with two sides, each of which moves by itself.
  two_sides : (whole b c : Behaviour) (lefts rights : List Entry) → AreOver data_ canon specification whole
      → MovesBy data_ canon specification (passing_on left_side) whole b
      → MovesBy data_ canon specification (passing_on right_side) whole c
      → ((s : Shape) (draft : Draft) → draft_of data_ canon specification.processes s whole ≡ Some draft
      → IsBelow left_side s ⊎ IsBelow right_side s)
      → Exact data_ canon specification.processes b lefts → Exact data_ canon specification.processes c rights
      → Exact data_ canon specification.processes whole (sides_menu lefts rights)
  two_sides whole b c lefts rights over left right fits exact other =
      whole_share data_ canon specification whole (λ (s : Shape). IsBelow left_side s ⊎ IsBelow right_side s)
      (sides_menu lefts rights) over
      (both_shares data_ canon specification whole (IsBelow left_side) (IsBelow right_side)
      (all_by_rule (passing_on left_side) lefts) (all_by_rule (passing_on right_side) rights)
      (rule_share data_ canon specification (passing_on left_side) whole b
      (carries data_ canon specification (passing_on left_side) whole b left) lefts (menu_of data_ canon specification b lefts exact))
      (rule_share data_ canon specification (passing_on right_side) whole c
      (carries data_ canon specification (passing_on right_side) whole c right) rights (menu_of data_ canon specification c rights other))
      left_before_right)
      fits

  parallel_exact : (meet : SynchronisationSet) (b c : Behaviour) (lefts rights boths : List Entry)
      → AreOver data_ canon specification (parallel meet b c)
      → Exact data_ canon specification.processes b lefts → Exact data_ canon specification.processes c rights
      → AllSolveTo canon (joins data_ meet lefts rights) boths
      → Exact data_ canon specification.processes (parallel meet b c) (parallel_menu meet lefts rights boths)
  parallel_exact meet b c lefts rights boths over exact other solve =
      let left_menu : IsMenu data_ canon specification b lefts = menu_of data_ canon specification b lefts exact in
      let right_menu : IsMenu data_ canon specification c rights = menu_of data_ canon specification c rights other in
      whole_share data_ canon specification (parallel meet b c)
      (λ (s : Shape). IsBelow left_side s ⊎ (IsBelow right_side s ⊎ IsOfBoth s)) (parallel_menu meet lefts rights boths) over
      (both_shares data_ canon specification (parallel meet b c) (IsBelow left_side) (λ (s : Shape). IsBelow right_side s ⊎ IsOfBoth s)
      (all_by_rule (alone_rule meet left_side) lefts) (all_by_rule (alone_rule meet right_side) rights ++ boths)
      (rule_share data_ canon specification (alone_rule meet left_side) (parallel meet b c) b
      (carries data_ canon specification (alone_rule meet left_side) (parallel meet b c) b
      (parallel_left data_ canon specification meet b c over)) lefts left_menu)
      (both_shares data_ canon specification (parallel meet b c) (IsBelow right_side) IsOfBoth
      (all_by_rule (alone_rule meet right_side) rights) boths
      (rule_share data_ canon specification (alone_rule meet right_side) (parallel meet b c) c
      (carries data_ canon specification (alone_rule meet right_side) (parallel meet b c) c
      (parallel_right data_ canon specification meet b c over)) rights right_menu)
      (both_share data_ canon specification meet b c over lefts rights boths left_menu right_menu solve)
      right_before_both)
      left_before_all)
      (in_parallel data_ canon specification.processes meet b c)

  -- Behaviours with the same drafts have the same menus.
  same_menu : (whole part : Behaviour) (entries : List Entry) → AreOver data_ canon specification whole
      → ((s : Shape) → draft_of data_ canon specification.processes s whole ≡ draft_of data_ canon specification.processes s part)
      → Exact data_ canon specification.processes part entries → Exact data_ canon specification.processes whole entries
  same_menu whole part entries over same exact =
      let menu : IsMenu data_ canon specification part entries = menu_of data_ canon specification part entries exact in
      exact_of data_ canon specification whole entries over (record {
        rising = menu.rising;
        sound = λ e a.
            let f : IsSolvedForm data_ canon specification part e.shape e = menu.sound e a in
            record { draft = f.draft; drafted = same e.shape ∙ f.drafted; solves = f.solves };
        complete = λ s e f.
            menu.complete s e (record { draft = f.draft; drafted = sym (same s) ∙ f.drafted; solves = f.solves });
      })

  pub make_the_menu : MakeTheMenu data_ canon specification
  make_the_menu = record {
    of_stop = λ over.
        whole_share data_ canon specification stop (λ s. ⊥) [] over
        (no_share data_ canon specification stop (λ s. ⊥) (λ s e never f. never)) (in_stop data_ canon specification.processes);
    of_guard_that_holds = λ test b entries over holds.
        one_part (passing_on guarded) (guard test b) b entries over (guard_carries data_ canon specification test b over holds)
        (in_guard data_ canon specification.processes test b);
    of_guard_that_fails = λ test b over fails.
        whole_share data_ canon specification (guard test b) (IsBelow guarded) [] over
        (no_share data_ canon specification (guard test b) (IsBelow guarded) (λ s e below f.
        guard_ends data_ canon specification test b over fails below.0 e
        (subst (λ (t : Shape). IsSolvedForm data_ canon specification (guard test b) t e) below.1 f)))
        (in_guard data_ canon specification.processes test b);
    of_choice = λ b c lefts rights over.
        two_sides (choice b c) b c lefts rights over (choice_left data_ canon specification b c over)
        (choice_right data_ canon specification b c over) (in_choice data_ canon specification.processes b c);
    of_parallel = parallel_exact;
    of_hide = λ gates b entries over.
        one_part (hide_rule gates) (hide gates b) b entries over
        (carries data_ canon specification (hide_rule gates) (hide gates b) b (hide_part data_ canon specification gates b over))
        (in_hide data_ canon specification.processes gates b);
    of_enable = λ b variables c entries over exact.
        whole_share data_ canon specification (enable b variables c) (λ (s : Shape). IsBelow enabled s ⊎ IsBelow passed s)
        (enable_menu data_.signature variables entries) over
        (enable_share data_ canon specification b variables c over entries (menu_of data_ canon specification b entries exact))
        (in_enable data_ canon specification.processes b variables c);
    of_disable = λ b c lefts rights over.
        two_sides (disable b c) b c lefts rights over (disable_left data_ canon specification b c over)
        (disable_right data_ canon specification b c over) (in_disable data_ canon specification.processes b c);
    of_let = λ bindings b entries over.
        one_part (passing_on let_bound) (let_be bindings b) (let_body canon bindings b) entries over
        (carries data_ canon specification (passing_on let_bound) (let_be bindings b) (let_body canon bindings b)
        (let_part data_ canon specification bindings b over))
        (in_let data_ canon specification.processes bindings b);
    of_gate_choice = λ g gates b entries over exact.
        whole_share data_ canon specification (choose_gate g gates b) (IsFrom 0) (gates_menu g 0 gates entries) over
        (gates_share data_ canon specification g gates b over entries (menu_of data_ canon specification b entries exact)
        0 gates (λ i. ap (slice_get gates) (zero-add i)))
        (λ s draft e. from_first s (in_gates data_ canon specification.processes g gates b s draft e));
    of_gate_par = λ g gates meet b entries over.
        same_menu (par_gate g gates meet b) (copies g gates meet b) entries over
        (copies_drafts data_ canon specification g gates meet b over);
    of_call = λ number gates arguments process entries over at.
        one_part (under_rule called (zip process.gates gates)) (call number gates arguments)
        (called_body canon process arguments) entries over
        (carries data_ canon specification (under_rule called (zip process.gates gates)) (call number gates arguments)
        (called_body canon process arguments) (call_part data_ canon specification number gates arguments process at over))
        (in_call data_ canon specification.processes number gates arguments);
    of_relabelling = λ pairs b entries over.
        one_part (under_rule relabelled pairs) (relabel pairs b) b entries over
        (carries data_ canon specification (under_rule relabelled pairs) (relabel pairs b) b
        (relabel_part data_ canon specification pairs b over))
        (in_relabel data_ canon specification.processes pairs b);
  }

pub parts_make_the_menu : PartsMakeTheMenu
parts_make_the_menu = make_the_menu
