-- Kept trees serve.
use Rattle.std.proofs.Common.{◌≡◌, ℕ, List, zip, slice_get, Some, ap, sym, ◌∙◌, subst}
use Rattle.std.proofs.lemmas.Option.{same_Some}
use Rattle.lotos_base.specs.Term.{Term}
use Rattle.lotos_base.specs.Equation.{Data}
use Rattle.behaviour_semantics.specs.Behaviour.{Behaviour, parallel, hide, enable, disable, let_be, par_gate, call, relabel, Process, Specification}
use Rattle.behaviour_semantics.specs.DraftOrder.{as_draft}
use Rattle.behaviour_semantics.specs.Solving.{Entry}
use Rattle.behaviour_semantics.specs.Menu.{Exact}
use Rattle.behaviour_semantics.specs.WellFormed.{AreOver}
use Rattle.behaviour_semantics.proofs.SolvingAnyDraft.{solving_any}
use Rattle.behaviour_semantics.proofs.SolvedSides.{solved_sides}
use Rattle.shared_entries.specs.PartMenus.{call_menu, called_body}
use Rattle.shared_entries.specs.PartMenuLaws.{MakeTheMenu}
use Rattle.shared_entries.specs.KeptTree.{Kept, kept_component, kept_parallel, kept_hide, kept_enable, kept_disable, kept_let, kept_gate_par, kept_call, kept_relabel, kept_for, kept_menu, IsForBody, AllExact, PartsExact, IsMadeOfParts}
use Rattle.shared_entries.specs.KeptTreeLaws.{KeepMenus, JoinsAreInOrder}
use Rattle.shared_entries.proofs.FormDrafts.{over_part}
use Rattle.shared_entries.proofs.SolvedMenus.{IsSolvedForm, form_order, IsMenu, menu_of}
use Rattle.shared_entries.proofs.JoinedMenus.{IsJoin, from_joins, parts_of}
use Rattle.shared_entries.proofs.PartMenuLemmas.{make_the_menu}

module _ (data_ : Data) (canon : Term → Term) (specification : Specification) where
  abbrev Exactly : Behaviour → List Entry → Type 0
  Exactly b entries = Exact data_ canon specification.processes b entries

  root : (kept : Kept) → AllExact data_ canon specification.processes kept
      → Exact data_ canon specification.processes (kept_for kept) (kept_menu kept)
  root (kept_component b entries) all = all
  root (kept_parallel meet left right entries) all = all.0
  root (kept_hide gates part entries) all = all.0
  root (kept_enable part variables c entries) all = all.0
  root (kept_disable left right entries) all = all.0
  root (kept_let bindings b part entries) all = all.0
  root (kept_gate_par g gates meet b part entries) all = all.0
  root (kept_call number gates arguments part entries) all = all.0
  root (kept_relabel pairs part entries) all = all.0

  whole : (kept : Kept) → Exact data_ canon specification.processes (kept_for kept) (kept_menu kept)
      → PartsExact data_ canon specification.processes kept → AllExact data_ canon specification.processes kept
  whole (kept_component b entries) exact parts = exact
  whole (kept_parallel meet left right entries) exact parts = (exact, parts)
  whole (kept_hide gates part entries) exact parts = (exact, parts)
  whole (kept_enable part variables c entries) exact parts = (exact, parts)
  whole (kept_disable left right entries) exact parts = (exact, parts)
  whole (kept_let bindings b part entries) exact parts = (exact, parts)
  whole (kept_gate_par g gates meet b part entries) exact parts = (exact, parts)
  whole (kept_call number gates arguments part entries) exact parts = (exact, parts)
  whole (kept_relabel pairs part entries) exact parts = (exact, parts)

  makes : MakeTheMenu data_ canon specification
  makes = make_the_menu data_ canon specification

  call_exact : (number : ℕ) (gates : List ℕ) (arguments : List Term) (part : Kept) (entries : List Entry)
      → AreOver data_ canon specification (call number gates arguments)
      → IsForBody canon specification.processes number arguments part
      → Exact data_ canon specification.processes (kept_for part) (kept_menu part)
      → (process : Process) → slice_get specification.processes number ≡ Some process
      → entries ≡ call_menu (zip process.gates gates) (kept_menu part)
      → Exact data_ canon specification.processes (call number gates arguments) entries
  call_exact number gates arguments part entries over for_body exact process at same =
      subst (Exactly (call number gates arguments)) (sym same)
      (makes.of_call number gates arguments process (kept_menu part) over at
      (subst (λ (b : Behaviour). Exactly b (kept_menu part))
      (for_body.body ∙ ap (λ (p : Process). called_body canon p arguments) (same_Some for_body.process process (sym for_body.exists ∙ at)))
      exact))

  made_exact : (kept : Kept) → AreOver data_ canon specification (kept_for kept) → PartsExact data_ canon specification.processes kept
      → IsMadeOfParts data_ canon specification.processes kept → Exact data_ canon specification.processes (kept_for kept) (kept_menu kept)
  made_exact (kept_component b entries) over parts made = made
  made_exact (kept_parallel meet left right entries) over parts made =
      subst (Exactly (parallel meet (kept_for left) (kept_for right))) (sym made.2)
      (makes.of_parallel meet (kept_for left) (kept_for right) (kept_menu left) (kept_menu right) made.0 over
      (root left parts.0) (root right parts.1) made.1)
  made_exact (kept_hide gates part entries) over parts made =
      subst (Exactly (hide gates (kept_for part))) (sym made) (makes.of_hide gates (kept_for part) (kept_menu part) over (root part parts))
  made_exact (kept_enable part variables c entries) over parts made =
      subst (Exactly (enable (kept_for part) variables c)) (sym made)
      (makes.of_enable (kept_for part) variables c (kept_menu part) over (root part parts))
  made_exact (kept_disable left right entries) over parts made =
      subst (Exactly (disable (kept_for left) (kept_for right))) (sym made)
      (makes.of_disable (kept_for left) (kept_for right) (kept_menu left) (kept_menu right) over (root left parts.0) (root right parts.1))
  made_exact (kept_let bindings b part entries) over parts made =
      subst (Exactly (let_be bindings b)) (sym made)
      (makes.of_let bindings b (kept_menu part) over
      (subst (λ (body : Behaviour). Exactly body (kept_menu part)) parts.0 (root part parts.1)))
  made_exact (kept_gate_par g gates meet b part entries) over parts made =
      subst (Exactly (par_gate g gates meet b)) (sym made)
      (makes.of_gate_par g gates meet b (kept_menu part) over
      (subst (λ (body : Behaviour). Exactly body (kept_menu part)) parts.0 (root part parts.1)))
  made_exact (kept_call number gates arguments part entries) over parts made =
      call_exact number gates arguments part entries over parts.0 (root part parts.1) made.0 made.1 made.2
  made_exact (kept_relabel pairs part entries) over parts made =
      subst (Exactly (relabel pairs (kept_for part))) (sym made)
      (makes.of_relabelling pairs (kept_for part) (kept_menu part) over (root part parts))

  pub keep_menus : KeepMenus data_ canon specification
  keep_menus = record {
    serves = λ kept b all same. subst (λ (x : Behaviour). Exactly x (kept_menu kept)) same (root kept all);
    made = λ kept over parts made. whole kept (made_exact kept over parts made) parts;
    unchanged = λ earlier kept all parts same menu.
        whole kept
        (subst (Exactly (kept_for kept)) menu (subst (λ (x : Behaviour). Exactly x (kept_menu earlier)) same (root earlier all))) parts;
  }

pub joins_in_order : JoinsAreInOrder
joins_in_order data_ canon specification meet b c lefts rights over exact other draft a =
    let over_b : AreOver data_ canon specification b = over_part data_ canon specification (parallel meet b c) b over over.closed.1 in
    let over_c : AreOver data_ canon specification c = over_part data_ canon specification (parallel meet b c) c over over.closed.2 in
    let j : IsJoin data_ meet lefts rights draft = from_joins data_ meet lefts rights draft a in
    let left_menu : IsMenu data_ canon specification b lefts = menu_of data_ canon specification b lefts exact in
    let right_menu : IsMenu data_ canon specification c rights = menu_of data_ canon specification c rights other in
    let f : IsSolvedForm data_ canon specification b j.left.shape j.left = left_menu.sound j.left j.left_listed in
    let g : IsSolvedForm data_ canon specification c j.right.shape j.right = right_menu.sound j.right j.right_listed in
    let first = solving_any.solved data_ canon f.draft j.left over.is_canon
    (form_order data_ canon specification b j.left.shape f.draft over_b f.drafted) f.solves in
    let second = solving_any.solved data_ canon g.draft j.right over.is_canon
    (form_order data_ canon specification c j.right.shape g.draft over_c g.drafted) g.solves in
    solved_sides.in_order data_ (as_draft j.left) (as_draft j.right) draft first.as_draft second.as_draft
    (parts_of data_ meet (as_draft j.left) (as_draft j.right) draft j.is).1
