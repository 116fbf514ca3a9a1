use Rattle.std.proofs.Common.{ℕ, List, sym, subst, filter_map}
use Rattle.behaviour_semantics.specs.Behaviour.{hide}
use Rattle.behaviour_semantics.specs.Solving.{Entry}
use Rattle.behaviour_tree.specs.StateView.{stands_for}
use Rattle.shared_entries.specs.PartMenus.{hide_menu}
use Rattle.step_taker.specs.Sides.{side_of}
use Rattle.menu_parts.specs.Forms.{IsExactOn}
use Rattle.menu_parts.proofs.FormLemmas.{hide_made, passable_side}
use Rattle.menu_parts.proofs.forms.hide_form.Goals as goal

pub returns : goal.returns
returns c = λ basis base part state.
    let inner = c.in_ok-inner.inner.value in
    let whole = hide c.args.gates.now.items (side_of c.args.part.now) in (
      passable_side basis c.args.part.now inner c.in_ok-inner.ensures.same c.in_ok-inner.ensures.terms c.in_ok-inner.ensures.closed_parts
          state part.terms_of_signature part.closed.1,
      subst (λ (gates : List ℕ). (entries : List Entry) → IsExactOn basis (stands_for inner) entries
          → IsExactOn basis whole (hide_menu gates entries)) (sym c.as_slice.ensures.value)
          (hide_made basis base c.args.gates.now.items (side_of c.args.part.now) inner c.in_ok-inner.ensures.same part.closed),
    )
