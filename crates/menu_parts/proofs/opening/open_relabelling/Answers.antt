use Rattle.std.proofs.Common.{◌∙◌, sym, subst}
use Rattle.behaviour_semantics.specs.Behaviour.{Relabelling, relabel}
use Rattle.behaviour_semantics.specs.Solving.{Entry}
use Rattle.std.specs.Prelude.{List}
use Rattle.behaviour_tree.specs.StateView.{stands_for}
use Rattle.shared_entries.specs.PartMenus.{relabel_menu}
use Rattle.step_taker.specs.Sides.{side_of}
use Rattle.menu_parts.specs.Forms.{IsExactOn}
use Rattle.menu_parts.proofs.FormLemmas.{passable_side, relabel_made}
use Rattle.menu_parts.proofs.opening.open_relabelling.Goals as goal

pub returns : goal.returns
returns c = λ basis base part state.
    let inner = c.in_ok-inner.inner.value in
    let whole = relabel c.args.pairs.now.items (side_of c.args.part.now) in (
      passable_side basis c.args.part.now inner c.in_ok-inner.ensures.same c.in_ok-inner.ensures.terms c.in_ok-inner.ensures.closed_parts
          state part.terms_of_signature part.closed.1,
      subst (λ (pairs : Relabelling). (entries : List Entry) → IsExactOn basis (stands_for inner) entries
          → IsExactOn basis whole (relabel_menu pairs entries)) (sym (c.in_ok-pairs.ensures.items ∙ c.deref.ensures.value))
          (relabel_made basis base c.args.pairs.now.items (side_of c.args.part.now) inner c.in_ok-inner.ensures.same part.closed),
    )
