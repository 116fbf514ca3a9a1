use Rattle.std.proofs.Common.{sym, subst}
use Rattle.std.specs.Prelude.{Vec}
use Rattle.std.specs.declared.alloc.Global.{Global}
use Rattle.behaviour_semantics.specs.WellFormed.{Every}
use Rattle.shared_entries.specs.HandedOn.{menu_entries}
use Rattle.shared_entries.specs.Items.{HasItemTerms}
use Rattle.shared_entries.specs.declared.items.Item.{Item}
use Rattle.menu_parts.specs.Spread.{AreEntriesOf}
use Rattle.menu_parts.proofs.KeptLemmas.{root_listed}
use Rattle.menu_parts.proofs.MakerLemmas.{sharing_kept}
use Rattle.menu_parts.proofs.SpreadKept.{entries_given}
use Rattle.menu_parts.proofs.makers.menu_of.Goals as goal

pub returns-in_ok-entries_of-in-None : goal.returns-in_ok-entries_of-in-None
returns-in_ok-entries_of-in-None c = λ basis h.
    subst (λ (v : Vec Item Global). AreEntriesOf basis.data_.signature v.items (menu_entries c.of.result)) c.items.ensures
    (entries_given basis.data_.signature c.items.result.now.items c.in_ok-entries_of-in-None.field-0.items (menu_entries c.of.result)
    c.of.ensures c.in_ok-entries_of-in-None.ensures.same c.in_ok-entries_of-in-None.ensures.terms
    (subst (λ (v : Vec Item Global). Every (HasItemTerms basis.data_.signature) v.items) (sym c.items.ensures)
    (root_listed basis c.args.kept.now h).terms))

pub returns-in_ok-owner-in-Some : goal.returns-in_ok-owner-in-Some
returns-in_ok-owner-in-Some c = λ basis h.
    sharing_kept basis c.args.kept.now c.in-Some.spread.now.value c.deref.result.now c.part.result.now c.in_ok-owner-in-Some.field-0
    c.sharing.result c.deref.ensures c.part.ensures c.in_ok-owner-in-Some.ensures c.sharing.ensures (c.in-Some.ensures.kept basis h)
    (c.in-Some.ensures.listed basis h)
