use Rattle.std.proofs.Common.{ap}
use Rattle.lotos_base.specs.Name.{spelling}
use Rattle.certificate_verbs.specs.HandedOn.{head_text, written_menu, Menu, CodeSpec as Spec}
use Rattle.sort_terms.specs.EquationView.{data_of}
use Rattle.sort_terms.specs.declared.equations.Flat.{Flat}
use Rattle.lotos_top.proofs.HeadLemmas.{named, opening_joined, shown_same}
use Rattle.lotos_top.proofs.opening.push_opening.Goals as goal

pub returns : goal.returns
returns c =
    opening_joined c.args.into.now.items c.push_head.new.into.items c.menu_text.new.into.items _ _ _
    (named _ _ _ _ c.in_ok-push_head.ensures
    (ap (λ (it : Spec). head_text (spelling it.name) (data_of c.args.opened.now.book.flat)) c.spec.ensures))
    c.in_ok-menu_text.ensures
    (shown_same (λ (f : Flat) (it : Spec) (menu : Menu). written_menu f.signature it.gate_names.items menu) c.flat.ensures
    c.spec-2.ensures c.menu.ensures)
