use Rattle.std.proofs.Common.{◌≡◌, ◌+◌, ℕ, List, length, drop, ap, sym, ◌∙◌, arith, Vec, Global}
use Rattle.std.specs.Vec.Iter.{into_iter_items}
use Rattle.std.proofs.lemmas.Result.{IfOk-weaker}
use Rattle.std.proofs.lemmas.List.{nil_from_length}
use Rattle.lotos_base.proofs.Pieces.{next_member}
use Rattle.sort_terms.specs.Operations.{operation_of}
use Rattle.sort_terms.specs.ProfiledTerm.{profiled_node}
use Rattle.sort_terms.specs.TermSize.{whole_of_parts}
use Rattle.sort_terms.specs.TermView.{profiled_of, all_profiled}
use Rattle.sort_terms.specs.declared.terms.Term.{Term}
use Rattle.sort_terms.proofs.CountedLemmas.{of_none, of_some}
use Rattle.sort_terms.proofs.BuiltLists.{node_with_items, profiled_Node, profiled_Var}
use Rattle.term_rewriter.specs.FirstMatch.{NoneMatches, IsFirstRule}
use Rattle.term_rewriter.proofs.FormLemmas.{variable_done, matched_within, no_forms, argument_asked, argument_made, argument_lacks, all_made}
use Rattle.term_rewriter.proofs.RootLemmas.{ready_done, next_right, begun_under, whole_leads}
use Rattle.term_rewriter.proofs.TakenLemmas.{nothing_left}
use Rattle.term_rewriter.proofs.forms.+form.Goals as goal
use Rattle.term_rewriter.proofs.forms.+form.Goals.{begun-in-Some+in_ok-form-in-Operation+in_ok-push-in-Operation, begun-in_default-next}

-- ---- the first rule that matches

pub after-returns-in_default : goal.after-returns-in_default
after-returns-in_default t c =
    let rules = c.args.rules.now in
    let whole = profiled_of c.args.whole in
    let none = of_none c.in_ok-number.field-0 (NoneMatches rules.rules.items whole) (λ (n : ℕ). IsFirstRule rules.rules.items n whole)
    c.in_default.is c.in_ok-number.ensures in
    ready_done rules whole c.requires none

pub after-rule_at-rule-requires : goal.after-rule_at-rule-requires
after-rule_at-rule-requires t c =
    let rules = c.args.rules.now in
    let whole = profiled_of c.args.whole in
    let first = of_some c.in_ok-number.field-0 (NoneMatches rules.rules.items whole) (λ (n : ℕ). IsFirstRule rules.rules.items n whole)
    c.in-Some.number c.in-Some.is c.in_ok-number.ensures in
    matched_within rules c.in-Some.number whole first

pub after-begun-requires : goal.after-begun-requires
after-begun-requires t c =
    let rules = c.args.rules.now in
    let whole = profiled_of c.args.whole in
    let first = of_some c.in_ok-number.field-0 (NoneMatches rules.rules.items whole) (λ (n : ℕ). IsFirstRule rules.rules.items n whole)
    c.in-Some.number c.in-Some.is c.in_ok-number.ensures in
    let next = next_right rules whole c.in-Some.number c.rule_at-rule.result.now c.term.result.now c.term-right.result.now
    (profiled_of c.in_ok-instance.instance) c.requires first c.rule_at-rule.ensures c.term.ensures c.term-right.ensures
    c.in_ok-instance.ensures in
    let less = next.falls in
    (omega (arith, less, c.decreases), (next.term, next.reduced))

pub after-returns : goal.after-returns
after-returns t c =
    let rules = c.args.rules.now in
    let whole = profiled_of c.args.whole in
    let first = of_some c.in_ok-number.field-0 (NoneMatches rules.rules.items whole) (λ (n : ℕ). IsFirstRule rules.rules.items n whole)
    c.in-Some.number c.in-Some.is c.in_ok-number.ensures in
    let next = next_right rules whole c.in-Some.number c.rule_at-rule.result.now c.term.result.now c.term-right.result.now
    (profiled_of c.in_ok-instance.instance) c.requires first c.rule_at-rule.ensures c.term.ensures c.term-right.ensures
    c.in_ok-instance.ensures in
    IfOk-weaker c.begun.result _ _
    (λ begun h. begun_under rules (profiled_of c.in_ok-instance.instance) whole begun next.falls next.made h) c.begun.ensures

-- ---- the arguments

pub begun-returns-in_default : goal.begun-returns-in_default
begun-returns-in_default t c =
    variable_done c.args.rules.now (profiled_of c.args.shape.now) c.in_default.field-0 c.in_default.field-1 (profiled_of c.args.instance)
    (ap profiled_of c.in_default.is ∙ profiled_Var c.in_default.field-0 c.in_default.field-1) c.requires.values

pub begun-loop-argument-init : goal.begun-loop-argument-init
begun-loop-argument-init t c =
    no_forms c.args.rules.now (profiled_of c.args.shape.now) (profiled_of c.args.instance) c.in-Operation.op c.in-Node.op
    (operation_of c.in-Operation.profile.value) (operation_of c.in-Node.profile.value) c.deref-argument-items.result.now
    c.in_ok-parts-in-Operation.parts.items (into_iter_items c.into_iter-rest.result) c.in_ok-forms-in-Operation.forms.items
    (node_with_items _ c.in-Node.op c.in-Node.profile c.in-Node.shapes c.items.result.now.items c.in-Node.is c.items.ensures
    ∙ ap (λ (ts : List Term). profiled_node c.in-Node.op (operation_of c.in-Node.profile.value) (all_profiled ts))
    (sym c.deref-argument-items.ensures.value))
    (ap profiled_of (sym c.into_parts.ensures ∙ ap whole_of_parts c.in-Operation.is)
    ∙ profiled_Node c.in-Operation.op c.in-Operation.profile c.in-Operation.arguments
    ∙ ap (profiled_node c.in-Operation.op (operation_of c.in-Operation.profile.value)) (sym c.in_ok-parts-in-Operation.ensures))
    c.into_iter-rest.ensures.rest c.in_ok-forms-in-Operation.ensures.items c.requires.values

pub begun-form-requires : goal.begun-form-requires
begun-form-requires t c =
    let xs = c.deref-argument-items.result.now in
    let asked = argument_asked c.args.rules.now (profiled_of c.args.instance) c.in-Operation.op
    (operation_of c.in-Operation.profile.value) (drop c.loop-argument.argument-index xs) (drop (c.loop-argument.argument-index + 1) xs)
    (into_iter_items c.loop-argument.rest) (into_iter_items c.next.new.self) c.loop-argument.forms.items c.argument-item.result
    c.in-Some.part
    (next_member xs c.loop-argument.argument-index c.argument-item.result c.loop-argument-test.true c.argument-item.is)
    c.in-Some.ensures.items c.requires.term c.loop-argument.invariant in
    let less = asked.falls in
    (omega (arith, less, c.decreases), (asked.term, asked.reduced))

pub begun-loop-argument-preserved : goal.begun-loop-argument-preserved
begun-loop-argument-preserved t c =
    let xs = c.deref-argument-items.result.now in
    elim c.match-next.branch [
      | begun-in-Some+in_ok-form-in-Operation+in_ok-push-in-Operation w ↦
          argument_made c.args.rules.now (profiled_of c.args.instance) c.in-Operation.op
          (operation_of c.in-Operation.profile.value) (drop c.loop-argument.argument-index xs)
          (drop (c.loop-argument.argument-index + 1) xs) (into_iter_items c.loop-argument.rest) (into_iter_items c.next.new.self)
          c.loop-argument.forms.items c.match-next.forms.items c.argument-item.result w.in-Some.part
          w.in_ok-form-in-Operation.field-0
          (next_member xs c.loop-argument.argument-index c.argument-item.result c.loop-argument-test.true c.argument-item.is)
          w.in-Some.ensures.items
          (ap (λ (forms : Vec Term Global). forms.items) w.forms-is ∙ w.in_ok-push-in-Operation.ensures.items)
          c.loop-argument.invariant w.in_ok-form-in-Operation.ensures
      | begun-in_default-next w ↦
          absurd (argument_lacks c.args.rules.now (profiled_of c.args.instance) c.in-Operation.op
          (operation_of c.in-Operation.profile.value) (drop c.loop-argument.argument-index xs)
          (drop (c.loop-argument.argument-index + 1) xs) (into_iter_items c.loop-argument.rest) c.loop-argument.forms.items
          c.argument-item.result
          (next_member xs c.loop-argument.argument-index c.argument-item.result c.loop-argument-test.true c.argument-item.is)
          (nil_from_length (into_iter_items c.loop-argument.rest)
          (sym c.loop-argument.rest.rest.ok.0 ∙ w.in_default-next.ensures.cases.0)) c.loop-argument.invariant)
    ]

pub begun-returns-in_ok-node-in-Operation : goal.begun-returns-in_ok-node-in-Operation
begun-returns-in_ok-node-in-Operation t c =
    let xs = c.deref-argument-items.result.now in
    let end : c.loop-argument.argument-index ≡ length c.deref-argument-items.result.now =
    omega (arith, c.loop-argument-test.false, c.loop-argument.auto.argument-index-end) in
    whole_leads c.args.rules.now (profiled_of c.args.instance) _ c.in-Operation.op
    (operation_of c.in-Operation.profile.value) c.loop-argument.forms.items
    (ap profiled_of c.in_ok-node-in-Operation.ensures) c.requires.term
    (all_made c.args.rules.now (profiled_of c.args.instance) c.in-Operation.op
    (operation_of c.in-Operation.profile.value) (drop c.loop-argument.argument-index xs) (into_iter_items c.loop-argument.rest)
    c.loop-argument.forms.items (nothing_left xs c.loop-argument.argument-index end) c.loop-argument.invariant)
