use Rattle.std.proofs.Common.{◌≡◌, true, ltb, length, get_or, sym, ap, subst, ◌∙◌, arith}
use Rattle.std.specs.Option.{option_map}
use Rattle.std.proofs.lemmas.List.{drop_all}
use Rattle.sort_terms.specs.ReaderView.{signature_read}
use Rattle.sort_terms.specs.Tables.{all_built_from}
use Rattle.sort_terms.specs.TableView.{tables_of}
use Rattle.sort_terms.specs.declared.counted.Counted.{out-Counted}
use Rattle.sort_terms.specs.declared.operations.Op.{Op}
use Rattle.sort_terms.specs.TermView.{profiled_of, all_profiled}
use Rattle.sort_terms.proofs.BuiltLists.{other_length_built, built_more, built_wholly, built_operation}
use Rattle.sort_terms.proofs.reader.Reader.+building.Goals as goal

pub all_built-returns-then-len : goal.all_built-returns-then-len
all_built-returns-then-len t c =
    other_length_built (signature_read c.args.self.now) c.args.sorts.now.items c.args.arguments.now.items
    (λ same. c.if-len.true (c.len.ensures ∙ c.args.arguments.now.ok.0 ∙ same ∙ sym c.args.sorts.now.ok.0 ∙ sym c.len-2.ensures))

pub all_built-loop-i-preserved : goal.all_built-loop-i-preserved
all_built-loop-i-preserved t c =
    built_more
    (signature_read c.args.self.now) c.args.sorts.now.items c.args.arguments.now.items c.loop-i.i c.index-in-loop-i.result.now
    c.index.result.now
    c.loop-i.built.items c.push.new.self.items c.in-Some.term (omega arith) (omega arith) c.index-in-loop-i.ensures c.index.ensures
    (sym (ap (λ o. option_map profiled_of o) c.in-Some.is) ∙ c.in_ok-term.ensures) c.in_ok-push.ensures.items c.loop-i.invariant

pub all_built-returns : goal.all_built-returns
all_built-returns t c =
    let past = c.loop-i-test.false in
    let end = c.len-i-end.ensures in
    let arguments = c.args.arguments.now.ok.0 in
    let sorts = c.args.sorts.now.ok.0 in
    let first = c.len.ensures in
    let second = c.len-2.ensures in
    let same = c.if-len.false in
    built_wholly (signature_read c.args.self.now) c.args.sorts.now.items c.args.arguments.now.items c.loop-i.i c.loop-i.built.items
    (drop_all c.loop-i.i c.args.sorts.now.items (omega (arith, past, end, arguments, sorts, first, second, same)))
    (drop_all c.loop-i.i c.args.arguments.now.items (omega (arith, past, end, arguments))) c.loop-i.invariant

pub built_node-returns : goal.built_node-returns
built_node-returns t c =
    built_operation c.args.self.now.signature.now.ops.items c.args.self.now.profiles.items c.args.number c.in-Some.profile.now
    c.in_ok-clone.field-0
    c.in-Some-2.arguments c.in_ok-node.field-0 _ c.args.self.now.profiled
    (subst (λ ps. true ≡ ltb c.args.number (length ps)) c.deref.ensures.value c.in-Some.ensures.lookup.0)
    (subst (λ ps. c.in-Some.profile.now ≡ get_or ps c.args.number c.in-Some.profile.now) c.deref.ensures.value c.in-Some.ensures.lookup.1)
    c.in_ok-clone.ensures.cases
    (sym (ap (λ o. option_map (λ v. all_profiled v.items) o) c.in-Some-2.is) ∙ c.in_ok-arguments.ensures
    ∙ ap (λ (op : Op). all_built_from (signature_read c.args.self.now)
    (tables_of (out-Counted c.args.counted.now).arguments.items) op.arguments.items) c.deref-2.ensures)
    (ap profiled_of c.in_ok-node.ensures)
