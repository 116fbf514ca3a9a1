use Rattle.std.proofs.Common.{◌≡◌, ◌++◌, ◌<◌, ◌≤◌, ℕ, List, [], ◌∷◌, length, get_or, ap, sym, ◌∙◌, subst, arith}
use Rattle.std.specs.Prelude.{if◌then◌else◌}
use Rattle.sort_terms.specs.TermView.{term_of}
use Rattle.sort_terms.specs.declared.operations.Op.{Op}
use Rattle.sort_terms.specs.declared.signatures.Signature.{Signature}
use Rattle.sort_terms.specs.declared.terms.Term.{Term}
use Rattle.path_order.specs.HeadIndexView.{numbers_at}
use Rattle.path_order.specs.RulesView.{plain_rules_in}
use Rattle.path_order.specs.declared.rule.Rule.{Rule}
use Rattle.term_rewriter.specs.FirstHead.{is_open, has_first, numbered_where}
use Rattle.term_rewriter.specs.FirstIndexView.{IsKeyBelow}
use Rattle.term_rewriter.proofs.FirstIndexLemmas.{where_more, where_end, rule_key_below}
use Rattle.term_rewriter.proofs.first_index.indexed.Goals as goal

pub add-requires : goal.add-requires
add-requires c =
    let many = ap length c.list-number-end.ensures in
    let less : c.loop-number.number < length c.args.rules.now.rules.items = omega (arith, many) in
    let is_term : c.term.result.now ≡ c.index-list-number.result.left.term =
    c.term.ensures ∙ sym (ap (λ (r : Rule). r.left.term) c.index-list-number.is) in (
      length c.args.rules.now.signature.ops.items,
      c.loop-number.invariant.room,
      subst (λ (t : Term). IsKeyBelow (length c.args.rules.now.signature.ops.items) (term_of t)) (sym is_term)
          (rule_key_below c.args.rules.now c.loop-number.number c.index-list-number.result less
          (subst (λ (xs : List Rule). c.index-list-number.result ≡ get_or xs c.loop-number.number c.index-list-number.result)
          c.list.ensures c.index-list-number.is)),
    )

pub loop-number-init : goal.loop-number-init
loop-number-init c =
    let count : length c.ops-count.result.now ≡ length c.args.rules.now.signature.ops.items =
    ap (λ (ops : List Op). length ops) c.ops-count.ensures ∙ ap (λ (s : Signature). length s.ops.items) c.signature.ensures in
    record {
      opens = λ f.
          ap (λ (ns : List ℕ). ns ++ numbered_where (is_open f) 0 (plain_rules_in c.args.rules.now)) (c.in_ok-open.ensures.empty f);
      begins = λ f.
          ap (λ (ns : List ℕ). ns ++ numbered_where (has_first f) 0 (plain_rules_in c.args.rules.now)) (c.in_ok-firsts.ensures.empty f);
      room = (c.in_ok-open.ensures.room ∙ count, c.in_ok-firsts.ensures.room ∙ count);
    }

pub loop-number-preserved : goal.loop-number-preserved
loop-number-preserved c =
    let many = ap length c.list-number-end.ensures in
    let less : c.loop-number.number < length c.args.rules.now.rules.items = omega (arith, many) in
    let at = subst (λ (xs : List Rule). c.index-list-number.result ≡ get_or xs c.loop-number.number c.index-list-number.result)
    c.list.ensures c.index-list-number.is in
    let is_term : c.term.result.now ≡ c.index-list-number.result.left.term =
    c.term.ensures ∙ sym (ap (λ (r : Rule). r.left.term) c.index-list-number.is) in
    record {
      opens = λ f.
          where_more (is_open f) c.loop-number.number c.args.rules.now.rules.items c.index-list-number.result _ _ _ less at
          (c.in_ok-add.ensures.open f
          ∙ ap (λ (t : Term). numbers_at c.loop-number.index.open f ++ (if is_open f (term_of t) then c.loop-number.number ∷ [] else []))
          is_term)
          (c.loop-number.invariant.opens f);
      begins = λ f.
          where_more (has_first f) c.loop-number.number c.args.rules.now.rules.items c.index-list-number.result _ _ _ less at
          (c.in_ok-add.ensures.firsts f
          ∙ ap (λ (t : Term). numbers_at c.loop-number.index.firsts f
          ++ (if has_first f (term_of t) then c.loop-number.number ∷ [] else []))
          is_term)
          (c.loop-number.invariant.begins f);
      room = c.in_ok-add.ensures.room (length c.args.rules.now.signature.ops.items) c.loop-number.invariant.room;
    }

pub returns : goal.returns
returns c =
    let many = ap length c.list-number-end.ensures in
    let past : length c.args.rules.now.rules.items ≤ c.loop-number.number = omega (arith, many) in
    record {
      opens = λ f.
          where_end (is_open f) c.loop-number.number c.args.rules.now.rules.items _ _ past (c.loop-number.invariant.opens f);
      begins = λ f.
          where_end (has_first f) c.loop-number.number c.args.rules.now.rules.items _ _ past (c.loop-number.invariant.begins f);
    }
