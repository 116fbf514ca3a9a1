use Rattle.std.proofs.Common.{◌≡◌, ◌<◌, List, length, ap, ◌∙◌, arith}
use Rattle.sort_terms.specs.TermView.{term_of, bare_terms_of}
use Rattle.sort_terms.specs.declared.terms.Term.{Term}
use Rattle.sort_terms.proofs.SizeLemmas.{size_above, size_within}
use Rattle.lotos_base.specs.Term.{node}
use Rattle.path_order.specs.Comparison.{all_compared, each_compared, parts_in}
use Rattle.path_order.specs.ComparedView.{tables_behind}
use Rattle.path_order.specs.PrecedenceView.{precedence_of, status_of}
use Rattle.path_order.proofs.TableLemmas.{parts_of}
use Rattle.path_order.proofs.CodeLemmas.{tables_more, over_leaf, over_node, term_of-Var, term_of_items, take_whole, argument_is}
use Rattle.path_order.proofs.comparing.+over.Goals as goal

-- a variable
pub returns-in_default : goal.returns-in_default
returns-in_default t c = λ told.
    over_leaf (precedence_of c.args.precedence.now) c.args.op (bare_terms_of c.args.arguments.now.items) (tables_behind c.args.rows.now)
    (term_of c.args.other.now)
    c.in_default.field-0 c.in_default.field-1 c.some_reaches.result
    (ap term_of c.in_default.is ∙ term_of-Var c.in_default.field-0 c.in_default.field-1) told c.some_reaches.ensures

-- the tables over an argument
pub loop-position-preserved : goal.loop-position-preserved
loop-position-preserved t c = λ told.
    let p = precedence_of c.args.precedence.now in
    let ts = bare_terms_of c.args.arguments.now.items in
    let within : c.loop-position.position < length c.items-others.result.now.items = omega arith in
    let below = ap tables_behind c.as_slice.ensures.value ∙ c.in_ok-row.ensures
    ∙ ap (parts_in c.loop-position.position) (told ∙ ap (each_compared p ts) (term_of_items _ c.in-Node.g c.in-Node.profile
    c.in-Node.others c.items-others.result.now.items c.in-Node.is c.items-others.ensures))
    ∙ parts_of p ts c.in-Node.g c.loop-position.position (bare_terms_of c.items-others.result.now.items) (term_of c.index.result.now)
    (argument_is c.items-others.result.now.items c.loop-position.position c.index.result.now within c.index.ensures) in
    tables_more p (node c.args.op ts) c.items-others.result.now.items c.loop-position.below.items c.push.new.self.items
    c.loop-position.position c.index.result.now c.in_ok-over.field-0
    within c.index.ensures c.in_ok-push.ensures.items (c.loop-position.invariant told) (c.in_ok-over.ensures below)

pub returns : goal.returns
returns t c = λ told.
    let p = precedence_of c.args.precedence.now in
    let end : c.loop-position.position ≡ length c.items-others.result.now.items = omega arith in
    over_node p c.args.op c.in-Node.g (bare_terms_of c.args.arguments.now.items) (bare_terms_of c.items-others.result.now.items)
    c.loop-position.below
    (tables_behind c.args.rows.now) (term_of c.args.other.now)
    c.are_equal-equal.result c.is_greater-greater.result c.are_alike-alike.result c.is_over-above.result (status_of c.status.result)
    (term_of_items _ c.in-Node.g c.in-Node.profile c.in-Node.others c.items-others.result.now.items c.in-Node.is c.items-others.ensures)
    (c.loop-position.invariant told ∙ ap (λ (xs : List Term). all_compared p (node c.args.op (bare_terms_of c.args.arguments.now.items))
    (bare_terms_of xs)) (take_whole c.items-others.result.now.items c.loop-position.position end))
    told c.are_equal-equal.ensures c.is_greater-greater.ensures c.are_alike-alike.ensures c.is_over-above.ensures
    c.status.ensures

-- each argument is smaller than the term
pub over-requires : goal.over-requires
over-requires t c =
    let size = size_above c.args.other.now c.in-Node.g c.in-Node.profile c.in-Node.others c.items-others.result.now.items
    c.in-Node.is c.items-others.ensures in
    let within : c.loop-position.position < length c.items-others.result.now.items = omega arith in
    let part = size_within c.items-others.result.now.items c.loop-position.position c.index.result.now within c.index.ensures in
    (omega (arith, c.decreases, size, part), tt)
