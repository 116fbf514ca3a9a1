use Rattle.std.proofs.Common.{◌≡◌, ◌<◌, ◌≤◌, List, length, get_or, ap, sym, ◌∙◌, subst}
use Rattle.std.specs.Prelude.{Option, Some, None}
use Rattle.std.specs.Option.{option_map}
use Rattle.std.proofs.Common.{ltb-true, ltb-false}
use Rattle.lotos_base.specs.Term.{Term, node}
use Rattle.lotos_base.specs.Path.{put_at}
use Rattle.lotos_base.specs.Path.{with_argument as argument_put}
use Rattle.lotos_base.specs.PlainView.{arguments_of, term_of_plain}
use Rattle.lotos_base.specs.declared.plain.PlainTerm.{PlainTerm}
use Rattle.lotos_base.proofs.PlainLemmas.{term_of-Node, no_put_past, put_into_argument}
use Rattle.lotos_base.proofs.plain.PlainTerm.+with_part.Goals as goal

-- there is no argument at the first position
pub returns-in_default-get : goal.returns-in_default-get
returns-in_default-get t c =
    let past : length c.deref.result.now ≤ get_or c.args.path.now 0 0 = ltb-false _ _ (sym c.in_default-get.ensures.lookup.0) in
    subst (λ (u : PlainTerm). None ≡ put_at c.args.path.now (term_of_plain c.args.part.now) (term_of_plain u)) (sym c.in-Node.is)
    (no_put_past c.args.path.now (term_of_plain c.args.part.now) c.in-Node.operation c.in-Node.arguments c.in-len1-up.len_at_least
    (subst (λ (ts : List PlainTerm). length ts ≤ get_or c.args.path.now 0 0) c.deref.ensures.value past))

-- the rest of the path leads to no subterm of the argument
pub returns-in_default-2 : goal.returns-in_default-2
returns-in_default-2 t c =
    let within : get_or c.args.path.now 0 0 < length c.deref.result.now = ltb-true _ _ (sym c.in-Some.ensures.lookup.0) in
    let inside =
    put_into_argument c.args.path.now (term_of_plain c.args.part.now) c.in-Node.operation c.in-Node.arguments c.in-Some.argument.now
    None c.in-len1-up.len_at_least
    (subst (λ (ts : List PlainTerm). get_or c.args.path.now 0 0 < length ts) c.deref.ensures.value within)
    (subst (λ (ts : List PlainTerm). c.in-Some.argument.now ≡ get_or ts (get_or c.args.path.now 0 0) c.in-Some.argument.now)
    c.deref.ensures.value c.in-Some.ensures.lookup.1)
    (ap (λ (o : Option PlainTerm). option_map term_of_plain o) (sym c.in_default-2.is) ∙ c.in_ok-changed.ensures) in
    subst (λ (u : PlainTerm). None ≡ put_at c.args.path.now (term_of_plain c.args.part.now) (term_of_plain u)) (sym c.in-Node.is) inside

-- the argument with the part put in
pub returns : goal.returns
returns t c =
    let within : get_or c.args.path.now 0 0 < length c.deref.result.now = ltb-true _ _ (sym c.in-Some.ensures.lookup.0) in
    let inside =
    put_into_argument c.args.path.now (term_of_plain c.args.part.now) c.in-Node.operation c.in-Node.arguments c.in-Some.argument.now
    (Some (term_of_plain c.in-Some-2.changed)) c.in-len1-up.len_at_least
    (subst (λ (ts : List PlainTerm). get_or c.args.path.now 0 0 < length ts) c.deref.ensures.value within)
    (subst (λ (ts : List PlainTerm). c.in-Some.argument.now ≡ get_or ts (get_or c.args.path.now 0 0) c.in-Some.argument.now)
    c.deref.ensures.value c.in-Some.ensures.lookup.1)
    (ap (λ (o : Option PlainTerm). option_map term_of_plain o) (sym c.in-Some-2.is) ∙ c.in_ok-changed.ensures) in
    ap (λ (u : Term). Some u) (term_of-Node c.in-Node.operation c.in_ok-with_argument.field-0)
    ∙ ap (λ ts. Some (node c.in-Node.operation ts)) c.in_ok-with_argument.ensures
    ∙ subst (λ (u : PlainTerm). Some (node c.in-Node.operation
    (argument_put (get_or c.args.path.now 0 0) (term_of_plain c.in-Some-2.changed) (arguments_of c.in-Node.arguments.items)))
    ≡ put_at c.args.path.now (term_of_plain c.args.part.now) (term_of_plain u)) (sym c.in-Node.is) inside
