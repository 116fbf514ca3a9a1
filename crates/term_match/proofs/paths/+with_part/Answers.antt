use Rattle.std.proofs.Common.{◌≡◌, ◌<◌, ◌≤◌, List, length, get_or, ap, sym, ◌∙◌, subst}
use Rattle.std.specs.Prelude.{Option, Some, None}
use Rattle.std.specs.Option.{option_map}
use Rattle.std.proofs.Common.{ltb-true, ltb-false}
use Rattle.sort_terms.specs.Operations.{operation_of}
use Rattle.sort_terms.specs.ProfiledTerm.{ProfiledTerm, ProfiledTerms, profiled_node}
use Rattle.sort_terms.specs.TermView.{all_profiled, profiled_of}
use Rattle.sort_terms.specs.declared.terms.Term.{Term}
use Rattle.sort_terms.specs.declared.operations.Op.{Op}
use Rattle.sort_terms.proofs.BuiltLists.{node_with_items}
use Rattle.term_match.specs.ProfiledPath.{profiled_put_at, with_profiled_argument}
use Rattle.term_match.proofs.PathLemmas.{no_put_past, put_into_argument}
use Rattle.term_match.proofs.paths.+with_part.Goals as goal

-- there is no argument at the first position
pub returns-in_default-get : goal.returns-in_default-get
returns-in_default-get t c =
    let past : length c.deref.result.now ≤ get_or c.args.path.now 0 0 = ltb-false _ _ (sym c.in_default-get.ensures.lookup.0) in
    subst (λ (p : ProfiledTerm). None ≡ profiled_put_at c.args.path.now (profiled_of c.args.part.now) p)
    (sym (node_with_items _ c.in-Node.op c.in-Node.profile c.in-Node.arguments c.items-arguments.result.now.items c.in-Node.is
    c.items-arguments.ensures))
    (no_put_past c.args.path.now (profiled_of c.args.part.now) c.in-Node.op
    (operation_of c.in-Node.profile.value) c.items-arguments.result.now.items c.in-len1-up.len_at_least
    (subst (λ (ts : List Term). length ts ≤ get_or c.args.path.now 0 0) c.deref.ensures.value past))

-- the rest of the path leads to no subterm of the argument
pub returns-in_default-2 : goal.returns-in_default-2
returns-in_default-2 t c =
    let within : get_or c.args.path.now 0 0 < length c.deref.result.now = ltb-true _ _ (sym c.in-Some.ensures.lookup.0) in
    let inside = put_into_argument c.args.path.now (profiled_of c.args.part.now) c.in-Node.op
    (operation_of c.in-Node.profile.value) c.items-arguments.result.now.items c.in-Some.argument.now None c.in-len1-up.len_at_least
    (subst (λ (ts : List Term). get_or c.args.path.now 0 0 < length ts) c.deref.ensures.value within)
    (subst (λ (ts : List Term). c.in-Some.argument.now ≡ get_or ts (get_or c.args.path.now 0 0) c.in-Some.argument.now)
    c.deref.ensures.value c.in-Some.ensures.lookup.1)
    (ap (λ (o : Option Term). option_map profiled_of o) (sym c.in_default-2.is) ∙ c.in_ok-changed.ensures) in
    subst (λ (p : ProfiledTerm). None ≡ profiled_put_at c.args.path.now (profiled_of c.args.part.now) p)
    (sym (node_with_items _ c.in-Node.op c.in-Node.profile c.in-Node.arguments c.items-arguments.result.now.items c.in-Node.is
    c.items-arguments.ensures)) inside

-- the argument with the part put in
pub returns : goal.returns
returns t c =
    let within : get_or c.args.path.now 0 0 < length c.deref.result.now = ltb-true _ _ (sym c.in-Some.ensures.lookup.0) in
    let inside = put_into_argument c.args.path.now (profiled_of c.args.part.now) c.in-Node.op
    (operation_of c.in-Node.profile.value) c.items-arguments.result.now.items c.in-Some.argument.now
    (Some (profiled_of c.in-Some-2.changed)) c.in-len1-up.len_at_least
    (subst (λ (ts : List Term). get_or c.args.path.now 0 0 < length ts) c.deref.ensures.value within)
    (subst (λ (ts : List Term). c.in-Some.argument.now ≡ get_or ts (get_or c.args.path.now 0 0) c.in-Some.argument.now)
    c.deref.ensures.value c.in-Some.ensures.lookup.1)
    (ap (λ (o : Option Term). option_map profiled_of o) (sym c.in-Some-2.is) ∙ c.in_ok-changed.ensures) in
    ap (λ (p : ProfiledTerm). Some p) (ap profiled_of c.in_ok-node.ensures)
    ∙ ap (λ (ts : ProfiledTerms). Some (profiled_node c.in-Node.op (operation_of c.in_ok-clone.field-0.value) ts))
    c.in_ok-made.ensures
    ∙ ap (λ (op : Op). Some (profiled_node c.in-Node.op (operation_of op)
    (with_profiled_argument (get_or c.args.path.now 0 0) (profiled_of c.in-Some-2.changed)
    (all_profiled c.items-arguments.result.now.items)))) c.in_ok-clone.ensures.cases
    ∙ subst (λ (p : ProfiledTerm). Some (profiled_node c.in-Node.op (operation_of c.in-Node.profile.value)
    (with_profiled_argument (get_or c.args.path.now 0 0) (profiled_of c.in-Some-2.changed)
    (all_profiled c.items-arguments.result.now.items))) ≡ profiled_put_at c.args.path.now (profiled_of c.args.part.now) p)
    (sym (node_with_items _ c.in-Node.op c.in-Node.profile c.in-Node.arguments c.items-arguments.result.now.items c.in-Node.is
    c.items-arguments.ensures)) inside
