use Rattle.std.proofs.Common.{ap, arith, refl, ◌∙◌, []}
use Rattle.std.specs.Prelude.{Ok}
use Rattle.lotos_base.specs.declared.faults.NoMemory.{NoMemory}
use Rattle.sort_terms.specs.TermSize.{profiled_sizes}
use Rattle.sort_terms.specs.TermView.{profiled_of}
use Rattle.sort_terms.proofs.BuiltLists.{node_with_items}
use Rattle.sort_terms.proofs.SizeLemmas.{size_node}
use Rattle.term_store.specs.Cells.{variable_key}
use Rattle.term_store.specs.SharedView.{keys_in}
use Rattle.term_store.proofs.NumberingLemmas.{plain_number, variable_number, variable_taken}
use Rattle.term_store.proofs.OnTheWayLemmas.{sizes_all, turns_next, way_node, way_pushed, way_taken}
use Rattle.term_store.proofs.numbering.begin.Goals as goal

-- ---- A variable

pub returns-in_err-known-in-Var-clause-taken : goal.returns-in_err-known-in-Var-clause-taken
returns-in_err-known-in-Var-clause-taken c t before way =
    way_taken t before (keys_in c.args.shared.now) (keys_in c.variable.new.shared) c.args.left.now.items (profiled_of c.args.term.now)
    c.args.made.now.items way
    (variable_taken (profiled_of c.args.term.now) c.in-Var.number c.in-Var.sort (keys_in c.args.shared.now)
    (variable_key c.in-Var.number c.in-Var.sort) (keys_in c.variable.new.shared) (ap profiled_of c.in-Var.is) refl
    c.variable.ensures.more)

pub returns-in_err-push-in-Var-clause-taken : goal.returns-in_err-push-in-Var-clause-taken
returns-in_err-push-in-Var-clause-taken c t before way =
    way_taken t before (keys_in c.args.shared.now) (keys_in c.variable.new.shared) c.args.left.now.items (profiled_of c.args.term.now)
    c.args.made.now.items way
    (variable_taken (profiled_of c.args.term.now) c.in-Var.number c.in-Var.sort (keys_in c.args.shared.now)
    (variable_key c.in-Var.number c.in-Var.sort) (keys_in c.variable.new.shared) (ap profiled_of c.in-Var.is) refl
    c.variable.ensures.more)

pub returns-in_ok-push-in-Var-clause-taken : goal.returns-in_ok-push-in-Var-clause-taken
returns-in_ok-push-in-Var-clause-taken c t before way =
    way_taken t before (keys_in c.args.shared.now) (keys_in c.variable.new.shared) c.args.left.now.items (profiled_of c.args.term.now)
    c.args.made.now.items way
    (variable_taken (profiled_of c.args.term.now) c.in-Var.number c.in-Var.sort (keys_in c.args.shared.now)
    (variable_key c.in-Var.number c.in-Var.sort) (keys_in c.variable.new.shared) (ap profiled_of c.in-Var.is) refl
    c.variable.ensures.more)

pub returns-in_ok-push-in-Var-clause-way : goal.returns-in_ok-push-in-Var-clause-way
returns-in_ok-push-in-Var-clause-way c t before way =
    let u = profiled_of c.args.term.now in
    let now = keys_in c.args.shared.now in
    let after = keys_in c.variable.new.shared in
    let key = variable_key c.in-Var.number c.in-Var.sort in
    way_pushed t before now after c.args.left.now.items u c.args.made.now.items c.push.new.self.items c.in_ok-known-in-Var.known way
    (variable_taken u c.in-Var.number c.in-Var.sort now key after (ap profiled_of c.in-Var.is) refl c.variable.ensures.more)
    (plain_number u now after c.in_ok-known-in-Var.known
    (variable_number {E = NoMemory} [] u c.in-Var.number c.in-Var.sort now key after
    (Ok c.in_ok-known-in-Var.known) refl (ap profiled_of c.in-Var.is) refl c.variable.ensures.more c.in_ok-known-in-Var.ensures.stands))
    c.in_ok-push-in-Var.ensures.items

-- ---- An operation

pub returns-in_ok-push-in-Node-2-clause-way : goal.returns-in_ok-push-in-Node-2-clause-way
returns-in_ok-push-in-Node-2-clause-way c t before way =
    way_node t before (keys_in c.args.shared.now) c.args.left.now.items c.push-in-Node.new.self.items c.push-in-Node-2.new.self.items
    c.args.made.now.items (profiled_of c.args.term.now) c.in-Node.op c.len-count.result _ c.items-arguments.result
    (node_with_items c.args.term.now c.in-Node.op c.in-Node.profile c.in-Node.arguments c.items-arguments.result.now.items c.in-Node.is
    c.items-arguments.ensures)
    (c.len-count.ensures ∙ c.items-arguments.result.now.ok.0) c.in_ok-push-in-Node.ensures.items c.in_ok-push-in-Node-2.ensures.items way

pub returns-in_ok-push-in-Node-2-clause-less : goal.returns-in_ok-push-in-Node-2-clause-less
returns-in_ok-push-in-Node-2-clause-less c =
    let first = turns_next c.push-in-Node.new.self.items c.args.left.now.items _ c.in_ok-push-in-Node.ensures.items in
    let second = turns_next c.push-in-Node-2.new.self.items c.push-in-Node.new.self.items _ c.in_ok-push-in-Node-2.ensures.items in
    let whole = size_node c.args.term.now c.in-Node.op c.in-Node.profile c.in-Node.arguments c.in-Node.is in
    let own = ap profiled_sizes c.items-arguments.ensures in
    let sizes = sizes_all c.items-arguments.result.now.items c.len-count.result (c.len-count.ensures ∙ c.items-arguments.result.now.ok.0) in
    omega (arith, first, second, whole, own, sizes)
