use Rattle.std.proofs.Common.{◌≡◌, ◌+◌, ◌++◌, ℕ, suc, List, map, codes, sym, ◌∙◌, arith}
use Rattle.std.proofs.lemmas.List.{append-nil}
use Rattle.lotos_base.specs.Name.{spelling}
use Rattle.lotos_base.specs.Signature.{Operation}
use Rattle.scope_parts.specs.BindingsView.{bindings_in}
use Rattle.sort_terms.specs.Operations.{operation_of}
use Rattle.sort_terms.specs.declared.operations.Op.{Op}
use Rattle.flat_text.specs.EquationNames.{free_names}
use Rattle.flat_text.proofs.LongerNames.{one_made}
use Rattle.flat_text.proofs.TableLemmas.{least_found}
use Rattle.flat_text.proofs.equation_names.equation_names.Goals as goal

-- the names of operations
abbrev names_in : List Op → List (List ℕ)
names_in ops = map (λ (o : Operation). o.name) (map operation_of ops)

pub loop-preserved : goal.loop-preserved
loop-preserved c = λ left counted.
    one_made (names_in c.args.ops.now) (free_names (names_in c.args.ops.now) c.args.count 1) c.loop.names.items c.push.new.self.items
    c.in_ok-with_number.field-0 left c.loop.from c.in_ok-number.number c.in_ok-from.from c.in_ok-push.ensures.items
    c.in_ok-with_number.ensures c.in_ok-from.ensures.next
    (least_found (bindings_in c.in_ok-taken.taken) (names_in c.args.ops.now) (codes "v") c.loop.from c.in_ok-number.number
    c.in_ok-taken.ensures c.in_ok-number.ensures.least c.in_ok-number.ensures.room)
    (c.loop.invariant (suc left) (omega (arith, counted)))

pub returns : goal.returns
returns c = sym (append-nil (map spelling c.loop.names.items)) ∙ c.loop.invariant 0 (omega arith)
