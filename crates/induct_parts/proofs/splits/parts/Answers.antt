use Rattle.std.proofs.Common.{◌≡◌, [], ◌∷◌, ◌++◌, refl, ◌∙◌}
use Rattle.std.specs.Prelude.{if◌then◌else◌}
use Rattle.lotos_base.specs.Signature.{Operation, IsOperation}
use Rattle.lotos_base.specs.Substitution.{is_listed}
use Rattle.lotos_base.specs.Equation.{Data}
use Rattle.lotos_base.specs.Term.{Term}
use Rattle.certificate_theory.specs.Splits.{IsInScope, case_with, cases_of_split}
use Rattle.induct_parts.specs.CaseView.{case_in, cases_in}
use Rattle.induct_parts.specs.SettingView.{IsSet, proving_in, setting_signature, theory_in}
use Rattle.induct_parts.proofs.DataLemmas.{held_before, held_then}
use Rattle.induct_parts.proofs.ListedParts.{listed_operation, parts_more, past_operations, within_operations}
use Rattle.induct_parts.proofs.StepLemmas.{all_made, if_listed, listed_makes}
use Rattle.induct_parts.proofs.splits.parts.Goals as goal

pub add_if_listed-requires-clause-set : goal.add_if_listed-requires-clause-set
add_if_listed-requires-clause-set g c =
    held_then (IsSet c.args.setting.now) c.loop-operation.invariant.same_data c.loop-operation.invariant.same_canon c.requires.set

pub add_if_listed-requires-clause-operation : goal.add_if_listed-requires-clause-operation
add_if_listed-requires-clause-operation g c =
    listed_operation (λ s. IsInScope (case_in c.args.point.now) c.args.number s) (setting_signature c.args.setting.now)
    c.args.operations.now c.args.sort c.loop-operation.operation
    (within_operations c.args.setting.now.signature.now c.ops-operation-end.result.now c.loop-operation.operation
    c.ops-operation-end.ensures
    c.loop-operation-test.true)
    c.requires.results c.requires.scope

pub loop-operation-preserved : goal.loop-operation-preserved
loop-operation-preserved g c =
    let data_ = g.D.Deciding.known_data c.args.data_.now in
    let canon = g.D.Deciding.canon c.args.data_.now in
    record {
      same_data = c.in_ok-add_if_listed.ensures.same_data ∙ c.loop-operation.invariant.same_data;
      same_canon = c.in_ok-add_if_listed.ensures.same_canon ∙ c.loop-operation.invariant.same_canon;
      made = parts_more (λ s one. case_with (theory_in c.args.setting.now data_ canon) (proving_in c.args.proving.now)
          (case_in c.args.point.now) c.args.number s one) (setting_signature c.args.setting.now)
          c.args.operations.now c.args.sort c.loop-operation.operation (cases_in c.loop-operation.made.items)
          (cases_in c.add_if_listed.new.made.items)
          (cases_of_split (theory_in c.args.setting.now data_ canon) (proving_in c.args.proving.now) (case_in c.args.point.now)
          c.args.number c.args.sort c.args.operations.now)
          (within_operations c.args.setting.now.signature.now c.ops-operation-end.result.now c.loop-operation.operation
          c.ops-operation-end.ensures
          c.loop-operation-test.true)
          c.requires.results
          (held_before (λ (d : Data) (k : Term → Term). (o : Operation)
          → IsOperation (setting_signature c.args.setting.now) c.loop-operation.operation o
          → cases_in c.add_if_listed.new.made.items ≡ cases_in c.loop-operation.made.items
          ++ (if is_listed c.args.operations.now c.loop-operation.operation
          then case_with (theory_in c.args.setting.now d k) (proving_in c.args.proving.now) (case_in c.args.point.now) c.args.number
          o.result (record { number = c.loop-operation.operation; operation = o }) ∷ []
          else []))
          c.loop-operation.invariant.same_data c.loop-operation.invariant.same_canon c.in_ok-add_if_listed.ensures.added)
          c.loop-operation.invariant.made;
      known = c.in_ok-add_if_listed.ensures.known c.loop-operation.invariant.known;
    }

pub returns-clause-made : goal.returns-clause-made
returns-clause-made g c =
    let data_ = g.D.Deciding.known_data c.args.data_.now in
    let canon = g.D.Deciding.canon c.args.data_.now in
    all_made
    (listed_makes (case_with (theory_in c.args.setting.now data_ canon) (proving_in c.args.proving.now) (case_in c.args.point.now)
    c.args.number c.args.sort) c.args.operations.now)
    (if_listed (case_with (theory_in c.args.setting.now data_ canon) (proving_in c.args.proving.now) (case_in c.args.point.now)
    c.args.number c.args.sort) c.args.operations.now)
    (setting_signature c.args.setting.now).operations
    (cases_of_split (theory_in c.args.setting.now data_ canon) (proving_in c.args.proving.now) (case_in c.args.point.now)
    c.args.number c.args.sort c.args.operations.now)
    (λ n. refl) c.loop-operation.operation (cases_in c.loop-operation.made.items)
    (past_operations c.args.setting.now.signature.now c.ops-operation-end.result.now c.loop-operation.operation c.ops-operation-end.ensures
    c.loop-operation-test.false)
    c.loop-operation.invariant.made
