use Rattle.std.proofs.Common.{◌++◌, ℕ, map, ap, ◌∙◌}
use Rattle.std.specs.Prelude.{Option}
use Rattle.std.proofs.lemmas.Result.{on_ok_weaker}
use Rattle.lotos_base.specs.Name.{spelling}
use Rattle.behaviour_tree.specs.DefinitionView.{specification_of}
use Rattle.sort_terms.specs.EquationView.{data_of}
use Rattle.sort_terms.specs.SignatureView.{signature_of}
use Rattle.flat_text.specs.FlatText.{text_by}
use Rattle.flat_text.proofs.texts.push_named.Goals as goal

pub returns : goal.returns
returns c =
    on_ok_weaker c.push_whole.result
    (λ h. h ∙ ap (λ (truth : Option ℕ). c.args.into.now.items ++ text_by (record {
      signature = signature_of c.args.flat.now.signature;
      gates = map spelling c.args.spec.now.gate_names.items;
      processes = map spelling c.args.given.now.items;
      truth = truth;
    }) (data_of c.args.flat.now) (specification_of c.args.spec.now) (map spelling c.args.given.now.items)) c.requires.truth)
    c.push_whole.ensures
