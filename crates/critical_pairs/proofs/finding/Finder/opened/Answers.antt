use Rattle.std.proofs.Common.{List, ap, map, ◌∙◌}
use Rattle.sort_terms.specs.Operations.{operation_of}
use Rattle.sort_terms.specs.declared.operations.Op.{Op}
use Rattle.sort_terms.specs.declared.signatures.Signature.{Signature}
use Rattle.term_store.proofs.StoreLemmas.{empty_sound}
use Rattle.critical_pairs.proofs.finding.Finder.opened.Goals as goal

pub returns : goal.returns
returns c = record {
  indexed = c.in_ok-index.ensures;
  profiled =
      c.in_ok-profiles.ensures ∙ ap (λ (ops : List Op). map operation_of ops) c.ops.ensures
      ∙ ap (λ (signature : Signature). map operation_of signature.ops.items) c.signature.ensures;
  sound = empty_sound c.args.rules.now c.new.result c.new.ensures.terms c.new.ensures.kept;
}
