use Rattle.std.proofs.Common.{List, sym, subst, ap, map, ◌∙◌}
use Rattle.rewriting_theory.specs.Rewriting.{AreConfluent}
use Rattle.rewriting_theory.specs.Orientation.{NumberedRule, rules_of}
use Rattle.sort_terms.specs.Operations.{operation_of}
use Rattle.sort_terms.specs.declared.operations.Op.{Op}
use Rattle.sort_terms.specs.declared.signatures.Signature.{Signature}
use Rattle.term_store.proofs.StoreLemmas.{empty_sound}
use Rattle.term_store.proofs.store.Store.open.Goals as goal

pub invariant_of-result : goal.invariant_of-result
invariant_of-result c = record {
  confluent = subst (λ (rules : List NumberedRule). ∥ AreConfluent (rules_of rules) ∥₁) (sym c.in_ok-rules.ensures.rules) c.requires;
  indexed = c.in_ok-index.ensures;
  sound = empty_sound c.in_ok-rules.rules c.new.result c.new.ensures.terms c.new.ensures.kept;
  headed = c.heads_of-heads.ensures;
  profiled =
      c.in_ok-profiles.ensures ∙ ap (λ (ops : List Op). map operation_of ops) c.ops.ensures
      ∙ ap (λ (signature : Signature). map operation_of signature.ops.items) c.signature.ensures;
}
