use Rattle.std.proofs.Common.{nat_eq, ◌%◌, ap, ◌∙◌}
use Rattle.std.specs.Int.{bit_at}
use Rattle.sort_terms.specs.ProfiledTerm.{bare}
use Rattle.sort_terms.specs.TermView.{term_of}
use Rattle.sort_terms.specs.declared.terms.Term.{Term}
use Rattle.term_store.specs.Heads.{has_head_bit}
use Rattle.term_store.proofs.HeadLemmas.{head_has_bit}
use Rattle.sort_terms.proofs.BuiltLists.{profiled_Node}
use Rattle.term_store.proofs.heads.head_of.Goals as goal

pub returns-in-Node : goal.returns-in-Node
returns-in-Node c =
    ap (λ (t : Term). has_head_bit c.head_bit.result (term_of t)) c.in-Node.is
    ∙ ap (λ t. has_head_bit c.head_bit.result (bare t)) (profiled_Node c.in-Node.op c.in-Node.profile c.in-Node.arguments)
    ∙ ap (λ bits. nat_eq (bit_at bits (c.in-Node.op % 64)) 1) c.head_bit.ensures ∙ head_has_bit c.in-Node.op
