-- The sort that the head of a term gives it.
use Rattle.std.proofs.Common.{◌≡◌, ℕ, List, slice_get, ap, sym, ◌∙◌}
use Rattle.std.specs.Prelude.{Option}
use Rattle.std.specs.Option.{option_map}
use Rattle.std.specs.declared.alloc.Global.{Global}
use Rattle.std.specs.declared.rc.Rc.{Rc}
use Rattle.lotos_base.specs.Signature.{Operation}
use Rattle.lotos_base.specs.Sorting.{head_sort_of}
use Rattle.sort_terms.specs.ProfiledTerm.{ProfiledTerm, ProfiledTerms, bare}
use Rattle.sort_terms.specs.SignatureView.{signature_of}
use Rattle.sort_terms.specs.TermView.{term_of}
use Rattle.sort_terms.specs.declared.operations.Op.{Op}
use Rattle.sort_terms.specs.declared.signatures.Signature.{Signature}
use Rattle.sort_terms.specs.declared.terms.Term.{Term}
use Rattle.sort_terms.specs.declared.terms.Term.TheVariants.{Node}
use Rattle.sort_terms.proofs.BuiltLists.{profiled_Node}

pub node_sort : (signature : Signature) (term : Term) (f : ℕ) (profile : Rc Op Global) (arguments : ProfiledTerms)
    (found : Option Operation) → term ≡ Node f profile arguments → found ≡ slice_get (signature_of signature).operations f
    → head_sort_of (signature_of signature) (term_of term) ≡ option_map (λ (o : Operation). o.result) found
node_sort signature term f profile arguments found is at =
    ap (λ (t : Term). head_sort_of (signature_of signature) (term_of t)) is
    ∙ ap (λ (t : ProfiledTerm). head_sort_of (signature_of signature) (bare t)) (profiled_Node f profile arguments)
    ∙ ap (option_map (λ (o : Operation). o.result)) (sym at)
