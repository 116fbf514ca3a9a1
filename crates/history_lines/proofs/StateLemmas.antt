-- The text of a state, over the signature of the data and over what a session holds.
use Rattle.std.proofs.Common.{◌≡◌, ℕ, List, [], ◌++◌, codes, ◌∙◌}
use Rattle.lotos_base.specs.Signature.{Signature}
use Rattle.session_log.specs.HandedOn.{state_text, specification_of, state_of, Spec, State}
use Rattle.history_lines.proofs.TextPieces.{fresh_two}

pub state_here : (shown data_ : Signature) (given kept : Spec) (told reached : State) (start one after : List ℕ) → shown ≡ data_
    → given ≡ kept → told ≡ reached → start ≡ [] → one ≡ start ++ state_text shown (specification_of given) (state_of told)
    → after ≡ one ++ codes "\n" → after ≡ state_text data_ (specification_of kept) (state_of reached) ++ codes "\n"
state_here shown data_ given kept told reached start one after over same there none printed ended =
    fresh_two start (state_text shown (specification_of given) (state_of told)) (codes "\n") one after none printed ended
    ∙ (λ i. state_text (over i) (specification_of (same i)) (state_of (there i)) ++ codes "\n")
