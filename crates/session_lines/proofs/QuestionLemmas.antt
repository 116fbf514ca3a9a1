-- What comes of questions on terms.
use Rattle.std.proofs.Common.{◌≡◌, ℕ, List, [], ◌++◌, ap, subst, ◌∙◌}
use Rattle.lotos_base.specs.WrittenTerm.{WrittenTerm}
use Rattle.lotos_base.specs.Equation.{Data, Variable}
use Rattle.lotos_base.specs.Signature.{Signature}
use Rattle.lotos_base.specs.Sorting.{IsGround}
use Rattle.lotos_base.specs.Term.{Term}
use Rattle.lotos_grammar.specs.HandedOn.read_faults as fault
use Rattle.sort_terms.specs.ReadingOutcome as reading
use Rattle.sort_terms.specs.ReadingOutcome.{SortedPair, PairReadingIs, answered, IsPairReading}
use Rattle.sort_terms.specs.declared.sort_faults.SortFault.TheVariants as sort_fault
use Rattle.sort_terms.proofs.OutcomeLemmas.{read_ground, is_reading}
use Rattle.session_lines.specs.Refusal.{bad_command, bad_term}
use Rattle.session_lines.specs.Answer.{refuses, gives, IsNormalAnswer, IsComparison, normal_text, comparison_text}
use Rattle.session_lines.specs.View.{RefusesWith, AddsRefusal, AddsOutcome}
use Rattle.session_lines.specs.declared.refusals.Refusal.{Refusal as CodeRefusal}
use Rattle.session_lines.specs.declared.refusals.Refusal.TheVariants.{BadCommand, BadTerm, NoMemory}

-- ---- Terms that are read without variables are ground

pub pair_ground : (signature : Signature) (scope : List Variable) (left right : WrittenTerm) (pair : SortedPair) → scope ≡ []
    → PairReadingIs signature scope left right (answered pair) → IsGround pair.left × IsGround pair.right
pair_ground signature scope left right pair none is =
    let there : PairReadingIs signature [] left right (answered pair) =
    subst (λ (it : List Variable). PairReadingIs signature it left right (answered pair)) none is in
    let both : IsPairReading signature [] left right pair = is_reading _ _ (IsPairReading signature [] left right) pair there in
    (read_ground signature left pair.left pair.sort both.0, read_ground signature right pair.right pair.sort both.1)

-- ---- What was added

pub normal_refused : (signature : Signature) (canon : Term → Term) (text before after : List ℕ) (refusal : CodeRefusal)
    → RefusesWith (IsNormalAnswer signature canon text) refusal → AddsRefusal refusal before after
    → AddsOutcome (IsNormalAnswer signature canon text) (normal_text signature) before after
normal_refused signature canon text before after BadCommand is added = (refuses bad_command, is, added)
normal_refused signature canon text before after (BadTerm number) is added = (refuses (bad_term number), is, added)
normal_refused signature canon text before after NoMemory is added = absurd added

pub comparison_refused : (data_ : Data) (text before after : List ℕ) (refusal : CodeRefusal)
    → RefusesWith (IsComparison data_ text) refusal → AddsRefusal refusal before after
    → AddsOutcome (IsComparison data_ text) comparison_text before after
comparison_refused data_ text before after BadCommand is added = (refuses bad_command, is, added)
comparison_refused data_ text before after (BadTerm number) is added = (refuses (bad_term number), is, added)
comparison_refused data_ text before after NoMemory is added = absurd added

pub normal_given : (signature shown : Signature) (canon : Term → Term) (text before after : List ℕ) (form : Term) → shown ≡ signature
    → IsNormalAnswer signature canon text (gives form) → after ≡ before ++ normal_text shown (gives form)
    → AddsOutcome (IsNormalAnswer signature canon text) (normal_text signature) before after
normal_given signature shown canon text before after form same is added =
    (gives form, is, added ∙ ap (λ (it : Signature). before ++ normal_text it (gives form)) same)
