-- Values that are read are nested as deep as what is written, so that none is too deep where no node of this is.
use Rattle.std.proofs.Common.{ℕ, ◌≤◌, List, [], ◌∷◌, arith}
use Rattle.std.specs.Prelude.{Some}
use Rattle.lotos_base.specs.Signature.{Signature}
use Rattle.lotos_base.specs.Term.{Term}
use Rattle.lotos_base.specs.WrittenTerm.{WrittenTerm, written}
use Rattle.syntax_trees.specs.Depth.{nodes_of_term, nodes_of_terms}
use Rattle.sort_terms.specs.ReadingOutcome.{unknown_in, IsReading}
use Rattle.behaviour_semantics.specs.WellFormed.{Every}
use Rattle.sort_terms.proofs.OutcomeLemmas.{is_reading}
use Rattle.session_histories.specs.Replay.{AreRead}
use Rattle.session_laws.specs.TermDepth.{term_depth}
use Rattle.session_laws.proofs.DepthLemmas.{IsShallow}
use Rattle.session_laws.proofs.TermReadDepths.{shallow_parts, term_within}

value_within : (signature : Signature) (limit sort : ℕ) (w : WrittenTerm) (t : Term)
    → AreRead signature (sort ∷ []) (w ∷ []) (t ∷ []) → IsShallow limit (nodes_of_term w) → term_depth t ≤ limit
value_within signature limit sort (written head ws) t read none =
    let is : IsReading signature [] (written head ws) (Some sort) (record { term = t; sort = sort }) =
    is_reading (unknown_in signature [] (written head ws)) head.place (IsReading signature [] (written head ws) (Some sort))
    (record { term = t; sort = sort }) read.0 in
    let deep = term_within signature [] limit 1 (written head ws) t sort is.0 none in
    omega (arith, deep)

pub values_within : (signature : Signature) (limit : ℕ) (sorts : List ℕ) (ws : List WrittenTerm) (ts : List Term)
    → AreRead signature sorts ws ts → IsShallow limit (nodes_of_terms ws) → Every (λ (t : Term). term_depth t ≤ limit) ts
values_within signature limit [] [] [] read none = tt
values_within signature limit [] [] (t ∷ ts) read none = absurd read
values_within signature limit [] (w ∷ ws) ts read none = absurd read
values_within signature limit (sort ∷ sorts) [] ts read none = absurd read
values_within signature limit (sort ∷ sorts) (w ∷ ws) [] read none = absurd read
values_within signature limit (sort ∷ sorts) (w ∷ ws) (t ∷ ts) read none =
    let parts = shallow_parts limit (nodes_of_term w) (nodes_of_terms ws) none in
    (value_within signature limit sort w t (read.0, tt) parts.0, values_within signature limit sorts ws ts read.1 parts.1)
