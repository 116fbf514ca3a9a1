-- The drafts of the copies of a gate `par`.
use Rattle.std.specs.Prelude.{ℕ, List, [], ◌∷◌, map, zip}
use Rattle.behaviour_semantics.specs.Behaviour.{Relabelling}
use Rattle.behaviour_semantics.specs.Draft as plain
use Rattle.behaviour_semantics.specs.Label.{gate_under}
use Rattle.behaviour_semantics.specs.Shape.{called, relabelled}
use Rattle.draft_parts.specs.HasDrafts.{all_relabelled}

-- the drafts of the copies, each relabelled by one gate of the list
abbrev pub copied : ℕ → List ℕ → List plain.Draft → List (List plain.Draft)
copied g gates drafts = map (λ (a : ℕ). all_relabelled relabelled ((g, a) ∷ []) drafts) gates

-- the relabelling of a call whose actual gates are relabelled
abbrev pub call_pairs : List ℕ → List ℕ → Relabelling → Relabelling
call_pairs formals actuals pairs = zip formals (map (gate_under pairs) actuals)

-- the drafts of the copies of a call
abbrev pub calls_copied : ℕ → List ℕ → List ℕ → List ℕ → List plain.Draft → List (List plain.Draft)
calls_copied g gates formals actuals drafts =
    map (λ (a : ℕ). all_relabelled called (call_pairs formals actuals ((g, a) ∷ [])) drafts) gates
