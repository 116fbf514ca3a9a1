-- How often requests call the shelf.
use Rattle.std.proofs.Common.{◌≡◌, ℕ, Result, Ok, Err, MatchResult, sym, subst}
use Rattle.line_server.specs.Request.{Request}
use Rattle.history_lines.specs.Standing.{Standing}
use Rattle.history_lines.specs.Calls.{CallsShelf, MayCallShelf}

-- what is said of the calls of a line, answered or not
abbrev pub Called : {T E : Type 0} → Result T E → Standing → Request → (before after : ℕ) → Type 0
Called {T} {E} result standing request before after =
    MatchResult result (λ (t : T). CallsShelf standing request before after) (λ (e : E). MayCallShelf request before after)

-- a request of the code calls it as often as the plain one
pub called : {T E : Type 0} (result : Result T E) (standing : Standing) (asked real : Request) (before after : ℕ) → real ≡ asked
    → Called result standing asked before after → Called result standing real before after
called result standing asked real before after same h = subst (λ (it : Request). Called result standing it before after) (sym same) h

-- the same of one that says it of either
pub calls_alike : {T E : Type 0} (result : Result T E) (standing : Standing) (request : Request) (before after : ℕ)
    → CallsShelf standing request before after → MayCallShelf request before after → Called result standing request before after
calls_alike (Ok t) standing asked before after h k = h
calls_alike (Err e) standing asked before after h k = k
