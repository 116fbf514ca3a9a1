-- That the results of operations tell which operations are their twins.
use Rattle.std.specs.Prelude.{◌≡◌, ℕ, Bool, List, Option, Vec}
use Rattle.std.specs.declared.alloc.Global.{Global}
use Rattle.std.specs.List.{list_any}
use Rattle.std.specs.Str.{bytes_eq}
use Rattle.indexmap.specs.IndexMap.{get}
use Rattle.lotos_base.specs.Signature.{Operation}
use Rattle.lotos_base.specs.Twins.{are_twins}
use Rattle.type_presentations.specs.Keys.{twin_key}
use Rattle.type_equations.specs.OtherResults.{has_other}
use Rattle.type_equations.specs.declared.twins.ResultsByKey.{ResultsByKey}

-- what is known under a key
abbrev pub known_under : ResultsByKey → Vec ℕ Global → Option (Option ℕ)
known_under results key = get (λ one other. bytes_eq one.items other.items) results.by_key key

-- An operation has a twin among these operations exactly where a result other than its own is known under its key.
abbrev pub TellTwins : List Operation → ResultsByKey → Type 0
TellTwins operations results =
    (key : Vec ℕ Global) (operation : Operation) → key.items ≡ twin_key operation
    → has_other (known_under results key) operation.result ≡ list_any (are_twins operation) operations
