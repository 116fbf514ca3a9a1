-- A refusal with what is known of the specification by then: when its text is read, when its libraries are, when its types are
-- flattened, and when its scopes are resolved.
use Rattle.std.specs.Prelude.{ℕ, List, [], None, Some}
use Rattle.lotos_base.specs.Equation.{Data}
use Rattle.behaviour_semantics.specs.Behaviour.{Specification}
use Rattle.refusal_lines.specs.Refusal.{Refusal, Refused}

abbrev pub at_first : Refusal → Refused
at_first refusal = record { refusal = refusal; libraries = []; data_ = None; spec = None }

abbrev pub with_libraries : List (List ℕ) → Refusal → Refused
with_libraries libraries refusal = record { refusal = refusal; libraries = libraries; data_ = None; spec = None }

abbrev pub with_data : List (List ℕ) → Data → Refusal → Refused
with_data libraries data_ refusal = record { refusal = refusal; libraries = libraries; data_ = Some data_; spec = None }

abbrev pub with_spec : List (List ℕ) → Data → Specification → Refusal → Refused
with_spec libraries data_ spec refusal =
    record { refusal = refusal; libraries = libraries; data_ = Some data_; spec = Some spec }
