-- The normal forms of the data of what was accepted.
use Rattle.std.specs.Prelude.{List}
use Rattle.lotos_base.specs.Term.{Term}
use Rattle.command_words.specs.HandedOn.{IsOpenedBy, Precedence, NumberedRule, rules_of, Chooses, Acceptance}

-- the normal forms are those by the rules that the order's items make of the equations
abbrev pub AreNormalForms : Acceptance → (Term → Term) → Type 0
AreNormalForms acceptance canon =
    (precedence : Precedence) × (rules : List NumberedRule) × IsOpenedBy acceptance.items acceptance.data_ precedence rules
    × Chooses (rules_of rules) canon
