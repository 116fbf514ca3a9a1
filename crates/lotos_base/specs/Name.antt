-- Names: their spelling, and when two of them are one.
use Rattle.std.specs.Prelude.{ℕ, List}
pub use Rattle.lotos_base.specs.Names.{folded, AreOneName}
use Rattle.lotos_base.specs.declared.names.Name.{Name}

-- the bytes of a name as it was spelled
abbrev pub spelling : Name → List ℕ
spelling name = name.spelled.items

-- two names are one name
abbrev pub AreSame : Name → Name → Type 0
AreSame one other = AreOneName (spelling one) (spelling other)
