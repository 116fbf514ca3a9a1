-- What a table says of a written term: at each sort, how many readings it has and, where it has one, the head of that.
use Rattle.std.specs.Prelude.{◌≡◌, ℕ, Bool, true, false, List, Option, None, Some}
use Rattle.lotos_base.specs.WrittenTerm.{WrittenTerm, WrittenTerms, written, no_written, written_then}
use Rattle.lotos_base.specs.Signature.{Signature}
use Rattle.lotos_base.specs.Equation.{Variable as DeclaredVariable}
use Rattle.lotos_base.specs.Term.{Term, variable, node}
use Rattle.sort_terms.specs.Counting.{HasNone, IsOnly, HasTwo}
use Rattle.sort_terms.specs.Reading.{Reads}
use Rattle.sort_terms.specs.Tables.{Table, Tables, table, no_tables, table_then}
use Rattle.sort_terms.specs.declared.choices.Choice.{Choice}
use Rattle.sort_terms.specs.declared.choices.Source.{Source}
use Rattle.sort_terms.specs.declared.choices.Source.TheVariants.{Variable, Operation}

-- the head of a term
abbrev pub source_of : Term → Source
source_of (variable n s) = Variable n
source_of (node f ts) = Operation f

-- there are several terms with the property, or there is one, with this head
abbrev pub MeansSome : (Term → Type 0) → Source → Bool → Type 0
MeansSome IsAnswer source true = HasTwo IsAnswer
MeansSome IsAnswer source false = (t : Term) × IsOnly IsAnswer t × (source_of t ≡ source)

-- what is known of the terms with the property
abbrev pub Means : (Term → Type 0) → Option Choice → Type 0
Means IsAnswer None = HasNone IsAnswer
Means IsAnswer (Some choice) = MeansSome IsAnswer choice.source choice.several

abbrev mutual
  -- the table says so of the written term, and of its arguments
  pub Suits : Signature → List DeclaredVariable → WrittenTerm → Table → Type 0
  Suits signature scope (written head arguments) (table choices tables) =
      ((s : ℕ) → Means (λ t. Reads signature scope (written head arguments) t s) (choices s))
      × AllSuit signature scope arguments tables

  pub AllSuit : Signature → List DeclaredVariable → WrittenTerms → Tables → Type 0
  AllSuit signature scope no_written no_tables = Unit {0}
  AllSuit signature scope no_written (table_then t ts) = ⊥
  AllSuit signature scope (written_then w ws) no_tables = ⊥
  AllSuit signature scope (written_then w ws) (table_then t ts) = Suits signature scope w t × AllSuit signature scope ws ts
