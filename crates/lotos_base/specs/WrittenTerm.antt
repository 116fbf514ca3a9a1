-- Terms as they are written, before any sort is known, and what an order file lists, as plain values.
use Rattle.std.specs.Prelude.{ℕ, List, [], ◌∷◌, Option}
use Rattle.lotos_base.specs.Equation.{Place}
use Rattle.lotos_base.specs.Signature.{Form}

-- a name with the place where it stands
pub record PlacedName : Type 0 where
  pub place : Place
  pub name : List ℕ

-- what is written at one node of a term: the place and the spelling of its name, whether the name stands
-- before its arguments or between two of them, and each sort that an `of` put on it, inner brackets first
pub record WrittenHead : Type 0 where
  pub place : Place
  pub name : List ℕ
  pub form : Form
  pub sorts : List PlacedName

-- a type cannot hold a list of itself, so a term and its list of arguments are declared together
mutual
  -- a term as it is written: what stands at its node, and its arguments in text order
  pub data WrittenTerm : Type 0 where
    written : WrittenHead → WrittenTerms → WrittenTerm

  -- a list of written terms: the end, or one more term before the rest
  pub data WrittenTerms : Type 0 where
    no_written : WrittenTerms
    written_then : WrittenTerm → WrittenTerms → WrittenTerms

-- the argument list with the members of a list
abbrev pub written_terms : List WrittenTerm → WrittenTerms
written_terms [] = no_written
written_terms (term ∷ terms) = written_then term (written_terms terms)

-- the list of the members of an argument list
abbrev pub written_list : WrittenTerms → List WrittenTerm
written_list no_written = []
written_list (written_then term terms) = term ∷ written_list terms

-- what stands at the node of a written term
abbrev pub written_head : WrittenTerm → WrittenHead
written_head (written head _) = head

-- the arguments of a written term in text order
abbrev pub written_arguments : WrittenTerm → List WrittenTerm
written_arguments (written _ arguments) = written_list arguments

-- the argument sorts and the result sort of an operation, by name
pub record WrittenProfile : Type 0 where
  pub arguments : List (List ℕ)
  pub result : List ℕ

-- an operation as an order file lists it: the place and the spelling of its name, whether it was listed as `f`
-- or as `_f_`, its profile where one was given, and the name of its status where one was written
pub record ListedOperation : Type 0 where
  pub place : Place
  pub name : List ℕ
  pub form : Form
  pub profile : Option WrittenProfile
  pub status : Option PlacedName
