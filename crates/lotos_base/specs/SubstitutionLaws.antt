-- Laws of substitutions: they compose, only variables that occur count, sorts are kept, paths are respected.
use Rattle.std.specs.Prelude.{◌≡◌, ◌↔◌, ℕ, List, Some, map}
use Rattle.lotos_base.specs.Signature.{Signature}
use Rattle.lotos_base.specs.Term.{Term, variable, Terms, list_of}
use Rattle.lotos_base.specs.Sorting.{HasSort, IsGround, IsGroundOf, Occurs}
use Rattle.lotos_base.specs.Path.{subterm, put_at}
use Rattle.lotos_base.specs.Substitution.{Substitution, substituted, all_substituted, followed_by, KeepsSorts, IsGrounding}

-- one substitution after another is their composition
abbrev pub SubstitutionsCompose : Type 0
SubstitutionsCompose = (first second : Substitution) (t : Term)
    → substituted second (substituted first t) ≡ substituted (followed_by first second) t

-- with each variable for itself a term stays as it is
abbrev pub VariablesStandForThemselves : Type 0
VariablesStandForThemselves = (t : Term) → substituted variable t ≡ t

-- two substitutions that agree on the variables that occur make one instance, whatever they give elsewhere
abbrev pub OnlyOccurringVariablesCount : Type 0
OnlyOccurringVariablesCount = (values others : Substitution) (t : Term)
    → ((n s : ℕ) → Occurs n s t → values n s ≡ others n s) → substituted values t ≡ substituted others t

-- a ground term stays as it is
abbrev pub GroundTermsStay : Type 0
GroundTermsStay = (values : Substitution) (t : Term) → IsGround t → substituted values t ≡ t

-- arguments are substituted one by one
abbrev pub ArgumentsAreSubstituted : Type 0
ArgumentsAreSubstituted = (values : Substitution) (ts : Terms)
    → list_of (all_substituted values ts) ≡ map (substituted values) (list_of ts)

-- an instance has the term's sort where each variable that occurs is given a term of its sort
abbrev pub InstancesKeepSorts : Type 0
InstancesKeepSorts = (signature : Signature) (values : Substitution) (t : Term) (sort : ℕ)
    → HasSort signature t sort → KeepsSorts signature t values → HasSort signature (substituted values t) sort

-- it is a ground term where each of them is given a ground term of its sort
abbrev pub GroundInstancesAreGround : Type 0
GroundInstancesAreGround = (signature : Signature) (values : Substitution) (t : Term) (sort : ℕ)
    → HasSort signature t sort → IsGrounding signature t values
    → IsGroundOf signature sort (substituted values t)

-- a variable occurs in an instance exactly where it occurs in what is put for a variable that occurs
abbrev pub InstanceVariablesComeFromValues : Type 0
InstanceVariablesComeFromValues = (n s : ℕ) (values : Substitution) (t : Term)
    → Occurs n s (substituted values t) ↔ ((m : ℕ) × (r : ℕ) × Occurs m r t × Occurs n s (values m r))

-- the subterm of an instance is the instance of the subterm
abbrev pub SubtermsAreSubstituted : Type 0
SubtermsAreSubstituted = (path : List ℕ) (values : Substitution) (t part : Term) → subterm path t ≡ Some part
    → subterm path (substituted values t) ≡ Some (substituted values part)

-- a replacement in an instance is the instance of the replacement
abbrev pub ReplacementsAreSubstituted : Type 0
ReplacementsAreSubstituted = (path : List ℕ) (values : Substitution) (part t whole : Term)
    → put_at path part t ≡ Some whole
    → put_at path (substituted values part) (substituted values t) ≡ Some (substituted values whole)
