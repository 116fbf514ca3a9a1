-- Signatures: the sorts and operations of ISO 8807's data part. A name is the list of its bytes as it was first
-- spelled; sorts and operations are known by their numbers, which are their positions in the signature, from 0.
use Rattle.std.specs.Prelude.{◌≡◌, ◌<◌, ℕ, List, Some, slice_get, length}
use Rattle.lotos_base.specs.Names.{AreOneName}

-- A sort. Its origin is the name of the type that declared it.
pub record Sort : Type 0 where
  pub name : List ℕ
  pub origin : List ℕ

-- How an operation is written: before its arguments, as `Succ(x)`, or between two of them, as `x + y`.
pub data Form : Type 0 where
  prefix_form infix_form : Form

-- An operation with the sorts of its arguments and of its result. Its origin is the type that declared it.
pub record Operation : Type 0 where
  pub name : List ℕ
  pub form : Form
  pub arguments : List ℕ
  pub result : ℕ
  pub origin : List ℕ

-- A signature lists its sorts and its operations.
pub record Signature : Type 0 where
  pub sorts : List Sort
  pub operations : List Operation

-- The number is that of a sort of the signature.
abbrev pub IsSort : Signature → ℕ → Type 0
IsSort signature sort = sort < length signature.sorts

-- The operation stands in the signature at this number.
abbrev pub IsOperation : Signature → ℕ → Operation → Type 0
IsOperation signature number operation = slice_get signature.operations number ≡ Some operation

-- A signature is well formed: its profiles name sorts that it has, no two of its sorts have one name, and no two
-- of its operations have one name, form and profile. Spellings that differ in letter case alone are one name.
pub record IsWellFormedSignature (signature : Signature) : Type 0 where
  pub results : (f : ℕ) (o : Operation) → IsOperation signature f o → IsSort signature o.result
  pub arguments : (f i s : ℕ) (o : Operation) → IsOperation signature f o → slice_get o.arguments i ≡ Some s
      → IsSort signature s
  pub sort_names : (i j : ℕ) (s t : Sort) → slice_get signature.sorts i ≡ Some s
      → slice_get signature.sorts j ≡ Some t → AreOneName s.name t.name → i ≡ j
  pub profiles : (f g : ℕ) (o p : Operation) → IsOperation signature f o → IsOperation signature g p
      → AreOneName o.name p.name → o.form ≡ p.form → o.arguments ≡ p.arguments → o.result ≡ p.result → f ≡ g
