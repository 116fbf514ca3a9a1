-- Whether a library is among those that were read, one after another.
use Rattle.std.proofs.Common.{
  ◌≡◌,
  ℕ,
  suc,
  ◌+◌,
  ◌<◌,
  ◌≤◌,
  Bool,
  true,
  false,
  ◌||◌,
  List,
  [],
  ◌∷◌,
  length,
  get_or,
  map,
  drop,
  refl,
  ap,
  sym,
  ◌∙◌,
  arith,
}
use Rattle.std.specs.Prelude.{◌↔◌, IsTrue}
use Rattle.std.specs.Str.{bytes_eq}
use Rattle.std.proofs.Math.ListN.{drop_of_length-le}
use Rattle.std.proofs.lemmas.Slice.Eq.{bytes_eq-Decides}
use Rattle.lotos_base.proofs.Pieces.{next_member}
use Rattle.lotos_base.specs.Name.{spelling, AreSame}
use Rattle.lotos_base.specs.declared.names.Name.{Name}
use Rattle.lotos_base.specs.Names.{folded}
use Rattle.lotos_grammar.specs.Gathering.{is_read}

same_name : (name other : Name) (b : Bool) → IsTrue b ↔ AreSame name other → b ≡ bytes_eq (folded (spelling name)) (folded (spelling other))
same_name name other true told = sym ((bytes_eq-Decides (folded (spelling name)) (folded (spelling other))).1 (told.0 refl))
same_name name other false told = go (bytes_eq (folded (spelling name)) (folded (spelling other))) refl
  where
    go : (b : Bool) → bytes_eq (folded (spelling name)) (folded (spelling other)) ≡ b → false ≡ bytes_eq (folded (spelling name)) (folded
        (spelling other))
    go false e = sym e
    go true e = told.1 ((bytes_eq-Decides (folded (spelling name)) (folded (spelling other))).0 e) ∙ sym e

-- this library has the name
pub read_here : (libraries : List Name) (i : ℕ) (name library : Name) (b : Bool) → i < length libraries → library ≡ get_or libraries i
    library →
    IsTrue b ↔ AreSame name library → b ≡ true → is_read (map spelling (drop i libraries)) (spelling name) ≡ true
read_here libraries i name library b within is told is_one =
    ap (λ xs. is_read (map spelling xs) (spelling name)) (next_member libraries i library within is)
    ∙ ap (λ here. here || is_read (map spelling (drop (i + 1) libraries)) (spelling name)) (sym (same_name name library b told) ∙ is_one)

-- this library has another one
pub read_later : (libraries : List Name) (i : ℕ) (name library : Name) (b : Bool) → i < length libraries → library ≡ get_or libraries i
    library →
    IsTrue b ↔ AreSame name library → b ≡ false →
    is_read (map spelling (drop (i + 1) libraries)) (spelling name) ≡ is_read (map spelling (drop i libraries)) (spelling name)
read_later libraries i name library b within is told is_other =
    sym (ap (λ xs. is_read (map spelling xs) (spelling name)) (next_member libraries i library within is)
    ∙ ap (λ here. here || is_read (map spelling (drop (i + 1) libraries)) (spelling name)) (sym (same_name name library b told) ∙ is_other))

-- no library is left
pub none_left : (libraries : List Name) (i : ℕ) (name : Name) → length libraries ≤ i → is_read (map spelling (drop i libraries)) (spelling
    name) ≡ false
none_left libraries i name past = ap (λ xs. is_read (map spelling xs) (spelling name)) (drop_of_length-le libraries past)
