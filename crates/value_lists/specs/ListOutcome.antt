-- What the lines of a session that ask for lists come to: the values of a sort up to a size, and the instances of an entry by
-- such values. A value is a ground term in canonical form.
use Rattle.std.specs.Prelude.{◌≡◌, ◌⊎◌, ◌↔◌, ◌<◌, ◌≤◌, ℕ, List, [], ◌∷◌, length, map, Some, None}
use Rattle.std.specs.List.{AllPairs, Contains}
use Rattle.lotos_base.specs.Signature.{Signature}
use Rattle.lotos_base.specs.Term.{Term}
use Rattle.behaviour_semantics.specs.Menu.{Meets}
use Rattle.behaviour_semantics.specs.Solving.{Entry}
use Rattle.sort_terms.specs.Reading.{IsSortNamed}
use Rattle.session_histories.specs.Refusal.{entry_numbered}
use Rattle.session_histories.specs.Session.{SessionBasis}
use Rattle.value_lists.specs.Tuples.{IsTuple, TupleBefore, tuple_count}
use Rattle.value_lists.specs.ValueList.{IsValueList, AreValueLists, HasMoreValues, HasUpToValues}
use Rattle.value_lists.specs.declared.limits.TheConstants.{MAX_VALUES, MAX_INSTANCES}

-- Why there is no list: no sort has the name; the menu, which has so many entries, has none with this number; there are too
-- many values, or too many ways to choose them.
pub data ListRefusal : Type 0 where
  no_sort : (name : List ℕ) → ListRefusal
  no_entry : (number count : ℕ) → ListRefusal
  too_many_values too_many_instances : ListRefusal

-- a list, or a refusal
pub data ListOutcome (A : Type 0) : Type 0 where
  listed : A → ListOutcome A
  refused : ListRefusal → ListOutcome A

-- The term is its own canonical form.
abbrev pub IsOwnForm : SessionBasis → Term → Type 0
IsOwnForm basis t = basis.canon t ≡ t

-- The list of the values of the sort with at most so many operations.
abbrev pub IsListOf : SessionBasis → (size sort : ℕ) → List Term → Type 0
IsListOf basis size sort terms = IsValueList basis.data_.signature (IsOwnForm basis) size sort terms

-- Over all sorts there are more than 2,000 values with at most so many operations, or there are not.
abbrev pub HasTooMany : SessionBasis → (size : ℕ) → Type 0
HasTooMany basis size = HasMoreValues basis.data_.signature (IsOwnForm basis) size MAX_VALUES

abbrev pub HasFew : SessionBasis → (size : ℕ) → Type 0
HasFew basis size = HasUpToValues basis.data_.signature (IsOwnForm basis) size MAX_VALUES

-- ---- Values

-- What is asked of the values of the sort with this name and with at most so many operations. First the name is looked at, then
-- the number of values over all sorts.
pub data ValuesComeTo (basis : SessionBasis) (name : List ℕ) (size : ℕ) : ListOutcome (List Term) → Type 0 where
  has_no_sort :
      ((sort : ℕ) → ¬ IsSortNamed basis.data_.signature sort name) →
      ValuesComeTo basis name size (refused (no_sort name))
  has_too_many :
      (sort : ℕ) →
      IsSortNamed basis.data_.signature sort name →
      HasTooMany basis size →
      ValuesComeTo basis name size (refused too_many_values)
  has_values :
      (sort : ℕ) (terms : List Term) →
      IsSortNamed basis.data_.signature sort name →
      HasFew basis size →
      IsListOf basis size sort terms →
      ValuesComeTo basis name size (listed terms)

-- ---- Instances

-- There is a list for each sort, of its values with at most so many operations.
abbrev pub AreListsOf : SessionBasis → (size : ℕ) → List ℕ → List (List Term) → Type 0
AreListsOf basis size sorts choices = AreValueLists basis.data_.signature (IsOwnForm basis) size sorts choices

-- An instance of an entry: values for its variables, from these lists, that meet its conditions.
abbrev pub IsEntryInstance : SessionBasis → Entry → List (List Term) → List Term → Type 0
IsEntryInstance basis entry choices values = IsTuple choices values × Meets basis.data_ entry values

-- The list has exactly the instances, the first variable changing slowest.
pub record IsInstanceList (basis : SessionBasis) (entry : Entry) (choices tuples : List (List Term)) : Type 0 where
  pub exactly : (values : List Term) → Contains tuples values ↔ IsEntryInstance basis entry choices values
  pub rising : AllPairs (TupleBefore choices) tuples

-- The number of values over all sorts is looked at only where the entry has a variable.
abbrev pub MayChoose : SessionBasis → (size : ℕ) → Entry → Type 0
MayChoose basis size entry = (entry.variables ≡ []) ⊎ HasFew basis size

-- an entry with its instances
pub record EntryInstances : Type 0 where
  pub entry : Entry
  pub tuples : List (List Term)

-- What is asked of the instances of the entry with this number by values with at most so many operations. First the number is
-- looked at, then the number of values over all sorts, then that of the ways to choose some for all variables.
pub data InstancesComeTo (basis : SessionBasis) (menu : List Entry) (number size : ℕ) : ListOutcome EntryInstances → Type 0 where
  has_no_entry :
      entry_numbered menu number ≡ None →
      InstancesComeTo basis menu number size (refused (no_entry number (length menu)))
  has_too_many_values :
      (entry : Entry) →
      entry_numbered menu number ≡ Some entry →
      0 < length entry.variables →
      HasTooMany basis size →
      InstancesComeTo basis menu number size (refused too_many_values)
  has_too_many_instances :
      (entry : Entry) (choices : List (List Term)) →
      entry_numbered menu number ≡ Some entry →
      MayChoose basis size entry →
      AreListsOf basis size entry.variables choices →
      MAX_INSTANCES < tuple_count choices →
      InstancesComeTo basis menu number size (refused too_many_instances)
  has_instances :
      (entry : Entry) (choices tuples : List (List Term)) →
      entry_numbered menu number ≡ Some entry →
      MayChoose basis size entry →
      AreListsOf basis size entry.variables choices →
      tuple_count choices ≤ MAX_INSTANCES →
      IsInstanceList basis entry choices tuples →
      InstancesComeTo basis menu number size (listed (record { entry = entry; tuples = tuples }))
