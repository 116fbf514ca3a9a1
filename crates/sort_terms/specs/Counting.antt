-- How many answers a question has: none, exactly one, or two or more.
use Rattle.std.specs.Prelude.{◌≡◌}

module _ {A : Type 0} (IsAnswer : A → Type 0) where
  -- no answer
  abbrev pub HasNone : Type 0
  HasNone = (x : A) → ¬ IsAnswer x

  -- this answer and no other
  pub record IsOnly (x : A) : Type 0 where
    pub is_answer : IsAnswer x
    pub only : (y : A) → IsAnswer y → y ≡ x

  -- two different answers
  pub record HasTwo : Type 0 where
    pub one : A
    pub other : A
    pub one_is : IsAnswer one
    pub other_is : IsAnswer other
    pub differ : ¬ (one ≡ other)
