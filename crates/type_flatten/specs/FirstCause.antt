-- Which of several causes comes first.
use Rattle.std.specs.Prelude.{◌⊎◌, List, [], ◌∷◌, ◌++◌}

-- there is no fault by this cause
abbrev pub IsNowhere : {F : Type 0} → (F → Type 0) → Type 0
IsNowhere {F} Is = (fault : F) → ¬ Is fault

-- one cause, or where it is not there another one
abbrev pub OrElse : {F : Type 0} → (F → Type 0) → (F → Type 0) → F → Type 0
OrElse One Other fault = One fault ⊎ (IsNowhere One × Other fault)

-- On a way of steps, each of which has its causes where the steps before it led to: the first step with a cause has it.
pub data FirstAlong {F S D : Type 0} (Is : S → D → F → Type 0) (after : S → D → S) : S → List D → F → Type 0 where
  at_once : {state : S} {d : D} {ds : List D} {fault : F} → Is state d fault → FirstAlong Is after state (d ∷ ds) fault
  further_on : {state : S} {d : D} {ds : List D} {fault : F} →
      IsNowhere (Is state d) → FirstAlong Is after (after state d) ds fault → FirstAlong Is after state (d ∷ ds) fault

-- nothing changes on the way
abbrev pub stays : {S D : Type 0} → S → D → S
stays state d = state

-- each step is an earlier one from then on
abbrev pub and_also : {A : Type 0} → List A → A → List A
and_also earlier x = earlier ++ x ∷ []
