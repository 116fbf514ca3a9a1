-- The answers of the check exclude one another, so each comes exactly where its cause holds.
use Rattle.std.proofs.Common.{◌≡◌, ℕ, refl, ap, subst, inl, inr}
use Rattle.std.specs.Prelude.{List, Result, Ok, Err, IsOk, ◌⊎◌}
use Rattle.std.proofs.lemmas.Bool.{cases_order}
use Rattle.ll_engine.specs.declared.fault.TableFault.{TableFault}
use Rattle.ll_engine.specs.declared.fault.TableFault.TheVariants.{Barren, LeftCycle, Conflict, NoMemory}
use Rattle.ll_engine.specs.declared.fault.ParseFault.{ParseFault}
use Rattle.ll_engine.specs.declared.fault.ParseFault.TheVariants as parse
use Rattle.ll_engine.specs.declared.grammar.Tree.{Tree}
use Rattle.ll_engine.specs.Language.{ContextFree, IsSentence, IsUnexpectedAt}
use Rattle.ll_engine.specs.Walk.{IsAnswer}
use Rattle.ll_engine.specs.Prediction.{IsBarren, IsLeftCyclic, IsConflict, IsPredictive, IsLeast, IsFirstBarren, IsFirstLeftCyclic, IsFirstConflict}
use Rattle.ll_engine.specs.Checked.{IsTableFaultOf, ExactlyWhere}
use Rattle.ll_engine.proofs.Walks.{IsUnexpectedAt-same}

abbrev Answer : Type 0
Answer = Result ContextFree TableFault

-- the least number is one
IsLeast-same : (P : ℕ → Type 0) (m n : ℕ) → IsLeast P m → IsLeast P n → m ≡ n
IsLeast-same P m n a b =
    elim (cases_order m n) [
      | inl same ↦ same
      | inr apart ↦ elim apart [ inl lt ↦ absurd (b.none_below m lt a.here) | inr gt ↦ absurd (a.none_below n gt b.here) ]
    ]

-- an answer that is another one, whose cause excludes this one's
Excluded : (cause : Type 0) (result answer : Answer) → (result ≡ answer → ⊥) → (cause → ⊥) → ExactlyWhere cause result answer (Err NoMemory)
Excluded cause result answer other never = record { only = λ e. absurd (other e); always = λ h. absurd (never h) }

Wanting : (cause : Type 0) (answer : Answer) → (Err NoMemory ≡ answer → ⊥) → ExactlyWhere cause (Err NoMemory) answer (Err NoMemory)
Wanting cause answer other = record { only = λ e. absurd (other e); always = λ h. inr refl }

module _ (g : ContextFree) where
  predictive-not_barren : IsPredictive g → (part : ℕ) → IsFirstBarren g part → ⊥
  predictive-not_barren predictive part barren = let tree = predictive.productive part barren.0 in barren.1.here tree.0 tree.1

  predictive-not_cyclic : IsPredictive g → (part : ℕ) → IsFirstLeftCyclic g part → ⊥
  predictive-not_cyclic predictive part cyclic = predictive.not_left_cyclic (part, cyclic.1, cyclic.2.here)

  predictive-not_conflict : IsPredictive g → (part token : ℕ) → IsFirstConflict g part token → ⊥
  predictive-not_conflict predictive part token conflict = predictive.no_conflict (part, conflict.2, (token, conflict.4.here))

  barren-not_cyclic : (p q : ℕ) → IsFirstBarren g p → IsFirstLeftCyclic g q → ⊥
  barren-not_cyclic p q barren cyclic = cyclic.0 (p, barren.0, barren.1.here)

  barren-not_conflict : (p q t : ℕ) → IsFirstBarren g p → IsFirstConflict g q t → ⊥
  barren-not_conflict p q t barren conflict = conflict.0 (p, barren.0, barren.1.here)

  cyclic-not_conflict : (p q t : ℕ) → IsFirstLeftCyclic g p → IsFirstConflict g q t → ⊥
  cyclic-not_conflict p q t cyclic conflict = conflict.1 (p, cyclic.1, cyclic.2.here)

  pub exact_barren-ok : (h : ContextFree) → IsPredictive g → (part : ℕ)
      → ExactlyWhere {A = Answer} (IsFirstBarren g part) (Ok h) (Err (Barren part)) (Err NoMemory)
  exact_barren-ok h predictive part = Excluded (IsFirstBarren g part) (Ok h) (Err (Barren part)) (λ e. cc)
      (predictive-not_barren predictive part)

  pub exact_ok-fault : (fault : TableFault) → IsTableFaultOf g fault
      → ExactlyWhere {A = Answer} (IsPredictive g) (Err fault) (Ok g) (Err NoMemory)
  exact_ok-fault (Barren p) is = Excluded (IsPredictive g) (Err (Barren p)) (Ok g) (λ e. cc)
      (λ predictive. predictive-not_barren predictive p is)
  exact_ok-fault (LeftCycle p) is = Excluded (IsPredictive g) (Err (LeftCycle p)) (Ok g) (λ e. cc)
      (λ predictive. predictive-not_cyclic predictive p is)
  exact_ok-fault (Conflict p t) is = Excluded (IsPredictive g) (Err (Conflict p t)) (Ok g) (λ e. cc)
      (λ predictive. predictive-not_conflict predictive p t is)
  exact_ok-fault NoMemory is = Wanting (IsPredictive g) (Ok g) (λ e. cc)

  pub exact_barren-fault : (fault : TableFault) → IsTableFaultOf g fault → (part : ℕ)
      → ExactlyWhere {A = Answer} (IsFirstBarren g part) (Err fault) (Err (Barren part)) (Err NoMemory)
  exact_barren-fault (Barren p) is part = record {
    only = λ e. let same : p ≡ part = cc in subst (IsFirstBarren g) same is;
    always = λ h. let same : p ≡ part = IsLeast-same (IsBarren g.rows) p part is.1 h.1 in inl (ap (λ (q : ℕ). Err (Barren q)) same);
  }
  exact_barren-fault (LeftCycle p) is part = Excluded (IsFirstBarren g part) (Err (LeftCycle p)) (Err (Barren part)) (λ e. cc)
      (λ h. barren-not_cyclic part p h is)
  exact_barren-fault (Conflict p t) is part = Excluded (IsFirstBarren g part) (Err (Conflict p t)) (Err (Barren part)) (λ e. cc)
      (λ h. barren-not_conflict part p t h is)
  exact_barren-fault NoMemory is part = Wanting (IsFirstBarren g part) (Err (Barren part)) (λ e. cc)

  pub exact_left_cycle-fault : (fault : TableFault) → IsTableFaultOf g fault → (part : ℕ)
      → ExactlyWhere {A = Answer} (IsFirstLeftCyclic g part) (Err fault) (Err (LeftCycle part)) (Err NoMemory)
  exact_left_cycle-fault (Barren p) is part = Excluded (IsFirstLeftCyclic g part) (Err (Barren p)) (Err (LeftCycle part)) (λ e. cc)
      (λ h. barren-not_cyclic p part is h)
  exact_left_cycle-fault (LeftCycle p) is part = record {
    only = λ e. let same : p ≡ part = cc in subst (IsFirstLeftCyclic g) same is;
    always = λ h. let same : p ≡ part = IsLeast-same (IsLeftCyclic g.rows) p part is.2 h.2 in inl (ap (λ (q : ℕ). Err (LeftCycle q)) same);
  }
  exact_left_cycle-fault (Conflict p t) is part = Excluded (IsFirstLeftCyclic g part) (Err (Conflict p t)) (Err (LeftCycle part)) (λ e. cc)
      (λ h. cyclic-not_conflict part p t h is)
  exact_left_cycle-fault NoMemory is part = Wanting (IsFirstLeftCyclic g part) (Err (LeftCycle part)) (λ e. cc)

  pub exact_conflict-fault : (fault : TableFault) → IsTableFaultOf g fault → (part token : ℕ) →
      ExactlyWhere {A = Answer} (IsFirstConflict g part token) (Err fault) (Err (Conflict part token)) (Err NoMemory)
  exact_conflict-fault (Barren p) is part token = Excluded (IsFirstConflict g part token) (Err (Barren p)) (Err (Conflict part token))
      (λ e. cc) (λ h. barren-not_conflict p part token is h)
  exact_conflict-fault (LeftCycle p) is part token = Excluded (IsFirstConflict g part token) (Err (LeftCycle p)) (Err (Conflict part token))
      (λ e. cc) (λ h. cyclic-not_conflict p part token is h)
  exact_conflict-fault (Conflict p t) is part token = record {
    only = λ e. let p_same : p ≡ part = cc in let t_same : t ≡ token =
        cc in subst (λ (u : ℕ). IsFirstConflict g part u) t_same (subst (λ (q : ℕ). IsFirstConflict g q t) p_same is);
    always = λ h.
        let p_same : p ≡ part = IsLeast-same (λ q. (u : ℕ) × IsConflict g q u) p part is.3 h.3 in
        let t_least : IsLeast (IsConflict g part) t = subst (λ (q : ℕ). IsLeast (IsConflict g q) t) p_same is.4 in
        let t_same : t ≡ token = IsLeast-same (IsConflict g part) t token t_least h.4 in
        inl (cc);
  }
  exact_conflict-fault NoMemory is part token = Wanting (IsFirstConflict g part token) (Err (Conflict part token)) (λ e. cc)

-- the same for the answers of the parser
abbrev Parsed : Type 0
Parsed = Result Tree ParseFault

pub exact_unexpected : (g : ContextFree) (list : List ℕ) (result : Parsed) → IsAnswer g list result → (at : ℕ) →
    ExactlyWhere {A = Parsed} (IsUnexpectedAt g list at) result (Err (parse.Unexpected at)) (Err parse.NoMemory)
exact_unexpected g list (Ok tree) is at = record {
  only = λ e. absurd (cc);
  always = λ h. absurd (h.no_sentence (is.0, is.1, is.2));
}
exact_unexpected g list (Err (parse.Unexpected place)) is at = record {
  only = λ e. let same : place ≡ at = cc in subst (IsUnexpectedAt g list) same is;
  always = λ h. let same = IsUnexpectedAt-same g list place at is h in inl (ap (λ (i : ℕ). Err (parse.Unexpected i)) same);
}
exact_unexpected g list (Err parse.NoMemory) is at = record { only = λ e. absurd (cc); always = λ h. inr refl }

pub sentence_is_ok : (g : ContextFree) (list : List ℕ) (result : Parsed) → IsAnswer g list result → IsSentence g list
    → IsOk result ⊎ (result ≡ Err parse.NoMemory)
sentence_is_ok g list (Ok tree) is sentence = inl refl
sentence_is_ok g list (Err (parse.Unexpected place)) is sentence = absurd (is.no_sentence sentence)
sentence_is_ok g list (Err parse.NoMemory) is sentence = inr refl
