-- Equal values, equal labels and labels that agree: turned round and put together.
use Rattle.std.proofs.Common.{ℕ, List, [], ◌∷◌, refl, sym, ◌∙◌, subst}
use Rattle.lotos_base.specs.Term.{Term}
use Rattle.lotos_base.specs.Equation.{Data}
use Rattle.lotos_base.specs.Equality.{same_term}
use Rattle.lotos_base.proofs.EqualityLemmas.{equal_then, equal_back}
use Rattle.behaviour_semantics.specs.Behaviour.{Specification}
use Rattle.behaviour_semantics.specs.Label.{Label, inner_event, gate_event, exit_event}
use Rattle.behaviour_semantics.specs.Menu.{EqualTerms, EqualLabels}
use Rattle.certificate_theory.specs.Agreement.{AreOneGate, AgreeingLabels}

module _ (data_ : Data) where
  pub terms_itself : (ts : List Term) → EqualTerms data_ ts ts
  terms_itself [] = tt
  terms_itself (t ∷ ts) = (same_term t, terms_itself ts)

  pub terms_back : (ts us : List Term) → EqualTerms data_ ts us → EqualTerms data_ us ts
  terms_back [] [] same = tt
  terms_back (t ∷ ts) (u ∷ us) same = (equal_back same.0, terms_back ts us same.1)
  terms_back [] (u ∷ us) same = absurd same
  terms_back (t ∷ ts) [] same = absurd same

  pub terms_then : (ts us vs : List Term) → EqualTerms data_ ts us → EqualTerms data_ us vs → EqualTerms data_ ts vs
  terms_then [] [] vs same more = more
  terms_then (t ∷ ts) (u ∷ us) (v ∷ vs) same more = (equal_then same.0 more.0, terms_then ts us vs same.1 more.1)
  terms_then (t ∷ ts) (u ∷ us) [] same more = absurd more
  terms_then [] (u ∷ us) vs same more = absurd same
  terms_then (t ∷ ts) [] vs same more = absurd same

  pub labels_itself : (label : Label) → EqualLabels data_ label label
  labels_itself inner_event = tt
  labels_itself (gate_event g us) = (refl, terms_itself us)
  labels_itself (exit_event us) = terms_itself us

  pub labels_then : (label other another : Label) → EqualLabels data_ label other → EqualLabels data_ other another
      → EqualLabels data_ label another
  labels_then inner_event inner_event another same more = more
  labels_then (gate_event g us) (gate_event h vs) (gate_event k ws) same more = (same.0 ∙ more.0, terms_then us vs ws same.1 more.1)
  labels_then (exit_event us) (exit_event vs) (exit_event ws) same more = terms_then us vs ws same more
  labels_then (gate_event g us) (gate_event h vs) inner_event same more = absurd more
  labels_then (gate_event g us) (gate_event h vs) (exit_event ws) same more = absurd more
  labels_then (exit_event us) (exit_event vs) inner_event same more = absurd more
  labels_then (exit_event us) (exit_event vs) (gate_event k ws) same more = absurd more
  labels_then inner_event (gate_event h vs) another same more = absurd same
  labels_then inner_event (exit_event vs) another same more = absurd same
  labels_then (gate_event g us) inner_event another same more = absurd same
  labels_then (gate_event g us) (exit_event vs) another same more = absurd same
  labels_then (exit_event us) inner_event another same more = absurd same
  labels_then (exit_event us) (gate_event h vs) another same more = absurd same

  pub labels_back : (label other : Label) → EqualLabels data_ label other → EqualLabels data_ other label
  labels_back inner_event inner_event same = tt
  labels_back (gate_event g us) (gate_event h vs) same = (sym same.0, terms_back us vs same.1)
  labels_back (exit_event us) (exit_event vs) same = terms_back us vs same
  labels_back inner_event (gate_event h vs) same = absurd same
  labels_back inner_event (exit_event vs) same = absurd same
  labels_back (gate_event g us) inner_event same = absurd same
  labels_back (gate_event g us) (exit_event vs) same = absurd same
  labels_back (exit_event us) inner_event same = absurd same
  labels_back (exit_event us) (gate_event h vs) same = absurd same

  module _ (one other : Specification) where
    gates_back : (g h : ℕ) → AreOneGate one other g h → AreOneGate other one h g
    gates_back g h same = record {
      name = same.other_name;
      other_name = same.name;
      named = same.other_named;
      other_named = same.named;
      same = sym same.same;
    }

    pub agree_back : (label answer : Label) → AgreeingLabels data_ one other label answer → AgreeingLabels data_ other one answer label
    agree_back inner_event inner_event agree = tt
    agree_back (gate_event g us) (gate_event h vs) agree = (gates_back g h agree.0, terms_back us vs agree.1)
    agree_back (exit_event us) (exit_event vs) agree = terms_back us vs agree
    agree_back inner_event (gate_event h vs) agree = absurd agree
    agree_back inner_event (exit_event vs) agree = absurd agree
    agree_back (gate_event g us) inner_event agree = absurd agree
    agree_back (gate_event g us) (exit_event vs) agree = absurd agree
    agree_back (exit_event us) inner_event agree = absurd agree
    agree_back (exit_event us) (gate_event h vs) agree = absurd agree

    -- A label that equals one that agrees with the answer agrees with it too.
    pub agree_first : (label equal answer : Label) → EqualLabels data_ label equal → AgreeingLabels data_ one other equal answer
        → AgreeingLabels data_ one other label answer
    agree_first inner_event inner_event answer same agree = agree
    agree_first (gate_event g us) (gate_event h vs) (gate_event k ws) same agree =
        (subst (λ (n : ℕ). AreOneGate one other n k) (sym same.0) agree.0, terms_then us vs ws same.1 agree.1)
    agree_first (exit_event us) (exit_event vs) (exit_event ws) same agree = terms_then us vs ws same agree
    agree_first (gate_event g us) (gate_event h vs) inner_event same agree = absurd agree
    agree_first (gate_event g us) (gate_event h vs) (exit_event ws) same agree = absurd agree
    agree_first (exit_event us) (exit_event vs) inner_event same agree = absurd agree
    agree_first (exit_event us) (exit_event vs) (gate_event k ws) same agree = absurd agree
    agree_first inner_event (gate_event h vs) answer same agree = absurd same
    agree_first inner_event (exit_event vs) answer same agree = absurd same
    agree_first (gate_event g us) inner_event answer same agree = absurd same
    agree_first (gate_event g us) (exit_event vs) answer same agree = absurd same
    agree_first (exit_event us) inner_event answer same agree = absurd same
    agree_first (exit_event us) (gate_event h vs) answer same agree = absurd same

-- Labels that equal labels that agree agree.
pub agree_with : (data_ : Data) (one other : Specification) (label equal answer another : Label) → EqualLabels data_ label equal
    → AgreeingLabels data_ one other equal answer → EqualLabels data_ answer another → AgreeingLabels data_ one other label another
agree_with data_ one other label equal answer another same agree more =
    agree_back data_ other one another label
    (agree_first data_ other one another answer label (labels_back data_ answer another more)
    (agree_back data_ one other label answer (agree_first data_ one other label equal answer same agree)))
