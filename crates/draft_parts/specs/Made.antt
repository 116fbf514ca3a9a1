-- Lists of drafts of the code that stand for given drafts, with terms of a signature.
use Rattle.std.specs.Prelude.{◌≡◌, List, []}
use Rattle.lotos_base.specs.Signature.{Signature}
use Rattle.behaviour_semantics.specs.Draft as plain
use Rattle.behaviour_semantics.specs.Label.{inner_event}
use Rattle.behaviour_semantics.specs.Shape.{inner_step}
use Rattle.behaviour_semantics.specs.WellFormed.{Every}
use Rattle.event_offers.specs.declared.drafts.Draft.{Draft}
use Rattle.draft_parts.specs.DraftTerms.{HasTermsOf}
use Rattle.draft_parts.specs.Lists.{plain_drafts}

-- The drafts stand for the expected ones, and their terms are of the signature.
pub record AreThese (signature : Signature) (expected : List plain.Draft) (made : List Draft) : Type 0 where
  pub same : plain_drafts made ≡ expected
  pub over : Every (HasTermsOf signature) made

-- the draft of `i`
abbrev pub draft_of_inner : plain.Draft
draft_of_inner = record { shape = inner_step; label = inner_event; leaves = []; conditions = [] }
