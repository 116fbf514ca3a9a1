use Rattle.term_match.proofs.PathLemmas.{subterm_bare, put_bare, subterm_of, put_of}
use Rattle.term_match.proofs.laws.paths_forget_profiles.Goals as goal

pub returns-clause-subterms : goal.returns-clause-subterms
returns-clause-subterms c = subterm_bare

pub returns-clause-replacements : goal.returns-clause-replacements
returns-clause-replacements c = put_bare

pub returns-clause-subterms_are_of : goal.returns-clause-subterms_are_of
returns-clause-subterms_are_of c = subterm_of

pub returns-clause-replacements_are_of : goal.returns-clause-replacements_are_of
returns-clause-replacements_are_of c = put_of
