use Rattle.std.proofs.Common.{refl}
use Rattle.bidi_class.specs.Class.{bidi_class}
use Rattle.bidi_text.specs.Estimate.{first_strong, is_address, word_kind}
use Rattle.soy_meaning.specs.Paths.PathParts.{both, empty_path, hole, passed_by}
use Rattle.soy_pieces.specs.Pieces.{called_within}
use Rattle.soy_meaning.proofs.laws.law_nest_rows.Goals as goal

pub returns-clause-pieces : goal.returns-clause-pieces
unfolding called_within
returns-clause-pieces c = refl

pub returns-clause-path : goal.returns-clause-path
returns-clause-path c = both passed_by (both hole (both hole empty_path))

pub returns-clause-alike : goal.returns-clause-alike
returns-clause-alike c = (
  refl,
  refl,
  refl,
  (refl, (refl, refl, (refl, tt))),
  (refl, refl, refl, (refl, (refl, refl, (refl, tt))), tt),
)

pub returns-clause-same_pieces : goal.returns-clause-same_pieces
unfolding first_strong is_address word_kind bidi_class
returns-clause-same_pieces c = refl

pub returns-clause-apart : goal.returns-clause-apart
returns-clause-apart c = λ h. h
