use Rattle.std.proofs.Common.{refl}
use lib.Utf8.{encode}
use Rattle.std.specs.Fmt.{digits}
use Rattle.bidi_class.specs.Class.{bidi_class}
use Rattle.bidi_text.specs.Estimate.{first_strong, is_address, word_kind}
use Rattle.soy_pieces.specs.Pieces.{called_within}
use Rattle.soy_pieces.proofs.laws.law_run_rows.Goals as goal

pub returns-clause-block_twice : goal.returns-clause-block_twice
unfolding called_within
returns-clause-block_twice c = refl

pub returns-clause-block_bytes : goal.returns-clause-block_bytes
unfolding called_within first_strong is_address word_kind bidi_class
returns-clause-block_bytes c = refl

pub returns-clause-block_costs : goal.returns-clause-block_costs
unfolding called_within
returns-clause-block_costs c = refl

pub returns-clause-attributes_block : goal.returns-clause-attributes_block
unfolding called_within
returns-clause-attributes_block c = refl

pub returns-clause-calls_to_limit : goal.returns-clause-calls_to_limit
unfolding called_within
returns-clause-calls_to_limit c = refl

pub returns-clause-calls_past_limit : goal.returns-clause-calls_past_limit
unfolding called_within
returns-clause-calls_past_limit c = refl

pub returns-clause-call_costs : goal.returns-clause-call_costs
unfolding called_within
returns-clause-call_costs c = refl

pub returns-clause-call_choices : goal.returns-clause-call_choices
unfolding called_within
returns-clause-call_choices c = refl

pub returns-clause-source_plural : goal.returns-clause-source_plural
unfolding called_within
returns-clause-source_plural c = refl

pub returns-clause-source_default : goal.returns-clause-source_default
unfolding called_within digits first_strong is_address word_kind bidi_class
returns-clause-source_default c = refl

pub returns-clause-source_choices : goal.returns-clause-source_choices
unfolding called_within
returns-clause-source_choices c = refl

pub returns-clause-plural_zero : goal.returns-clause-plural_zero
unfolding called_within
returns-clause-plural_zero c = refl

pub returns-clause-plural_one : goal.returns-clause-plural_one
unfolding called_within
returns-clause-plural_one c = refl

pub returns-clause-plural_two : goal.returns-clause-plural_two
unfolding called_within
returns-clause-plural_two c = refl

pub returns-clause-plural_few : goal.returns-clause-plural_few
unfolding called_within
returns-clause-plural_few c = refl

pub returns-clause-plural_many : goal.returns-clause-plural_many
unfolding called_within
returns-clause-plural_many c = refl

pub returns-clause-plural_other : goal.returns-clause-plural_other
unfolding called_within digits first_strong is_address word_kind bidi_class
returns-clause-plural_other c = refl

pub returns-clause-offset_exact : goal.returns-clause-offset_exact
unfolding called_within
returns-clause-offset_exact c = refl

pub returns-clause-offset_number : goal.returns-clause-offset_number
unfolding called_within digits first_strong is_address word_kind bidi_class
returns-clause-offset_number c = refl

pub returns-clause-offset_costs : goal.returns-clause-offset_costs
unfolding called_within
returns-clause-offset_costs c = refl

pub returns-clause-offset_choices : goal.returns-clause-offset_choices
unfolding called_within
returns-clause-offset_choices c = refl

pub returns-clause-plural_meaning : goal.returns-clause-plural_meaning
unfolding called_within encode
returns-clause-plural_meaning c = refl
