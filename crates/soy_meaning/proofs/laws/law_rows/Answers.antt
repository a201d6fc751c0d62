use Rattle.std.proofs.Common.{refl}
use Rattle.soy_meaning.specs.Walks.Walk.{turns}
use Rattle.soy_meaning.proofs.laws.law_rows.Goals as goal

pub returns-clause-second_uri_value : goal.returns-clause-second_uri_value
returns-clause-second_uri_value c = refl

pub returns-clause-second_turn : goal.returns-clause-second_turn
unfolding turns
returns-clause-second_turn c = refl

pub returns-clause-mixed_places : goal.returns-clause-mixed_places
returns-clause-mixed_places c = refl

pub returns-clause-optional_attribute : goal.returns-clause-optional_attribute
returns-clause-optional_attribute c = refl

pub returns-clause-block_in_attribute : goal.returns-clause-block_in_attribute
returns-clause-block_in_attribute c = refl

pub returns-clause-ampersand_in_translation : goal.returns-clause-ampersand_in_translation
returns-clause-ampersand_in_translation c = refl

pub returns-clause-sixteen_states : goal.returns-clause-sixteen_states
returns-clause-sixteen_states c = refl

pub returns-clause-seventeen_states : goal.returns-clause-seventeen_states
returns-clause-seventeen_states c = refl

pub returns-clause-open_tag_in_let : goal.returns-clause-open_tag_in_let
returns-clause-open_tag_in_let c = refl

pub returns-clause-open_tag_in_param : goal.returns-clause-open_tag_in_param
returns-clause-open_tag_in_param c = refl

pub returns-clause-block_in_title : goal.returns-clause-block_in_title
returns-clause-block_in_title c = refl

pub returns-clause-narrowed_attributes : goal.returns-clause-narrowed_attributes
returns-clause-narrowed_attributes c = refl

pub returns-clause-ampersand_in_fallback : goal.returns-clause-ampersand_in_fallback
returns-clause-ampersand_in_fallback c = refl

pub returns-clause-ampersand_in_plural : goal.returns-clause-ampersand_in_plural
returns-clause-ampersand_in_plural c = refl

pub returns-clause-ampersand_in_arm : goal.returns-clause-ampersand_in_arm
returns-clause-ampersand_in_arm c = refl

pub returns-clause-refused_source : goal.returns-clause-refused_source
returns-clause-refused_source c = refl

pub returns-clause-tag_in_translation : goal.returns-clause-tag_in_translation
returns-clause-tag_in_translation c = refl

pub returns-clause-number_in_title : goal.returns-clause-number_in_title
returns-clause-number_in_title c = refl

pub returns-clause-number_in_tag : goal.returns-clause-number_in_tag
returns-clause-number_in_tag c = refl
