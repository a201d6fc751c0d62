use Rattle.std.proofs.Common.{ap}
use Rattle.html_state.specs.AfterValue.{after_value}
use Rattle.html_state.specs.MayEnd.{may_end}
use Rattle.html_state.specs.Next.{next, text_end, value_character_next}
use Rattle.html_state.specs.PartOf.{part_of}
use Rattle.html_state.specs.StatePlacing.{placing}
use Rattle.html_state.proofs.SameStates.{same_state}
use Rattle.html_state.proofs.laws.law_equal_states.Goals as goal

pub returns-clause-steps : goal.returns-clause-steps
returns-clause-steps _ = λ one other c same. ap (λ s. next s c) (same_state one other same)

pub returns-clause-value_steps : goal.returns-clause-value_steps
returns-clause-value_steps _ = λ one other c same. ap (λ s. value_character_next s c) (same_state one other same)

pub returns-clause-values : goal.returns-clause-values
returns-clause-values c = λ one other same. ap after_value (same_state one other same)

pub returns-clause-placings : goal.returns-clause-placings
returns-clause-placings c = λ one other same. ap placing (same_state one other same)

pub returns-clause-ends : goal.returns-clause-ends
returns-clause-ends c = λ kind one other same. ap (may_end kind) (same_state one other same)

pub returns-clause-text_ends : goal.returns-clause-text_ends
returns-clause-text_ends c = λ one other same. ap text_end (same_state one other same)

pub returns-clause-parts : goal.returns-clause-parts
returns-clause-parts c = λ one other same. ap part_of (same_state one other same)
