use Rattle.esc_table.specs.EscapedText.{escaped_character}
use Rattle.esc_table.proofs.StatesKept.{escaped_character_keeps, joined_texts_keep}
use Rattle.esc_table.proofs.laws.law_escaped_text_keeps_states.Goals as goal

pub returns : goal.returns
returns g c =
    λ next kept of_row of_none. joined_texts_keep next kept (escaped_character _)
    (escaped_character_keeps next kept _ of_row of_none)
