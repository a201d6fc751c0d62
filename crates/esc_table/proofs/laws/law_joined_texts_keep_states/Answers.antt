use Rattle.esc_table.proofs.StatesKept.{joined_texts_keep}
use Rattle.esc_table.proofs.laws.law_joined_texts_keep_states.Goals as goal

pub returns : goal.returns
returns g c = λ form next kept each. joined_texts_keep next kept form each
