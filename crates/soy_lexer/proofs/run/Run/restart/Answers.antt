use Rattle.soy_lexer.proofs.Represented.{restarted}
use Rattle.soy_lexer.proofs.run.Run.restart.Goals as goal

pub returns : goal.returns
returns c = λ run is_run. restarted is_run c.requires
