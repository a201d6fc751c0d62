use Rattle.std.proofs.Common.{refl, option_map}
use Rattle.soy_front.specs.ViewSources.{view_contents}
use Rattle.soy_top.specs.Answer.{play_answer}
use Rattle.soy_top.specs.Words.{command_words}
use Rattle.soy_top.proofs.Answering.{compiled_then}
use Rattle.soy_top.proofs.Plays.PlayChecks.{compiled_files}
use Rattle.soy_top.proofs.played.accept_second.Goals as goal

pub compile_read_front-requires : goal.compile_read_front-requires
compile_read_front-requires c =
    compiled_files (view_contents c.args.sources.now) c.requires.0 c.args.one c.requires.1

pub returns-in-Ok : goal.returns-in-Ok
returns-in-Ok c = λ bundle are.
    let files = view_contents c.args.sources.now in
    let other = option_map (λ b. b.now) c.args.content in
    compiled_then (command_words c.args.names.now) files c.args.second.now other c.in-Ok.other
    (play_answer c.args.script.now c.args.bytes.now are.of) c.accept_script.result c.in-Ok.ensures
    (c.accept_script.ensures files bundle other c.args.one are c.in-Ok.ensures refl)

pub returns-in-Err : goal.returns-in-Err
returns-in-Err c = λ bundle are. c.in-Err.ensures (play_answer c.args.script.now c.args.bytes.now are.of)
