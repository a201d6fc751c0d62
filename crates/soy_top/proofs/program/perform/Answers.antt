use Rattle.std.proofs.Common.{◌∙◌, ap, sym}
use Rattle.std.proofs.lemmas.Result.{err_from_is_err_and}
use Rattle.soy_top.specs.View.{view_command, view_files}
use Rattle.soy_front.specs.ViewSources.{view_contents}
use Rattle.soy_top.specs.Runs.ViewOutput.{view_output}
use Rattle.soy_top.specs.Words.{command_words}
use Rattle.soy_top.proofs.Answering.{answer-fetched, answer-same, may_end-fetched, may_end-refusal}
use Rattle.soy_top.proofs.Contents.FewFiles.{few-files}
use Rattle.soy_top.proofs.program.perform.Goals as goal

pub accept-requires : goal.accept-requires
accept-requires g c =
    few-files (command_words c.args.words.now) (view_command c.in-Some.command) c.in-Some.ensures

pub returns-in_err-contents-clause-may_end : goal.returns-in_err-contents-clause-may_end
returns-in_err-contents-clause-may_end g c =
    let p = err_from_is_err_and c.from_residual-in_err-contents.result c.from_residual-in_err-contents.ensures.1 in
    rw (p.1, p.2) (may_end-fetched _ (command_words c.args.words.now) (view_command c.in-Some.command) _ _ _
    c.in-Some.ensures (ap view_files c.as_slice.ensures.value ∙ c.in_ok-wanted.ensures)
    c.in_err-contents.ensures.fetched)

pub returns-in_err-output-clause-may_end : goal.returns-in_err-output-clause-may_end
returns-in_err-output-clause-may_end g c =
    let p = err_from_is_err_and c.from_residual-in_err-output.result c.from_residual-in_err-output.ensures.1 in
    rw (p.1, p.2) (may_end-refusal _ _ _ _ _
    (answer-fetched _ (command_words c.args.words.now) (view_command c.in-Some.command) _ _
    (view_contents c.as_slice-2.result.now) c.in-Some.ensures (ap view_files c.as_slice.ensures.value
    ∙ c.in_ok-wanted.ensures) c.in_ok-contents.ensures.fetched
    (ap view_contents (sym c.as_slice-2.ensures.value))) c.in_err-output.ensures)

pub returns-clause-wrote : goal.returns-clause-wrote
returns-clause-wrote g c = record {
  output = view_output c.in_ok-output.output;
  is_answer = answer-same _ _ _ (answer-fetched _ (command_words c.args.words.now) (view_command c.in-Some.command) _
      _ (view_contents c.as_slice-2.result.now) c.in-Some.ensures (ap view_files c.as_slice.ensures.value
      ∙ c.in_ok-wanted.ensures) c.in_ok-contents.ensures.fetched (ap view_contents (sym c.as_slice-2.ensures.value)))
      c.in_ok-output.ensures;
  writes = c.write.ensures.written;
  no_text = c.write.ensures.no_text;
}
