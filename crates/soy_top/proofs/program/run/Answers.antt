use Rattle.std.proofs.Common.{ap, refl}
use Rattle.soy_top.specs.Words.{command_words}
use Rattle.soy_top.proofs.Answering.{names-at-usage}
use Rattle.soy_top.proofs.Courses.{usage_only, usage_due, read_only, read_due, refused_only, refused_due, done_only}
use Rattle.soy_top.proofs.Courses.{done_due, too_deep_only, too_deep_due, write_only, out_part, err_part}
use Rattle.soy_top.proofs.Courses.{nothing_written, out_untouched, err_untouched}
use Rattle.soy_top.proofs.KeptPages.{same_markup, same_order}
use Rattle.soy_top.proofs.Rendering.{course_took}
use Rattle.soy_top.proofs.program.run.Goals as goal

pub returns-clause-usage_only : goal.returns-clause-usage_only
returns-clause-usage_only g c = usage_only _ _ _ c.perform_and_conclude.ensures.course

pub returns-clause-usage_due : goal.returns-clause-usage_due
returns-clause-usage_due g c = λ known. usage_due _ _ _ (names-at-usage _ (command_words c.args.words.now) known)
    c.perform_and_conclude.ensures.course known

pub returns-clause-read_only : goal.returns-clause-read_only
returns-clause-read_only g c = read_only _ _ _ c.perform_and_conclude.ensures.course

pub returns-clause-read_due : goal.returns-clause-read_due
returns-clause-read_due g c = λ file. read_due _ _ _ file c.perform_and_conclude.ensures.course

pub returns-clause-refused_only : goal.returns-clause-refused_only
returns-clause-refused_only g c = refused_only _ _ _ c.perform_and_conclude.ensures.course

pub returns-clause-refused_due : goal.returns-clause-refused_due
returns-clause-refused_due g c = λ line. refused_due _ _ _ line c.perform_and_conclude.ensures.course

pub returns-clause-done_only : goal.returns-clause-done_only
returns-clause-done_only g c = done_only _ _ _ c.perform_and_conclude.ensures.course

pub returns-clause-done_due : goal.returns-clause-done_due
returns-clause-done_due g c = λ text. done_due _ _ _ text c.perform_and_conclude.ensures.course

pub returns-clause-too_deep_only : goal.returns-clause-too_deep_only
returns-clause-too_deep_only g c = too_deep_only _ _ _ c.perform_and_conclude.ensures.course

pub returns-clause-too_deep_due : goal.returns-clause-too_deep_due
returns-clause-too_deep_due g c = λ text line. too_deep_due _ _ _ text line c.perform_and_conclude.ensures.course

pub returns-clause-write_only : goal.returns-clause-write_only
returns-clause-write_only g c = write_only _ _ _ c.perform_and_conclude.ensures.course

pub returns-clause-out_part : goal.returns-clause-out_part
returns-clause-out_part g c = out_part _ _ _ (ap g.K.Sink.taken) (ap g.E.Sink.taken)
    c.perform_and_conclude.ensures.course

pub returns-clause-err_part : goal.returns-clause-err_part
returns-clause-err_part g c = err_part _ _ _ (ap g.K.Sink.taken) (ap g.E.Sink.taken)
    c.perform_and_conclude.ensures.course

pub returns-clause-nothing_written : goal.returns-clause-nothing_written
returns-clause-nothing_written g c = nothing_written _ _ _ c.perform_and_conclude.ensures.course

pub returns-clause-out_untouched : goal.returns-clause-out_untouched
returns-clause-out_untouched g c = out_untouched _ _ _ c.perform_and_conclude.ensures.course

pub returns-clause-err_untouched : goal.returns-clause-err_untouched
returns-clause-err_untouched g c = λ text. err_untouched _ _ _ text c.perform_and_conclude.ensures.course

pub returns-clause-page_taken : goal.returns-clause-page_taken
returns-clause-page_taken g c =
    course_took _ (command_words c.args.words.now) _ _ _ (ap g.K.Sink.taken) (ap g.E.Sink.taken) refl
    c.perform_and_conclude.ensures.course

pub returns-clause-same_markup : goal.returns-clause-same_markup
returns-clause-same_markup g c = same_markup _ (command_words c.args.words.now)

pub returns-clause-same_visual_order : goal.returns-clause-same_visual_order
returns-clause-same_visual_order g c = same_order _ (command_words c.args.words.now)
