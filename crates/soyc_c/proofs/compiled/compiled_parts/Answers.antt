use Rattle.std.proofs.Common.{sym, subst}
use Rattle.std.specs.Prelude.{slice_get}
use Rattle.soy_front.specs.ViewSources.{view_contents}
use Rattle.soy_top.specs.Words.{command_words}
use Rattle.soyc_c.specs.CompileCall.{bundle_at, contents_at, names_at}
use Rattle.soyc_c.specs.SlotReply.{Answers}
use Rattle.soyc_c.proofs.CompileCalls.{compiles-found, few-sources, no-contents, no-names, reply-found}
use Rattle.soyc_c.proofs.Filling.{stop_replies}
use Rattle.soyc_c.proofs.compiled.compiled_parts.Goals as goal

pub returns-in-Err-clause-answers : goal.returns-in-Err-clause-answers
returns-in-Err-clause-answers c =
    rw c.stopped.ensures (stop_replies c.in-Err.stop (names_at c.args.bytes.now c.args.files.now) _ c.in-Err.ensures.err
    (no-names (names_at c.args.bytes.now c.args.files.now) (contents_at c.args.bytes.now c.args.files.now)
    (bundle_at c.args.bytes.now (slice_get c.args.bundles.now 0))))

pub returns-in-Err-sources_of-clause-answers : goal.returns-in-Err-sources_of-clause-answers
returns-in-Err-sources_of-clause-answers c =
    rw c.stopped-in-Err-sources_of.ensures (stop_replies c.in-Err-sources_of.stop
    (contents_at c.args.bytes.now c.args.files.now) _ c.in-Err-sources_of.ensures.err
    (no-contents (names_at c.args.bytes.now c.args.files.now) (contents_at c.args.bytes.now c.args.files.now)
    (bundle_at c.args.bytes.now (slice_get c.args.bundles.now 0))))

pub compiled_files-requires : goal.compiled_files-requires
compiled_files-requires c =
    few-sources c.args.bytes.now c.args.files.now c.in-Ok-sources_of.sources.items c.requires
    c.in-Ok-sources_of.ensures.ok

pub returns-clause-ok : goal.returns-clause-ok
returns-clause-ok c =
    compiles-found c.args.bytes.now c.args.files.now c.args.bundles.now (command_words c.in-Ok.names.items)
    (view_contents c.in-Ok-sources_of.sources.items) c.compiled_files.result c.in-Ok.ensures.ok
    c.in-Ok-sources_of.ensures.ok c.compiled_files.ensures.ok

pub returns-clause-answers : goal.returns-clause-answers
returns-clause-answers c =
    subst (λ r. Answers r c.compiled_files.result)
    (sym (reply-found (command_words c.in-Ok.names.items) (view_contents c.in-Ok-sources_of.sources.items)
    (names_at c.args.bytes.now c.args.files.now) (contents_at c.args.bytes.now c.args.files.now)
    (bundle_at c.args.bytes.now (slice_get c.args.bundles.now 0)) c.in-Ok.ensures.ok c.in-Ok-sources_of.ensures.ok))
    c.compiled_files.ensures.answers
