use Rattle.std.proofs.Common.{ap, map, ◌∙◌, encode_utf8_all}
use Rattle.soy_front.specs.ViewSources.{view_contents}
use Rattle.soy_top.specs.Words.{command_words}
use Rattle.soy_top.proofs.Workloads.{few_sources, workload_then}
use Rattle.soy_top.proofs.generated.accept_workload.Goals as goal

pub accept_files_of-requires : goal.accept_files_of-requires
accept_files_of-requires c =
    few_sources c.as_slice-2.result.now c.args.workload.now.sources (ap view_contents c.as_slice-2.ensures.value
    ∙ (c.in_ok-sources.ensures ∙ ap (map encode_utf8_all) c.items.ensures)) c.requires

pub returns : goal.returns
returns c =
    workload_then c.args.workload.now c.accept_files_of.result _ _
    (ap command_words c.as_slice.ensures.value ∙ c.in_ok-names.ensures) (ap view_contents c.as_slice-2.ensures.value
    ∙ (c.in_ok-sources.ensures ∙ ap (map encode_utf8_all) c.items.ensures)) c.accept_files_of.ensures
