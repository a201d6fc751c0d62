use Rattle.std.proofs.Common.{arith}
use Rattle.soyc_c.specs.Giving.{deep_fault}
use Rattle.soyc_c.specs.TemplateFiles.{file_contents, file_names}
use Rattle.soyc_c.proofs.AboutFaults.{about_fault}
use Rattle.soyc_c.proofs.said.deep_call.Goals as goal

pub returns : goal.returns
returns c =
    let t = c.args.templates.now in
    (rw c.as_slice-sources.ensures.value at c.fault_in_file.ensures)
    (about_fault (file_names t) (file_contents t) (deep_fault c.args.call)) (omega arith)
    (rw (c.as_slice-names.ensures.value, c.as_slice-sources.ensures.value) at c.call_line.ensures)
