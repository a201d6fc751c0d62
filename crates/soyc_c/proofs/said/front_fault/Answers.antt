use Rattle.std.proofs.Common.{refl, arith}
use Rattle.soy_front.specs.ViewSources.{view_contents}
use Rattle.soy_top.specs.Words.{command_words}
use Rattle.soyc_c.proofs.AboutFaults.{about_fault}
use Rattle.soyc_c.proofs.said.front_fault.Goals as goal

pub returns-in-Soy : goal.returns-in-Soy
returns-in-Soy c =
    rw c.in-Soy.is (c.fault_in_file.ensures
    (about_fault (command_words c.args.names.now) (view_contents c.args.sources.now) c.in-Soy.fault)
    (omega arith) c.front_line-line.ensures)

pub returns : goal.returns
returns c =
    rw c.in-Bundle.is (c.fault_at_pointer.ensures c.args.bundle.now c.in-Bundle.fault.path refl
    c.front_line-line-in-Bundle.ensures)
