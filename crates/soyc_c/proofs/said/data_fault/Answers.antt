use Rattle.std.proofs.Common.{refl}
use Rattle.std.specs.Prelude.{codes}
use Rattle.soyc_c.proofs.said.data_fault.Goals as goal

pub returns : goal.returns
returns c =
    c.fault_at_pointer.ensures (codes "data") c.args.fault.path refl (rw c.items.ensures at c.pointer_line-line.ensures)
