-- What a `dir` says, as the code's type has it.
--
-- `auto` is IsAuto.
use Rattle.bidi_order.specs.Elements.{DirAttribute}
use Rattle.bidi_order.specs.Elements.DirAttribute.{IsLtr, IsRtl, IsAuto}
use Rattle.bidi_preview.specs.declared.direction.DirValue.{DirValue}
use Rattle.bidi_preview.specs.declared.direction.DirValue.TheVariants as dir

abbrev pub view_dir : DirValue → DirAttribute
view_dir dir.Ltr = IsLtr
view_dir dir.Rtl = IsRtl
view_dir dir.Auto = IsAuto
