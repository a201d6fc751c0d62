-- What a kept character does to isolates, as the code's type has it.
--
-- A PDI has the role Terminates.
use Rattle.bidi_order.specs.Explicit.{IsolateRole}
use Rattle.bidi_order.specs.Explicit.IsolateRole.{Initiates, Terminates, Neither}
use Rattle.bidi_preview.specs.declared.kept.Role.{Role}
use Rattle.bidi_preview.specs.declared.kept.Role.TheVariants as role

abbrev pub isolate_role : Role → IsolateRole
isolate_role role.Initiates = Initiates
isolate_role role.Terminates = Terminates
isolate_role role.Neither = Neither
