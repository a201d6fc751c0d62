use Rattle.std.proofs.Common.{refl}
use Rattle.soy_base.specs.declared.place.Place.TheVariants as place
use Rattle.place_tests.proofs.cursors.cursor_in_pieces.Goals as goal

pub begin-requires-clause-of_class : goal.begin-requires-clause-of_class
begin-requires-clause-of_class g c = (place.Text, refl)
