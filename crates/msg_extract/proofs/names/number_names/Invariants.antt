use Rattle.std.proofs.Common.{◌≡◌, ◌++◌, drop, map}
use Rattle.msg_extract.specs.NameGroups.{names_from}
use Rattle.msg_extract.specs.Views.ViewKeys.{view_key}
use Rattle.msg_extract.proofs.names.number_names.Given as goal

abbrev pub invariant-loop : goal.invariant-loop
invariant-loop l =
    l.names ++ names_from l.tries l.bases.keys l.base l.number (map view_key (drop l.index l.contents))
    ≡ names_from l.tries l.bases.keys l.base 1 (map view_key l.contents)
