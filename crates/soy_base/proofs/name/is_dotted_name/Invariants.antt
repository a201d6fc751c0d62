use Rattle.std.proofs.Common.{◌≡◌, ◌+◌, length}
use Rattle.std.specs.List.{list_all}
use Rattle.std.specs.Option.{option_map_or}
use Rattle.std.specs.Str.{chars}
use Rattle.soy_base.specs.Characters.{full_stop}
use Rattle.soy_base.specs.Names.{is_name, is_dotted_name}
use Rattle.soy_base.specs.Parts.{parts_left}
use Rattle.soy_base.proofs.name.is_dotted_name.Given as goal

abbrev pub invariant-loop-rest : goal.invariant-loop-rest
invariant-loop-rest l = list_all is_name (parts_left full_stop l.rest) ≡ is_dotted_name (chars l.text)

abbrev pub decreases-loop-rest : goal.decreases-loop-rest
decreases-loop-rest l = option_map_or (λ rest. length (chars rest.now) + 1) l.rest 0
