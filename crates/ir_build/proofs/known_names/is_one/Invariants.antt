use Rattle.std.proofs.Common.{◌≡◌, drop, map}
use Rattle.ir_build.specs.KnownNames.{is_known}
use Rattle.ir_build.proofs.known_names.is_one.Given as goal

abbrev pub invariant-loop-known : goal.invariant-loop-known
invariant-loop-known l =
    is_known l.name (map (λ known. known.now) l.names)
    ≡ is_known l.name (map (λ known. known.now) (drop l.known-index l.names))
