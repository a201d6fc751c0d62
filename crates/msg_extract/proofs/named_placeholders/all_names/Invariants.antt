use Rattle.std.proofs.Common.{◌≡◌, ◌++◌, drop, map}
use Rattle.msg_extract.specs.Views.ViewPlaceholders.{names_of}
use Rattle.msg_extract.proofs.named_placeholders.all_names.Given as goal

abbrev pub invariant-loop-placeholder : goal.invariant-loop-placeholder
invariant-loop-placeholder l =
    map (λ name. name.now) l.names.items ++ names_of (drop l.placeholder-index l.placeholders) ≡ names_of l.placeholders
