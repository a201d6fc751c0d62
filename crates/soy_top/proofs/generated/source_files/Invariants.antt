use Rattle.std.proofs.Common.{◌≡◌, ◌++◌, drop, map, encode_utf8_all}
use Rattle.soy_front.specs.ViewSources.{view_contents}
use Rattle.soy_top.proofs.generated.source_files.Given as goal

abbrev pub invariant-loop-text : goal.invariant-loop-text
invariant-loop-text l =
    view_contents l.sources.items ++ map encode_utf8_all (drop l.text-index l.texts) ≡ map encode_utf8_all l.texts
