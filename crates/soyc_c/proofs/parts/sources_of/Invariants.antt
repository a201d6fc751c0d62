-- The contents so far, and then those of the rest, are all contents.
use Rattle.std.proofs.Common.{◌≡◌}
use Rattle.soy_front.specs.ViewSources.{view_contents}
use Rattle.soyc_c.specs.CompileCall.{contents_at}
use Rattle.soyc_c.specs.Parts.{part_bytes}
use Rattle.soyc_c.proofs.Listed.{after, rest_of}
use Rattle.soyc_c.proofs.parts.sources_of.Given as goal

abbrev pub invariant-loop-file : goal.invariant-loop-file
invariant-loop-file l =
    after (view_contents l.sources.items) (rest_of (λ file. part_bytes l.bytes file.content) l.files l.file-index)
    ≡ contents_at l.bytes l.files
