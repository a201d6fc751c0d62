-- The bundle of the source language: from left to right, without rules and without translations.
-- Example: under it no message has a translation.
use Rattle.std.specs.Prelude.{[]}
use Rattle.soy_base.specs.declared.direction.Dir.TheVariants as dir
use Rattle.soy_tree.specs.declared.bundle.Bundle.{Bundle}

abbrev pub source_bundle : Bundle
source_bundle = record { dir = dir.Ltr; plural = []; ordinal = []; messages = [] }
