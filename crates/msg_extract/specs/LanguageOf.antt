-- What a bundle brings to a run, where the translation of a message is that of its id.
-- Example: the bundle of the source language brings no translation of any message.
use Rattle.soy_tree.specs.declared.bundle.Bundle.{Bundle}
use Rattle.msg_extract.specs.Translations.{translation_of}
use Rattle.msg_extract.specs.MessageId.{id_of}
use Rattle.soy_rules.specs.Language.{Language}

-- what the bundle of files brings: the translation of a message is that of its id
abbrev pub language_of : Bundle → Language
language_of b = record {
  translation = λ m. translation_of b.messages (id_of m);
  direction = b.dir;
  plural = b.plural;
  ordinal = b.ordinal;
}
