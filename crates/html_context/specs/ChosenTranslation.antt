-- The translation that a bundle has for a message: the one of the message's id.
--
-- Example: a bundle without translations has none for any message.
use Rattle.std.specs.Prelude.{List, Option}
use Rattle.soy_tree.specs.Nodes.{Message}
use Rattle.soy_tree.specs.MessageParts.{MsgParts}
use Rattle.soy_tree.specs.declared.bundle.Translation.{Translation}
use Rattle.msg_extract.specs.MessageId.{id_of}
use Rattle.msg_extract.specs.Translations.{translation_of}

abbrev pub chosen_translation : List Translation → Message → Option MsgParts
chosen_translation messages m = translation_of messages (id_of m)
