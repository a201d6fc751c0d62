use Rattle.std.proofs.Common.{◌≡◌, ◌++◌, drop, map}
use Rattle.msg_extract.specs.Translations.{ids_of}
use Rattle.msg_extract.proofs.translations.all_ids.Given as goal

abbrev pub invariant-loop-translation : goal.invariant-loop-translation
invariant-loop-translation l =
    map (λ id. id.now) l.ids.items ++ ids_of (drop l.translation-index l.messages) ≡ ids_of l.messages
