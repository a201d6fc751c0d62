-- Bundles that bring the same have one translation for each message, and so has what a bundle brings.
use Rattle.std.proofs.Common.{◌≡◌, ℕ, List, [], ◌∷◌, map, Option, Some, None, refl, sym, ap, ◌∙◌}
use Rattle.std.proofs.Math.Path.{fun_ext}
use Rattle.std.specs.Prelude.{bytes_eq, if◌then◌else◌}
use Rattle.soy_tree.specs.declared.bundle.Bundle.{Bundle}
use Rattle.soy_tree.specs.declared.bundle.Translation.{Translation}
use Rattle.soy_tree.specs.MessageParts.{MsgParts}
use Rattle.soy_tree.specs.ViewMessageParts.{view_parts}
use Rattle.msg_bundle.specs.BundlesAlike.{BundlesAlike, view_translation}
use Rattle.msg_bundle.proofs.OneFault.{one_bundle}
use Rattle.msg_extract.specs.MessageId.{id_of}
use Rattle.msg_extract.specs.Translations.{translation_of}
use Rattle.msg_extract.specs.declared.catalogue.Listed.{Listed}
use Rattle.html_context.specs.ChosenTranslation.{chosen_translation}
use Rattle.soy_front.specs.Accepted.{Brings}

-- the translation of an id, among ids with parts
abbrev brought_parts : List (List ℕ × MsgParts) → List ℕ → Option MsgParts
brought_parts [] id = None
brought_parts (t ∷ ts) id = if bytes_eq t.0 id then Some t.1 else brought_parts ts id

as_brought : (ts : List Translation) (id : List ℕ)
    → translation_of ts id ≡ brought_parts (map view_translation ts) id
as_brought [] id = refl
as_brought (t ∷ ts) id = ap (λ o. if bytes_eq t.id id then Some (view_parts t.parts) else o) (as_brought ts id)

pub chosen_alike : (one other : Bundle) → BundlesAlike one other
    → chosen_translation one.messages ≡ chosen_translation other.messages
chosen_alike one other alike =
    fun_ext (λ m. as_brought one.messages (id_of m) ∙ ap (λ ts. brought_parts ts (id_of m)) alike.messages
    ∙ sym (as_brought other.messages (id_of m)))

-- **of two languages that a bundle brings each has the same translation for each message**
pub same_chosen : (bundle : Option (List ℕ)) (rows : List Listed) (one other : Bundle) → Brings bundle rows one
    → Brings bundle rows other → chosen_translation one.messages ≡ chosen_translation other.messages
same_chosen None rows one other a b = ap (λ (l : Bundle). chosen_translation l.messages) (a ∙ sym b)
same_chosen (Some bytes) rows one other a b = chosen_alike one other (one_bundle bytes rows one other a b)
