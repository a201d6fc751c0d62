-- What a translation may name, and when translations fit files.
-- A placeholder of a translation is among those of its source; the name of a plural or selectordinal is that of a
-- plural selector, that of a select of a select selector. The first that isn't is refused, with 24 for a placeholder
-- and with 25 for a selector, in the order of the parts. Translations fit files where that of each message, if it has
-- one, is the parts of a pattern and names nothing else. Example: `{WHOM}` isn't a translation of `love {$who}`.
use Rattle.std.specs.Prelude.{◌≡◌, ℕ, List, [], ◌∷◌, Option, Some, None, if◌then◌else◌}
use Rattle.std.specs.Option.{option_or}
use Rattle.soy_base.specs.Among.{is_among}
use Rattle.soy_base.specs.declared.code.Code.{Code}
use Rattle.soy_base.specs.declared.code.Code.TheVariants as code
use Rattle.soy_tree.specs.Types.{Name}
use Rattle.soy_tree.specs.Nodes.{Message}
use Rattle.soy_tree.specs.Trees.{Tree}
use Rattle.soy_rules.specs.IcuText.{IsPattern}
use Rattle.soy_tree.specs.MessageParts.{MsgPart, MsgParts, ExactArms, NamedArms, SelectArms, TextPart, Placeholder}
use Rattle.soy_tree.specs.MessageParts.{NumberPart, PluralPart, SelectPart, no_part, part, no_exact_arm, exact_arm}
use Rattle.soy_tree.specs.MessageParts.{no_named_arm, named_arm, no_select_arm, select_arm}
use Rattle.msg_extract.specs.Catalogue.{listed}
use Rattle.msg_extract.specs.MessageId.{id_of}
use Rattle.msg_extract.specs.MessagesIn.{tree_messages}
use Rattle.msg_extract.specs.declared.catalogue.Listed.{Listed}

-- none where the name is among these
abbrev pub unless_among : List Name → Name → Code → Option Code
unless_among names name fault = if is_among names name then None else Some fault

module _ (source : Listed) where
  abbrev mutual
    -- the first refusal of what parts name
    pub part_fault : MsgPart → Option Code
    part_fault (TextPart text) = None
    part_fault (Placeholder name) = unless_among source.placeholders name code.Placeholder
    part_fault NumberPart = None
    part_fault (PluralPart ordinal name offset exact named) =
        option_or (unless_among source.plurals name code.Selector) (option_or (exact_fault exact) (named_fault named))
    part_fault (SelectPart name arms) =
        option_or (unless_among source.selects name code.Selector) (select_fault arms)

    pub parts_fault : MsgParts → Option Code
    parts_fault no_part = None
    parts_fault (part p ps) = option_or (part_fault p) (parts_fault ps)

    pub exact_fault : ExactArms → Option Code
    exact_fault no_exact_arm = None
    exact_fault (exact_arm n ps arms) = option_or (parts_fault ps) (exact_fault arms)

    pub named_fault : NamedArms → Option Code
    named_fault no_named_arm = None
    named_fault (named_arm category ps arms) = option_or (parts_fault ps) (named_fault arms)

    pub select_fault : SelectArms → Option Code
    select_fault no_select_arm = None
    select_fault (select_arm word ps arms) = option_or (parts_fault ps) (select_fault arms)

-- the parts are those of a pattern that names what its source has
pub record IsTranslation (source : Listed) (parts : MsgParts) : Type 0 where
  pub text : List ℕ
  pub pattern : IsPattern text parts
  pub names : parts_fault source parts ≡ None

abbrev pub FitsMessage : Message → Option MsgParts → Type 0
FitsMessage m None = Unit {0}
FitsMessage m (Some parts) = IsTranslation (listed m) parts

abbrev pub FitsMessages : (List ℕ → Option MsgParts) → List Message → Type 0
FitsMessages translation [] = Unit {0}
FitsMessages translation (m ∷ ms) = FitsMessage m (translation (id_of m)) × FitsMessages translation ms

-- the translations of ids fit files
abbrev pub FitsTrees : (List ℕ → Option MsgParts) → List Tree → Type 0
FitsTrees translation [] = Unit {0}
FitsTrees translation (tree ∷ trees) = FitsMessages translation (tree_messages tree) × FitsTrees translation trees
