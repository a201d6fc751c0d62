-- The catalogue of files: their messages in the order of the files and of each source, the first of each id. Of two
-- messages of one id that differ in meaning or canonical text the second is refused with 26, at its `{`.
-- Example: two messages `Hi` without a meaning are one row, with the description of the first.
use Rattle.std.specs.Prelude.{ℕ, ◌+◌, Bool, true, false, ◌&&◌, List, [], ◌∷◌, ◌++◌, Option, Some, None, Result, Ok, Err}
use Rattle.std.specs.Prelude.{if◌then◌else◌, bytes_eq}
use Rattle.soy_base.specs.Among.{is_among}
use Rattle.soy_base.specs.declared.code.Code.TheVariants as code
use Rattle.soy_base.specs.declared.fault.Fault.{Fault}
use Rattle.soy_tree.specs.Types.{Name}
use Rattle.soy_tree.specs.Nodes.{Message, message}
use Rattle.soy_tree.specs.Trees.{Tree}
use Rattle.soy_rules.specs.Placeholders.{Role, Use, AsPlaceholder, AsPlural, AsSelect, body_uses, name_of}
use Rattle.msg_extract.specs.Canonical.CanonicalText.{canonical_text}
use Rattle.msg_extract.specs.MessageId.{id_of_text}
use Rattle.msg_extract.specs.MessagesIn.{tree_messages}
use Rattle.msg_extract.specs.declared.catalogue.Listed.{Listed}
use Rattle.msg_extract.specs.declared.role_names.NameKind.{NameKind}
use Rattle.msg_extract.specs.declared.role_names.NameKind.TheVariants as kind

abbrev pub is_of_kind : NameKind → Role → Bool
is_of_kind kind.Placeholder (AsPlaceholder cut) = true
is_of_kind kind.Plural (AsPlural e) = true
is_of_kind kind.Select (AsSelect e) = true
is_of_kind _ _ = false

abbrev pub with_name : List Name → Name → List Name
with_name names name = if is_among names name then names else names ++ name ∷ []

-- the names of the uses of a kind, each once, in order of first appearance, after some
abbrev pub names_after : NameKind → List Use → List Name → List Use → List Name
names_after of all names [] = names
names_after of all names (u ∷ uses) =
    names_after of all (if is_of_kind of u.role then with_name names (name_of all u.base u.content) else names) uses

abbrev pub role_names : NameKind → List Use → List Name
role_names of uses = names_after of uses [] uses

abbrev pub listed : Message → Listed
listed (message desc meaning body span) = record {
  id = id_of_text meaning (canonical_text body);
  desc = desc;
  meaning = meaning;
  text = canonical_text body;
  placeholders = role_names kind.Placeholder (body_uses body);
  plurals = role_names kind.Plural (body_uses body);
  selects = role_names kind.Select (body_uses body);
}

abbrev pub is_same_listed : Listed → Listed → Bool
is_same_listed l k = bytes_eq l.meaning k.meaning && bytes_eq l.text k.text

abbrev pub find_listed : List ℕ → List Listed → Option Listed
find_listed id [] = None
find_listed id (l ∷ ls) = if bytes_eq l.id id then Some l else find_listed id ls

-- the offset of a message's `{`
abbrev pub message_start : Message → ℕ
message_start (message desc meaning body span) = span.start

abbrev pub listed_after : List Listed → ℕ → Message → Option Listed → Result (List Listed) Fault
listed_after done file m None = Ok (done ++ listed m ∷ [])
listed_after done file m (Some l) =
    if is_same_listed l (listed m) then Ok done
    else Err (record { code = code.IdClash; file = file; at = message_start m })

-- these rows, with a message of a file
abbrev pub with_listed : List Listed → ℕ → Message → Result (List Listed) Fault
with_listed done file m = listed_after done file m (find_listed (listed m).id done)

abbrev pub then_listed : Result (List Listed) Fault → (List Listed → Result (List Listed) Fault)
    → Result (List Listed) Fault
then_listed (Ok done) next = next done
then_listed (Err fault) next = Err fault

abbrev pub all_listed : List Listed → ℕ → List Message → Result (List Listed) Fault
all_listed done file [] = Ok done
all_listed done file (m ∷ ms) = then_listed (with_listed done file m) (λ now. all_listed now file ms)

abbrev pub trees_listed : List Listed → ℕ → List Tree → Result (List Listed) Fault
trees_listed done file [] = Ok done
trees_listed done file (tree ∷ trees) =
    then_listed (all_listed done file (tree_messages tree)) (λ now. trees_listed now (file + 1) trees)

-- the rows of the catalogue of files
abbrev pub catalogue_of : List Tree → Result (List Listed) Fault
catalogue_of trees = trees_listed [] 0 trees
