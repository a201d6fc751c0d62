-- What a map from ids to the rows of a catalogue finds: the first row of an id.
use Rattle.std.specs.Prelude.{◌≡◌, ℕ, List, option_map}
use Rattle.std.specs.Borrow.{Bor}
use Rattle.std.specs.HashMap.{HashMap, get_by}
use Rattle.std.specs.Str.{IsUtf8, bytes_eq, chars}
use Rattle.msg_extract.specs.Catalogue.{find_listed}
use Rattle.msg_extract.specs.declared.catalogue.Listed.{Listed}

abbrev pub FindsRows : {S : Type 0} → HashMap (Bor (List ℕ)) (Bor Listed) S → List Listed → Type 0
FindsRows sources rows =
    (id : List ℕ) → IsUtf8 id
    → option_map (λ row. row.now) (get_by (λ key. bytes_eq id key.now) sources) ≡ find_listed (chars id) rows
