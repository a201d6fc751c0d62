-- The translation of an id stands at the first number of the id.
use Rattle.std.proofs.Common.{◌≡◌, ℕ, suc, Bool, true, false, List, [], ◌∷◌, refl, ap, sym, ◌∙◌}
use Rattle.std.proofs.Common.{Option, Some, None, length, option_map, slice_get}
use Rattle.std.proofs.lemmas.Bool.{eqb-true}
use Rattle.std.specs.Prelude.{◌==◌, if◌then◌else◌, bytes_eq}
use Rattle.soy_tree.specs.declared.bundle.Translation.{Translation}
use Rattle.soy_tree.specs.MessageParts.{MsgParts}
use Rattle.soy_rules.specs.FirstNames.{first_from, first_number}
use Rattle.soy_rules.proofs.Firsts.{first_later}
use Rattle.msg_extract.specs.Translations.{ids_of, parts_of, translation_of}

-- the parts of what was found
abbrev pub found_parts : List Translation → Option ℕ → Option MsgParts
found_parts ts None = None
found_parts ts (Some n) = option_map parts_of (slice_get ts n)

parts_later : (t : Translation) (ts : List Translation) (found : Option ℕ)
    → found_parts (t ∷ ts) (option_map suc found) ≡ found_parts ts found
parts_later t ts None = refl
parts_later t ts (Some n) = refl

parts_if : (t : Translation) (ts : List Translation) (same : Bool) (rest : Option MsgParts) (later : Option ℕ)
    → rest ≡ found_parts (t ∷ ts) later
    → (if same then Some (parts_of t) else rest) ≡ found_parts (t ∷ ts) (if same then Some 0 else later)
parts_if t ts true rest later e = refl
parts_if t ts false rest later e = e

pub parts_found : (id : List ℕ) (ts : List Translation)
    → translation_of ts id ≡ found_parts ts (first_number id (ids_of ts))
parts_found id [] = refl
parts_found id (t ∷ ts) =
    parts_if t ts (bytes_eq t.id id) (translation_of ts id) (first_from id 1 (ids_of ts))
    (parts_found id ts ∙ sym (parts_later t ts (first_number id (ids_of ts)))
    ∙ ap (found_parts (t ∷ ts)) (sym (first_later id 0 (ids_of ts))))

-- nothing is found where there is nothing
pub none_found : (ts : List Translation) (id : List ℕ) → (length ts == 0) ≡ true → translation_of ts id ≡ None
none_found [] id e = refl
none_found (t ∷ ts) id e = let no : suc (length ts) ≡ 0 = eqb-true (length (t ∷ ts)) 0 e in absurd (cc no)
