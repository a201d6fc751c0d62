-- Whole forms given at once.
use Rattle.std.proofs.Common.{◌≡◌, ℕ, ◌+◌, ◌-◌, ◌≤◌, List, [], ◌∷◌, ◌++◌, Option, None, Some, length, take, drop}
use Rattle.std.proofs.Common.{refl, sym, ap, ◌∙◌, append-nil, append_assoc, option_map, encode_utf8_all, arith}
use Rattle.std.specs.Prelude.{IfSome}
use Rattle.std.specs.List.{flat_map, slice_set}
use Rattle.value_cursor.specs.Gives.{Gives}
use Rattle.value_cursor.specs.GivesWhole.{GivesWhole}
use Rattle.value_cursor.proofs.Givings.{gives_before, gives_behind, gives_same, gives_then, room_end}

-- nothing is given of what is left
pub none_given : (left room : List ℕ) → Gives left left room room 0
none_given left room = record { within = omega arith; size = refl; given = refl; behind = refl }

-- one byte is given
pub byte_given : (byte : ℕ) (after room : List ℕ) → 1 ≤ length room
    → Gives (byte ∷ after) after room (slice_set room 0 byte) 1
byte_given byte after [] some = absurd (omega (arith, some))
byte_given byte after (first ∷ room) some =
    record { within = omega (arith, some); size = refl; given = refl; behind = refl }

-- the form of one byte more is given
pub more_given : {whole room between part : List ℕ} {filled more : ℕ} (form : ℕ → List ℕ) (byte : ℕ) (rest : List ℕ)
    → Gives whole (flat_map form (byte ∷ rest)) room between filled
    → Gives (form byte ++ flat_map form rest) (flat_map form rest)
    (take (length between - filled) (drop filled between)) part more
    → Gives whole (flat_map form rest) room
    (take filled between ++ (part ++ drop (length between - filled) (drop filled between))) (filled + more)
more_given {whole} {room} {between} {part} {filled} {more} form byte rest first next =
    gives_then first (gives_behind between filled next) (room_end between part filled)

-- a text, and what follows it
pub both_given : {body room first second : List ℕ} {n m : ℕ} (text : List ℕ) → Gives (text ++ body) body room first n
    → Gives body [] (take (length first - n) (drop n first)) second m
    → Gives (text ++ body) [] room (take n first ++ (second ++ drop (length first - n) (drop n first))) (n + m)
both_given {body} {room} {first} {second} {n} {m} text given filled =
    gives_then given (gives_behind first n filled) (room_end first second n)

-- an opening, what stands between, and a closing
pub enclosed_given : {body room first second third : List ℕ} {n m k : ℕ} (opening closing room_second : List ℕ)
    → Gives (opening ++ (body ++ closing)) (body ++ closing) room first n
    → Gives body [] (take (length first - n) (drop n first)) second m
    → room_second ≡ take n first ++ (second ++ drop (length first - n) (drop n first))
    → Gives (closing ++ []) [] (take (length room_second - (n + m)) (drop (n + m) room_second)) third k
    → Gives ((opening ++ body) ++ closing) [] room
    (take (n + m) room_second ++ (third ++ drop (length room_second - (n + m)) (drop (n + m) room_second)))
    (n + m + k)
enclosed_given {body} {room} {first} {second} {third} {n} {m} {k} opening closing room_second opened filled is closed
    =
    let both = gives_then opened (gives_behind first n (gives_before closing filled)) (is ∙ room_end first second n) in
    let last = gives_same closing (gives_behind room_second (n + m) closed) (sym (append-nil closing)) in
    gives_same ((opening ++ body) ++ closing) (gives_then both last (room_end room_second third (n + m)))
    (append_assoc opening body closing)

-- the whole of a form that is given
pub whole_given : (form : Option (List ℕ)) (bytes room room_after : List ℕ) (given : Option ℕ)
    → option_map encode_utf8_all form ≡ Some bytes → IfSome given (Gives bytes [] room room_after)
    → IfSome given (GivesWhole form room room_after)
whole_given form bytes room room_after None is gives = tt
whole_given form bytes room room_after (Some n) is gives = record {
  within = gives.within;
  size = gives.size;
  whole = is ∙ ap Some (sym gives.given ∙ append-nil (take n room_after));
  behind = gives.behind;
}
