-- What several pulls give to one room, one behind the other.
use Rattle.std.proofs.Common.{◌≡◌, ℕ, ◌+◌, ◌-◌, ◌≤◌, ◌<◌, List, ◌++◌, length, take, ap, sym, refl, ◌∙◌, arith}
use Rattle.std.proofs.Common.{append_assoc, drop, length-drop, length-take-le, take-take}
use Rattle.std.proofs.Math.Seq.{take-append-add}
use Rattle.std.proofs.lemmas.Slice.{take-put_mid}
use borrow.Rule.Slice.PartMut.{put_mid, same_len_mid}
use Rattle.soy_page.specs.PageRest.{bytes_left}
use Rattle.soy_page.specs.Pulled.{GaveBytes, KeepsPage}
use Rattle.soy_page.specs.PageState.{PageState}

-- so many bytes at the beginning of the room, which isn't shorter, and at least one
pub record GaveSome (old new : PageState) (room room_after : List ℕ) (n : ℕ) : Type 0 where
  pub keeps : KeepsPage old new
  pub bytes : bytes_left old ≡ take n room_after ++ bytes_left new
  pub within : n ≤ length room_after
  pub as_long : length room_after ≡ length room
  pub some : 0 < n

-- a part of a room from a place on was written, and its first n bytes follow those before it
taken_more : (room part : List ℕ) (from size n : ℕ) → from ≤ length room
    → n ≤ length part → take (from + n) (put_mid from size room part) ≡ take from room ++ take n part
taken_more room part from size n within few =
    sym (take-take (from + n) (from + length part) (put_mid from size room part) (omega arith))
    ∙ ap (take (from + n)) (take-put_mid from size room part (from + length part) refl within)
    ∙ ap (λ k. take (k + n) (take from room ++ part)) (sym (length-take-le from room within))
    ∙ take-append-add (take from room) part n

-- what both keep
both_keep : (old between new : PageState) → KeepsPage old between → KeepsPage between new → KeepsPage old new
both_keep old between new first second = record {
  templates = second.templates ∙ first.templates;
  input = second.input ∙ first.input;
  end = second.end ∙ first.end;
}

-- the room from a place on
abbrev room_from : List ℕ → ℕ → List ℕ
room_from room from = take (length room - from) (drop from room)

length-room_from : (room : List ℕ) (from : ℕ) → from ≤ length room → length (room_from room from) ≡ length room - from
length-room_from room from within =
    length-take-le (length room - from) (drop from room) (omega (arith, length-drop from room))

pub gave_more : (old between new : PageState) (room room_between part_after : List ℕ) (n more : ℕ)
    → GaveSome old between room room_between n → KeepsPage between new
    → GaveBytes between new (room_from room_between n) part_after more
    → length part_after ≡ length (room_from room_between n)
    → GaveSome old new room (put_mid n (length room_between - n) room_between part_after) (n + more)
gave_more old between new room room_between part_after n more before keeps gave long =
    let part_long : length (room_from room_between n) ≡ length room_between - n =
    length-room_from room_between n before.within in
    let room_long : length (put_mid n (length room_between - n) room_between part_after) ≡ length room_between =
    same_len_mid n (length room_between - n) room_between part_after long in
    record {
      keeps = both_keep old between new before.keeps keeps;
      bytes = before.bytes ∙ ap (λ bs. take n room_between ++ bs) gave.bytes
          ∙ sym (append_assoc (take n room_between) (take more part_after) (bytes_left new))
          ∙ ap (λ bs. bs ++ bytes_left new)
          (sym (taken_more room_between part_after n (length room_between - n) more before.within
          (omega (arith, gave.within, long))));
      within = omega (arith, gave.within, part_long, before.within, room_long);
      as_long = room_long ∙ before.as_long;
      some = omega (arith, before.some);
    }
