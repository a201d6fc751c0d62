-- What is given to rooms, step by step.
use Rattle.std.proofs.Common.{◌≡◌, ℕ, suc, inl, inr, ◌+◌, ◌-◌, ◌≤◌, ◌<◌, List, [], ◌∷◌, ◌++◌, length, take, drop, min}
use Rattle.std.proofs.Common.{refl, sym, ap, subst, ◌∙◌, append-nil, append_assoc, length-append, length-drop}
use Rattle.std.proofs.Common.{take-append-drop, arith}
use Rattle.std.proofs.lemmas.Bool.{cases_lt}
use Rattle.std.proofs.lemmas.List.{drop_all, take_rest, take_at, drop_at, drop-drop, length-take-le}
use Rattle.value_cursor.specs.Gives.{Gives}

-- a prefix is given
pub gives_prefix : (given after room room_after : List ℕ) (count : ℕ) → length given ≡ count → count ≤ length room
    → room_after ≡ given ++ drop count room
    → Gives (given ++ after) after room room_after count
gives_prefix given after room room_after count size within is = record {
  within = within;
  size = omega (arith, ap length is, length-append given (drop count room), length-drop count room, size, within);
  given = ap (λ l. l ++ after) (ap (take count) is ∙ take_at given (drop count room) count size);
  behind = ap (drop count) is ∙ drop_at given (drop count room) count size;
}

-- the first pending bytes are given
pub gives_pending : (pending pending_after after room room_after : List ℕ) (count : ℕ)
    → count ≡ min (length pending) (length room)
    → room_after ≡ take (min (length pending) (length room)) pending ++ drop (min (length pending) (length room)) room
    → pending_after ≡ drop (min (length pending) (length room)) pending
    → Gives (pending ++ after) (pending_after ++ after) room room_after count
gives_pending pending pending_after after room room_after count is given rest =
    let least : ℕ = min (length pending) (length room) in
    let whole : take count pending ++ (pending_after ++ after) ≡ pending ++ after =
    sym (append_assoc (take count pending) pending_after after)
    ∙ ap (λ l. l ++ after) (ap (λ l. take count pending ++ l) (rest ∙ ap (λ n. drop n pending) (sym is))
    ∙ take-append-drop count pending) in
    let gives = gives_prefix (take count pending) (pending_after ++ after) room room_after count
    (length-take-le count pending (omega (arith, is))) (omega (arith, is))
    (given ∙ ap (λ n. take n pending ++ drop n room) (sym is)) in
    record { within = gives.within; size = gives.size; given = gives.given ∙ whole; behind = gives.behind }

-- nothing stands behind the end of a room
pub room_end : (room part : List ℕ) (n : ℕ)
    → take n room ++ (part ++ drop (length room - n) (drop n room)) ≡ take n room ++ part
room_end room part n =
    ap (λ l. take n room ++ l)
    (ap (λ l. part ++ l) (drop_all (length room - n) (drop n room) (omega (arith, length-drop n room)))
    ∙ append-nil part)

-- a part up to the end is what stands behind
pub gives_behind : {left left_after part : List ℕ} {count : ℕ} (room : List ℕ) (before : ℕ)
    → Gives left left_after (take (length room - before) (drop before room)) part count
    → Gives left left_after (drop before room) part count
gives_behind {left} {left_after} {part} {count} room before gives =
    subst (λ behind. Gives left left_after behind part count) (take_rest room before) gives

pub behind_size : (room : List ℕ) (before : ℕ)
    → length (take (length room - before) (drop before room)) ≡ length room - before
behind_size room before = omega (arith, ap length (take_rest room before), length-drop before room)

-- nothing is pending where room is left
pub all_given : (pending pending_after room : List ℕ) (count : ℕ) → count ≡ min (length pending) (length room)
    → pending_after ≡ drop (min (length pending) (length room)) pending → count < length room → pending_after ≡ []
all_given pending pending_after room count is rest less =
    rest ∙ drop_all (min (length pending) (length room)) pending (omega (arith, is, less))

-- what is left is the same by another name
pub gives_same : {left left_after room room_after : List ℕ} {count : ℕ} (other : List ℕ)
    → Gives left left_after room room_after count → other ≡ left → Gives other left_after room room_after count
gives_same other gives same =
    record { within = gives.within; size = gives.size; given = gives.given ∙ sym same; behind = gives.behind }

pub gives_after : {left left_after room room_after : List ℕ} {count : ℕ} (other : List ℕ)
    → Gives left left_after room room_after count → other ≡ left_after → Gives left other room room_after count
gives_after {left} {left_after} {room} {room_after} {count} other gives same =
    record {
      within = gives.within;
      size = gives.size;
      given = ap (λ l. take count room_after ++ l) same
          ∙ gives.given;
      behind = gives.behind;
    }

-- what comes after all that is left changes nothing
pub gives_before : {left left_after room room_after : List ℕ} {count : ℕ} (more : List ℕ)
    → Gives left left_after room room_after count → Gives (left ++ more) (left_after ++ more) room room_after count
gives_before {left} {left_after} {room} {room_after} {count} more gives = record {
  within = gives.within;
  size = gives.size;
  given = sym (append_assoc (take count room_after) left_after more) ∙ ap (λ l. l ++ more) gives.given;
  behind = gives.behind;
}

-- more is given, behind what was given before
pub gives_then : {left between left_after room room_between part room_after : List ℕ} {count more : ℕ}
    → Gives left between room room_between count → Gives between left_after (drop count room_between) part more
    → room_after ≡ take count room_between ++ part → Gives left left_after room room_after (count + more)
gives_then {left} {between} {left_after} {room} {room_between} {part} {room_after} {count} {more} first next is =
    let size_first : length (take count room_between) ≡ count =
    length-take-le count room_between (omega (arith, first.within, first.size)) in
    let size_rest : length (drop count room_between) ≡ length room - count =
    omega (arith, length-drop count room_between, first.size) in
    let split : take (count + more) room_after ≡ take count room_between ++ take more part =
    ap (take (count + more)) is ∙ take_past (take count room_between) part count more size_first in
    let behind : drop (count + more) room_after ≡ drop more part =
    ap (drop (count + more)) is ∙ sym (drop-drop more count (take count room_between ++ part))
    ∙ ap (drop more) (drop_at (take count room_between) part count size_first) in
    record {
      within = omega (arith, first.within, next.within, size_rest);
      size = omega (
        arith,
        ap length is,
        length-append (take count room_between) part,
        size_first,
        next.size,
        size_rest,
        first.within,
      );
      given = ap (λ l. l ++ left_after) split ∙ append_assoc (take count room_between) (take more part) left_after
          ∙ ap (λ l. take count room_between ++ l) next.given ∙ first.given;
      behind = behind ∙ next.behind ∙ ap (drop more) first.behind ∙ drop-drop more count room;
    }
  where
    take_past : (xs ys : List ℕ) (n m : ℕ) → length xs ≡ n → take (n + m) (xs ++ ys) ≡ xs ++ take m ys
    take_past [] ys n m size =
        let none : n + m ≡ m = omega (arith, size) in ap (λ k. take k ys) none
    take_past (x ∷ xs) ys n m size =
        let more : n + m ≡ suc (length xs + m) = omega (arith, size) in
        ap (λ k. take k (x ∷ (xs ++ ys))) more ∙ ap (λ l. x ∷ l) (take_past xs ys (length xs) m refl)

-- the same where a call begins with the room's rest
pub behind_given : {left left_after room room_after : List ℕ} {count : ℕ} → Gives left left_after room room_after count
    → count ≤ length room_after
behind_given gives = omega (arith, gives.within, gives.size)

-- what is given in all
module _ {left left_after room room_after : List ℕ} {count : ℕ} (gives : Gives left left_after room room_after count)
  where
    size_given : length (take count room_after) ≡ count
    size_given = length-take-le count room_after (omega (arith, gives.within, gives.size))

    pub given_count : (count < length room → left_after ≡ []) → count ≡ min (length left) (length room)
    given_count all =
        elim (cases_lt count (length room)) [
          | inl less ↦ omega (
            arith,
            gives.within,
            ap length gives.given,
            length-append (take count room_after)
                left_after,
            size_given,
            ap length (all less),
          )
          | inr full ↦ omega (
            arith,
            gives.within,
            full,
            ap length gives.given,
            length-append (take count room_after)
                left_after,
            size_given,
          )
        ]

    pub given_first : room_after ≡ take count left ++ drop count room
    given_first =
        sym (take-append-drop count room_after)
        ∙ ap (λ l. l ++ drop count room_after) (sym (take_at (take count room_after) left_after count size_given)
        ∙ ap (take count) gives.given)
        ∙ ap (λ l. take count left ++ l) gives.behind

    pub given_rest : left_after ≡ drop count left
    given_rest = sym (drop_at (take count room_after) left_after count size_given) ∙ ap (drop count) gives.given

    pub given_length : length left ≡ count + length left_after
    given_length = omega (arith, ap length gives.given, length-append (take count room_after) left_after, size_given)
