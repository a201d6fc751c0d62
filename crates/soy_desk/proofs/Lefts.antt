-- What a pull does to what is left, as a function: so the same pulls of what is left alike are answered alike.
use Rattle.std.proofs.Common.{◌≡◌, ℕ, ◌≤◌, ◌⊎◌, inl, inr, Bool, true, false, List, [], ◌∷◌, ◌++◌, Ok}
use Rattle.std.proofs.Common.{Err, length, take, drop, refl, sym, ap, ◌∙◌, arith, subst, append_assoc}
use Rattle.std.specs.Prelude.{encode_utf8_all, min}
use Rattle.std.proofs.lemmas.List.{length-take-le, take-append-drop, take-append-le, take_all}
use Rattle.std.proofs.lemmas.Str.{encodes-append}
use Rattle.soy_base.specs.Piece.{Piece, Static, Value}
use Rattle.soy_base.specs.declared.fault.TooDeep.{TooDeep}
use Rattle.soy_base.specs.declared.memory.Refusal.TheVariants as refusal
use Rattle.soy_pieces.specs.Meaning.{joined_pieces}
use Rattle.soy_pieces.specs.Outcome.{GivesPiece, Outcome, RunEnd, RunEnds, Spent, StopsAt, WholeRun}
use Rattle.soy_pieces.specs.Outcome.{end_of_outcome, pieces_of_outcome, spent_first}
use Rattle.render_core.specs.Pulls.{AtEnd, Begun, Fresh, Gave, Idle, Next, Pulls, Refused, stops_at}
use Rattle.render_core.specs.Rest.{Rest, piece_bytes, rest_bytes}
use Rattle.soy_desk.specs.Alone.{Alone, IsNotMemory, Left, NoneRefused, all_given, answers_of, bytes_given, left_of}
use Rattle.soy_desk.specs.Alone.{rooms_of}
use Rattle.soy_desk.specs.DeskRun.{PullCall, PullsRest, RenderingAnswer}

-- ---- a pull as a function

-- the answer, what then lies in the room, what is left, and whether the rendering is done
abbrev pub Pulled : Type 0
Pulled = RenderingAnswer × List ℕ × Left × Bool

-- bytes given of a piece, before further pieces
abbrev pub gives_of : List ℕ → List Piece → RunEnd → Bool → List ℕ → Pulled
gives_of bytes pieces end done room = (
  Ok (min (length room) (length bytes)),
  take (min (length room) (length bytes)) bytes ++ drop (min (length room) (length bytes)) room,
  record { begun = drop (min (length room) (length bytes)) bytes; pieces = pieces; end = end },
  done,
)

abbrev pub left_with : List ℕ → List Piece → RunEnd → Left
left_with begun pieces end = record { begun = begun; pieces = pieces; end = end }

-- where no piece has begun and the room isn't empty
abbrev pub pulled_next : Bool → List Piece → RunEnd → List ℕ → Pulled
pulled_next true pieces end room = (Ok 0, room, left_with [] pieces end, true)
pulled_next false [] WholeRun room = (Ok 0, room, left_with [] [] WholeRun, true)
pulled_next false [] (StopsAt site) room =
    (Err (refusal.Because (record { file = site.file; at = site.at })), room, left_with [] [] (StopsAt site), false)
pulled_next false (piece ∷ pieces) end room = gives_of (piece_bytes piece) pieces end false room

abbrev pub pulled_from : List ℕ → List Piece → RunEnd → Bool → List ℕ → Pulled
pulled_from (b ∷ begun) pieces end done room = gives_of (b ∷ begun) pieces end done room
pulled_from [] pieces end done [] = (Ok 0, [], left_with [] pieces end, done)
pulled_from [] pieces end done (r ∷ room) = pulled_next done pieces end (r ∷ room)

abbrev pub pulled : Left → Bool → List ℕ → Pulled
pulled left done room = pulled_from left.begun left.pieces left.end done room

-- where a rendering is done, nothing is left and the end is whole
abbrev pub Settled : Left → Bool → Type 0
Settled left done = done ≡ true → (left.begun ≡ []) × (left.pieces ≡ []) × (left.end ≡ WholeRun)

-- ---- every pull that memory didn't refuse is that function

pub pieces_spent : (s : Spent) (o : Outcome) → pieces_of_outcome (spent_first s o) ≡ pieces_of_outcome o
pieces_spent s (RunEnds t end) = refl
pieces_spent s (GivesPiece t piece o) = refl

pub end_spent : (s : Spent) (o : Outcome) → end_of_outcome (spent_first s o) ≡ end_of_outcome o
end_spent s (RunEnds t end) = refl
end_spent s (GivesPiece t piece o) = refl

gave_is : (bytes : List ℕ) (pieces : List Piece) (end : RunEnd) (d e : Bool) (room room_after : List ℕ) (n : ℕ)
    (new : Rest) → Gave bytes new.begun room room_after n → pieces_of_outcome new.coming ≡ pieces
    → end_of_outcome new.coming ≡ end → e ≡ d
    → ◌≡◌ {A = Pulled} (Ok n, room_after, left_of new, e) (gives_of bytes pieces end d room)
gave_is bytes pieces end d e room room_after n new gave pieces_is end_is done =
    let first : ◌≡◌ {A = Pulled} (Ok n, room_after, left_of new, e)
    (Ok n, take n bytes ++ drop n room, left_with (drop n bytes) pieces end, d) =
    λ i. (Ok n, gave.given i, left_with (gave.begun i) (pieces_is i) (end_is i), done i) in
    first
    ∙ ap (λ (m : ℕ). let p : Pulled = (Ok m, take m bytes ++ drop m room, left_with (drop m bytes) pieces end, d) in p)
    gave.size

-- where nothing is given and nothing is done
same_is : (answer : RenderingAnswer) (begun : List ℕ) (coming : Outcome) (new : Rest) (d e : Bool)
    (room room_after : List ℕ) → room_after ≡ room → new.begun ≡ begun
    → pieces_of_outcome new.coming ≡ pieces_of_outcome coming → end_of_outcome new.coming ≡ end_of_outcome coming
    → e ≡ d
    → ◌≡◌ {A = Pulled} (answer, room_after, left_of new, e)
    (answer, room, left_with begun (pieces_of_outcome coming) (end_of_outcome coming), d)
same_is answer begun coming new d e room room_after room_is begun_is pieces_is end_is done =
    λ i. (answer, room_is i, left_with (begun_is i) (pieces_is i) (end_is i), done i)

module _ (coming : Outcome) (new : Rest) (e : Bool) (room_after : List ℕ) (before after : ℕ) where
  abbrev none_begun : Rest
  none_begun = record { begun = []; coming = coming }

  idle_is : (d : Bool) (room : List ℕ) (n : ℕ) → Idle none_begun new d e room room_after before after n
      → ◌≡◌ {A = Pulled} (Ok n, room_after, left_of new, e)
      (Ok 0, room, left_with [] (pieces_of_outcome coming) (end_of_outcome coming), d)
  idle_is d room n idle = λ i. (Ok (idle.none i), idle.unchanged i, left_of (idle.rest i), idle.done i)

  done_idle : (d : Bool) (r : ℕ) (room : List ℕ) (n : ℕ) → Idle none_begun new d e (r ∷ room) room_after before after n
      → (length (r ∷ room) ≡ 0) ⊎ (d ≡ true)
      → ◌≡◌ {A = Pulled} (Ok n, room_after, left_of new, e)
      (pulled_next d (pieces_of_outcome coming) (end_of_outcome coming) (r ∷ room))
  done_idle d r room n idle (inl none) = absurd (omega (arith, none))
  done_idle true r room n idle (inr is) = idle_is true (r ∷ room) n idle
  done_idle false r room n idle (inr is) = cc

  next_is : (d : Bool) (r : ℕ) (room : List ℕ) (n : ℕ) → Settled (left_of none_begun) d
      → Next none_begun new d e (r ∷ room) room_after before after n
      → ◌≡◌ {A = Pulled} (Ok n, room_after, left_of new, e)
      (pulled_next d (pieces_of_outcome coming) (end_of_outcome coming) (r ∷ room))
  next_is true r room n settled next =
      let none : (next.piece ∷ pieces_of_outcome new.coming) ≡ [] =
      sym (ap pieces_of_outcome next.is) ∙ (settled refl).1 in
      cc
  next_is false r room n settled next =
      subst (λ (o : Outcome). ◌≡◌ {A = Pulled} (Ok n, room_after, left_of new, e)
      (pulled_next false (pieces_of_outcome o) (end_of_outcome o) (r ∷ room))) (sym next.is)
      (gave_is (piece_bytes next.piece) (pieces_of_outcome new.coming) (end_of_outcome new.coming) false e (r ∷ room)
      room_after n new next.gave refl refl next.done)

  end_is : (d : Bool) (r : ℕ) (room : List ℕ) (n : ℕ) → AtEnd none_begun new d e (r ∷ room) room_after before after n
      → ◌≡◌ {A = Pulled} (Ok n, room_after, left_of new, e)
      (pulled_next d (pieces_of_outcome coming) (end_of_outcome coming) (r ∷ room))
  end_is true r room n end = let open_yet = end.was_open in cc
  end_is false r room n end =
      let here : ◌≡◌ {A = Pulled} (Ok n, room_after, left_of new, e)
      (Ok 0, r ∷ room, left_with [] [] WholeRun, true) =
      λ i. (
        Ok (end.none i),
        end.unchanged i,
        left_with (end.begun i) (end.new_whole.0 i) (end.new_whole.1 i),
        end.is_done i,
      ) in
      let there : pulled_next false (pieces_of_outcome coming) (end_of_outcome coming) (r ∷ room)
      ≡ pulled_next false [] WholeRun (r ∷ room) =
      λ i. pulled_next false (end.old_whole.0 i) (end.old_whole.1 i) (r ∷ room) in
      here ∙ sym there

  -- what a refusal leaves
  refused_is : (d : Bool) (room : List ℕ) (answer : RenderingAnswer)
      → Refused none_begun new d e room room_after before after
      → ◌≡◌ {A = Pulled} (answer, room_after, left_of new, e)
      (answer, room, left_with [] (pieces_of_outcome coming) (end_of_outcome coming), d)
  refused_is d room answer h =
      same_is answer [] coming new d e room room_after h.unchanged h.begun
      (sym (ap pieces_of_outcome h.same ∙ pieces_spent h.spent new.coming))
      (sym (ap end_of_outcome h.same ∙ end_spent h.spent new.coming)) h.done

  deep_is : (d : Bool) (room : List ℕ) (call : TooDeep) → Settled (left_of none_begun) d
      → Refused none_begun new d e room room_after before after → pieces_of_outcome coming ≡ []
      → end_of_outcome coming ≡ stops_at call
      → ◌≡◌ {A = Pulled} (Err (refusal.Because call), room_after, left_of new, e)
      (pulled_next d (pieces_of_outcome coming) (end_of_outcome coming) room)
  deep_is true room call settled h pieces stop =
      let whole : WholeRun ≡ stops_at call = sym ((settled refl).2) ∙ stop in cc
  deep_is false room call settled h pieces stop =
      let here : ◌≡◌ {A = Pulled} (Err (refusal.Because call), room_after, left_of new, e)
      (Err (refusal.Because call), room, left_with [] [] (stops_at call), false) =
      refused_is false room (Err (refusal.Because call)) h
      ∙ (λ i. (Err (refusal.Because call), room, left_with [] (pieces i) (stop i), false)) in
      let there : pulled_next false (pieces_of_outcome coming) (end_of_outcome coming) room
      ≡ pulled_next false [] (stops_at call) room = λ i. pulled_next false (pieces i) (stop i) room in
      here ∙ sym there

  fresh_is : (d : Bool) (room : List ℕ) (answer : RenderingAnswer) → Settled (left_of none_begun) d → IsNotMemory answer
      → Fresh none_begun new d e room room_after before after answer
      → ◌≡◌ {A = Pulled} (answer, room_after, left_of new, e) (pulled (left_of none_begun) d room)
  fresh_is d [] (Ok n) settled not (inl idle) = idle_is d [] n idle
  fresh_is d [] (Ok n) settled not (inr (inl next)) = absurd (omega (arith, next.has_room))
  fresh_is d [] (Ok n) settled not (inr (inr end)) = absurd (omega (arith, end.has_room))
  fresh_is d [] (Err (refusal.Because call)) settled not h = absurd (omega (arith, h.0.has_room))
  fresh_is d (r ∷ room) (Ok n) settled not (inl idle) = done_idle d r room n idle idle.why
  fresh_is d (r ∷ room) (Ok n) settled not (inr (inl next)) = next_is d r room n settled next
  fresh_is d (r ∷ room) (Ok n) settled not (inr (inr end)) = end_is d r room n end
  fresh_is d (r ∷ room) (Err (refusal.Because call)) settled not h = deep_is d (r ∷ room) call settled h.0 h.1 h.2
  fresh_is d room (Err refusal.OutOfMemory) settled not h = absurd not

begun_is : (b : ℕ) (begun : List ℕ) (coming : Outcome) (new : Rest) (d e : Bool) (room room_after : List ℕ)
    (before after : ℕ) (answer : RenderingAnswer)
    → Begun (record { begun = b ∷ begun; coming = coming }) new d e room room_after before after answer
    → ◌≡◌ {A = Pulled} (answer, room_after, left_of new, e)
    (pulled (left_of (record { begun = b ∷ begun; coming = coming })) d room)
begun_is b begun coming new d e room room_after before after (Ok n) h =
    gave_is (b ∷ begun) (pieces_of_outcome coming) (end_of_outcome coming) d e room room_after n new h.0
    (ap pieces_of_outcome h.1) (ap end_of_outcome h.1) h.2
begun_is b begun coming new d e room room_after before after (Err refused) h = absurd h

pulls_are : (begun : List ℕ) (coming : Outcome) (new : Rest) (d e : Bool) (room room_after : List ℕ)
    (before after : ℕ) (answer : RenderingAnswer)
    → Settled (left_of (record { begun = begun; coming = coming })) d → IsNotMemory answer
    → Pulls begun (record { begun = begun; coming = coming }) new d e room room_after before after answer
    → ◌≡◌ {A = Pulled} (answer, room_after, left_of new, e)
    (pulled (left_of (record { begun = begun; coming = coming })) d room)
pulls_are [] coming new d e room room_after before after answer settled not h =
    fresh_is coming new e room_after before after d room answer settled not h
pulls_are (b ∷ begun) coming new d e room room_after before after answer settled not h =
    begun_is b begun coming new d e room room_after before after answer h

pub pull_is : (old : Rest) (d : Bool) (c : PullCall RenderingAnswer) (new : Rest) (e : Bool)
    → Settled (left_of old) d → IsNotMemory c.answer → PullsRest old d c new e
    → ◌≡◌ {A = Pulled} (c.answer, c.room_after, left_of new, e) (pulled (left_of old) d c.room)
pull_is old d c new e settled not h =
    pulls_are old.begun old.coming new d e c.room c.room_after c.steps c.steps_after c.answer settled not h

-- ---- a pull that memory refused leaves what is left

memory_leaves : (begun : List ℕ) (coming : Outcome) (new : Rest) (d e : Bool) (room room_after : List ℕ)
    (before after : ℕ)
    → Pulls begun (record { begun = begun; coming = coming }) new d e room room_after before after
    (Err refusal.OutOfMemory)
    → (left_of new ≡ left_of (record { begun = begun; coming = coming })) × (e ≡ d)
memory_leaves [] coming new d e room room_after before after h =
    let same = refused_is coming new e room_after before after d room (Err refusal.OutOfMemory) h.0 in
    (ap (λ (p : Pulled). p.2) same, h.0.done)
memory_leaves (b ∷ begun) coming new d e room room_after before after h = absurd h

pub refused_leaves : (old : Rest) (d : Bool) (c : PullCall RenderingAnswer) (new : Rest) (e : Bool)
    → c.answer ≡ Err refusal.OutOfMemory → PullsRest old d c new e → (left_of new ≡ left_of old) × (e ≡ d)
refused_leaves old d c new e is h =
    memory_leaves old.begun old.coming new d e c.room c.room_after c.steps c.steps_after
    (subst (λ (a : RenderingAnswer). Pulls old.begun old new d e c.room c.room_after c.steps c.steps_after a) is h)

-- ---- what is done stays settled

next_settles : (done : Bool) (pieces : List Piece) (end : RunEnd) (room : List ℕ)
    → Settled (left_with [] pieces end) done
    → Settled (pulled_next done pieces end room).2 (pulled_next done pieces end room).3
next_settles true pieces end room settled = settled
next_settles false [] WholeRun room settled = λ is. (refl, refl, refl)
next_settles false [] (StopsAt site) room settled = λ is. cc
next_settles false (piece ∷ pieces) end room settled = λ is. cc

from_settles : (begun : List ℕ) (pieces : List Piece) (end : RunEnd) (done : Bool) (room : List ℕ)
    → Settled (left_with begun pieces end) done
    → Settled (pulled_from begun pieces end done room).2 (pulled_from begun pieces end done room).3
from_settles (b ∷ begun) pieces end done room settled =
    λ is. let none : (b ∷ begun) ≡ [] = (settled is).0 in cc
from_settles [] pieces end done [] settled = settled
from_settles [] pieces end done (r ∷ room) settled = next_settles done pieces end (r ∷ room) settled

not_memory_case : (answer : RenderingAnswer) → IsNotMemory answer ⊎ (answer ≡ Err refusal.OutOfMemory)
not_memory_case (Ok n) = inl tt
not_memory_case (Err (refusal.Because call)) = inl tt
not_memory_case (Err refusal.OutOfMemory) = inr refl

settles_case : (old : Rest) (d : Bool) (c : PullCall RenderingAnswer) (new : Rest) (e : Bool)
    → Settled (left_of old) d → PullsRest old d c new e
    → IsNotMemory c.answer ⊎ (c.answer ≡ Err refusal.OutOfMemory) → Settled (left_of new) e
settles_case old d c new e settled h (inl not) =
    let same = pull_is old d c new e settled not h in
    subst (λ (p : Pulled). Settled p.2 p.3) (sym same)
    (from_settles old.begun (pieces_of_outcome old.coming) (end_of_outcome old.coming) d c.room settled)
settles_case old d c new e settled h (inr is) =
    let same = refused_leaves old d c new e is h in
    subst (λ (left : Left). Settled left e) (sym same.0)
    (subst (λ (done : Bool). Settled (left_of old) done) (sym same.1) settled)

pub settles : (old : Rest) (d : Bool) (c : PullCall RenderingAnswer) (new : Rest) (e : Bool)
    → Settled (left_of old) d → PullsRest old d c new e → Settled (left_of new) e
settles old d c new e settled h = settles_case old d c new e settled h (not_memory_case c.answer)

-- ---- the bytes

abbrev left_bytes : Left → List ℕ
left_bytes left = left.begun ++ encode_utf8_all (joined_pieces left.pieces)

encodes_piece : (piece : Piece) (pieces : List Piece)
    → encode_utf8_all (joined_pieces (piece ∷ pieces)) ≡ piece_bytes piece ++ encode_utf8_all (joined_pieces pieces)
encodes_piece (Static text) pieces = encodes-append text (joined_pieces pieces)
encodes_piece (Value text) pieces = encodes-append text (joined_pieces pieces)

-- what is given stands at the beginning of the room
given_first : (n : ℕ) (bytes room : List ℕ) → n ≤ length bytes → take n (take n bytes ++ drop n room) ≡ take n bytes
given_first n bytes room within =
    let whole : length (take n bytes) ≡ n = length-take-le n bytes within in
    let short : n ≤ length (take n bytes) = omega (arith, whole) in
    take-append-le n (take n bytes) (drop n room) short
    ∙ take_all n (take n bytes) (let h : length (take n bytes) ≤ n = omega (arith, whole) in h)

given_splits : (n : ℕ) (bytes room rest : List ℕ) → n ≤ length bytes
    → bytes ++ rest ≡ take n (take n bytes ++ drop n room) ++ (drop n bytes ++ rest)
given_splits n bytes room rest within =
    ap (λ (bs : List ℕ). bs ++ rest) (sym (take-append-drop n bytes))
    ∙ (append_assoc (take n bytes) (drop n bytes) rest
    ∙ ap (λ (bs : List ℕ). bs ++ (drop n bytes ++ rest)) (sym (given_first n bytes room within)))

min_within : (a b : ℕ) → min a b ≤ b
min_within a b = omega arith

next_bytes : (done : Bool) (pieces : List Piece) (end : RunEnd) (room : List ℕ)
    → left_bytes (left_with [] pieces end)
    ≡ bytes_given (pulled_next done pieces end room).0 (pulled_next done pieces end room).1
    ++ left_bytes (pulled_next done pieces end room).2
next_bytes true pieces end room = refl
next_bytes false [] WholeRun room = refl
next_bytes false [] (StopsAt site) room = refl
next_bytes false (piece ∷ pieces) end room =
    encodes_piece piece pieces
    ∙ given_splits (min (length room) (length (piece_bytes piece))) (piece_bytes piece) room
    (encode_utf8_all (joined_pieces pieces)) (min_within (length room) (length (piece_bytes piece)))

from_bytes : (begun : List ℕ) (pieces : List Piece) (end : RunEnd) (done : Bool) (room : List ℕ)
    → left_bytes (left_with begun pieces end)
    ≡ bytes_given (pulled_from begun pieces end done room).0 (pulled_from begun pieces end done room).1
    ++ left_bytes (pulled_from begun pieces end done room).2
from_bytes (b ∷ begun) pieces end done room =
    given_splits (min (length room) (length (b ∷ begun))) (b ∷ begun) room (encode_utf8_all (joined_pieces pieces))
    (min_within (length room) (length (b ∷ begun)))
from_bytes [] pieces end done [] = refl
from_bytes [] pieces end done (r ∷ room) = next_bytes done pieces end (r ∷ room)

bytes_case : (old : Rest) (d : Bool) (c : PullCall RenderingAnswer) (new : Rest) (e : Bool)
    → Settled (left_of old) d → PullsRest old d c new e
    → IsNotMemory c.answer ⊎ (c.answer ≡ Err refusal.OutOfMemory)
    → rest_bytes old ≡ bytes_given c.answer c.room_after ++ rest_bytes new
bytes_case old d c new e settled h (inl not) =
    let same = pull_is old d c new e settled not h in
    from_bytes old.begun (pieces_of_outcome old.coming) (end_of_outcome old.coming) d c.room
    ∙ sym (ap (λ (p : Pulled). bytes_given p.0 p.1 ++ left_bytes p.2) same)
bytes_case old d c new e settled h (inr is) =
    sym (ap left_bytes (refused_leaves old d c new e is h).0)
    ∙ ap (λ (a : RenderingAnswer). bytes_given a c.room_after ++ rest_bytes new) (sym is)

pub pull_bytes : (old : Rest) (d : Bool) (c : PullCall RenderingAnswer) (new : Rest) (e : Bool)
    → Settled (left_of old) d → PullsRest old d c new e
    → rest_bytes old ≡ bytes_given c.answer c.room_after ++ rest_bytes new
pull_bytes old d c new e settled h = bytes_case old d c new e settled h (not_memory_case c.answer)

-- ---- pulls of a rendering alone

pub alone_bytes : (calls : List (PullCall RenderingAnswer)) (old : Rest) (d : Bool) (new : Rest) (e : Bool)
    → Settled (left_of old) d → Alone old d calls new e → rest_bytes old ≡ all_given calls ++ rest_bytes new
alone_bytes [] old d new e settled h = sym (ap rest_bytes h.0)
alone_bytes (c ∷ calls) old d new e settled h =
    let next = settles old d c h.0 h.1 settled h.2 in
    pull_bytes old d c h.0 h.1 settled h.2
    ∙ (ap (λ (bs : List ℕ). bytes_given c.answer c.room_after ++ bs) (alone_bytes calls h.0 h.1 new e next h.3)
    ∙ sym (append_assoc (bytes_given c.answer c.room_after) (all_given calls) (rest_bytes new)))

same_room : (r s : List ℕ) (rooms others : List (List ℕ)) → (r ∷ rooms) ≡ (s ∷ others) → (r ≡ s) × (rooms ≡ others)
same_room r s rooms others is = (cc, cc)

-- the same pulls of what is left alike are answered alike
pub same_answers : (calls others : List (PullCall RenderingAnswer)) (old : Rest) (d : Bool) (new : Rest) (e : Bool)
    (old' : Rest) (d' : Bool) (new' : Rest) (e' : Bool) → Settled (left_of old) d → left_of old ≡ left_of old'
    → d ≡ d' → Alone old d calls new e → Alone old' d' others new' e' → rooms_of calls ≡ rooms_of others
    → NoneRefused calls → NoneRefused others → answers_of calls ≡ answers_of others
same_answers [] [] old d new e old' d' new' e' settled left done h h' rooms none none' = refl
same_answers [] (c ∷ others) old d new e old' d' new' e' settled left done h h' rooms none none' = cc
same_answers (c ∷ calls) [] old d new e old' d' new' e' settled left done h h' rooms none none' = cc
same_answers (c ∷ calls) (c' ∷ others) old d new e old' d' new' e' settled left done h h' rooms none none' =
    let alike = same_room c.room c'.room (rooms_of calls) (rooms_of others) rooms in
    let settled' : Settled (left_of old') d' =
    subst (λ (l : Left). Settled l d') left (subst (λ (b : Bool). Settled (left_of old) b) done settled) in
    let both : ◌≡◌ {A = Pulled} (c.answer, c.room_after, left_of h.0, h.1)
    (c'.answer, c'.room_after, left_of h'.0, h'.1) =
    pull_is old d c h.0 h.1 settled none.0 h.2
    ∙ ((λ i. pulled (left i) (done i) (alike.0 i))
    ∙ sym (pull_is old' d' c' h'.0 h'.1 settled' none'.0 h'.2)) in
    let rest = same_answers calls others h.0 h.1 new e h'.0 h'.1 new' e' (settles old d c h.0 h.1 settled h.2)
    (ap (λ (p : Pulled). p.2) both) (ap (λ (p : Pulled). p.3) both) h.3 h'.3 alike.1 none.1 none'.1 in
    λ i. (ap (λ (p : Pulled). p.0) both i, ap (λ (p : Pulled). p.1) both i) ∷ rest i
