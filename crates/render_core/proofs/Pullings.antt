-- Pulls, from what the machine does.
use Rattle.std.proofs.Common.{◌≡◌, ℕ, ◌≤◌, ◌<◌, ◌⊎◌, inl, inr, Bool, true, false, List, [], ◌∷◌}
use Rattle.std.proofs.Common.{◌++◌, Option}
use Rattle.std.proofs.Common.{Some, None, Result, Ok, Err, length, take, drop, refl, sym, ap, ◌∙◌, arith, subst}
use Rattle.std.proofs.Common.{append_assoc}
use Rattle.std.specs.Prelude.{IfOk, ◌==◌, encode_utf8_all}
use Rattle.std.proofs.lemmas.Bool.Decides.{nat_tests}
use Rattle.std.proofs.lemmas.List.{length-take-le, take-append-drop, take-append-le, take_all}
use Rattle.std.proofs.lemmas.Str.{encodes-append}
use Rattle.soy_base.specs.Piece.{Piece, Static, Value}
use Rattle.soy_base.specs.declared.fault.TooDeep.{TooDeep}
use Rattle.soy_base.specs.declared.memory.Refusal.{Refusal}
use Rattle.soy_base.specs.declared.memory.Refusal.TheVariants as refusal
use Rattle.soy_tree.specs.Values as values
use Rattle.soy_pieces.specs.Meaning.{joined_pieces}
use Rattle.soy_pieces.specs.Outcome.{Outcome, WholeRun, end_of_outcome, pieces_of_outcome}
use Rattle.render_core.specs.Pulls.{Begun, Fresh, Gave, Next, Pulls, Refused, stops_at}
use Rattle.template_ir.specs.declared.program.ProgramParts.{ProgramParts}
use Rattle.render_core.specs.Frames.{MachineFits}
use Rattle.render_core.specs.Rest.{BegunFits, DoneFits, Fits, IsWhole, Rest, begun_left, coming}
use Rattle.render_core.specs.Rest.{piece_bytes}
use Rattle.render_core.specs.Rest.{rest_bytes, rest_end, rest_of}
use Rattle.render_core.specs.Stepping.{Advanced, IsSpared, Left, output}
use Rattle.render_core.specs.declared.begun.Begun as code_begun
use Rattle.render_core.specs.declared.rendering.Rendering.{Rendering}
use Rattle.render_core.proofs.Wents.{end_first}

-- the bytes of pieces, one after the other
encodes_piece : (piece : Piece) (pieces : List Piece)
    → encode_utf8_all (joined_pieces (piece ∷ pieces)) ≡ piece_bytes piece ++ encode_utf8_all (joined_pieces pieces)
encodes_piece (Static text) pieces = encodes-append text (joined_pieces pieces)
encodes_piece (Value text) pieces = encodes-append text (joined_pieces pieces)

-- what is given stands at the beginning of the room
gave_given : (left after room room_after : List ℕ) (n : ℕ) → Gave left after room room_after n
    → take n room_after ≡ take n left
gave_given left after room room_after n gave =
    let size = gave.size in
    let within : n ≤ length left = omega (arith, size) in
    let whole : length (take n left) ≡ n = length-take-le n left within in
    let short : n ≤ length (take n left) = omega (arith, whole) in
    ap (λ (bs : List ℕ). take n bs) gave.given
    ∙ (take-append-le n (take n left) (drop n room) short
    ∙ take_all n (take n left) (let h : length (take n left) ≤ n = omega (arith, whole) in h))

-- what is given, and what is left, are what was left
gave_bytes : (left after room room_after rest : List ℕ) (n : ℕ) → Gave left after room room_after n
    → left ++ rest ≡ take n room_after ++ (after ++ rest)
gave_bytes left after room room_after rest n gave =
    ap (λ bs. bs ++ rest) (sym (take-append-drop n left))
    ∙ (append_assoc (take n left) (drop n left) rest
    ∙ (ap (λ bs. bs ++ (drop n left ++ rest)) (sym (gave_given left after room room_after n gave))
    ∙ ap (λ bs. take n room_after ++ (bs ++ rest)) (sym gave.begun)))

abbrev bytes_of : Outcome → List ℕ
bytes_of o = encode_utf8_all (joined_pieces (pieces_of_outcome o))

begun_bytes : (old new : Rest) (d e : Bool) (room room_after : List ℕ) (b a : ℕ) (result : Result ℕ (Refusal TooDeep))
    → Begun old new d e room room_after b a result
    → IfOk result (λ n. rest_bytes old ≡ take n room_after ++ rest_bytes new)
begun_bytes old new d e room room_after b a (Ok n) h =
    gave_bytes old.begun new.begun room room_after (bytes_of old.coming) n h.0
    ∙ ap (λ (o : Outcome). take n room_after ++ (new.begun ++ bytes_of o)) (sym h.1)
begun_bytes old new d e room room_after b a (Err r) h = absurd h

next_bytes : (old new : Rest) (d e : Bool) (room room_after : List ℕ) (b a n : ℕ) → old.begun ≡ []
    → Next old new d e room room_after b a n → rest_bytes old ≡ take n room_after ++ rest_bytes new
next_bytes old new d e room room_after b a n none h =
    ap (λ bs. bs ++ bytes_of old.coming) none
    ∙ (ap bytes_of h.is
    ∙ (encodes_piece h.piece (pieces_of_outcome new.coming)
    ∙ gave_bytes (piece_bytes h.piece) new.begun room room_after (bytes_of new.coming) n h.gave))

-- where nothing is given and nothing is to come
no_bytes : (old new : Rest) (room_after : List ℕ) (n : ℕ) → n ≡ 0 → old.begun ≡ [] → new.begun ≡ []
    → pieces_of_outcome old.coming ≡ [] → pieces_of_outcome new.coming ≡ []
    → rest_bytes old ≡ take n room_after ++ rest_bytes new
no_bytes old new room_after n zero_is old_none new_none old_pieces new_pieces =
    ap (λ bs. bs ++ bytes_of old.coming) old_none
    ∙ (ap (λ ps. encode_utf8_all (joined_pieces ps)) (old_pieces ∙ sym new_pieces)
    ∙ (ap (λ bs. bs ++ bytes_of new.coming) (sym new_none)
    ∙ ap (λ k. take k room_after ++ rest_bytes new) (sym zero_is)))

fresh_bytes : (old new : Rest) (d e : Bool) (room room_after : List ℕ) (b a : ℕ) (result : Result ℕ (Refusal TooDeep))
    → old.begun ≡ [] → Fresh old new d e room room_after b a result
    → IfOk result (λ n. rest_bytes old ≡ take n room_after ++ rest_bytes new)
fresh_bytes old new d e room room_after b a (Ok n) none (inl idle) =
    sym (ap rest_bytes idle.rest) ∙ ap (λ k. take k room_after ++ rest_bytes new) (sym idle.none)
fresh_bytes old new d e room room_after b a (Ok n) none (inr (inl next)) =
    next_bytes old new d e room room_after b a n none next
fresh_bytes old new d e room room_after b a (Ok n) none (inr (inr end)) =
    no_bytes old new room_after n end.none none end.begun end.old_whole.0 end.new_whole.0
fresh_bytes old new d e room room_after b a (Err r) none h = tt

-- ---- the end

fresh_end : (old new : Rest) (d e : Bool) (room room_after : List ℕ) (b a : ℕ) (result : Result ℕ (Refusal TooDeep))
    → Fresh old new d e room room_after b a result → rest_end old ≡ rest_end new
fresh_end old new d e room room_after b a (Ok n) (inl idle) = sym (ap rest_end idle.rest)
fresh_end old new d e room room_after b a (Ok n) (inr (inl next)) = ap end_of_outcome next.is
fresh_end old new d e room room_after b a (Ok n) (inr (inr end)) = end.old_whole.1 ∙ sym end.new_whole.1
fresh_end old new d e room room_after b a (Err (refusal.Because call)) h =
    ap end_of_outcome h.0.same ∙ end_first h.0.spent new.coming
fresh_end old new d e room room_after b a (Err refusal.OutOfMemory) h =
    ap end_of_outcome h.0.same ∙ end_first h.0.spent new.coming

begun_end : (old new : Rest) (d e : Bool) (room room_after : List ℕ) (b a : ℕ) (result : Result ℕ (Refusal TooDeep))
    → Begun old new d e room room_after b a result → rest_end old ≡ rest_end new
begun_end old new d e room room_after b a (Ok n) h = ap end_of_outcome (sym h.1)
begun_end old new d e room room_after b a (Err r) h = absurd h

-- ---- pulls

pub pulled_bytes : (begun : List ℕ) (old new : Rest) (d e : Bool) (room room_after : List ℕ) (b a : ℕ)
    (result : Result ℕ (Refusal TooDeep)) → old.begun ≡ begun → Pulls begun old new d e room room_after b a result
    → IfOk result (λ n. rest_bytes old ≡ take n room_after ++ rest_bytes new)
pulled_bytes [] old new d e room room_after b a result is h = fresh_bytes old new d e room room_after b a result is h
pulled_bytes (c ∷ begun) old new d e room room_after b a result is h =
    begun_bytes old new d e room room_after b a result h

pub pulled_end : (begun : List ℕ) (old new : Rest) (d e : Bool) (room room_after : List ℕ) (b a : ℕ)
    (result : Result ℕ (Refusal TooDeep)) → Pulls begun old new d e room room_after b a result
    → rest_end old ≡ rest_end new
pulled_end [] old new d e room room_after b a result h = fresh_end old new d e room room_after b a result h
pulled_end (c ∷ begun) old new d e room room_after b a result h = begun_end old new d e room room_after b a result h

-- where only a stop is to come, a pull isn't answered with a number
stop_end : (call : TooDeep) → stops_at call ≡ WholeRun → ⊥
stop_end call e = cc

idle_deep : (old : Rest) (d : Bool) (room : List ℕ) (call : TooDeep) → (d ≡ true → IsWhole old.coming) → 0 < length room
    → end_of_outcome old.coming ≡ stops_at call → (length room ≡ 0) ⊎ (d ≡ true) → ⊥
idle_deep old d room call whole some stop (inl none) = omega (arith, none, some)
idle_deep old d room call whole some stop (inr is) = stop_end call (sym stop ∙ (whole is).1)

fresh_deep : (old new : Rest) (d e : Bool) (room room_after : List ℕ) (b a : ℕ) (result : Result ℕ (Refusal TooDeep))
    (call : TooDeep) → (d ≡ true → IsWhole old.coming) → Fresh old new d e room room_after b a result → 0 < length room
    → pieces_of_outcome old.coming ≡ [] → end_of_outcome old.coming ≡ stops_at call → IfOk result (λ n. ⊥)
fresh_deep old new d e room room_after b a (Ok n) call whole (inl idle) some none stop =
    idle_deep old d room call whole some stop idle.why
fresh_deep old new d e room room_after b a (Ok n) call whole (inr (inl next)) some none stop =
    let bad : (next.piece ∷ pieces_of_outcome new.coming) ≡ [] = sym (ap pieces_of_outcome next.is) ∙ none in cc
fresh_deep old new d e room room_after b a (Ok n) call whole (inr (inr end)) some none stop =
    stop_end call (sym stop ∙ end.old_whole.1)
fresh_deep old new d e room room_after b a (Err r) call whole h some none stop = tt

pub pulled_deep : (begun : List ℕ) (old new : Rest) (d e : Bool) (room room_after : List ℕ) (b a : ℕ)
    (result : Result ℕ (Refusal TooDeep)) (call : TooDeep) → old.begun ≡ begun → (d ≡ true → IsWhole old.coming)
    → Pulls begun old new d e room room_after b a result → old.begun ≡ [] → 0 < length room
    → pieces_of_outcome old.coming ≡ [] → end_of_outcome old.coming ≡ stops_at call → IfOk result (λ n. ⊥)
pulled_deep [] old new d e room room_after b a result call is whole h none_begun some none stop =
    fresh_deep old new d e room room_after b a result call whole h some none stop
pulled_deep (c ∷ begun) old new d e room room_after b a result call is whole h none_begun some none stop =
    let bad : (c ∷ begun) ≡ [] = sym is ∙ none_begun in cc

-- ---- one pull

pub is_empty : (n : ℕ) → (n == 0) ≡ true → n ≡ 0
is_empty n e = grind (arith, nat_tests)

pub isnt_empty : (n : ℕ) → (n == 0) ≡ false → 0 < n
isnt_empty n e = grind (arith, nat_tests)

done_whole : (d : Bool) (piece : Option code_begun.Begun) (o : Outcome) → DoneFits d piece o → d ≡ true → IsWhole o
done_whole true piece o fits e = fits.1
done_whole false piece o fits e = cc

module _ (p : ProgramParts) (input : values.Value) where
  pub ended_whole : (r : Rendering) → Fits p input r → r.done ≡ true → IsWhole (coming p input r.machine)
  ended_whole r fits e = done_whole r.done r.piece (coming p input r.machine) fits.done e

  fits_by : (r : Rendering) → MachineFits r.machine → BegunFits p input r.machine.bound r.piece → r.done ≡ false
      → Fits p input r
  fits_by r machine piece e = record {
    machine = machine;
    piece = piece;
    done = subst (λ (d : Bool). DoneFits d r.piece (coming p input r.machine)) (sym e) tt;
  }

  none_fits : (r : Rendering) → r.piece ≡ None → BegunFits p input r.machine.bound r.piece
  none_fits r e = subst (λ (b : Option code_begun.Begun). BegunFits p input r.machine.bound b) (sym e) tt

  none_left : (r : Rendering) → r.piece ≡ None → (rest_of p input r).begun ≡ []
  none_left r e = ap (λ (b : Option code_begun.Begun). begun_left p input r.machine.bound b) e

  -- the next piece
  pub next_pulls : (old new : Rendering) (room room_after : List ℕ) (before after n : ℕ) → old.done ≡ false
      → 0 < length room
      → Advanced p input old.machine new.machine before after (output room room_after new.piece) (Ok (Some n))
      → new.done ≡ old.done
      → Fits p input new
      × Fresh (rest_of p input old) (rest_of p input new) old.done new.done room room_after before after (Ok n)
  next_pulls old new room room_after before after n open_yet some next done = (
    fits_by new next.fits next.given.1 (done ∙ open_yet),
    inr (inl (record {
      spent = next.spent;
      piece = next.piece;
      is = next.same;
      some = next.some;
      has_room = some;
      done = done;
      cost = next.cost;
      gave = next.given.0;
    })),
  )

  -- the end
  pub end_pulls : (old new : Rendering) (room room_after : List ℕ) (before after : ℕ) → old.done ≡ false
      → 0 < length room
      → Advanced p input old.machine new.machine before after (output room room_after new.piece) (Ok None)
      → new.done ≡ true
      → Fits p input new
      × Fresh (rest_of p input old) (rest_of p input new) old.done new.done room room_after before after (Ok 0)
  end_pulls old new room room_after before after open_yet some h done = (
    record {
      machine = h.1.fits;
      piece = none_fits new h.0.1;
      done = subst (λ (d : Bool). DoneFits d new.piece (coming p input new.machine)) (sym done) (h.0.1, h.3);
    },
    inr (inr (record {
      none = refl;
      has_room = some;
      unchanged = h.0.0;
      begun = none_left new h.0.1;
      old_whole = h.2;
      new_whole = h.3;
      was_open = open_yet;
      is_done = done;
      low = h.1.low;
      high = h.1.high;
    })),
  )

  refused : (old new : Rendering) (room room_after : List ℕ) (before after : ℕ) → 0 < length room
      → IsSpared (output room room_after new.piece) → Left p input old.machine new.machine before after
      → new.done ≡ old.done
      → Refused (rest_of p input old) (rest_of p input new) old.done new.done room room_after before after
  refused old new room room_after before after some spared h done = record {
    has_room = some;
    unchanged = spared.0;
    spent = h.spent;
    same = h.same;
    begun = none_left new spared.1;
    done = done;
    low = h.low;
    high = h.high;
  }

  -- a refusal
  pub refused_pulls : (old new : Rendering) (room room_after : List ℕ) (before after : ℕ) (r : Refusal TooDeep)
      → old.done ≡ false → 0 < length room
      → Advanced p input old.machine new.machine before after (output room room_after new.piece) (Err r)
      → new.done ≡ old.done
      → Fits p input new
      × Fresh (rest_of p input old) (rest_of p input new) old.done new.done room room_after before after (Err r)
  refused_pulls old new room room_after before after (refusal.Because call) open_yet some h done = (
    fits_by new h.1.fits (none_fits new h.0.1) (done ∙ open_yet),
    (refused old new room room_after before after some h.0 h.1 done, h.2, h.3),
  )
  refused_pulls old new room room_after before after refusal.OutOfMemory open_yet some h done = (
    fits_by new h.1.fits (none_fits new h.0.1) (done ∙ open_yet),
    (refused old new room room_after before after some h.0 h.1 done, open_yet),
  )
