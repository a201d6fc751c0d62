-- What a pull of a rendering gives and leaves, in bytes.
use Rattle.std.proofs.Common.{◌≡◌, ℕ, ◌≤◌, ◌<◌, ◌⊎◌, inl, inr, Bool, true, false, List, [], ◌∷◌, ◌++◌, Option, Ok, Err}
use Rattle.std.proofs.Common.{length, refl, sym, subst, ap, ◌∙◌, arith, take}
use Rattle.std.specs.Prelude.{IfOk, Result, encode_utf8_all}
use Rattle.soy_base.specs.declared.fault.TooDeep.{TooDeep}
use Rattle.soy_base.specs.declared.memory.Refusal.{Refusal}
use Rattle.soy_base.specs.declared.memory.Refusal.TheVariants as refusal
use Rattle.soy_pieces.specs.Meaning.{joined_pieces}
use Rattle.soy_pieces.specs.Outcome.{GivesPiece, Outcome, RunEnds, Spent, WholeRun, pieces_of_outcome}
use Rattle.soy_pieces.specs.Outcome.{spent_first}
use Rattle.render_core.specs.Pulls.{Pulls, stops_at}
use Rattle.render_core.specs.Rest.{DoneFits, IsWhole, Rest, rest_bytes, rest_end}
use Rattle.render_core.specs.declared.begun.Begun.{Begun}

pieces_first : (a : Spent) (o : Outcome) → pieces_of_outcome (spent_first a o) ≡ pieces_of_outcome o
pieces_first a (RunEnds b e) = refl
pieces_first a (GivesPiece b p o) = refl

-- what is to come of a rendering that is done is nothing
done_whole : (d : Bool) (piece : Option Begun) (o : Outcome) → DoneFits d piece o → d ≡ true → IsWhole o
done_whole true piece o fits e = fits.1
done_whole false piece o fits e = cc

-- nothing is left where no piece has begun and nothing is to come
nothing_left : (rest : Rest) → rest.begun ≡ [] → pieces_of_outcome rest.coming ≡ [] → rest_bytes rest ≡ []
nothing_left rest none pieces =
    ap (λ bs. bs ++ encode_utf8_all (joined_pieces (pieces_of_outcome rest.coming))) none
    ∙ ap (λ ps. encode_utf8_all (joined_pieces ps)) pieces

-- what is refused leaves the bytes
same_bytes : (old new : Rest) (spent : Spent) → old.begun ≡ [] → new.begun ≡ []
    → old.coming ≡ spent_first spent new.coming → rest_bytes new ≡ rest_bytes old
same_bytes old new spent none none_after same =
    ap (λ bs. bs ++ encode_utf8_all (joined_pieces (pieces_of_outcome new.coming))) (none_after ∙ sym none)
    ∙ ap (λ ps. old.begun ++ encode_utf8_all (joined_pieces ps))
    (sym (ap pieces_of_outcome same ∙ pieces_first spent new.coming))

module _ (old new : Rest) (d e : Bool) (room after : List ℕ) (b a : ℕ) where
  within_by : (begun : List ℕ) (n : ℕ) → Pulls begun old new d e room after b a (Ok n) → n ≤ length room
  within_by [] n (inl idle) = omega (arith, idle.none)
  within_by [] n (inr (inl next)) = omega (arith, next.gave.size)
  within_by [] n (inr (inr end)) = omega (arith, end.none)
  within_by (x ∷ xs) n h = omega (arith, h.0.size)

  none_by : (begun : List ℕ) (n : ℕ) → old.begun ≡ begun → Pulls begun old new d e room after b a (Ok n) → n ≡ 0
      → 0 < length room → (d ≡ true → IsWhole old.coming) → (rest_bytes old ≡ []) × (rest_end old ≡ WholeRun)
  none_by [] n none (inl idle) zero_is some done = by_why idle.why
    where
      by_why : (length room ≡ 0) ⊎ (d ≡ true) → (rest_bytes old ≡ []) × (rest_end old ≡ WholeRun)
      by_why (inl empty) = absurd (omega (arith, empty, some))
      by_why (inr is) = (nothing_left old none (done is).0, (done is).1)
  none_by [] n none (inr (inl next)) zero_is some done =
      absurd (omega (arith, next.gave.size, next.some, some, zero_is))
  none_by [] n none (inr (inr end)) zero_is some done =
      (nothing_left old none end.old_whole.0, end.old_whole.1)
  none_by (x ∷ xs) n is h zero_is some done =
      let more : 0 < length old.begun = subst (λ bs. 0 < length bs) (sym is) (omega arith) in
      absurd (omega (arith, h.0.size, more, some, zero_is))

  stop_by : (begun : List ℕ) (call : TooDeep) → old.begun ≡ begun
      → Pulls begun old new d e room after b a (Err (refusal.Because call))
      → (rest_bytes old ≡ []) × (rest_end old ≡ stops_at call)
  stop_by [] call none h = (nothing_left old none h.1, h.2)
  stop_by (x ∷ xs) call none h = absurd h

  refused_by : (begun : List ℕ) (r : Refusal TooDeep) → old.begun ≡ begun
      → Pulls begun old new d e room after b a (Err r) → (rest_bytes new ≡ rest_bytes old) × (after ≡ room)
  refused_by [] (refusal.Because call) none h =
      (same_bytes old new h.0.spent none h.0.begun h.0.same, h.0.unchanged)
  refused_by [] refusal.OutOfMemory none h =
      (same_bytes old new h.0.spent none h.0.begun h.0.same, h.0.unchanged)
  refused_by (x ∷ xs) (refusal.Because call) none h = absurd h
  refused_by (x ∷ xs) refusal.OutOfMemory none h = absurd h

  -- what a pull gives by its answer
  abbrev pub GivesRest : Result ℕ (Refusal TooDeep) → Type 0
  GivesRest (Ok n) =
      (rest_bytes old ≡ take n after ++ rest_bytes new) × (n ≤ length room)
      × (n ≡ 0 → 0 < length room → (rest_bytes old ≡ []) × (rest_end old ≡ WholeRun))
  GivesRest (Err (refusal.Because call)) =
      ((rest_bytes new ≡ rest_bytes old) × (after ≡ room))
      × ((rest_bytes old ≡ []) × (rest_end old ≡ stops_at call))
  GivesRest (Err refusal.OutOfMemory) = (rest_bytes new ≡ rest_bytes old) × (after ≡ room)

  pub gives_rest : (piece : Option Begun) (r : Result ℕ (Refusal TooDeep)) → DoneFits d piece old.coming
      → Pulls old.begun old new d e room after b a r
      → IfOk r (λ n. rest_bytes old ≡ take n after ++ rest_bytes new) → GivesRest r
  gives_rest piece (Ok n) fits pulls bytes = (
    bytes,
    within_by old.begun n pulls,
    λ zero_is some. none_by old.begun n refl pulls zero_is some (done_whole d piece old.coming fits),
  )
  gives_rest piece (Err (refusal.Because call)) fits pulls bytes =
      (refused_by old.begun (refusal.Because call) refl pulls, stop_by old.begun call refl pulls)
  gives_rest piece (Err refusal.OutOfMemory) fits pulls bytes = refused_by old.begun refusal.OutOfMemory refl pulls
