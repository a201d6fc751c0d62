-- What pulls give of a page, and what is left of it.
use Rattle.std.proofs.Common.{◌≡◌, ℕ, ◌≤◌, ◌<◌, ◌⊎◌, inl, inr, Bool, true, false, List, [], ◌∷◌, ◌++◌, Option, Ok, Err}
use Rattle.std.proofs.Common.{length, refl, sym, subst, ap, ◌∙◌, arith, ◌+◌, take, length-append}
use Rattle.std.proofs.lemmas.List.{length-take-le}
use Rattle.std.specs.Prelude.{encode_utf8_all}
use Rattle.soy_base.specs.Piece.{Piece, Static, Value}
use Rattle.render_core.specs.Pulls.{Pulls, stops_at}
use Rattle.render_core.specs.Rest.{DoneFits, IsWhole, Rest, piece_text, rest_bytes, rest_end, solid, solid_piece}
use Rattle.render_core.specs.declared.begun.Begun.{Begun}
use Rattle.soy_base.specs.declared.fault.TooDeep.{TooDeep}
use Rattle.soy_base.specs.declared.memory.Refusal.{Refusal}
use Rattle.soy_base.specs.declared.memory.Refusal.TheVariants as refusal
use Rattle.soy_pieces.specs.Meaning.{joined_pieces}
use Rattle.soy_pieces.specs.Outcome.{GivesPiece, Outcome, RunEnds, Spent, WholeRun, end_of_outcome, pieces_of_outcome}
use Rattle.soy_pieces.specs.Outcome.{RunEnd, StopsAt, spent_first}
use Rattle.soy_top.specs.Answer.{run_text}
use Rattle.soy_top.specs.Runs.Output.{OnNoText}
use Rattle.soy_top.specs.Runs.ViewOutput.{view_end}
use Rattle.soy_top.specs.Words.{Word}

-- ---- without the empty pieces

pieces_first : (a : Spent) (o : Outcome) → pieces_of_outcome (spent_first a o) ≡ pieces_of_outcome o
pieces_first a (RunEnds b e) = refl
pieces_first a (GivesPiece b p o) = refl

end_first : (a : Spent) (o : Outcome) → end_of_outcome (spent_first a o) ≡ end_of_outcome o
end_first a (RunEnds b e) = refl
end_first a (GivesPiece b p o) = refl

joined_piece : (p : Piece) (ps : List Piece) → joined_pieces (p ∷ ps) ≡ piece_text p ++ joined_pieces ps
joined_piece (Static text) ps = refl
joined_piece (Value text) ps = refl

piece_solid : (s : Spent) (p : Piece) (text : List ℕ) (o q : Outcome) → text ≡ piece_text p
    → joined_pieces (pieces_of_outcome q) ≡ joined_pieces (pieces_of_outcome o)
    → joined_pieces (pieces_of_outcome (solid_piece s p text q)) ≡ piece_text p ++ joined_pieces (pieces_of_outcome o)
piece_solid s p [] o q e same =
    ap joined_pieces (pieces_first s q) ∙ (same ∙ ap (λ t. t ++ joined_pieces (pieces_of_outcome o)) e)
piece_solid s p (c ∷ text) o q e same = joined_piece p (pieces_of_outcome q) ∙ ap (λ t. piece_text p ++ t) same

joined_solid : (o : Outcome) → joined_pieces (pieces_of_outcome (solid o)) ≡ joined_pieces (pieces_of_outcome o)
joined_solid (RunEnds s e) = refl
joined_solid (GivesPiece s p o) =
    piece_solid s p (piece_text p) o (solid o) refl (joined_solid o) ∙ sym (joined_piece p (pieces_of_outcome o))

-- the bytes are the same
pub text_solid : (o : Outcome) → run_text (solid o) ≡ run_text o
text_solid o = ap encode_utf8_all (joined_solid o)

piece_end : (s : Spent) (p : Piece) (text : List ℕ) (q : Outcome)
    → end_of_outcome (solid_piece s p text q) ≡ end_of_outcome q
piece_end s p [] q = end_first s q
piece_end s p (c ∷ text) q = refl

-- and so is the end
pub end_solid : (o : Outcome) → end_of_outcome (solid o) ≡ end_of_outcome o
end_solid (RunEnds s e) = refl
end_solid (GivesPiece s p o) = piece_end s p (piece_text p) (solid o) ∙ end_solid o

-- ---- pulls

-- what is to come of a rendering that is done is nothing
pub done_whole : (d : Bool) (piece : Option Begun) (o : Outcome) → DoneFits d piece o → d ≡ true → IsWhole o
done_whole true piece o fits e = fits.1
done_whole false piece o fits e = cc

-- nothing is left where no piece has begun and nothing is to come
nothing_left : (rest : Rest) → rest.begun ≡ [] → pieces_of_outcome rest.coming ≡ [] → rest_bytes rest ≡ []
nothing_left rest none pieces =
    ap (λ bs. bs ++ run_text rest.coming) none ∙ ap (λ ps. encode_utf8_all (joined_pieces ps)) pieces

module _ (old new : Rest) (d e : Bool) (room after : List ℕ) (b a : ℕ) where
  -- a pull gives no more than the room holds
  pub pulled_within : (begun : List ℕ) (n : ℕ) → Pulls begun old new d e room after b a (Ok n) → n ≤ length room
  pulled_within [] n (inl idle) = omega (arith, idle.none)
  pulled_within [] n (inr (inl next)) = omega (arith, next.gave.size)
  pulled_within [] n (inr (inr end)) = omega (arith, end.none)
  pulled_within (x ∷ xs) n h = omega (arith, h.0.size)

  -- where a pull gives nothing, nothing was to come, and the end is whole
  pub pulled_none : (begun : List ℕ) (n : ℕ) → old.begun ≡ begun → Pulls begun old new d e room after b a (Ok n) → n ≡ 0
      → 0 < length room → (d ≡ true → IsWhole old.coming) → (rest_bytes old ≡ []) × (rest_end old ≡ WholeRun)
  pulled_none [] n none (inl idle) zero_is some done = by_why idle.why
    where
      by_why : (length room ≡ 0) ⊎ (d ≡ true) → (rest_bytes old ≡ []) × (rest_end old ≡ WholeRun)
      by_why (inl empty) = absurd (omega (arith, empty, some))
      by_why (inr is) = (nothing_left old none (done is).0, (done is).1)
  pulled_none [] n none (inr (inl next)) zero_is some done =
      absurd (omega (arith, next.gave.size, next.some, some, zero_is))
  pulled_none [] n none (inr (inr end)) zero_is some done =
      (nothing_left old none end.old_whole.0, end.old_whole.1)
  pulled_none (x ∷ xs) n is h zero_is some done =
      let more : 0 < length old.begun = subst (λ bs. 0 < length bs) (sym is) (omega arith) in
      absurd (omega (arith, h.0.size, more, some, zero_is))

  stop_at : (begun : List ℕ) (call : TooDeep) → old.begun ≡ begun
      → Pulls begun old new d e room after b a (Err (refusal.Because call))
      → (rest_bytes old ≡ []) × (rest_end old ≡ stops_at call)
  stop_at [] call none h = (nothing_left old none h.1, h.2)
  stop_at (x ∷ xs) call none h = absurd h

  -- where a pull answers that a call nests too deep, nothing was to come but the stop
  pub pulled_stop : (begun : List ℕ) (call : TooDeep) (r : Refusal TooDeep) → r ≡ refusal.Because call
      → old.begun ≡ begun → Pulls begun old new d e room after b a (Err r)
      → (rest_bytes old ≡ []) × (rest_end old ≡ stops_at call)
  pulled_stop begun call r same is h =
      stop_at begun call is (subst (λ x. Pulls begun old new d e room after b a (Err x)) same h)

-- what is left after a piece of n bytes is n bytes fewer
pub left_fewer : (rest others room : List ℕ) (n : ℕ) → rest ≡ take n room ++ others → n ≤ length room
    → length rest ≡ n + length others
left_fewer rest others room n split within =
    omega (arith, ap length split, length-append (take n room) others, length-take-le n room within)

-- a fact where the text is empty and ends too deep, from one where the text is empty
pub no_text_by : (names : List Word) (contents : List (List ℕ)) (text : List ℕ) (end : RunEnd) (P : Type 0)
    → (length text ≤ 0 → P) → OnNoText text (view_end names contents end) P
no_text_by names contents text WholeRun P h = tt
no_text_by names contents [] (StopsAt site) P h = h (omega arith)
no_text_by names contents (c ∷ text) (StopsAt site) P h = tt
