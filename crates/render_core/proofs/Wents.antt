-- Steps up to a piece.
use Rattle.std.proofs.Common.{◌≡◌, ℕ, ◌+◌, ◌*◌, ◌≤◌, ◌<◌, List, [], ◌∷◌, Option, Some, None, Ok, Err, length}
use Rattle.std.proofs.Common.{refl, sym, ap, ◌∙◌, arith, subst}
use Rattle.std.specs.Prelude.{◌++◌, drop, encode_utf8_all, take}
use Rattle.std.proofs.Math.Nat.{add-mul}
use Rattle.std.proofs.lemmas.List.{nil_from_length}
use Rattle.std.proofs.lemmas.Str.{length-le-encodes}
use Rattle.soy_base.specs.Piece.{Piece}
use Rattle.soy_base.specs.declared.fault.TooDeep.{TooDeep}
use Rattle.soy_base.specs.declared.memory.OutOfMemory.{OutOfMemory}
use Rattle.soy_base.specs.declared.memory.Refusal.TheVariants as refusal
use Rattle.soy_tree.specs.Values as values
use Rattle.soy_pieces.specs.Outcome.{GivesPiece, Outcome, RunEnds, Spent, and_spent, end_of_outcome, none_spent}
use Rattle.soy_pieces.specs.Outcome.{pieces_of_outcome, spent_first}
use Rattle.soy_pieces.proofs.Outcomes.{first_none, first_twice}
use Rattle.template_ir.specs.declared.program.ProgramParts.{ProgramParts}
use Rattle.render_core.specs.Frames.{MachineFits, machine_gives}
use Rattle.render_core.specs.Pulls.{Gave}
use Rattle.render_core.specs.Rest.{BegunFits, IsWhole, begun_left, coming, first_spent, piece_bytes, piece_text, solid}
use Rattle.render_core.specs.Rest.{solid_piece}
use Rattle.render_core.specs.Stepping.{Advanced, Gives, IsSpared, Left, NextPiece, Output, Stays, Stepped, Went}
use Rattle.render_core.specs.Stepping.{pending, weight}
use Rattle.render_core.specs.declared.begun.Begun.{Begun}
use Rattle.render_core.specs.declared.held.Bound.{Bound}
use Rattle.render_core.specs.declared.stack.Machine.{Machine}
use Rattle.render_core.specs.declared.stack.Step.TheVariants as step
use Rattle.render_core.proofs.Overs.{solid_first}

-- ---- outcomes

bytes_none : (text : List ℕ) → length (encode_utf8_all text) ≡ 0 → text ≡ []
bytes_none text e =
    nil_from_length text (let h = length-le-encodes text in let z : length text ≡ 0 = omega (arith, h, e) in z)

solid_some : (s : Spent) (piece : Piece) (text : List ℕ) (o : Outcome) → 0 < length (encode_utf8_all text)
    → solid_piece s piece text o ≡ GivesPiece s piece o
solid_some s piece [] o h = absurd (omega arith)
solid_some s piece (c ∷ text) o h = refl

solid_gives : (s : Spent) (piece : Piece) (o : Outcome) → 0 < length (piece_bytes piece)
    → solid (GivesPiece s piece o) ≡ GivesPiece s piece (solid o)
solid_gives s piece o h = solid_some s piece (piece_text piece) (solid o) h

solid_empty : (s : Spent) (piece : Piece) (o : Outcome) → length (piece_bytes piece) ≡ 0
    → solid (GivesPiece s piece o) ≡ spent_first s (solid o)
solid_empty s piece o h =
    ap (λ (text : List ℕ). solid_piece s piece text (solid o)) (bytes_none (piece_text piece) h)

solid_none : (o : Outcome) → pieces_of_outcome o ≡ [] → solid o ≡ o
solid_none (RunEnds s e) h = refl
solid_none (GivesPiece s piece o) h = cc

pub pieces_first : (s : Spent) (o : Outcome) → pieces_of_outcome (spent_first s o) ≡ pieces_of_outcome o
pieces_first s (RunEnds t e) = refl
pieces_first s (GivesPiece t piece o) = refl

pub end_first : (s : Spent) (o : Outcome) → end_of_outcome (spent_first s o) ≡ end_of_outcome o
end_first s (RunEnds t e) = refl
end_first s (GivesPiece t piece o) = refl

pub cost_first : (s : Spent) (o : Outcome) → (first_spent (spent_first s o)).cost ≡ s.cost + (first_spent o).cost
cost_first s (RunEnds t e) = refl
cost_first s (GivesPiece t piece o) = refl

work_first : (s : Spent) (o : Outcome) → (first_spent (spent_first s o)).work ≡ s.work + (first_spent o).work
work_first s (RunEnds t e) = refl
work_first s (GivesPiece t piece o) = refl

cost_solid_piece : (s : Spent) (piece : Piece) (text : List ℕ) (o : Outcome)
    → s.cost ≤ (first_spent (solid_piece s piece text o)).cost
cost_solid_piece s piece [] o = let e = cost_first s o in omega (arith, e)
cost_solid_piece s piece (c ∷ text) o = omega arith

cost_solid : (o : Outcome) → (first_spent o).cost ≤ (first_spent (solid o)).cost
cost_solid (RunEnds s e) = omega arith
cost_solid (GivesPiece s piece o) = cost_solid_piece s piece (piece_text piece) (solid o)

-- ---- what is given

none_length : (left after room room_after : List ℕ) (n : ℕ) → Gave left after room room_after n → 0 < length room
    → n ≡ 0 → length left ≡ 0
none_length left after room room_after n gave some none = let size = gave.size in omega (arith, size, some, none)

some_length : (left after room room_after : List ℕ) (n : ℕ) → Gave left after room room_after n → 0 < n
    → 0 < length left
some_length left after room room_after n gave some = let size = gave.size in omega (arith, size, some)

pub none_room : (left after room room_after : List ℕ) (n : ℕ) → Gave left after room room_after n → n ≡ 0
    → room_after ≡ room
none_room left after room room_after n gave none =
    gave.given ∙ ap (λ k. take k left ++ drop k room) none

none_after : (left after room room_after : List ℕ) (n : ℕ) → Gave left after room room_after n → 0 < length room
    → n ≡ 0 → length after ≡ 0
none_after left after room room_after n gave some none =
    ap length (gave.begun ∙ ap (λ k. drop k left) none) ∙ none_length left after room room_after n gave some none

module _ (p : ProgramParts) (input : values.Value) where
  none_begun : (bound : List Bound) (b : Option Begun) → length (begun_left p input bound b) ≡ 0
      → BegunFits p input bound b → b ≡ None
  none_begun bound None none fits = refl
  none_begun bound (Some piece) none fits = let some = fits.1 in absurd (omega (arith, none, some))

  -- what a step leads to: so much is left of the work
  abbrev pub measure : Machine → ℕ
  measure m = (first_spent (coming p input m)).work * weight p + pending p m.top

  less : (s : Spent) (mid new : Machine) → coming p input mid ≡ spent_first s (coming p input new)
      → pending p new.top < s.work * weight p + pending p mid.top → measure new < measure mid
  less s mid new same falls =
      let w : (first_spent (coming p input mid)).work ≡ s.work + (first_spent (coming p input new)).work =
      ap (λ (o : Outcome). (first_spent o).work) same ∙ work_first s (coming p input new) in
      let all : (first_spent (coming p input mid)).work * weight p
      ≡ s.work * weight p + (first_spent (coming p input new)).work * weight p =
      ap (λ k. k * weight p) w ∙ add-mul s.work (first_spent (coming p input new)).work (weight p) in
      omega (arith, all, falls)

  pub went_none : (m : Machine) (n : ℕ) → MachineFits m → Went p input m m n n
  went_none m n fits = record {
    spent = none_spent;
    same = sym (first_none (coming p input m));
    cost = (let e : n ≡ n + 0 = omega arith in e);
    fits = fits;
  }

  further : (old mid new : Machine) (b m a : ℕ) (s : Spent) → Went p input old mid b m → a ≡ m + s.cost
      → coming p input mid ≡ spent_first s (coming p input new) → MachineFits new → Went p input old new b a
  further old mid new b m a s went cost same fits = record {
    spent = and_spent went.spent s;
    same = went.same ∙ (ap (spent_first went.spent) same ∙ first_twice went.spent s (coming p input new));
    cost = (let c = went.cost in let e : a ≡ b + (went.spent.cost + s.cost) = omega (arith, c, cost) in e);
    fits = fits;
  }

  silent_coming : (mid new : Machine) (m a : ℕ) (s : Stepped p input mid new m a (Ok step.Silent))
      → coming p input mid ≡ spent_first s.0 (coming p input new)
  silent_coming mid new m a s = ap solid s.1.same ∙ solid_first s.0 (machine_gives p input new)

  pub went_silent : (old mid new : Machine) (b m a : ℕ) → Went p input old mid b m
      → Stepped p input mid new m a (Ok step.Silent) → Went p input old new b a
  went_silent old mid new b m a went s =
      further old mid new b m a s.0 went s.1.cost (silent_coming mid new m a s) s.1.fits

  pub silent_falls : (mid new : Machine) (m a : ℕ) → Stepped p input mid new m a (Ok step.Silent)
      → measure new < measure mid
  silent_falls mid new m a s = less s.0 mid new (silent_coming mid new m a s) s.1.falls

  empty_coming : (mid new : Machine) (m a : ℕ) (out : Output) (n : ℕ) (s : Gives p input mid new m a out n)
      → 0 < length out.room → n ≡ 0 → coming p input mid ≡ spent_first s.0 (coming p input new)
  empty_coming mid new m a out n s some none =
      ap solid s.2.same
      ∙ solid_empty s.0 s.1 (machine_gives p input new)
      (none_length (piece_bytes s.1) _ out.room out.room_after n s.3.0 some none)

  pub went_empty : (old mid new : Machine) (b m a : ℕ) (out : Output) (n : ℕ) → Went p input old mid b m
      → Gives p input mid new m a out n → 0 < length out.room → n ≡ 0 → Went p input old new b a
  went_empty old mid new b m a out n went s some none =
      further old mid new b m a s.0 went s.2.cost (empty_coming mid new m a out n s some none) s.2.fits

  pub empty_falls : (mid new : Machine) (m a : ℕ) (out : Output) (n : ℕ) → Gives p input mid new m a out n
      → 0 < length out.room → n ≡ 0 → measure new < measure mid
  empty_falls mid new m a out n s some none =
      less s.0 mid new (empty_coming mid new m a out n s some none) s.2.falls

  -- a piece without bytes leaves nothing, and does nothing to the room
  pub empty_spares : (mid new : Machine) (m a : ℕ) (out : Output) (n : ℕ) → Gives p input mid new m a out n
      → 0 < length out.room → n ≡ 0 → IsSpared out
  empty_spares mid new m a out n s some none = (
    none_room (piece_bytes s.1) _ out.room out.room_after n s.3.0 none,
    none_begun new.bound out.begun
        (none_after (piece_bytes s.1) _ out.room out.room_after n s.3.0 some none) s.3.1,
  )

  pub went_gives : (old mid new : Machine) (b m a : ℕ) (out : Output) (n : ℕ) → Went p input old mid b m
      → Gives p input mid new m a out n → 0 < n → NextPiece p input old new b a out n
  went_gives old mid new b m a out n went s some =
      let full : 0 < length (piece_bytes s.1) = some_length (piece_bytes s.1) _ out.room out.room_after n s.3.0 some in
      record {
        spent = and_spent went.spent s.0;
        piece = s.1;
        same =
            went.same
            ∙ ap (spent_first went.spent) (ap solid s.2.same ∙ solid_gives s.0 s.1 (machine_gives p input new) full);
        cost =
            (let c = went.cost in let d = s.2.cost in
            let e : a ≡ b + (went.spent.cost + s.0.cost) = omega (arith, c, d) in e);
        fits = s.2.fits;
        some = full;
        given = s.3;
      }

  left : (old mid new : Machine) (b m a : ℕ) → Went p input old mid b m → Stays p input mid new m a
      → Left p input old new b a
  left old mid new b m a went stays =
      let all : (first_spent (coming p input old)).cost ≡ went.spent.cost + (first_spent (coming p input mid)).cost =
      ap (λ (o : Outcome). (first_spent o).cost) went.same ∙ cost_first went.spent (coming p input mid) in
      let least = cost_solid (machine_gives p input mid) in
      let c = went.cost in
      let h = stays.high in
      let l = stays.low in
      record {
        spent = went.spent;
        same = went.same ∙ ap (spent_first went.spent) (sym (ap solid stays.same));
        low = omega (arith, c, l);
        high = omega (arith, c, h, all, least);
        fits = stays.fits;
      }

  pieces_went : (old mid new : Machine) (b m : ℕ) → Went p input old mid b m
      → pieces_of_outcome (machine_gives p input mid) ≡ [] → pieces_of_outcome (coming p input old) ≡ []
  pieces_went old mid new b m went none =
      ap pieces_of_outcome went.same
      ∙ (pieces_first went.spent (coming p input mid)
      ∙ (ap pieces_of_outcome (solid_none (machine_gives p input mid) none) ∙ none))

  end_went : (old mid new : Machine) (b m : ℕ) → Went p input old mid b m
      → pieces_of_outcome (machine_gives p input mid) ≡ []
      → end_of_outcome (coming p input old) ≡ end_of_outcome (machine_gives p input mid)
  end_went old mid new b m went none =
      ap end_of_outcome went.same
      ∙ (end_first went.spent (coming p input mid)
      ∙ ap end_of_outcome (solid_none (machine_gives p input mid) none))

  pub went_done : (old mid new : Machine) (b m a : ℕ) (out : Output) → Went p input old mid b m → IsSpared out
      → Stepped p input mid new m a (Ok step.Done) → Advanced p input old new b a out (Ok None)
  went_done old mid new b m a out went spared s =
      let whole : IsWhole (coming p input old) =
      (pieces_went old mid new b m went s.1.0, end_went old mid new b m went s.1.0 ∙ s.1.1) in
      let plain : coming p input mid ≡ machine_gives p input mid = solid_none (machine_gives p input mid) s.1.0 in
      (spared, left old mid new b m a went s.0, whole, subst IsWhole (sym (ap solid s.0.same ∙ plain)) s.1)

  pub went_deep : (old mid new : Machine) (b m a : ℕ) (call : TooDeep) (out : Output) → Went p input old mid b m
      → IsSpared out → Stepped p input mid new m a (Ok (step.TooDeep call))
      → Advanced p input old new b a out (Err (refusal.Because call))
  went_deep old mid new b m a call out went spared s = (
    spared,
    left old mid new b m a went s.0,
    pieces_went old mid new b m went s.1,
    end_went old mid new b m went s.1 ∙ s.2,
  )

  pub went_memory : (old mid new : Machine) (b m a : ℕ) (e : OutOfMemory) (out : Output) → Went p input old mid b m
      → IsSpared out → Stepped p input mid new m a (Err e) → Advanced p input old new b a out (Err refusal.OutOfMemory)
  went_memory old mid new b m a e out went spared s = (spared, left old mid new b m a went s)
