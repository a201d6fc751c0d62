-- The depths at the tokens of an expression, and the nodes on its longest branch: canonical source has no parentheses
-- but those that an expression needs, so an expression is written with no longer branch than it was read with.
use Rattle.std.proofs.Common.{◌≡◌, ℕ, ◌+◌, ◌-◌, ◌^◌, ◌≤◌, ◌⊎◌, inl, inr, max}
use Rattle.std.proofs.Common.{List, [], ◌∷◌, ◌++◌, refl, ap, arith}
use Rattle.soy_lexer.specs.declared.token.Token.{Token}
use Rattle.expr_parser.specs.declared.operand.Operand.{Operand}
use Rattle.expr_parser.specs.Depths.{AreWithin, beside, deeper}
use Rattle.expr_parser.specs.Operands.{level_of as op_level}
use Rattle.expr_parser.specs.SpellsExpr.{SpellsExpr}

-- the largest height, at which counting stays
abbrev most : ℕ
most = 2 ^ 32 - 1

-- no depth is over this height
abbrev UpTo : ℕ → List ℕ → Type 0
UpTo h [] = Unit {0}
UpTo h (d ∷ ds) = (d ≤ h) × UpTo h ds

up_append : (h : ℕ) (ds es : List ℕ) → UpTo h ds → UpTo h es → UpTo h (ds ++ es)
up_append h [] es a b = b
up_append h (d ∷ ds) es a b = (a.0, up_append h ds es a.1 b)

up_more : (h k : ℕ) (ds : List ℕ) → h ≤ k → UpTo h ds → UpTo k ds
up_more h k [] le a = tt
up_more h k (d ∷ ds) le a = (omega (arith, le, a.0), up_more h k ds le a.1)

deeper_more : (g a b : ℕ) → a ≤ b → deeper g a ≤ deeper g b
deeper_more g a b le = omega (arith, le)

up_beside : (g h : ℕ) (ds : List ℕ) → UpTo h ds → UpTo (deeper g h) (beside g ds)
up_beside g h [] a = tt
up_beside g h (d ∷ ds) a = (deeper_more g d h a.0, up_beside g h ds a.1)

-- one of the depths is this height
abbrev Reaches : ℕ → List ℕ → Type 0
Reaches h [] = ⊥
Reaches h (d ∷ ds) = (d ≡ h) ⊎ Reaches h ds

reaches_second : (h : ℕ) (ds es : List ℕ) → Reaches h es → Reaches h (ds ++ es)
reaches_second h [] es r = r
reaches_second h (d ∷ ds) es r = inr (reaches_second h ds es r)

reaches_beside : (g h : ℕ) (ds : List ℕ) → Reaches h ds → Reaches (deeper g h) (beside g ds)
reaches_beside g h [] r = absurd r
reaches_beside g h (d ∷ ds) r = elim r [ inl e ↦ inl (ap (deeper g) e) | inr more ↦ inr (reaches_beside g h ds more) ]

-- the depths at the tokens of an expression go up to its height, which counting doesn't pass
record HasHeight (ds : List ℕ) (h : ℕ) : Type 0 where
  pub up : UpTo h ds
  pub reaches : Reaches h ds
  pub below : h ≤ most

height_of : (n : ℕ) (ts : List Token) (ds : List ℕ) (x : Operand) → SpellsExpr n ts ds x → HasHeight ds x.height
height_of _ _ _ _ (SpellsExpr.simple n t e is) =
    record { up = (omega arith, tt); reaches = inl refl; below = omega arith }
height_of _ _ _ _ (SpellsExpr.parens n opening close ts ds x o c d) =
    let h = height_of 9 ts ds x d in
    record {
      up = up_beside 0 x.height (0 ∷ (ds ++ (x.height ∷ [])))
          (omega arith, up_append x.height ds (x.height ∷ []) h.up (omega arith, tt));
      reaches = reaches_beside 0 x.height (0 ∷ (ds ++ (x.height ∷ [])))
          (inr (reaches_second x.height ds (x.height ∷ []) (inl refl)));
      below = omega arith;
    }
height_of _ _ _ _ (SpellsExpr.named n dot name safe ts ds x o c d) =
    let h = height_of 1 ts ds x d in
    let le : x.height ≤ deeper x.height 0 = omega (arith, h.below) in
    record {
      up = up_append (deeper x.height 0) ds (beside x.height (0 ∷ (0 ∷ [])))
          (up_more x.height (deeper x.height 0) ds le h.up) (omega arith, (omega arith, tt));
      reaches = reaches_second (deeper x.height 0) ds (beside x.height (0 ∷ (0 ∷ []))) (inl refl);
      below = omega arith;
    }
height_of _ _ _ _ (SpellsExpr.index n opening close safe ts us ds es x i o c d e) =
    let h = height_of 1 ts ds x d in
    let k = height_of 9 us es i e in
    let le : x.height ≤ deeper x.height i.height = omega (arith, h.below) in
    record {
      up = up_append (deeper x.height i.height) ds (beside x.height (0 ∷ (es ++ (i.height ∷ []))))
          (up_more x.height (deeper x.height i.height) ds le h.up)
          (up_beside x.height i.height (0 ∷ (es ++ (i.height ∷ [])))
          (omega arith, up_append i.height es (i.height ∷ []) k.up (omega arith, tt)));
      reaches = reaches_second (deeper x.height i.height) ds (beside x.height (0 ∷ (es ++ (i.height ∷ []))))
          (reaches_beside x.height i.height (0 ∷ (es ++ (i.height ∷ [])))
          (inr (reaches_second i.height es (i.height ∷ []) (inl refl))));
      below = omega arith;
    }
height_of _ _ _ _ (SpellsExpr.negation n t ts ds x le is d) =
    let h = height_of 2 ts ds x d in
    record {
      up = up_beside 0 x.height (0 ∷ ds) (omega arith, h.up);
      reaches = reaches_beside 0 x.height (0 ∷ ds) (inr h.reaches);
      below = omega arith;
    }
height_of _ _ _ _ (SpellsExpr.inversion n t ts ds x le is d) =
    let h = height_of 2 ts ds x d in
    record {
      up = up_beside 0 x.height (0 ∷ ds) (omega arith, h.up);
      reaches = reaches_beside 0 x.height (0 ∷ ds) (inr h.reaches);
      below = omega arith;
    }
height_of _ _ _ _ (SpellsExpr.infix_ n t op ts us ds es a b le is d e) =
    let h = height_of (op_level op) ts ds a d in
    let k = height_of (op_level op - 1) us es b e in
    let more : a.height ≤ deeper a.height b.height = omega (arith, h.below) in
    record {
      up = up_append (deeper a.height b.height) ds (beside a.height (0 ∷ es))
          (up_more a.height (deeper a.height b.height) ds more h.up)
          (up_beside a.height b.height (0 ∷ es) (omega arith, k.up));
      reaches = reaches_second (deeper a.height b.height) ds (beside a.height (0 ∷ es))
          (reaches_beside a.height b.height (0 ∷ es) (inr k.reaches));
      below = omega arith;
    }
height_of _ _ _ _ (SpellsExpr.coalescing n t ts us ds es a b le is d e) =
    let h = height_of 8 ts ds a d in
    let k = height_of 9 us es b e in
    let more : a.height ≤ deeper a.height b.height = omega (arith, h.below) in
    record {
      up = up_append (deeper a.height b.height) ds (beside a.height (0 ∷ es))
          (up_more a.height (deeper a.height b.height) ds more h.up)
          (up_beside a.height b.height (0 ∷ es) (omega arith, k.up));
      reaches = reaches_second (deeper a.height b.height) ds (beside a.height (0 ∷ es))
          (reaches_beside a.height b.height (0 ∷ es) (inr k.reaches));
      below = omega arith;
    }
height_of _ _ _ _ (SpellsExpr.conditional_ n question colon ts us vs ds es fs c a b le is ic d e f) =
    let h = height_of 8 ts ds c d in
    let k = height_of 9 us es a e in
    let m = height_of 9 vs fs b f in
    let whole : ℕ = deeper (max c.height a.height) b.height in
    let first : c.height ≤ whole = omega (arith, h.below) in
    let second : deeper c.height a.height ≤ whole = omega (arith, h.below, k.below) in
    record {
      up = up_append whole ds (beside c.height (0 ∷ es) ++ beside (max c.height a.height) (0 ∷ fs))
          (up_more c.height whole ds first h.up)
          (up_append whole (beside c.height (0 ∷ es)) (beside (max c.height a.height) (0 ∷ fs))
          (up_more (deeper c.height a.height) whole (beside c.height (0 ∷ es)) second
          (up_beside c.height a.height (0 ∷ es) (omega arith, k.up)))
          (up_beside (max c.height a.height) b.height (0 ∷ fs) (omega arith, m.up)));
      reaches = reaches_second whole ds (beside c.height (0 ∷ es) ++ beside (max c.height a.height) (0 ∷ fs))
          (reaches_second whole (beside c.height (0 ∷ es)) (beside (max c.height a.height) (0 ∷ fs))
          (reaches_beside (max c.height a.height) b.height (0 ∷ fs) (inr m.reaches)));
      below = omega arith;
    }

within_up : (blocks h : ℕ) (ds : List ℕ) → blocks + h ≤ 64 → UpTo h ds → AreWithin blocks ds
within_up blocks h [] le up = tt
within_up blocks h (d ∷ ds) le up = (omega (arith, le, up.0), within_up blocks h ds le up.1)

within_reached : (blocks h : ℕ) (ds : List ℕ) → AreWithin blocks ds → Reaches h ds → blocks + h ≤ 64
within_reached blocks h [] w r = absurd r
within_reached blocks h (d ∷ ds) w r =
    elim r [ inl e ↦ omega (arith, e, w.0) | inr more ↦ within_reached blocks h ds w.1 more ]

-- **No token of an expression lies too deep exactly where its longest branch has no more nodes than that.**
pub within_height : (blocks n : ℕ) (ts : List Token) (ds : List ℕ) (x : Operand) → SpellsExpr n ts ds x
    → blocks + x.height ≤ 64 → AreWithin blocks ds
within_height blocks n ts ds x d le = within_up blocks x.height ds le (height_of n ts ds x d).up

pub height_within : (blocks n : ℕ) (ts : List Token) (ds : List ℕ) (x : Operand) → SpellsExpr n ts ds x
    → AreWithin blocks ds → blocks + x.height ≤ 64
height_within blocks n ts ds x d w = within_reached blocks x.height ds w (height_of n ts ds x d).reaches
