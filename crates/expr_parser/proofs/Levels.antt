-- Which operators take what was read as their operand.
use Rattle.std.proofs.Common.{◌≡◌, ℕ, ◌-◌, ◌<◌, ◌≤◌, Bool, true, false, List, [], ◌∷◌, refl, ◌∙◌, ap, arith}
use Rattle.std.specs.Prelude.{nat_le, if◌then◌else◌}
use Rattle.std.proofs.lemmas.Grind.{common_steps}
use Rattle.soy_tree.specs.declared.expr.BinaryOp.{BinaryOp}
use Rattle.soy_tree.specs.declared.expr.BinaryOp.TheVariants as binary
use Rattle.expr_parser.specs.declared.frame.Pending.{Pending}
use Rattle.expr_parser.specs.declared.frame.Pending.TheVariants as pending
use Rattle.expr_parser.specs.declared.frame.Frame.{Frame}
use Rattle.expr_parser.specs.declared.frame.Frame.TheVariants as frame
use Rattle.expr_parser.specs.Frames.{Nested}
use Rattle.expr_parser.specs.declared.operand.Operand.{Operand}
use Rattle.expr_parser.specs.Depths.{deeper}
use Rattle.expr_parser.specs.Operands.{level_of}
use Rattle.expr_parser.specs.Frames.{level, closed, reduced, pending_branch, raised}

pub level_least : (op : BinaryOp) → 3 ≤ level_of op
level_least binary.Mul = omega arith
level_least binary.Rem = omega arith
level_least binary.Add = omega arith
level_least binary.Sub = omega arith
level_least binary.Lt = omega arith
level_least binary.Gt = omega arith
level_least binary.Le = omega arith
level_least binary.Ge = omega arith
level_least binary.Eq = omega arith
level_least binary.Ne = omega arith
level_least binary.And = omega arith
level_least binary.Or = omega arith

pub level_most : (op : BinaryOp) → level_of op ≤ 8
level_most binary.Mul = omega arith
level_most binary.Rem = omega arith
level_most binary.Add = omega arith
level_most binary.Sub = omega arith
level_most binary.Lt = omega arith
level_most binary.Gt = omega arith
level_most binary.Le = omega arith
level_most binary.Ge = omega arith
level_most binary.Eq = omega arith
level_most binary.Ne = omega arith
level_most binary.And = omega arith
level_most binary.Or = omega arith

-- the level of an operator's last operand
abbrev pub right : Pending → ℕ
right (pending.Neg span) = 2
right (pending.Not span) = 2
right (pending.Binary op a) = level_of op - 1
right (pending.Coalesce a) = 9
right (pending.Else c a) = 9

-- an operand of level n may stand inside the frames
abbrev pub Accepts : ℕ → List Frame → Type 0
Accepts n [] = n ≤ 9
Accepts n (frame.Pending p ∷ fs) = n ≤ right p
Accepts n (frame.Bracket b ∷ fs) = n ≤ 9

-- the innermost frame binds less tightly than k
abbrev pub Above : ℕ → List Frame → Type 0
Above k [] = Unit {0}
Above k (frame.Pending p ∷ fs) = k < level p
Above k (frame.Bracket b ∷ fs) = Unit {0}

pub level_two : (p : Pending) → 2 ≤ level p
level_two (pending.Neg span) = omega arith
level_two (pending.Not span) = omega arith
level_two (pending.Binary op a) = let l = level_least op in omega (arith, l)
level_two (pending.Coalesce a) = omega arith
level_two (pending.Else c a) = omega arith

pub above_one : (fs : List Frame) → Above 1 fs
above_one [] = tt
above_one (frame.Pending p ∷ fs) = let l = level_two p in omega (arith, l)
above_one (frame.Bracket b ∷ fs) = tt

infix_below : (n : ℕ) (op : BinaryOp) (p : Pending) → level_of op ≤ n → n ≤ right p → level_of op < level p
infix_below n op (pending.Neg span) l a = let m = level_least op in absurd (omega (arith, l, a, m))
infix_below n op (pending.Not span) l a = let m = level_least op in absurd (omega (arith, l, a, m))
infix_below n op (pending.Binary other x) l a = let m = level_least other in omega (arith, l, a, m)
infix_below n op (pending.Coalesce x) l a = let m = level_most op in omega (arith, m)
infix_below n op (pending.Else c x) l a = let m = level_most op in omega (arith, m)

pub above_infix : (n : ℕ) (op : BinaryOp) (fs : List Frame) → level_of op ≤ n → Accepts n fs → Above (level_of op) fs
above_infix n op [] l a = tt
above_infix n op (frame.Pending p ∷ fs) l a = infix_below n op p l a
above_infix n op (frame.Bracket b ∷ fs) l a = tt

eight_below : (n : ℕ) (p : Pending) → 9 ≤ n → n ≤ right p → 8 < level p
eight_below n (pending.Neg span) l a = absurd (omega (arith, l, a))
eight_below n (pending.Not span) l a = absurd (omega (arith, l, a))
eight_below n (pending.Binary op x) l a = let m = level_most op in absurd (omega (arith, l, a, m))
eight_below n (pending.Coalesce x) l a = omega arith
eight_below n (pending.Else c x) l a = omega arith

pub above_eight : (n : ℕ) (fs : List Frame) → 9 ≤ n → Accepts n fs → Above 8 fs
above_eight n [] l a = tt
above_eight n (frame.Pending p ∷ fs) l a = eight_below n p l a
above_eight n (frame.Bracket b ∷ fs) l a = tt

pub accepts_less : (m n : ℕ) (fs : List Frame) → m ≤ n → Accepts n fs → Accepts m fs
accepts_less m n [] l a = omega (arith, l, a)
accepts_less m n (frame.Pending p ∷ fs) l a = omega (arith, l, a)
accepts_less m n (frame.Bracket b ∷ fs) l a = omega (arith, l, a)

right_one : (p : Pending) → 1 ≤ right p
right_one (pending.Neg span) = omega arith
right_one (pending.Not span) = omega arith
right_one (pending.Binary op a) = let l = level_least op in omega (arith, l)
right_one (pending.Coalesce a) = omega arith
right_one (pending.Else c a) = omega arith

pub accepts_one : (fs : List Frame) → Accepts 1 fs
accepts_one [] = omega arith
accepts_one (frame.Pending p ∷ fs) = right_one p
accepts_one (frame.Bracket b ∷ fs) = omega arith

-- the innermost frame binds less tightly than an infix operator, so its operand may be one
infix_fits : (op : BinaryOp) (p : Pending) → level_of op < level p → level_of op ≤ right p
infix_fits op (pending.Neg span) l = let m = level_least op in absurd (omega (arith, l, m))
infix_fits op (pending.Not span) l = let m = level_least op in absurd (omega (arith, l, m))
infix_fits op (pending.Binary other x) l = omega (arith, l)
infix_fits op (pending.Coalesce x) l = omega (arith, l)
infix_fits op (pending.Else c x) l = omega (arith, l)

pub accepts_infix : (op : BinaryOp) (fs : List Frame) → Above (level_of op) fs → Accepts (level_of op) fs
accepts_infix op [] l = let m = level_most op in omega (arith, m)
accepts_infix op (frame.Pending p ∷ fs) l = infix_fits op p l
accepts_infix op (frame.Bracket b ∷ fs) l = let m = level_most op in omega (arith, m)

nine_fits : (p : Pending) → 8 < level p → 9 ≤ right p
nine_fits (pending.Neg span) l = absurd (omega (arith, l))
nine_fits (pending.Not span) l = absurd (omega (arith, l))
nine_fits (pending.Binary op x) l = let m = level_most op in absurd (omega (arith, l, m))
nine_fits (pending.Coalesce x) l = omega arith
nine_fits (pending.Else c x) l = omega arith

pub accepts_nine : (fs : List Frame) → Above 8 fs → Accepts 9 fs
accepts_nine [] l = omega arith
accepts_nine (frame.Pending p ∷ fs) l = nine_fits p l
accepts_nine (frame.Bracket b ∷ fs) l = omega arith

-- the test of a level

not_within : (n k : ℕ) → k < n → nat_le n k ≡ false
not_within n k h = grind (arith, common_steps)

within : (n k : ℕ) → n ≤ k → nat_le n k ≡ true
within n k h = grind (arith, common_steps)

pub within-true : (n k : ℕ) → nat_le n k ≡ true → n ≤ k
within-true n k h = grind (arith, common_steps)

pub within-false : (n k : ℕ) → nat_le n k ≡ false → k < n
within-false n k h = grind (arith, common_steps)

-- nothing is closed where the innermost frame binds less tightly
pub stops : (k : ℕ) (fs : List Frame) (x : Operand) → Above k fs → reduced k fs x ≡ record { frames = fs; operand = x }
stops k [] x above = refl
stops k (frame.Pending p ∷ fs) x above = rw (not_within (level p) k above) refl
stops k (frame.Bracket b ∷ fs) x above = refl

-- an operator that binds as tightly is closed
pub closes : (k : ℕ) (p : Pending) (fs : List Frame) (x : Operand) → level p ≤ k →
    reduced k (frame.Pending p ∷ fs) x ≡ reduced k fs (closed p x)
closes k p fs x h = rw (within (level p) k h) refl

closed-height : (p : Pending) (x : Operand) → (closed p x).height ≡ deeper (pending_branch p) x.height
closed-height (pending.Neg span) x = refl
closed-height (pending.Not span) x = refl
closed-height (pending.Binary op a) x = refl
closed-height (pending.Coalesce a) x = refl
closed-height (pending.Else c a) x = refl

-- closing operators changes no expr_depth
pub raised-reduced : (k : ℕ) (fs : List Frame) (x : Operand) →
    raised (reduced k fs x).frames (reduced k fs x).operand.height ≡ raised fs x.height
raised-reduced k [] x = refl
raised-reduced k (frame.Pending p ∷ fs) x = over (nat_le (level p) k) (raised-reduced k fs (closed p x))
  where
    pick : Bool → Nested
    pick b = if b then reduced k fs (closed p x) else record { frames = frame.Pending p ∷ fs; operand = x }

    over : (b : Bool) → raised (reduced k fs (closed p x)).frames (reduced k fs (closed p x)).operand.height ≡ raised
        fs (closed p x).height
        → raised (pick b).frames (pick b).operand.height ≡ raised fs (deeper (pending_branch p) x.height)
    over true inside = inside ∙ ap (raised fs) (closed-height p x)
    over false inside = refl
raised-reduced k (frame.Bracket b ∷ fs) x = refl

right_two : (p : Pending) → 2 ≤ right p
right_two (pending.Neg span) = omega arith
right_two (pending.Not span) = omega arith
right_two (pending.Binary op a) = let l = level_least op in omega (arith, l)
right_two (pending.Coalesce a) = omega arith
right_two (pending.Else c a) = omega arith

pub accepts_two : (fs : List Frame) → Accepts 2 fs
accepts_two [] = omega arith
accepts_two (frame.Pending p ∷ fs) = right_two p
accepts_two (frame.Bracket b ∷ fs) = omega arith
