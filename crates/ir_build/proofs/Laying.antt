-- What is said of ops that are made, and how it adds up.
use Rattle.std.proofs.Common.{◌≡◌, ℕ, suc, ◌+◌, ◌≤◌, List, [], ◌∷◌, ◌++◌, Some, length, slice_get, refl, sym, ap}
use Rattle.std.proofs.Common.{◌∙◌, arith, subst}
use Rattle.template_ir.specs.Ops.{Op}
use Rattle.ir_build.specs.Claims.{block_stands}
use Rattle.ir_build.specs.Laid.{HasAt, Lays, Made, Pushes, laid_block, with_hole, with_ops}
use Rattle.ir_build.proofs.OpLists.{append_assoc, append_nil, length_append}

-- ---- ops among others

pub has_split : (xs ys : List Op) (at : ℕ) (all : List Op) → HasAt (xs ++ ys) at all
    → HasAt xs at all × HasAt ys (at + length xs) all
has_split [] ys at all h = let e : at ≡ at + 0 = omega arith in (tt, subst (λ (n : ℕ). HasAt ys n all) e h)
has_split (x ∷ xs) ys at all h =
    let r : HasAt xs (at + 1) all × HasAt ys (at + 1 + length xs) all = has_split xs ys (at + 1) all h.1 in
    let e : at + 1 + length xs ≡ at + suc (length xs) = omega arith in
    ((h.0, r.0), subst (λ (n : ℕ). HasAt ys n all) e r.1)

has_cons : (y : Op) (xs : List Op) (at : ℕ) (all : List Op) → HasAt xs at all → HasAt xs (suc at) (y ∷ all)
has_cons y [] at all h = tt
has_cons y (x ∷ xs) at all h =
    let e : suc (at + 1) ≡ suc at + 1 = omega arith in
    (h.0, subst (λ (n : ℕ). HasAt xs n (y ∷ all)) e (has_cons y xs (at + 1) all h.1))

pub has_self : (xs : List Op) → HasAt xs 0 xs
has_self [] = tt
has_self (x ∷ xs) = (refl, has_cons x xs 0 xs (has_self xs))

has_first : (xs ys : List Op) (all : List Op) → HasAt (xs ++ ys) 0 all → HasAt xs 0 all
has_first xs ys all h = (has_split xs ys 0 all h).0

has_before : (o more p : List Op) (all : List Op) → p ≡ o ++ more → HasAt p 0 all → HasAt o 0 all
has_before o more p all e h = has_first o more all (subst (λ (x : List Op). HasAt x 0 all) e h)

long_before : (o more p : List Op) (n : ℕ) → p ≡ o ++ more → length p ≤ n → length o ≤ n
long_before o more p n e le =
    let f : length p ≡ length (o ++ more) = ap length e in
    let g : length (o ++ more) ≡ length o + length more = length_append o more in
    omega (arith, f, g, le)

grown : (o inner more p q : List Op) → p ≡ o ++ inner → q ≡ p ++ more → q ≡ o ++ (inner ++ more)
grown o inner more p q e f = f ∙ ap (λ (x : List Op). x ++ more) e ∙ append_assoc o inner more

-- ---- blocks

pub lays_none : (X : ℕ → List Op → ℕ → Type 0) (m : Made) → ((all : List Op) (before : ℕ) → X m.holes all before)
    → Lays X 0 m m
lays_none X m x = record {
  holes = omega arith;
  inner = [];
  ops = sym (append_nil m.ops);
  stands = λ all before has le. x all before;
}

pub lays_both : (X Y : ℕ → List Op → ℕ → Type 0) (h k : ℕ) (a b d : Made) → Lays X h a b → Lays Y k b d
    → Lays (λ hole all before. X hole all before × Y (hole + h) all before) (h + k) a d
lays_both X Y h k a b d l m = record {
  holes = let e : b.holes ≡ a.holes + h = l.holes in let f : d.holes ≡ b.holes + k = m.holes in omega (arith, e, f);
  inner = l.inner ++ m.inner;
  ops = grown a.ops l.inner m.inner b.ops d.ops l.ops m.ops;
  stands = λ all before has le. (
    l.stands all before (has_before b.ops m.inner d.ops all m.ops has)
        (long_before b.ops m.inner d.ops before m.ops le),
    subst (λ (n : ℕ). Y n all before) l.holes (m.stands all before has le),
  );
}

pub lays_as : (X Y : ℕ → List Op → ℕ → Type 0) (h k : ℕ) (a b : Made) → h ≡ k
    → ((hole : ℕ) (all : List Op) (before : ℕ) → X hole all before → Y hole all before) → Lays X h a b → Lays Y k a b
lays_as X Y h k a b e f l = record {
  holes = l.holes ∙ ap (λ n. a.holes + n) e;
  inner = l.inner;
  ops = l.ops;
  stands = λ all before has le. f a.holes all before (l.stands all before has le);
}

-- ---- own ops

pub pushes_none : (Y : ℕ → List Op → ℕ → ℕ → Type 0) (m : Made) (own : List Op)
    → ((all : List Op) (at : ℕ) → Y m.holes all at at) → Pushes Y 0 m m own own
pushes_none Y m own y = record {
  holes = omega arith;
  inner = [];
  ops = sym (append_nil m.ops);
  added = [];
  own_ops = sym (append_nil own);
  stands = λ all at has le here.
      let e : at ≡ at + 0 = omega arith in subst (λ (n : ℕ). Y m.holes all at n) e (y all at);
}

-- an op over blocks
pub lays_push : (X : ℕ → List Op → ℕ → Type 0) (Y : ℕ → List Op → ℕ → ℕ → Type 0) (h : ℕ) (a b : Made) (o : Op)
    (own own_after : List Op) → Lays X h a b → own_after ≡ own ++ (o ∷ [])
    → ((hole : ℕ) (all : List Op) (at : ℕ) → X hole all at → slice_get all at ≡ Some o → Y hole all at (at + 1))
    → Pushes Y h a b own own_after
lays_push X Y h a b o own own_after l e f = record {
  holes = l.holes;
  inner = l.inner;
  ops = l.ops;
  added = o ∷ [];
  own_ops = e;
  stands = λ all at has le here. f a.holes all at (l.stands all at has le) here.0;
}

-- no op over blocks
pub lays_push_none : (X : ℕ → List Op → ℕ → Type 0) (Y : ℕ → List Op → ℕ → ℕ → Type 0) (h : ℕ) (a b : Made)
    (own own_after : List Op) → Lays X h a b → own_after ≡ own ++ []
    → ((hole : ℕ) (all : List Op) (at : ℕ) → X hole all at → Y hole all at at) → Pushes Y h a b own own_after
lays_push_none X Y h a b own own_after l e f = record {
  holes = l.holes;
  inner = l.inner;
  ops = l.ops;
  added = [];
  own_ops = e;
  stands = λ all at has le here.
      let e : at ≡ at + 0 = omega arith in
      subst (λ (n : ℕ). Y a.holes all at n) e (f a.holes all at (l.stands all at has le));
}

-- an op alone
pub op_pushed : (Y : ℕ → List Op → ℕ → ℕ → Type 0) (m : Made) (o : Op) (own own_after : List Op)
    → own_after ≡ own ++ (o ∷ [])
    → ((all : List Op) (at : ℕ) → slice_get all at ≡ Some o → Y m.holes all at (at + 1)) → Pushes Y 0 m m own own_after
op_pushed Y m o own own_after e f = record {
  holes = omega arith;
  inner = [];
  ops = sym (append_nil m.ops);
  added = o ∷ [];
  own_ops = e;
  stands = λ all at has le here. f all at here.0;
}

-- an op that takes a hole
pub hole_pushed : (Y : ℕ → List Op → ℕ → ℕ → Type 0) (a b : Made) (o : Op) (own own_after : List Op)
    → b ≡ with_hole a → own_after ≡ own ++ (o ∷ [])
    → ((all : List Op) (at : ℕ) → slice_get all at ≡ Some o → Y a.holes all at (at + 1)) → Pushes Y 1 a b own own_after
hole_pushed Y a b o own own_after is e f = record {
  holes = ap (λ (m : Made). m.holes) is;
  inner = [];
  ops = ap (λ (m : Made). m.ops) is ∙ sym (append_nil a.ops);
  added = o ∷ [];
  own_ops = e;
  stands = λ all at has le here. f all at here.0;
}

pub pushes_as : (X Y : ℕ → List Op → ℕ → ℕ → Type 0) (h k : ℕ) (a b : Made) (own own_after : List Op) → h ≡ k
    → ((hole : ℕ) (all : List Op) (at end : ℕ) → X hole all at end → Y hole all at end) → Pushes X h a b own own_after
    → Pushes Y k a b own own_after
pushes_as X Y h k a b own own_after e f p = record {
  holes = p.holes ∙ ap (λ n. a.holes + n) e;
  inner = p.inner;
  ops = p.ops;
  added = p.added;
  own_ops = p.own_ops;
  stands = λ all at has le here. f a.holes all at (at + length p.added) (p.stands all at has le here);
}

pub pushes_both : (X Y : ℕ → List Op → ℕ → ℕ → Type 0) (h k : ℕ) (a b d : Made) (x y z : List Op)
    → Pushes X h a b x y → Pushes Y k b d y z
    → Pushes (λ hole all at end. (past : ℕ) × X hole all at past × Y (hole + h) all past end) (h + k) a d x z
pushes_both X Y h k a b d x y z p q = record {
  holes = let e : b.holes ≡ a.holes + h = p.holes in let f : d.holes ≡ b.holes + k = q.holes in omega (arith, e, f);
  inner = p.inner ++ q.inner;
  ops = grown a.ops p.inner q.inner b.ops d.ops p.ops q.ops;
  added = p.added ++ q.added;
  own_ops = grown x p.added q.added y z p.own_ops q.own_ops;
  stands = λ all at has le here.
      let s : HasAt p.added at all × HasAt q.added (at + length p.added) all = has_split p.added q.added at all here in
      let g : length (p.added ++ q.added) ≡ length p.added + length q.added = length_append p.added q.added in
      let e : at + length p.added + length q.added ≡ at + length (p.added ++ q.added) = omega (arith, g) in
      let le_past : length d.ops ≤ at + length p.added = omega (arith, le) in (
        at + length p.added,
        p.stands all at (has_before b.ops q.inner d.ops all q.ops has)
            (long_before b.ops q.inner d.ops at q.ops le) s.0,
        subst (λ (n : ℕ). Y (a.holes + h) all (at + length p.added) n) e
            (subst (λ (n : ℕ). Y n all (at + length p.added) (at + length p.added + length q.added)) p.holes
            (q.stands all (at + length p.added) has le_past s.1)),
      );
}

-- own ops that are put at the end of all are a block
pub pushes_block : (Y : ℕ → List Op → ℕ → ℕ → Type 0) (h : ℕ) (a b d : Made) (none own : List Op) → none ≡ []
    → Pushes Y h a b none own → d ≡ with_ops b own → Lays (block_stands Y (laid_block b own)) h a d
pushes_block Y h a b d none own nil p is =
    let same : own ≡ p.added = p.own_ops ∙ ap (λ (x : List Op). x ++ p.added) nil in
    subst (λ (m : Made). Lays (block_stands Y (laid_block b own)) h a m) (sym is)
    (record {
      holes = p.holes;
      inner = p.inner ++ own;
      ops = ap (λ (x : List Op). x ++ own) p.ops ∙ append_assoc a.ops p.inner own;
      stands = λ all before has le.
          let s : HasAt b.ops 0 all × HasAt own (0 + length b.ops) all = has_split b.ops own 0 all has in
          let zero_first : 0 + length b.ops ≡ length b.ops = omega arith in
          let here : HasAt own (length b.ops) all = subst (λ (n : ℕ). HasAt own n all) zero_first s.1 in
          let there : HasAt p.added (length b.ops) all =
          subst (λ (x : List Op). HasAt x (length b.ops) all) same here in
          let g : length (b.ops ++ own) ≡ length b.ops + length own = length_append b.ops own in
          let itself : length b.ops ≤ length b.ops = omega arith in (
            omega (arith, g, le),
            subst (λ (x : List Op). Y a.holes all (length b.ops) (length b.ops + length x)) (sym same)
                (p.stands all (length b.ops) s.0 itself there),
          );
    })

-- what stands once all ops are there
pub lays_all : (X : ℕ → List Op → ℕ → Type 0) (h : ℕ) (a b : Made) → Lays X h a b → X a.holes b.ops (length b.ops)
lays_all X h a b l = let itself : length b.ops ≤ length b.ops = omega arith in l.stands b.ops (length b.ops)
    (has_self b.ops) itself
