-- No two contents of a message have one placeholder name.
-- A numbered name gives its base name and its number; the number that is taken is free; so names that are equal have
-- one base name, and of the contents of one base name each has a number of its own.
use Rattle.std.proofs.Common.{◌≡◌, ℕ, zero, suc, ◌+◌, ◌*◌, ◌^◌, ◌<◌, ◌≤◌, ◌||◌, Bool, true, false}
use Rattle.std.proofs.Common.{List, [], ◌∷◌, ◌++◌, length, arith, refl, ap, sym, ◌∙◌, ◌⊎◌, inl, inr, length-append}
use Rattle.std.proofs.Common.{subst}
use Rattle.std.specs.Prelude.{Some, slice_get, bytes_eq, if◌then◌else◌}
use Rattle.std.specs.List.{list_any}
use Rattle.std.specs.Fmt.{decimal}
use Rattle.std.specs.Str.Parse.{AllDigits, digits_value}
use Rattle.std.proofs.lemmas.Fmt.{decimal_is_IsNumeral_wide}
use Rattle.std.proofs.lemmas.Slice.Eq.{bytes_eq-Decides}
use Rattle.soy_base.specs.Characters.{underscore}
use Rattle.soy_tree.specs.Types.{Name}
use Rattle.soy_rules.specs.Placeholders.{Content, Use, is_same_content, has_base, with_content, contents_after}
use Rattle.soy_rules.specs.Placeholders.{numbered_name, free_number, numbered, named_contents, content_name, name_of}
use Rattle.soy_tree.proofs.SameNames.{same_name}
use Rattle.soy_rules.proofs.SameContents.{content_itself, content_turned, content_shared}

split : (P : Type 0) (t : Bool) → (t ≡ true → P) → (t ≡ false → P) → P
split P true f g = f refl
split P false f g = g refl

or_left : (a b : Bool) → a ≡ true → (a || b) ≡ true
or_left a b h = rw h refl

or_right : (a b : Bool) → b ≡ true → (a || b) ≡ true
or_right true b h = refl
or_right false b h = h

or_other : (a b : Bool) → a ≡ false → (a || b) ≡ true → b ≡ true
or_other true b e h = absurd (cc e)
or_other false b e h = h

name_itself : (x : Name) → bytes_eq x x ≡ true
name_itself x = (bytes_eq-Decides x x).1 refl

-- numbered names

head_same : (x y : ℕ) (xs ys : List ℕ) → (x ∷ xs) ≡ (y ∷ ys) → x ≡ y
head_same x y xs ys h = cc

tail_same : (x y : ℕ) (xs ys : List ℕ) → (x ∷ xs) ≡ (y ∷ ys) → xs ≡ ys
tail_same x y xs ys h = cc

not_digits : (xs ys : List ℕ) → AllDigits 10 (xs ++ (underscore ∷ ys)) → ⊥
not_digits [] ys d = omega (arith, d.0)
not_digits (x ∷ xs) ys d = not_digits xs ys d.1

-- the last underscore splits a text in one way
last_underscore : (xs ys ds es : List ℕ) → AllDigits 10 ds → AllDigits 10 es
    → xs ++ (underscore ∷ ds) ≡ ys ++ (underscore ∷ es) → (xs ≡ ys) × (ds ≡ es)
last_underscore [] [] ds es d e h = (refl, tail_same underscore underscore ds es h)
last_underscore [] (y ∷ ys) ds es d e h =
    absurd (not_digits ys es (subst (λ t. AllDigits 10 t)
    (tail_same underscore y ds (ys ++ (underscore ∷ es)) h) d))
last_underscore (x ∷ xs) [] ds es d e h =
    absurd (not_digits xs ds (subst (λ t. AllDigits 10 t)
    (sym (tail_same x underscore (xs ++ (underscore ∷ ds)) es h)) e))
last_underscore (x ∷ xs) (y ∷ ys) ds es d e h =
    let p : x ≡ y = head_same x y (xs ++ (underscore ∷ ds)) (ys ++ (underscore ∷ es)) h in
    let q = last_underscore xs ys ds es d e
    (tail_same x y (xs ++ (underscore ∷ ds)) (ys ++ (underscore ∷ es)) h) in
    let r : xs ≡ ys = q.0 in
    (rw (p, r) refl, q.1)

same_number : (m n : ℕ) → m < 10 ^ 64 → n < 10 ^ 64 → decimal m ≡ decimal n → m ≡ n
same_number m n p q h =
    sym (decimal_is_IsNumeral_wide m p).1
    ∙ (ap (λ ds. digits_value 10 ds) h ∙ (decimal_is_IsNumeral_wide n q).1)

-- a numbered name has one base name and one number
same_numbered : (a b : Name) (m n : ℕ) → m < 10 ^ 64 → n < 10 ^ 64 → numbered_name a m ≡ numbered_name b n
    → (a ≡ b) × (m ≡ n)
same_numbered a b m n p q h =
    let s = last_underscore a b (decimal m) (decimal n) (decimal_is_IsNumeral_wide m p).0.1
    (decimal_is_IsNumeral_wide n q).0.1 h in
    (s.0, same_number m n p q s.1)

-- free numbers

-- the uses without the first one of a base name
abbrev without : Name → List Use → List Use
without base [] = []
without base (u ∷ us) = if bytes_eq u.base base then us else u ∷ without base us

without_shorter : (base : Name) (us : List Use) → has_base base us ≡ true
    → suc (length (without base us)) ≡ length us
without_shorter base [] h = absurd (cc h)
without_shorter base (u ∷ us) h =
    split _ (bytes_eq u.base base) (λ e. rw e refl)
    (λ e. rw e (ap (λ k. suc k) (without_shorter base us (or_other (bytes_eq u.base base) (has_base base us) e h))))

without_keeps : (base other : Name) (us : List Use) → (base ≡ other → ⊥) → has_base other us ≡ true
    → has_base other (without base us) ≡ true
without_keeps base other [] d h = h
without_keeps base other (u ∷ us) d h =
    split _ (bytes_eq u.base base)
    (λ e. rw e (split _ (bytes_eq u.base other)
    (λ f. absurd (d (sym (same_name u.base base e) ∙ same_name u.base other f)))
    (λ f. or_other (bytes_eq u.base other) (has_base other us) f h)))
    (λ e. rw e (split _ (bytes_eq u.base other)
    (λ f. or_left (bytes_eq u.base other) (has_base other (without base us)) f)
    (λ f. or_right (bytes_eq u.base other) (has_base other (without base us))
    (without_keeps base other us d (or_other (bytes_eq u.base other) (has_base other us) f h)))))

free_from : (tries : ℕ) (base : Name) (n : ℕ) (us : List Use) → n ≤ free_number tries base n us
free_from zero base n us = omega arith
free_from (suc tries) base n us =
    split _ (has_base (numbered_name base n) us)
    (λ h. rw h (omega (arith, free_from tries base (n + 1) us)))
    (λ h. rw h (omega arith))

free_within : (tries : ℕ) (base : Name) (n : ℕ) (us : List Use) → free_number tries base n us ≤ n + tries
free_within zero base n us = omega arith
free_within (suc tries) base n us =
    split _ (has_base (numbered_name base n) us)
    (λ h. rw h (omega (arith, free_within tries base (n + 1) us)))
    (λ h. rw h (omega arith))

-- `left` has each of the numbered names that are base names, as long as they are tried
abbrev Covers : ℕ → Name → ℕ → List Use → List Use → Type 0
Covers tries base n us left =
    (m : ℕ) → n ≤ m → m ≤ n + tries → has_base (numbered_name base m) us ≡ true
    → has_base (numbered_name base m) left ≡ true

free_is_free : (tries : ℕ) (base : Name) (n : ℕ) (us left : List Use) → n + tries < 10 ^ 64
    → length left ≤ tries → Covers tries base n us left
    → has_base (numbered_name base (free_number tries base n us)) us ≡ false
free_is_free zero base n us [] small few covers =
    split _ (has_base (numbered_name base n) us)
    (λ h. absurd (cc (covers n (omega arith) (omega arith) h)))
    (λ h. h)
free_is_free zero base n us (u ∷ left) small few covers = absurd (omega arith)
free_is_free (suc tries) base n us left small few covers =
    split _ (has_base (numbered_name base n) us)
    (λ h. let here : has_base (numbered_name base n) left ≡ true = covers n (omega arith) (omega arith) h in
    let shorter : suc (length (without (numbered_name base n) left)) ≡ length left =
    without_shorter (numbered_name base n) left here in
    rw h (free_is_free tries base (n + 1) us (without (numbered_name base n) left) (omega arith) (omega arith)
    (λ m low high k. without_keeps (numbered_name base n) (numbered_name base m) left
    (λ e. let same : n ≡ m = (same_numbered base base n m (omega arith) (omega arith) e).1 in absurd (omega arith))
    (covers m (omega arith) (omega arith) k))))
    (λ h. rw h h)

-- contents

abbrev among : Content → List Content → Bool
among d [] = false
among d (c ∷ cs) = is_same_content c d || among d cs

among_left : (d : Content) (cs ds : List Content) → among d cs ≡ true → among d (cs ++ ds) ≡ true
among_left d [] ds h = absurd (cc h)
among_left d (c ∷ cs) ds h =
    split _ (is_same_content c d)
    (λ e. or_left (is_same_content c d) (among d (cs ++ ds)) e)
    (λ e. or_right (is_same_content c d) (among d (cs ++ ds))
    (among_left d cs ds (or_other (is_same_content c d) (among d cs) e h)))

among_last : (d : Content) (cs : List Content) → among d (cs ++ d ∷ []) ≡ true
among_last d [] = or_left (is_same_content d d) false (content_itself d)
among_last d (c ∷ cs) = or_right (is_same_content c d) (among d (cs ++ d ∷ [])) (among_last d cs)

among_any : (d : Content) (cs : List Content) → list_any (is_same_content d) cs ≡ true → among d cs ≡ true
among_any d [] h = absurd (cc h)
among_any d (c ∷ cs) h =
    split _ (is_same_content d c)
    (λ e. or_left (is_same_content c d) (among d cs) (content_turned d c e))
    (λ e. or_right (is_same_content c d) (among d cs)
    (among_any d cs (or_other (is_same_content d c) (list_any (is_same_content d) cs) e h)))

with_keeps : (d x : Content) (cs : List Content) → among d cs ≡ true → among d (with_content cs x) ≡ true
with_keeps d x cs h =
    split _ (list_any (is_same_content x) cs) (λ e. rw e h) (λ e. rw e (among_left d cs (x ∷ []) h))

with_itself : (d : Content) (cs : List Content) → among d (with_content cs d) ≡ true
with_itself d cs =
    split _ (list_any (is_same_content d) cs) (λ e. rw e (among_any d cs e)) (λ e. rw e (among_last d cs))

after_keeps : (d : Content) (cs : List Content) (base : Name) (us : List Use) → among d cs ≡ true
    → among d (contents_after cs base us) ≡ true
after_keeps d cs base [] h = h
after_keeps d cs base (u ∷ us) h =
    split _ (bytes_eq u.base base)
    (λ e. rw e (after_keeps d (with_content cs u.content) base us (with_keeps d u.content cs h)))
    (λ e. rw e (after_keeps d cs base us h))

-- the content of a use is one of its base name's
use_content : (cs : List Content) (us : List Use) (i : ℕ) (u : Use) → slice_get us i ≡ Some u
    → among u.content (contents_after cs u.base us) ≡ true
use_content cs [] i u h = absurd (cc h)
use_content cs (w ∷ us) zero u h =
    let e : w ≡ u = cc in
    rw (e, name_itself u.base)
    (after_keeps u.content (with_content cs u.content) u.base us (with_itself u.content cs))
use_content cs (w ∷ us) (suc i) u h =
    split _ (bytes_eq w.base u.base)
    (λ e. rw e (use_content (with_content cs w.content) us i u h))
    (λ e. rw e (use_content cs us i u h))

use_base : (us : List Use) (i : ℕ) (u : Use) → slice_get us i ≡ Some u → has_base u.base us ≡ true
use_base [] i u h = absurd (cc h)
use_base (w ∷ us) zero u h =
    let e : w ≡ u = cc in or_left (bytes_eq w.base u.base) (has_base u.base us) (rw e (name_itself u.base))
use_base (w ∷ us) (suc i) u h =
    or_right (bytes_eq w.base u.base) (has_base u.base us) (use_base us i u h)

with_few : (x : Content) (cs : List Content) → length (with_content cs x) ≤ suc (length cs)
with_few x cs =
    split _ (list_any (is_same_content x) cs) (λ e. rw e (omega arith))
    (λ e. rw e (omega (arith, length-append cs (x ∷ []))))

after_few : (cs : List Content) (base : Name) (us : List Use)
    → length (contents_after cs base us) ≤ length cs + length us
after_few cs base [] = omega arith
after_few cs base (u ∷ us) =
    split _ (bytes_eq u.base base)
    (λ e. rw e (omega (arith, after_few (with_content cs u.content) base us, with_few u.content cs)))
    (λ e. rw e (omega (arith, after_few cs base us)))

-- numbered contents

-- a number that names a content: from n on, and free
pub record Numbers (base : Name) (us : List Use) (n : ℕ) (most : ℕ) (name : Name) : Type 0 where
  pub number : ℕ
  pub from : n ≤ number
  pub small : number ≤ most
  pub is : name ≡ numbered_name base number
  pub free : has_base (numbered_name base number) us ≡ false

covers_itself : (tries : ℕ) (base : Name) (n : ℕ) (us : List Use) → Covers tries base n us us
covers_itself tries base n us m low high h = h

first_name : (d : Content) (base : Name) (x : Content) (name : Name) (rows : List (Content × Name))
    → is_same_content x d ≡ true → name ≡ content_name d base ((x, name) ∷ rows)
first_name d base x name rows h = rw h refl

later_name : (d : Content) (base : Name) (x : Content) (name : Name) (rows : List (Content × Name))
    → is_same_content x d ≡ false → content_name d base ((x, name) ∷ rows) ≡ content_name d base rows
later_name d base x name rows h = rw h refl

numbered_has : (base : Name) (us : List Use) (n : ℕ) (cs : List Content) (d : Content) → length us < 2 ^ 64
    → n + length cs * 2 ^ 64 < 10 ^ 64 → among d cs ≡ true
    → Numbers base us n (n + length cs * 2 ^ 64) (content_name d base (numbered base us n cs))
numbered_has base us n [] d few small h = absurd (cc h)
numbered_has base us n (c ∷ cs) d few small h =
    let free : ℕ = free_number (length us) base n us in
    let low : n ≤ free = free_from (length us) base n us in
    let high : free ≤ n + length us = free_within (length us) base n us in
    split _ (is_same_content c d)
    (λ e. record {
      number = free;
      from = low;
      small = omega arith;
      is = sym (first_name d base c (numbered_name base free) (numbered base us (free + 1) cs) e);
      free = free_is_free (length us) base n us us (omega arith) (omega arith) (covers_itself (length us) base n us);
    })
    (λ e. let later = numbered_has base us (free + 1) cs d few (omega arith)
    (or_other (is_same_content c d) (among d cs) e h) in
    record {
      number = later.number;
      from = omega (arith, later.from);
      small = omega (arith, later.small);
      is = later_name d base c (numbered_name base free) (numbered base us (free + 1) cs) e ∙ later.is;
      free = later.free;
    })

not_later : (base : Name) (m n : ℕ) → m < 10 ^ 64 → n < 10 ^ 64 → m + 1 ≤ n
    → numbered_name base m ≡ numbered_name base n → ⊥
not_later base m n p q low h =
    let same : m ≡ n = (same_numbered base base m n p q h).1 in omega arith

-- of numbered contents, those of one name are the same
numbered_apart : (base : Name) (us : List Use) (n : ℕ) (cs : List Content) (c d : Content) → length us < 2 ^ 64
    → n + length cs * 2 ^ 64 < 10 ^ 64 → among c cs ≡ true → among d cs ≡ true
    → content_name c base (numbered base us n cs) ≡ content_name d base (numbered base us n cs)
    → is_same_content c d ≡ true
numbered_apart base us n [] c d few small h k e = absurd (cc h)
numbered_apart base us n (x ∷ cs) c d few small h k e =
    let free : ℕ = free_number (length us) base n us in
    let low : n ≤ free = free_from (length us) base n us in
    let high : free ≤ n + length us = free_within (length us) base n us in
    let rest : free + 1 + length cs * 2 ^ 64 < 10 ^ 64 = omega arith in
    split _ (is_same_content x c)
    (λ p. split _ (is_same_content x d)
    (λ q. content_shared x c d p q)
    (λ q. let other = numbered_has base us (free + 1) cs d few rest
    (or_other (is_same_content x d) (among d cs) q k) in
    absurd (not_later base free other.number (omega arith) (omega (arith, other.small)) other.from
    (first_name c base x (numbered_name base free) (numbered base us (free + 1) cs) p
    ∙ (e ∙ (later_name d base x (numbered_name base free) (numbered base us (free + 1) cs) q ∙ other.is))))))
    (λ p. split _ (is_same_content x d)
    (λ q. let other = numbered_has base us (free + 1) cs c few rest
    (or_other (is_same_content x c) (among c cs) p h) in
    absurd (not_later base free other.number (omega arith) (omega (arith, other.small)) other.from
    (first_name d base x (numbered_name base free) (numbered base us (free + 1) cs) q
    ∙ (sym e ∙ (later_name c base x (numbered_name base free) (numbered base us (free + 1) cs) p ∙ other.is)))))
    (λ q. numbered_apart base us (free + 1) cs c d few rest
    (or_other (is_same_content x c) (among c cs) p h) (or_other (is_same_content x d) (among d cs) q k)
    (sym (later_name c base x (numbered_name base free) (numbered base us (free + 1) cs) p)
    ∙ (e ∙ later_name d base x (numbered_name base free) (numbered base us (free + 1) cs) q))))

-- names

-- the name of a content: its base name, or a free numbered name
abbrev IsName : Name → List Use → List Content → Name → Type 0
IsName base us cs name = (name ≡ base) ⊎ Numbers base us 1 (1 + length cs * 2 ^ 64) name

one_among : (c d : Content) → among d (c ∷ []) ≡ true → is_same_content c d ≡ true
one_among c d h = split _ (is_same_content c d) (λ e. e) (λ e. absurd (cc (or_other (is_same_content c d) false e h)))

named : (base : Name) (us : List Use) (cs : List Content) (d : Content) → length us < 2 ^ 64
    → length cs ≤ length us → among d cs ≡ true
    → IsName base us cs (content_name d base (named_contents base us cs))
named base us [] d few short h = absurd (cc h)
named base us (c ∷ []) d few short h = inl (rw (one_among c d h) refl)
named base us (c ∷ (x ∷ cs)) d few short h = inr (numbered_has base us 1 (c ∷ (x ∷ cs)) d few (omega arith) h)

named_apart : (base : Name) (us : List Use) (cs : List Content) (c d : Content) → length us < 2 ^ 64
    → length cs ≤ length us → among c cs ≡ true → among d cs ≡ true
    → content_name c base (named_contents base us cs) ≡ content_name d base (named_contents base us cs)
    → is_same_content c d ≡ true
named_apart base us [] c d few short h k e = absurd (cc h)
named_apart base us (x ∷ []) c d few short h k e = content_shared x c d (one_among x c h) (one_among x d k)
named_apart base us (x ∷ (y ∷ cs)) c d few short h k e =
    numbered_apart base us 1 (x ∷ (y ∷ cs)) c d few (omega arith) h k e

not_free : (us : List Use) (a b : Name) → has_base a us ≡ true → a ≡ b → has_base b us ≡ false → ⊥
not_free us a b h e f = cc (sym h ∙ (ap (λ x. has_base x us) e ∙ f))

-- a name has one base name
one_base : (us : List Use) (a b name : Name) (cs ds : List Content) → length us < 2 ^ 64 → length cs ≤ length us
    → length ds ≤ length us → has_base a us ≡ true → has_base b us ≡ true → IsName a us cs name
    → IsName b us ds name → a ≡ b
one_base us a b name cs ds few p q h k (inl e) (inl f) = sym e ∙ f
one_base us a b name cs ds few p q h k (inl e) (inr f) =
    absurd (not_free us a (numbered_name b f.number) h (sym e ∙ f.is) f.free)
one_base us a b name cs ds few p q h k (inr e) (inl f) =
    absurd (not_free us b (numbered_name a e.number) k (sym f ∙ e.is) e.free)
one_base us a b name cs ds few p q h k (inr e) (inr f) =
    (same_numbered a b e.number f.number (omega (arith, e.small)) (omega (arith, f.small)) (sym e.is ∙ f.is)).0

-- two uses of one name have the same base name and the same content
pub names_apart : (us : List Use) (i j : ℕ) (u v : Use) → length us < 2 ^ 64 → slice_get us i ≡ Some u
    → slice_get us j ≡ Some v → name_of us u.base u.content ≡ name_of us v.base v.content
    → (u.base ≡ v.base) × (is_same_content u.content v.content ≡ true)
names_apart us i j u v few h k e =
    let cs : List Content = contents_after [] u.base us in
    let ds : List Content = contents_after [] v.base us in
    let c : among u.content cs ≡ true = use_content [] us i u h in
    let d : among v.content ds ≡ true = use_content [] us j v k in
    let p : length cs ≤ length us = omega (arith, after_few [] u.base us) in
    let q : length ds ≤ length us = omega (arith, after_few [] v.base us) in
    let same : u.base ≡ v.base =
    one_base us u.base v.base (name_of us u.base u.content) cs ds few p q (use_base us i u h) (use_base us j v k)
    (named u.base us cs u.content few p c)
    (subst (λ x. IsName v.base us ds x) (sym e) (named v.base us ds v.content few q d)) in (
      same,
      named_apart u.base us cs u.content v.content few p c
          (subst (λ x. among v.content (contents_after [] x us) ≡ true) (sym same) d)
          (e ∙ ap (λ x. name_of us x v.content) (sym same)),
    )
