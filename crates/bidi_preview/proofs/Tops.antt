-- The top of a status, and what a directed class does.
use Rattle.std.proofs.Common.{◌≡◌, ◌<◌, ℕ, zero, suc, ◌+◌, ◌++◌, append_assoc, drop, length, map, get_or, subst}
use Rattle.std.proofs.Common.{arith, Bool, true, false, inl, inr, List, [], ◌∷◌, refl, sym, ap, ◌∙◌, Option}
use Rattle.std.proofs.Common.{Some, None, if◌then◌else◌}
use Rattle.std.proofs.lemmas.Bool.{both_ways}
use Rattle.std.proofs.Math.Seq.{drop-cons}
use Rattle.soy_base.specs.Stacks.{top_of}
use Rattle.bidi_class.specs.declared.class.Class.{Class}
use Rattle.bidi_class.specs.declared.class.Class.TheVariants.{LRI, RLI, FSI, PDI, LRE, RLE, LRO, RLO, PDF, BN}
use Rattle.bidi_class.specs.Class.{bidi_class}
use Rattle.bidi_order.specs.DirectionalStatus.{DirectionalStatus, StatusEntry, act_of_class, begins_right_to_left}
use Rattle.bidi_order.specs.DirectionalStatus.{last_entry, status_after, top_entry}
use Rattle.bidi_order.specs.Explicit.{KeptCharacter, act_of_character, explicit_character}
use Rattle.bidi_order.specs.Explicit.{explicit_from, kept_character}
use Rattle.bidi_order.specs.Explicit.IsolateRole.{Neither}
use Rattle.bidi_class.specs.Brackets.{bracket}
use Rattle.bidi_order.specs.DirectionalStatus.ExplicitAct.{Isolates, Stays}
use Rattle.bidi_preview.specs.ExplicitSteps.{IsDirected, directed_by, directed_classes}

abbrev pub entry_or : ℕ → Option StatusEntry → StatusEntry
entry_or base None = record { level = base; override = None; isolate = false }
entry_or base (Some entry) = entry

pub last_entry_top : (base : ℕ) (stack : List StatusEntry) → last_entry base stack ≡ entry_or base (top_of stack)
last_entry_top base [] = refl
last_entry_top base (entry ∷ stack) = refl

-- a class and the one that stands for it do the same
pub directed_act : (c : Class) (cs : List Class) → act_of_class (directed_by c (begins_right_to_left 0 cs)) []
    ≡ act_of_class c cs
directed_act FSI cs = by (begins_right_to_left 0 cs)
  where
    by : (b : Bool) → act_of_class (if b then RLI else LRI) [] ≡ Isolates b
    by true = refl
    by false = refl
directed_act _ cs = refl

pub directed_is : (c : Class) (b : Bool) → IsDirected (directed_by c b) c
directed_is FSI true = inr (refl, refl)
directed_is FSI false = inr (refl, refl)
directed_is _ b = inl refl

-- the directed class at an index
directed-at : (cs : List Class) (i : ℕ) (k d : Class) → i < length cs → get_or (directed_classes cs) i k
    ≡ directed_by (get_or cs i d) (begins_right_to_left 0 (drop (suc i) cs))
directed-at [] i k d h = absurd (omega (arith, h))
directed-at (c ∷ cs) zero k d h = refl
directed-at (c ∷ cs) (suc i) k d h = directed-at cs i k d (omega (arith, h))

mapped-at : (line : List ℕ) (i c : ℕ) → i < length line → get_or (map bidi_class line) i (bidi_class c)
    ≡ bidi_class (get_or line i c)
mapped-at [] i c h = absurd (omega (arith, h))
mapped-at (x ∷ line) zero c h = refl
mapped-at (x ∷ line) (suc i) c h = mapped-at line i c (omega (arith, h))

mapped-drop : (line : List ℕ) (i : ℕ) → drop i (map bidi_class line) ≡ map bidi_class (drop i line)
mapped-drop line zero = refl
mapped-drop [] (suc i) = refl
mapped-drop (x ∷ line) (suc i) = mapped-drop line i

mapped-long : (line : List ℕ) → length (map bidi_class line) ≡ length line
mapped-long [] = refl
mapped-long (x ∷ line) = ap suc (mapped-long line)

class-is : (line : List ℕ) (i : ℕ) (k : Class) (c : ℕ) → i < length line
    → get_or (directed_classes (map bidi_class line)) i k
    ≡ directed_by (bidi_class (get_or line i c)) (begins_right_to_left 0 (map bidi_class (drop (suc i) line)))
class-is line i k c h =
    directed-at (map bidi_class line) i k (bidi_class c) (omega (arith, h, mapped-long line))
    ∙ ap (λ x. directed_by x (begins_right_to_left 0 (drop (suc i) (map bidi_class line)))) (mapped-at line i c h)
    ∙ ap (λ l. directed_by (bidi_class (get_or line i c)) (begins_right_to_left 0 l)) (mapped-drop line (suc i))

pub act_at : (line : List ℕ) (i : ℕ) (k : Class) (c : ℕ) → i < length line
    → act_of_class (get_or (directed_classes (map bidi_class line)) i k) []
    ≡ act_of_character (get_or line i c) (drop (suc i) line)
act_at line i k c h = ap (λ x. act_of_class x []) (class-is line i k c h)
    ∙ directed_act (bidi_class (get_or line i c)) (map bidi_class (drop (suc i) line))

pub directed_at : (line : List ℕ) (i : ℕ) (k : Class) (c : ℕ) → i < length line
    → IsDirected (get_or (directed_classes (map bidi_class line)) i k) (bidi_class (get_or line i c))
directed_at line i k c h = subst (λ x. IsDirected x (bidi_class (get_or line i c))) (sym (class-is line i k c h))
    (directed_is (bidi_class (get_or line i c)) (begins_right_to_left 0 (map bidi_class (drop (suc i) line))))

pub directed_long : (cs : List Class) → length (directed_classes cs) ≡ length cs
directed_long [] = refl
directed_long (c ∷ cs) = ap suc (directed_long cs)

-- one more explicit character
pub explicit_at : (s : DirectionalStatus) (line : List ℕ) (i c : ℕ) → i < length line → explicit_from s (drop i line)
    ≡ explicit_character (get_or line i c) (act_of_character (get_or line i c) (drop (suc i) line)) s
    ∷ explicit_from (status_after (act_of_character (get_or line i c) (drop (suc i) line)) s) (drop (suc i) line)
explicit_at s line i c h = ap (explicit_from s) (drop-cons line i c h)

-- a character that does nothing to the status
pub record IsPlain (class given : Class) : Type 0 where
  pub act : act_of_class class [] ≡ Stays
  pub same : class ≡ given

pub plain : (class given : Class) → (class ≡ BN → ⊥) → (class ≡ LRE → ⊥) → (class ≡ LRO → ⊥) → (class ≡ RLE → ⊥)
    → (class ≡ RLO → ⊥) → (class ≡ PDF → ⊥) → (class ≡ LRI → ⊥) → (class ≡ FSI → ⊥) → (class ≡ RLI → ⊥)
    → (class ≡ PDI → ⊥) → IsDirected class given → IsPlain class given
plain BN given a b c d e f g h i j is = absurd (a refl)
plain LRE given a b c d e f g h i j is = absurd (b refl)
plain LRO given a b c d e f g h i j is = absurd (c refl)
plain RLE given a b c d e f g h i j is = absurd (d refl)
plain RLO given a b c d e f g h i j is = absurd (e refl)
plain PDF given a b c d e f g h i j is = absurd (f refl)
plain LRI given a b c d e f g h i j is = absurd (g refl)
plain FSI given a b c d e f g h i j is = absurd (h refl)
plain RLI given a b c d e f g h i j is = absurd (i refl)
plain PDI given a b c d e f g h i j is = absurd (j refl)
plain class given a b c d e f g h i j (inl same) = record { act = refl; same = same }
plain class given a b c d e f g h i j (inr both) = absurd (both_ways false refl both.0)

pub plain_character : (c : ℕ) (class : Class) (s : DirectionalStatus) → IsPlain class (bidi_class c)
    → kept_character (top_entry s) Neither class (bracket c) ≡ explicit_character c (act_of_class class []) s
plain_character c class s p = ap (λ k. kept_character (top_entry s) Neither k (bracket c)) p.same
    ∙ ap (λ a. explicit_character c a s) (sym p.act)

pub plain_status : (class given : Class) (s : DirectionalStatus) → IsPlain class given
    → s ≡ status_after (act_of_class class []) s
plain_status class given s p = ap (λ a. status_after a s) (sym p.act)

-- one more explicit character, in the list of all
pub explicit_more : (s after : DirectionalStatus) (line : List ℕ) (classes : List Class) (i c ch : ℕ) (k : Class)
    (x : Option KeptCharacter) (done whole : List (Option KeptCharacter)) → i < length line
    → ch ≡ get_or line i c → classes ≡ directed_classes (map bidi_class line)
    → x ≡ explicit_character ch (act_of_class (get_or classes i k) []) s
    → after ≡ status_after (act_of_class (get_or classes i k) []) s
    → done ++ explicit_from s (drop i line) ≡ whole
    → (done ++ x ∷ []) ++ explicit_from after (drop (i + 1) line) ≡ whole
explicit_more s after line classes i c ch k x done whole h same are is to so_far =
    let act : act_of_class (get_or classes i k) [] ≡ act_of_character (get_or line i c) (drop (suc i) line) =
    ap (λ l. act_of_class (get_or l i k) []) are ∙ act_at line i k c h in
    let up : i + 1 ≡ suc i = omega arith in
    append_assoc done (x ∷ []) (explicit_from after (drop (i + 1) line))
    ∙ ap (λ n. done ++ x ∷ explicit_from after (drop n line)) up
    ∙ ap (λ y. done ++ y ∷ explicit_from after (drop (suc i) line)) is
    ∙ ap (λ t. done ++ explicit_character ch (act_of_class (get_or classes i k) []) s
    ∷ explicit_from t (drop (suc i) line)) to
    ∙ ap (λ a. done ++ explicit_character ch a s ∷ explicit_from (status_after a s) (drop (suc i) line)) act
    ∙ ap (λ n. done ++ explicit_character n (act_of_character (get_or line i c) (drop (suc i) line)) s
    ∷ explicit_from (status_after (act_of_character (get_or line i c) (drop (suc i) line)) s) (drop (suc i) line)) same
    ∙ ap (λ l. done ++ l) (sym (explicit_at s line i c h)) ∙ so_far
