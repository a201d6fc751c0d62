-- The answers that one pass finds are the directions of the elements that go by their content.
use Rattle.std.proofs.Common.{◌≡◌, ◌==◌, ◌||◌, not, ℕ, zero, suc, ◌+◌, ◌<◌, ◌≤◌, Bool, true, false, if◌then◌else◌}
use Rattle.std.proofs.Common.{List, [], ◌∷◌, ◌++◌, map, length, get_or, drop, refl, sym, ap, subst, ◌∙◌, arith, Option}
use Rattle.std.proofs.Common.{Some}
use Rattle.std.proofs.Common.{None}
use Rattle.std.proofs.Math.Seq.{drop-length}
use Rattle.std.proofs.lemmas.Bool.{eq-eqb, eqb-false, eqb-true, ne_eqb}
use Rattle.std.proofs.lemmas.List.{drop_more, get_or_at, length-append}
use Rattle.std.proofs.lemmas.List.{get_or_append_left}
use Rattle.std.specs.List.{list_any}
use Rattle.std.specs.Option.{is_some}
use Rattle.std.specs.Str.{bytes_eq}
use Rattle.soy_base.specs.Among.{is_among}
use Rattle.bidi_class.specs.Class.{bidi_class}
use Rattle.bidi_text.specs.Estimate.{is_right_to_left, is_strong}
use Rattle.bidi_order.specs.Elements.{DirAttribute, InnerElement, content_right_to_left, dir_attribute}
use Rattle.bidi_order.specs.Elements.{inner_element, is_void, left_open}
use Rattle.bidi_order.specs.MarkupTokens.{MarkupToken}
use Rattle.bidi_order.specs.MarkupTokens.MarkupToken.{Character, StartTag, EndTag}
use Rattle.bidi_preview.specs.AutoDirections.{OpenName, answer_at, answers_from, auto_directions, character_answers}
use Rattle.bidi_preview.specs.AutoDirections.{end_names, end_opened, goes_by_content, is_apart, new_name, or_left}
use Rattle.bidi_preview.specs.AutoDirections.{start_answers, start_opened, top_waits}
use Rattle.bidi_preview.specs.AutoDirections.{with_answer}
use Rattle.bidi_preview.proofs.FoundNames.{same_bytes}

either : (P : Bool → Type 0) → P true → P false → (b : Bool) → P b
either P yes_case no_case true = yes_case
either P yes_case no_case false = no_case

-- ---- one answer

abbrev pub answer : List (Option Bool) → ℕ → Option Bool
answer answers k = get_or answers k None

at-same : (k : ℕ) (b : Bool) (answers : List (Option Bool)) → k < length answers → answer answers k ≡ None
    → answer (answer_at k b answers) k ≡ Some b
at-same k b [] within none = absurd (omega (arith, within))
at-same zero b (None ∷ answers) within none = refl
at-same zero b (Some a ∷ answers) within none = absurd (cc)
at-same (suc k) b (a ∷ answers) within none = at-same k b answers (omega (arith, within)) none

at-kept : (j : ℕ) (b : Bool) (answers : List (Option Bool)) (k : ℕ) (a : Bool) → answer answers k ≡ Some a
    → answer (answer_at j b answers) k ≡ Some a
at-kept j b [] k a is = is
at-kept zero b (None ∷ answers) zero a is = absurd (cc)
at-kept zero b (None ∷ answers) (suc k) a is = is
at-kept zero b (Some x ∷ answers) k a is = is
at-kept (suc j) b (x ∷ answers) zero a is = is
at-kept (suc j) b (x ∷ answers) (suc k) a is = at-kept j b answers k a is

at-other : (j : ℕ) (b : Bool) (answers : List (Option Bool)) (k : ℕ) → (j ≡ k → ⊥)
    → answer (answer_at j b answers) k ≡ answer answers k
at-other j b [] k differ = refl
at-other zero b (x ∷ answers) zero differ = absurd (differ refl)
at-other zero b (None ∷ answers) (suc k) differ = refl
at-other zero b (Some x ∷ answers) (suc k) differ = refl
at-other (suc j) b (x ∷ answers) zero differ = refl
at-other (suc j) b (x ∷ answers) (suc k) differ = at-other j b answers k (λ e. differ (ap suc e))

at-long : (j : ℕ) (b : Bool) (answers : List (Option Bool)) → length (answer_at j b answers) ≡ length answers
at-long j b [] = refl
at-long zero b (None ∷ answers) = refl
at-long zero b (Some x ∷ answers) = refl
at-long (suc j) b (x ∷ answers) = ap suc (at-long j b answers)

abbrev pub waits_for : ℕ → Option ℕ → Bool
waits_for k None = false
waits_for k (Some j) = j == k

with-other : (waits : Option ℕ) (b : Bool) (answers : List (Option Bool)) (k : ℕ) → waits_for k waits ≡ false
    → answer (with_answer waits b answers) k ≡ answer answers k
with-other None b answers k differ = refl
with-other (Some j) b answers k differ = at-other j b answers k (eqb-false j k differ)

with-kept : (waits : Option ℕ) (b : Bool) (answers : List (Option Bool)) (k : ℕ) (a : Bool)
    → answer answers k ≡ Some a → answer (with_answer waits b answers) k ≡ Some a
with-kept None b answers k a is = is
with-kept (Some j) b answers k a is = at-kept j b answers k a is

with-long : (waits : Option ℕ) (b : Bool) (answers : List (Option Bool))
    → length (with_answer waits b answers) ≡ length answers
with-long None b answers = refl
with-long (Some j) b answers = at-long j b answers

character-kept : (waits : Option ℕ) (c : ℕ) (answers : List (Option Bool)) (k : ℕ) (a : Bool)
    → answer answers k ≡ Some a → answer (character_answers waits c answers) k ≡ Some a
character-kept waits c answers k a is = either
    (λ s. answer (if s then with_answer waits (is_right_to_left (bidi_class c)) answers else answers) k ≡ Some a)
    (with-kept waits (is_right_to_left (bidi_class c)) answers k a is) is (is_strong (bidi_class c))

character-other : (waits : Option ℕ) (c : ℕ) (answers : List (Option Bool)) (k : ℕ) → waits_for k waits ≡ false
    → answer (character_answers waits c answers) k ≡ answer answers k
character-other waits c answers k differ = either
    (λ s. answer (if s then with_answer waits (is_right_to_left (bidi_class c)) answers else answers) k
    ≡ answer answers k)
    (with-other waits (is_right_to_left (bidi_class c)) answers k differ) refl (is_strong (bidi_class c))

character-long : (waits : Option ℕ) (c : ℕ) (answers : List (Option Bool))
    → length (character_answers waits c answers) ≡ length answers
character-long waits c answers = either
    (λ s. length (if s then with_answer waits (is_right_to_left (bidi_class c)) answers else answers) ≡ length answers)
    (with-long waits (is_right_to_left (bidi_class c)) answers) refl (is_strong (bidi_class c))

one-more : (answers : List (Option Bool)) → length (answers ++ None ∷ []) ≡ length answers + 1
one-more answers = length-append answers (None ∷ [])

some-within : (answers : List (Option Bool)) (k : ℕ) (a : Bool) → answer answers k ≡ Some a → k < length answers
some-within [] k a is = absurd (cc)
some-within (x ∷ answers) zero a is = omega arith
some-within (x ∷ answers) (suc k) a is = omega (arith, some-within answers k a is)

start-same : (name : List ℕ) (d : Option DirAttribute) (answers : List (Option Bool)) (k : ℕ) → k < length answers
    → answer (start_answers name d answers) k ≡ answer answers k
start-same name d answers k within = either
    (λ v. answer (if v then answers else (if goes_by_content name d then answers ++ None ∷ [] else answers)) k
    ≡ answer answers k)
    refl
    (either (λ g. answer (if g then answers ++ None ∷ [] else answers) k ≡ answer answers k)
    (get_or_append_left answers (None ∷ []) None k within) refl (goes_by_content name d))
    (is_void name)

start-long : (name : List ℕ) (d : Option DirAttribute) (answers : List (Option Bool))
    → length answers ≤ length (start_answers name d answers)
start-long name d answers = either
    (λ v. length answers ≤ length (if v then answers
    else (if goes_by_content name d then answers ++ None ∷ [] else answers)))
    (omega arith)
    (either (λ g. length answers ≤ length (if g then answers ++ None ∷ [] else answers))
    (omega (arith, one-more answers)) (omega arith) (goes_by_content name d))
    (is_void name)

-- ---- an answer that is given stays

kept-answer : (opened : List OpenName) (answers : List (Option Bool)) (ts : List MarkupToken) (k : ℕ) (a : Bool)
    → answer answers k ≡ Some a → answer (answers_from opened answers ts) k ≡ Some a
kept-answer opened answers [] k a is = is
kept-answer opened answers (Character c (Some l) ∷ ts) k a is = kept-answer opened answers ts k a is
kept-answer opened answers (Character c None ∷ ts) k a is =
    kept-answer opened (character_answers (top_waits opened) c answers) ts k a
    (character-kept (top_waits opened) c answers k a is)
kept-answer opened answers (StartTag name dir label ∷ ts) k a is =
    kept-answer (start_opened name (dir_attribute dir) (length answers) opened)
    (start_answers name (dir_attribute dir) answers) ts k a
    (start-same name (dir_attribute dir) answers k (some-within answers k a is) ∙ is)
kept-answer opened answers (EndTag name ∷ ts) k a is = kept-answer (end_opened name opened) answers ts k a is

longer : (opened : List OpenName) (answers : List (Option Bool)) (ts : List MarkupToken)
    → length answers ≤ length (answers_from opened answers ts)
longer opened answers [] = omega arith
longer opened answers (Character c (Some l) ∷ ts) = longer opened answers ts
longer opened answers (Character c None ∷ ts) =
    let more : length (character_answers (top_waits opened) c answers)
    ≤ length (answers_from opened (character_answers (top_waits opened) c answers) ts) =
    longer opened (character_answers (top_waits opened) c answers) ts in
    subst (λ n. n ≤ length (answers_from opened (character_answers (top_waits opened) c answers) ts))
    (character-long (top_waits opened) c answers) more
longer opened answers (StartTag name dir label ∷ ts) =
    let more : length (start_answers name (dir_attribute dir) answers)
    ≤ length (answers_from opened answers (StartTag name dir label ∷ ts)) =
    longer (start_opened name (dir_attribute dir) (length answers) opened)
    (start_answers name (dir_attribute dir) answers) ts in
    let start : length answers ≤ length (start_answers name (dir_attribute dir) answers) =
    start-long name (dir_attribute dir) answers in
    at_most start more
  where
    at_most : {a b c : ℕ} → a ≤ b → b ≤ c → a ≤ c
    at_most p q = omega arith
longer opened answers (EndTag name ∷ ts) = longer (end_opened name opened) answers ts

-- ---- for an element that was closed no answer comes

abbrev pub NoneWaits : ℕ → List OpenName → Type 0
NoneWaits k [] = Unit {0}
NoneWaits k (w ∷ ws) = (waits_for k w.waits ≡ false) × NoneWaits k ws

none-top : (k : ℕ) (ws : List OpenName) → NoneWaits k ws → waits_for k (top_waits ws) ≡ false
none-top k [] none = refl
none-top k (w ∷ ws) none = none.0

new-other : (n k : ℕ) → k < n → (n == k) ≡ false
new-other n k h = ne_eqb n k (λ (e : n ≡ k). omega (arith, e, h))

new-none : (name : List ℕ) (d : Option DirAttribute) (n : ℕ) (ws : List OpenName) (k : ℕ) → k < n
    → waits_for k (top_waits ws) ≡ false → waits_for k (new_name name d n ws).waits ≡ false
new-none name d n ws k h none = either
    (λ g. waits_for k (if g then Some n else (if is_apart name d then None else top_waits ws)) ≡ false)
    (new-other n k h)
    (either (λ a. waits_for k (if a then None else top_waits ws) ≡ false) refl none (is_apart name d))
    (goes_by_content name d)

none-start : (name : List ℕ) (d : Option DirAttribute) (n : ℕ) (ws : List OpenName) (k : ℕ) → k < n
    → NoneWaits k ws → NoneWaits k (start_opened name d n ws)
none-start name d n ws k h none = either (λ v. NoneWaits k (if v then ws else new_name name d n ws ∷ ws))
    none (new-none name d n ws k h (none-top k ws none), none) (is_void name)

none-left : (name : List ℕ) (k : ℕ) (ws ls : List OpenName) → NoneWaits k ws
    → left_open (λ (w : OpenName). w.name) name ws ≡ Some ls → NoneWaits k ls
none-left name k [] ls none is = absurd (cc)
none-left name k (w ∷ ws) ls none is = go (bytes_eq w.name name) (none-left name k ws ls none.1) is
  where
    go : (b : Bool) → (left_open (λ (w : OpenName). w.name) name ws ≡ Some ls → NoneWaits k ls)
        → (if b then Some ws else left_open (λ (w : OpenName). w.name) name ws) ≡ Some ls → NoneWaits k ls
    go true later same = subst (NoneWaits k) (cc) none.1
    go false later same = later same

none-end : (name : List ℕ) (k : ℕ) (ws : List OpenName) → NoneWaits k ws → NoneWaits k (end_opened name ws)
none-end name k ws none = go (left_open (λ (w : OpenName). w.name) name ws) (λ ls is. none-left name k ws ls none is)
  where
    go : (o : Option (List OpenName)) → ((ls : List OpenName) → o ≡ Some ls → NoneWaits k ls)
        → NoneWaits k (elim o [ None ↦ ws | Some left ↦ left ])
    go None later = none
    go (Some ls) later = later ls refl

closed-answer : (opened : List OpenName) (answers : List (Option Bool)) (ts : List MarkupToken) (k : ℕ)
    → k < length answers → answer answers k ≡ None → NoneWaits k opened
    → answer (answers_from opened answers ts) k ≡ None
closed-answer opened answers [] k within none waits = none
closed-answer opened answers (Character c (Some l) ∷ ts) k within none waits =
    closed-answer opened answers ts k within none waits
closed-answer opened answers (Character c None ∷ ts) k within none waits =
    closed-answer opened (character_answers (top_waits opened) c answers) ts k
    (omega (arith, character-long (top_waits opened) c answers))
    (character-other (top_waits opened) c answers k (none-top k opened waits) ∙ none) waits
closed-answer opened answers (StartTag name dir label ∷ ts) k within none waits =
    closed-answer (start_opened name (dir_attribute dir) (length answers) opened)
    (start_answers name (dir_attribute dir) answers) ts k
    (omega (arith, start-long name (dir_attribute dir) answers))
    (start-same name (dir_attribute dir) answers k within ∙ none)
    (none-start name (dir_attribute dir) (length answers) opened k within waits)
closed-answer opened answers (EndTag name ∷ ts) k within none waits =
    closed-answer (end_opened name opened) answers ts k within none (none-end name k opened waits)

-- ---- an element that is open

-- the open elements inside an element, as its content knows them and as the pass does
abbrev pub Tracks : ℕ → List InnerElement → List OpenName → Type 0
Tracks k [] [] = Unit {0}
Tracks k [] (w ∷ ws) = ⊥
Tracks k (i ∷ is) [] = ⊥
Tracks k (i ∷ is) (w ∷ ws) =
    (i.name ≡ w.name)
    × (waits_for k w.waits ≡ not (list_any (λ (e : InnerElement). e.is_apart) (i ∷ is)))
    × Tracks k is ws

goes-apart : (name : List ℕ) (d : Option DirAttribute) → goes_by_content name d ≡ true → is_apart name d ≡ true
goes-apart name None goes = goes
goes-apart name (Some d) goes = refl

tracked-waits : (goes apart inside : Bool) (n k : ℕ) (top : Option ℕ) → (goes ≡ true → apart ≡ true)
    → (n == k) ≡ false → waits_for k top ≡ not inside
    → waits_for k (if goes then Some n else (if apart then None else top)) ≡ not (apart || inside)
tracked-waits true true inside n k top by other is = other
tracked-waits true false inside n k top by other is = absurd (wrong (by refl))
  where
    wrong : false ≡ true → ⊥
    wrong e = cc
tracked-waits false true inside n k top by other is = refl
tracked-waits false false inside n k top by other is = is

self-eqb : (k : ℕ) → (k == k) ≡ true
self-eqb k = eq-eqb k k refl

module _ (k : ℕ) (e : OpenName) (outer : List OpenName) (waiting : e.waits ≡ Some k) (others : NoneWaits k outer) where
  tracked-top : (is : List InnerElement) (inner : List OpenName) → Tracks k is inner
      → waits_for k (top_waits (inner ++ e ∷ outer)) ≡ not (list_any (λ (e : InnerElement). e.is_apart) is)
  tracked-top [] [] tracks = ap (waits_for k) waiting ∙ self-eqb k
  tracked-top [] (w ∷ ws) tracks = absurd tracks
  tracked-top (i ∷ is) [] tracks = absurd tracks
  tracked-top (i ∷ is) (w ∷ ws) tracks = tracks.1

  -- what the content says is what the answer comes to be
  abbrev Agrees : List InnerElement → List OpenName → List (Option Bool) → List MarkupToken → Type 0
  Agrees is inner answers ts = or_left (answer (answers_from (inner ++ e ∷ outer) answers ts) k)
      ≡ content_right_to_left (e.name ∷ map (λ (w : OpenName). w.name) outer) is ts

  character-agrees : (c : ℕ) (ts : List MarkupToken) (inner : List OpenName) (is : List InnerElement)
      (answers : List (Option Bool)) (apart strong : Bool) (waits : Option ℕ) → waits_for k waits ≡ not apart
      → k < length answers → answer answers k ≡ None
      → ((others : List (Option Bool)) → k < length others → answer others k ≡ None → Agrees is inner others ts)
      → or_left (answer (answers_from (inner ++ e ∷ outer)
      (if strong then with_answer waits (is_right_to_left (bidi_class c)) answers else answers) ts) k)
      ≡ (if (if apart then false else strong) then is_right_to_left (bidi_class c)
      else content_right_to_left (e.name ∷ map (λ (w : OpenName). w.name) outer) is ts)
  character-agrees c ts inner is answers true true waits for within none later =
      later (with_answer waits (is_right_to_left (bidi_class c)) answers)
      (omega (arith, with-long waits (is_right_to_left (bidi_class c)) answers))
      (with-other waits (is_right_to_left (bidi_class c)) answers k for ∙ none)
  character-agrees c ts inner is answers true false waits for within none later = later answers within none
  character-agrees c ts inner is answers false false waits for within none later = later answers within none
  character-agrees c ts inner is answers false true None for within none later = absurd (cc)
  character-agrees c ts inner is answers false true (Some j) for within none later =
      let here : j ≡ k = eqb-true j k for in
      ap or_left (kept-answer (inner ++ e ∷ outer) (answer_at j (is_right_to_left (bidi_class c)) answers) ts k
      (is_right_to_left (bidi_class c))
      (ap (λ n. answer (answer_at n (is_right_to_left (bidi_class c)) answers) k) here
      ∙ at-same k (is_right_to_left (bidi_class c)) answers within none))

  -- an end tag, in the content and in the pass
  abbrev EndsBy : List ℕ → Option (List OpenName) → Option (List InnerElement) → Type 0
  EndsBy name found None = found ≡ left_open (λ (w : OpenName). w.name) name (e ∷ outer)
  EndsBy name found (Some left) = (ws : List OpenName) × (found ≡ Some (ws ++ e ∷ outer)) × Tracks k left ws

  ends-alike : (name : List ℕ) (is : List InnerElement) (inner : List OpenName) → Tracks k is inner
      → EndsBy name (left_open (λ (w : OpenName). w.name) name (inner ++ e ∷ outer))
      (left_open (λ (i : InnerElement). i.name) name is)
  ends-alike name [] [] tracks = refl
  ends-alike name [] (w ∷ ws) tracks = absurd tracks
  ends-alike name (i ∷ is) [] tracks = absurd tracks
  ends-alike name (i ∷ is) (w ∷ ws) tracks = go (bytes_eq i.name name) (bytes_eq w.name name)
      (ap (λ n. bytes_eq n name) tracks.0) (left_open (λ (i : InnerElement). i.name) name is)
      (ends-alike name is ws tracks.2)
    where
      go : (b d : Bool) → b ≡ d → (o : Option (List InnerElement))
          → EndsBy name (left_open (λ (w : OpenName). w.name) name (ws ++ e ∷ outer)) o
          → EndsBy name (if d then Some (ws ++ e ∷ outer)
          else left_open (λ (w : OpenName). w.name) name (ws ++ e ∷ outer)) (if b then Some is else o)
      go true true same o later = (ws, refl, tracks.2)
      go true false same o later = absurd (cc)
      go false true same o later = absurd (cc)
      go false false same o later = later

  among-left : (name : List ℕ) (ws : List OpenName)
      → is_some (left_open (λ (w : OpenName). w.name) name ws) ≡ is_among (map (λ (w : OpenName). w.name) ws) name
  among-left name [] = refl
  among-left name (w ∷ ws) = go (bytes_eq w.name name) (bytes_eq name w.name) (same_bytes w.name name)
      (among-left name ws)
    where
      go : (b d : Bool) → b ≡ d
          → is_some (left_open (λ (w : OpenName). w.name) name ws) ≡ is_among (map (λ (w : OpenName). w.name) ws) name
          → is_some (if b then Some ws else left_open (λ (w : OpenName). w.name) name ws)
          ≡ (d || is_among (map (λ (w : OpenName). w.name) ws) name)
      go true true same later = refl
      go true false same later = absurd (cc)
      go false true same later = absurd (cc)
      go false false same later = later

  -- past the element itself
  past-agrees : (name : List ℕ) (ts : List MarkupToken) (is : List InnerElement) (inner : List OpenName)
      (answers : List (Option Bool)) → k < length answers → answer answers k ≡ None → Agrees is inner answers ts
      → or_left (answer (answers_from (elim (left_open (λ (w : OpenName). w.name) name (e ∷ outer)) [
        | None ↦ inner ++ e ∷ outer
        | Some left ↦ left
      ]) answers ts) k)
      ≡ (if is_among (e.name ∷ map (λ (w : OpenName). w.name) outer) name then false
      else content_right_to_left (e.name ∷ map (λ (w : OpenName). w.name) outer) is ts)
  past-agrees name ts is inner answers within none later = go (bytes_eq e.name name) (bytes_eq name e.name)
      (same_bytes e.name name) (left_open (λ (w : OpenName). w.name) name outer)
      (is_among (map (λ (w : OpenName). w.name) outer) name) (among-left name outer)
      (λ ls is. none-left name k outer ls others is)
    where
      go : (b d : Bool) → b ≡ d → (o : Option (List OpenName)) → (among : Bool) → is_some o ≡ among
          → ((ls : List OpenName) → o ≡ Some ls → NoneWaits k ls)
          → or_left (answer (answers_from (elim (if b then Some outer else o) [
            | None ↦ inner ++ e ∷ outer
            | Some left ↦ left
          ]) answers ts) k)
          ≡ (if (d || among) then false
          else content_right_to_left (e.name ∷ map (λ (w : OpenName). w.name) outer) is ts)
      go true true same o among has waits = ap or_left (closed-answer outer answers ts k within none others)
      go true false same o among has waits = absurd (cc)
      go false true same o among has waits = absurd (cc)
      go false false same None true has waits = absurd (cc)
      go false false same None false has waits = later
      go false false same (Some ls) true has waits =
          ap or_left (closed-answer ls answers ts k within none (waits ls refl))
      go false false same (Some ls) false has waits = absurd (cc)

  given-within : (goes : Bool) (answers : List (Option Bool)) → k < length answers
      → k < length (if goes then answers ++ None ∷ [] else answers)
  given-within true answers within = omega (arith, one-more answers)
  given-within false answers within = within

  given-none : (goes : Bool) (answers : List (Option Bool)) → k < length answers → answer answers k ≡ None
      → answer (if goes then answers ++ None ∷ [] else answers) k ≡ None
  given-none true answers within none = get_or_append_left answers (None ∷ []) None k within ∙ none
  given-none false answers within none = none

  end-agrees : (name : List ℕ) (ts : List MarkupToken) (is : List InnerElement) (inner : List OpenName)
      (answers : List (Option Bool)) → k < length answers → answer answers k ≡ None
      → (o : Option (List InnerElement))
      → EndsBy name (left_open (λ (w : OpenName). w.name) name (inner ++ e ∷ outer)) o
      → ((left : List InnerElement) (ws : List OpenName) → Tracks k left ws → Agrees left ws answers ts)
      → Agrees is inner answers ts
      → or_left (answer (answers_from (end_opened name (inner ++ e ∷ outer)) answers ts) k)
      ≡ elim o [
        | Some left ↦ content_right_to_left (e.name ∷ map (λ (w : OpenName). w.name) outer) left ts
        | None ↦ if is_among (e.name ∷ map (λ (w : OpenName). w.name) outer) name then false
            else content_right_to_left (e.name ∷ map (λ (w : OpenName). w.name) outer) is ts
      ]
  end-agrees name ts is inner answers within none None alike inside later =
      ap (λ o. or_left (answer (answers_from (elim o [
        | None ↦ inner ++ e ∷ outer
        | Some left ↦ left
      ]) answers ts) k)) alike
      ∙ past-agrees name ts is inner answers within none later
  end-agrees name ts is inner answers within none (Some left) alike inside later =
      ap (λ o. or_left (answer (answers_from (elim o [
        | None ↦ inner ++ e ∷ outer
        | Some left ↦ left
      ]) answers ts) k)) alike.1
      ∙ inside left alike.0 alike.2

  open-answer : (is : List InnerElement) (inner : List OpenName) (answers : List (Option Bool))
      (ts : List MarkupToken) → k < length answers → answer answers k ≡ None → Tracks k is inner
      → Agrees is inner answers ts
  open-answer is inner answers [] within none tracks = ap or_left none
  open-answer is inner answers (Character c (Some l) ∷ ts) within none tracks =
      open-answer is inner answers ts within none tracks
  open-answer is inner answers (Character c None ∷ ts) within none tracks =
      character-agrees c ts inner is answers (list_any (λ (e : InnerElement). e.is_apart) is)
      (is_strong (bidi_class c)) (top_waits (inner ++ e ∷ outer)) (tracked-top is inner tracks) within none
      (λ others more nothing. open-answer is inner others ts more nothing tracks)
  open-answer is inner answers (StartTag name dir label ∷ ts) within none tracks =
      let d : Option DirAttribute = dir_attribute dir in
      let n : ℕ = length answers in
      let x : OpenName = new_name name d n (inner ++ e ∷ outer) in
      let given : List (Option Bool) =
      if goes_by_content name d then answers ++ None ∷ [] else answers in
      either (λ v. or_left (answer (answers_from (if v then inner ++ e ∷ outer else x ∷ (inner ++ e ∷ outer))
      (if v then answers else (if goes_by_content name d then answers ++ None ∷ [] else answers)) ts) k)
      ≡ content_right_to_left (e.name ∷ map (λ (w : OpenName). w.name) outer)
      (if v then is else inner_element name dir ∷ is) ts)
      (open-answer is inner answers ts within none tracks)
      (open-answer (inner_element name dir ∷ is) (x ∷ inner) given ts
      (given-within (goes_by_content name d) answers within) (given-none (goes_by_content name d) answers within none) (
        refl,
        tracked-waits (goes_by_content name d) (is_apart name d)
            (list_any (λ (e : InnerElement). e.is_apart) is) n k (top_waits (inner ++ e ∷ outer)) (goes-apart name d)
            (new-other n k within) (tracked-top is inner tracks),
        tracks,
      ))
      (is_void name)
  open-answer is inner answers (EndTag name ∷ ts) within none tracks =
      end-agrees name ts is inner answers within none
      (left_open (λ (i : InnerElement). i.name) name is) (ends-alike name is inner tracks)
      (λ left ws more. open-answer left ws answers ts within none more)
      (open-answer is inner answers ts within none tracks)

-- ---- all of them

abbrev pub Below : ℕ → Option ℕ → Type 0
Below n None = Unit {0}
Below n (Some j) = j < n

abbrev pub AllBelow : ℕ → List OpenName → Type 0
AllBelow n [] = Unit {0}
AllBelow n (w ∷ ws) = Below n w.waits × AllBelow n ws

below-other : (n : ℕ) (o : Option ℕ) → Below n o → waits_for n o ≡ false
below-other n None below = refl
below-other n (Some j) below = ne_eqb j n (λ (e : j ≡ n). omega (arith, e, below))

none-below : (n : ℕ) (ws : List OpenName) → AllBelow n ws → NoneWaits n ws
none-below n [] below = tt
none-below n (w ∷ ws) below = (below-other n w.waits below.0, none-below n ws below.1)

below-more : (n : ℕ) (ws : List OpenName) → AllBelow n ws → AllBelow (n + 1) ws
below-more n [] below = tt
below-more n (w ∷ ws) below = (more w.waits below.0, below-more n ws below.1)
  where
    more : (o : Option ℕ) → Below n o → Below (n + 1) o
    more None h = tt
    more (Some j) h = omega (arith, h)

below-top : (n : ℕ) (ws : List OpenName) → AllBelow n ws → Below n (top_waits ws)
below-top n [] below = tt
below-top n (w ∷ ws) below = below.0

below-left : (n : ℕ) (name : List ℕ) (ws ls : List OpenName) → AllBelow n ws
    → left_open (λ (w : OpenName). w.name) name ws ≡ Some ls → AllBelow n ls
below-left n name [] ls below is = absurd (cc)
below-left n name (w ∷ ws) ls below is = go (bytes_eq w.name name) (below-left n name ws ls below.1) is
  where
    go : (b : Bool) → (left_open (λ (w : OpenName). w.name) name ws ≡ Some ls → AllBelow n ls)
        → (if b then Some ws else left_open (λ (w : OpenName). w.name) name ws) ≡ Some ls → AllBelow n ls
    go true later same = subst (AllBelow n) (cc) below.1
    go false later same = later same

below-end : (n : ℕ) (name : List ℕ) (ws : List OpenName) → AllBelow n ws → AllBelow n (end_opened name ws)
below-end n name ws below =
    go (left_open (λ (w : OpenName). w.name) name ws) (λ ls is. below-left n name ws ls below is)
  where
    go : (o : Option (List OpenName)) → ((ls : List OpenName) → o ≡ Some ls → AllBelow n ls)
        → AllBelow n (elim o [ None ↦ ws | Some left ↦ left ])
    go None later = below
    go (Some ls) later = later ls refl

abbrev SameLeft : Option (List OpenName) → Option (List (List ℕ)) → Type 0
SameLeft None None = Unit {0}
SameLeft None (Some ns) = ⊥
SameLeft (Some ls) None = ⊥
SameLeft (Some ls) (Some ns) = map (λ (w : OpenName). w.name) ls ≡ ns

same-left : (name : List ℕ) (ws : List OpenName) → SameLeft (left_open (λ (w : OpenName). w.name) name ws)
    (left_open (λ (n : List ℕ). n) name (map (λ (w : OpenName). w.name) ws))
same-left name [] = tt
same-left name (w ∷ ws) = either
    (λ b. SameLeft (if b then Some ws else left_open (λ (w : OpenName). w.name) name ws)
    (if b then Some (map (λ (w : OpenName). w.name) ws)
    else left_open (λ (n : List ℕ). n) name (map (λ (w : OpenName). w.name) ws)))
    refl (same-left name ws) (bytes_eq w.name name)

end-alike : (name : List ℕ) (ws : List OpenName)
    → map (λ (w : OpenName). w.name) (end_opened name ws) ≡ end_names name (map (λ (w : OpenName). w.name) ws)
end-alike name ws = go (left_open (λ (w : OpenName). w.name) name ws)
    (left_open (λ (n : List ℕ). n) name (map (λ (w : OpenName). w.name) ws)) (same-left name ws)
  where
    go : (o : Option (List OpenName)) (q : Option (List (List ℕ))) → SameLeft o q
        → map (λ (w : OpenName). w.name) (elim o [ None ↦ ws | Some left ↦ left ])
        ≡ elim q [ None ↦ map (λ (w : OpenName). w.name) ws | Some left ↦ left ]
    go None None is = refl
    go None (Some ns) is = absurd is
    go (Some ls) None is = absurd is
    go (Some ls) (Some ns) is = is

abbrev name_with : List ℕ → Option ℕ → OpenName
name_with name waits = record { name = name; waits = waits }

started-found : (name : List ℕ) (opened : List OpenName) (answers : List (Option Bool)) (ts : List MarkupToken)
    → AllBelow (length answers) opened → (goes apart : Bool)
    → ((now : Option ℕ) → AllBelow (length (answers ++ None ∷ [])) (name_with name now ∷ opened)
    → map or_left (drop (length (answers ++ None ∷ []))
    (answers_from (name_with name now ∷ opened) (answers ++ None ∷ []) ts))
    ≡ auto_directions (name ∷ map (λ (w : OpenName). w.name) opened) ts)
    → ((now : Option ℕ) → AllBelow (length answers) (name_with name now ∷ opened)
    → map or_left (drop (length answers) (answers_from (name_with name now ∷ opened) answers ts))
    ≡ auto_directions (name ∷ map (λ (w : OpenName). w.name) opened) ts)
    → map or_left (drop (length answers) (answers_from
    (name_with name (if goes then Some (length answers) else (if apart then None else top_waits opened)) ∷ opened)
    (if goes then answers ++ None ∷ [] else answers) ts))
    ≡ (if goes then content_right_to_left (name ∷ map (λ (w : OpenName). w.name) opened) [] ts ∷ [] else [])
    ++ auto_directions (name ∷ map (λ (w : OpenName). w.name) opened) ts
started-found name opened answers ts below false apart with_new without_new =
    without_new (if apart then None else top_waits opened) (by_apart apart, below)
  where
    by_apart : (a : Bool) → Below (length answers) (if a then None else top_waits opened)
    by_apart true = tt
    by_apart false = below-top (length answers) opened below
started-found name opened answers ts below true apart with_new without_new =
    let n : ℕ = length answers in
    let x : OpenName = name_with name (Some n) in
    let more : List (Option Bool) = answers ++ None ∷ [] in
    let all : List (Option Bool) = answers_from (x ∷ opened) more ts in
    let long : length more ≡ n + 1 = one-more answers in
    let inside : n < length all = omega (arith, longer (x ∷ opened) more ts) in
    let first : or_left (get_or all n None)
    ≡ content_right_to_left (name ∷ map (λ (w : OpenName). w.name) opened) [] ts =
    open-answer n x opened refl (none-below n opened below) [] [] more ts (omega arith)
    (get_or_at answers None [] None n refl) tt in
    let within : AllBelow (length more) (x ∷ opened) =
    subst (λ m. AllBelow m (x ∷ opened)) (sym long) (omega arith, below-more n opened below) in
    ap (map or_left) (drop_more all n None inside)
    ∙ ap (λ b. b ∷ map or_left (drop (n + 1) all)) first
    ∙ ap (λ m. content_right_to_left (name ∷ map (λ (w : OpenName). w.name) opened) [] ts ∷ map or_left (drop m all))
    (sym long)
    ∙ ap (λ l. content_right_to_left (name ∷ map (λ (w : OpenName). w.name) opened) [] ts ∷ l)
    (with_new (Some n) within)

pub found-from : (opened : List OpenName) (answers : List (Option Bool)) (ts : List MarkupToken)
    → AllBelow (length answers) opened
    → map or_left (drop (length answers) (answers_from opened answers ts))
    ≡ auto_directions (map (λ (w : OpenName). w.name) opened) ts
found-from opened answers [] below = ap (map or_left) (drop-length answers)
found-from opened answers (Character c (Some l) ∷ ts) below = found-from opened answers ts below
found-from opened answers (Character c None ∷ ts) below =
    let now : List (Option Bool) = character_answers (top_waits opened) c answers in
    let long : length now ≡ length answers = character-long (top_waits opened) c answers in
    ap (λ n. map or_left (drop n (answers_from opened now ts))) (sym long)
    ∙ found-from opened now ts (subst (λ n. AllBelow n opened) (sym long) below)
found-from opened answers (StartTag name dir label ∷ ts) below =
    let d : Option DirAttribute = dir_attribute dir in
    let n : ℕ = length answers in
    let x : OpenName = new_name name d n opened in
    either (λ v. map or_left (drop (length answers) (answers_from (if v then opened else x ∷ opened)
    (if v then answers else (if goes_by_content name d then answers ++ None ∷ [] else answers)) ts))
    ≡ (if v then [] else (if goes_by_content name d
    then content_right_to_left (name ∷ map (λ (w : OpenName). w.name) opened) [] ts ∷ [] else []))
    ++ auto_directions (if v then map (λ (w : OpenName). w.name) opened
    else name ∷ map (λ (w : OpenName). w.name) opened) ts)
    (found-from opened answers ts below)
    (started-found name opened answers ts below (goes_by_content name d) (is_apart name d)
    (λ now within. found-from (record { name = name; waits = now } ∷ opened) (answers ++ None ∷ []) ts within)
    (λ now within. found-from (record { name = name; waits = now } ∷ opened) answers ts within))
    (is_void name)
found-from opened answers (EndTag name ∷ ts) below =
    found-from (end_opened name opened) answers ts (below-end (length answers) name opened below)
    ∙ ap (λ ns. auto_directions ns ts) (end-alike name opened)

pub found : (ts : List MarkupToken) → map or_left (answers_from [] [] ts) ≡ auto_directions [] ts
found ts = found-from [] [] ts tt
