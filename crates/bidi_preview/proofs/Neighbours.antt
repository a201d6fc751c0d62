-- Two neighbours of a sequence: both see one and the same sequence, with the same ends, the later one index further.
use Rattle.std.proofs.Common.{◌≡◌, ℕ, suc, max, Bool, List, [], ◌∷◌, ◌++◌, reverse}
use Rattle.std.proofs.Common.{get_or, length, sym, ap, ◌∙◌, append_assoc, Option, Some}
use Rattle.std.proofs.lemmas.Bool.{eq-eqb}
use Rattle.std.proofs.lemmas.List.{reverse-append}
use Rattle.bidi_order.specs.Explicit.{SequenceCharacter, KeptCharacter}
use Rattle.bidi_order.specs.Explicit.IsolateRole.{Initiates, Terminates}
use Rattle.bidi_order.specs.Resolve.{resolve}
use Rattle.bidi_order.specs.Sequences.{Scan, scanned_role, enters_isolate, step_in_sequence, sequence_along}
use Rattle.bidi_order.specs.Sequences.{side_class}
use Rattle.bidi_order.specs.Sequences.Scan.{Forward, Backward}
use Rattle.bidi_order.specs.Sequences.Following.{Taking}
use Rattle.bidi_order.specs.Sequences.SequenceStep.{Take}
use Rattle.bidi_order.proofs.FollowedSequences.{Within, sequence_along-sequence_step}
use Rattle.bidi_order.proofs.DeletedContent.{ahead_inside, behind_inside}
use Rattle.bidi_preview.proofs.Following.{AllRemoved, AllRemoved-reverse, along-removed}

-- what stands in a character's sequence before it and after it, each with the level beside the end
abbrev pub before_in : ℕ → List (Option KeptCharacter) → KeptCharacter → List SequenceCharacter × ℕ
before_in base back k =
    sequence_along Backward base k.level (Taking (enters_isolate (scanned_role Backward k.role))) back

abbrev pub after_in : ℕ → KeptCharacter → List (Option KeptCharacter) → List SequenceCharacter × ℕ
after_in base k rest =
    sequence_along Forward base k.level (Taking (enters_isolate (scanned_role Forward k.role))) rest

-- a character and the next one of its sequence, with what stands between
pub record Neighbours (base : ℕ) (back : List (Option KeptCharacter)) (k : KeptCharacter)
    (M : List (Option KeptCharacter)) (q : KeptCharacter) (R : List (Option KeptCharacter)) : Type 0 where
  pub level : k.level ≡ q.level
  pub ahead : after_in base k (M ++ Some q ∷ R) ≡ (q.resolved ∷ (after_in base q R).0, (after_in base q R).1)
  pub behind : before_in base (reverse M ++ Some k ∷ back) q
      ≡ (k.resolved ∷ (before_in base back k).0, (before_in base back k).1)

-- the next kept character, where it has the same level
taken : (scan : Scan) (base level : ℕ) (entered : Bool) (k : KeptCharacter) (rest : List (Option KeptCharacter))
    → k.level ≡ level → sequence_along scan base level (Taking entered) (Some k ∷ rest)
    ≡ (
      k.resolved ∷ (sequence_along scan base level (Taking (enters_isolate (scanned_role scan k.role))) rest).0,
      (sequence_along scan base level (Taking (enters_isolate (scanned_role scan k.role))) rest).1,
    )
taken scan base level entered k rest same =
    sequence_along-sequence_step scan base level (Taking entered) k rest Take
    (ap (λ b. step_in_sequence b entered (scanned_role scan k.role)) (eq-eqb k.level level same))

pub neighbours-next : (base : ℕ) (back : List (Option KeptCharacter)) (k q : KeptCharacter)
    (R : List (Option KeptCharacter)) → k.level ≡ q.level → Neighbours base back k [] q R
neighbours-next base back k q R same = record {
  level = same;
  ahead = taken Forward base k.level (enters_isolate (scanned_role Forward k.role)) q R (sym same)
      ∙ ap (λ l. (
        q.resolved
            ∷ (sequence_along Forward base l (Taking (enters_isolate (scanned_role Forward q.role))) R).0,
        (sequence_along Forward base l (Taking (enters_isolate (scanned_role Forward q.role))) R).1,
      )) same;
  behind = taken Backward base q.level (enters_isolate (scanned_role Backward q.role)) k back same
      ∙ ap (λ l. (
        k.resolved
            ∷ (sequence_along Backward base l (Taking (enters_isolate (scanned_role Backward k.role))) back).0,
        (sequence_along Backward base l (Taking (enters_isolate (scanned_role Backward k.role))) back).1,
      )) (sym same);
}

-- the same over removed characters
pub neighbours-removed : (base : ℕ) (back : List (Option KeptCharacter)) (k q : KeptCharacter)
    (M R : List (Option KeptCharacter)) → AllRemoved M → k.level ≡ q.level → Neighbours base back k M q R
neighbours-removed base back k q M R removed same =
    let next : Neighbours base back k [] q R = neighbours-next base back k q R same in
    record {
      level = same;
      ahead = along-removed Forward base k.level (Taking (enters_isolate (scanned_role Forward k.role))) M (Some q ∷ R)
          removed ∙ next.ahead;
      behind = along-removed Backward base q.level (Taking (enters_isolate (scanned_role Backward q.role))) (reverse M)
          (Some k ∷ back) (AllRemoved-reverse M removed) ∙ next.behind;
    }

-- an initiator whose level was pushed, and its PDI
pub neighbours-isolate : (base : ℕ) (back : List (Option KeptCharacter)) (k q : KeptCharacter)
    (M R : List (Option KeptCharacter)) → k.role ≡ Initiates → q.role ≡ Terminates → k.level ≡ q.level
    → Within k.level 0 M → Neighbours base back k M q R
neighbours-isolate base back k q M R opens ends same within =
    let next : Neighbours base back k [] q R = neighbours-next base back k q R same in
    record {
      level = same;
      ahead = ahead_inside base [] k q M R opens ends same within ∙ next.ahead;
      behind = behind_inside base [] k q M [] opens ends same within back ∙ next.behind;
    }

-- what a character sees of its sequence: the level, the levels beside both ends, all of it, and its own index in it
pub record SeesSequence (base : ℕ) (back : List (Option KeptCharacter)) (k : KeptCharacter)
    (rest : List (Option KeptCharacter)) (level sos eos : ℕ) (whole : List SequenceCharacter) (index : ℕ) : Type 0 where
  pub level_is : k.level ≡ level
  pub sos_is : (before_in base back k).1 ≡ sos
  pub eos_is : (after_in base k rest).1 ≡ eos
  pub whole_is : reverse (before_in base back k).0 ++ k.resolved ∷ (after_in base k rest).0 ≡ whole
  pub index_is : length (before_in base back k).0 ≡ index

-- the level of a sequence's character
abbrev pub level_in : ℕ → ℕ → ℕ → List SequenceCharacter → ℕ → ℕ
level_in level sos eos whole index =
    get_or (resolve level (side_class (max level sos)) (side_class (max level eos)) whole) index 0

pub level-seen : (base : ℕ) (back : List (Option KeptCharacter)) (k : KeptCharacter)
    (rest : List (Option KeptCharacter)) (level sos eos : ℕ) (whole : List SequenceCharacter) (index : ℕ)
    → SeesSequence base back k rest level sos eos whole index
    → level_in k.level (before_in base back k).1 (after_in base k rest).1
    (reverse (before_in base back k).0 ++ k.resolved ∷ (after_in base k rest).0) (length (before_in base back k).0)
    ≡ level_in level sos eos whole index
level-seen base back k rest level sos eos whole index s =
    ap (λ l. level_in l (before_in base back k).1 (after_in base k rest).1
    (reverse (before_in base back k).0 ++ k.resolved ∷ (after_in base k rest).0) (length (before_in base back k).0))
    s.level_is
    ∙ ap (λ l. level_in level l (after_in base k rest).1
    (reverse (before_in base back k).0 ++ k.resolved ∷ (after_in base k rest).0) (length (before_in base back k).0))
    s.sos_is
    ∙ ap (λ l. level_in level sos l
    (reverse (before_in base back k).0 ++ k.resolved ∷ (after_in base k rest).0) (length (before_in base back k).0))
    s.eos_is
    ∙ ap (λ l. level_in level sos eos l (length (before_in base back k).0)) s.whole_is
    ∙ ap (level_in level sos eos whole) s.index_is

-- the next character sees the same
pub sees-next : (base : ℕ) (back : List (Option KeptCharacter)) (k : KeptCharacter) (M : List (Option KeptCharacter))
    (q : KeptCharacter) (R : List (Option KeptCharacter)) (level sos eos : ℕ) (whole : List SequenceCharacter)
    (index : ℕ) → Neighbours base back k M q R
    → SeesSequence base back k (M ++ Some q ∷ R) level sos eos whole index
    → SeesSequence base (reverse M ++ Some k ∷ back) q R level sos eos whole (suc index)
sees-next base back k M q R level sos eos whole index n s = record {
  level_is = sym n.level ∙ s.level_is;
  sos_is = ap (λ (b : List SequenceCharacter × ℕ). b.1) n.behind ∙ s.sos_is;
  eos_is = sym (ap (λ (b : List SequenceCharacter × ℕ). b.1) n.ahead) ∙ s.eos_is;
  whole_is =
      ap (λ (b : List SequenceCharacter × ℕ). reverse b.0 ++ q.resolved ∷ (after_in base q R).0) n.behind
      ∙ ap (λ l. l ++ q.resolved ∷ (after_in base q R).0)
      (reverse-append (k.resolved ∷ []) (before_in base back k).0)
      ∙ append_assoc (reverse (before_in base back k).0) (k.resolved ∷ []) (q.resolved ∷ (after_in base q R).0)
      ∙ ap (λ (a : List SequenceCharacter × ℕ). reverse (before_in base back k).0 ++ k.resolved ∷ a.0) (sym n.ahead)
      ∙ s.whole_is;
  index_is = ap (λ (b : List SequenceCharacter × ℕ). length b.0) n.behind ∙ ap suc s.index_is;
}
