-- What a sink took of a text that is put piece by piece.
use Rattle.std.proofs.Common.{◌≡◌, ℕ, ◌+◌, ◌≤◌, List, [], ◌++◌, Option, length, take, refl}
use Rattle.std.proofs.Common.{sym, ap, ◌∙◌, arith, min, append_assoc, append-nil, length-append}
use Rattle.std.proofs.lemmas.List.{take-append-le, take_min}
use Rattle.std.proofs.Math.Seq.{take-append-add}
use Rattle.soy_io.specs.Added.{added}
use Rattle.soy_io.proofs.AddedParts.{added-nil, added-added}

-- from `before` to `now` the sink took a prefix of the text
abbrev pub PrefixTaken : Option (List ℕ) → Option (List ℕ) → List ℕ → Type 0
PrefixTaken before now text = (n : ℕ) × (now ≡ added before (take n text))

-- from `before` to `now` the sink took a prefix of the text, and `rest` is left of it
pub record PutSoFar (before now : Option (List ℕ)) (text rest : List ℕ) : Type 0 where
  pub done : List ℕ
  pub split : text ≡ done ++ rest
  pub taken : now ≡ added before done

-- at first all is left
pub put_none : (before : Option (List ℕ)) (text : List ℕ) → PutSoFar before before text text
put_none before text = record { done = []; split = refl; taken = added-nil before }

-- one more piece was taken
pub put_more : (before now then : Option (List ℕ)) (text rest piece others : List ℕ) → PutSoFar before now text rest
    → rest ≡ piece ++ others → then ≡ added now piece → PutSoFar before then text others
put_more before now then text rest piece others far same took = record {
  done = far.done ++ piece;
  split = far.split ∙ (ap (λ t. far.done ++ t) same ∙ sym (append_assoc far.done piece others));
  taken = took ∙ (ap (λ t. added t piece) far.taken ∙ added-added before far.done piece);
}

-- the rest was taken
pub put_rest : (before now then : Option (List ℕ)) (text rest : List ℕ) → PutSoFar before now text rest
    → then ≡ added now rest → then ≡ added before text
put_rest before now then text rest far took =
    took ∙ (ap (λ t. added t rest) far.taken ∙ (added-added before far.done rest ∙ ap (added before) (sym far.split)))

-- where nothing is left, the text was taken
pub put_whole : (before now : Option (List ℕ)) (text rest : List ℕ) → PutSoFar before now text rest → rest ≡ []
    → now ≡ added before text
put_whole before now text rest far none =
    far.taken ∙ ap (added before) (sym (far.split ∙ (ap (λ r. far.done ++ r) none ∙ append-nil far.done)))

-- what is left is no longer than the text
pub left_within : (before now : Option (List ℕ)) (text rest : List ℕ) → PutSoFar before now text rest
    → length rest ≤ length text
left_within before now text rest far =
    omega (arith, ap length far.split, length-append far.done rest)

-- a prefix of the rest was taken
pub put_part : (before now then : Option (List ℕ)) (text rest : List ℕ) → PutSoFar before now text rest
    → PrefixTaken now then rest → PrefixTaken before then text
put_part before now then text rest far part = (
  length far.done + part.0,
  part.1
      ∙ (ap (λ t. added t (take part.0 rest)) far.taken
      ∙ (added-added before far.done (take part.0 rest)
      ∙ ap (added before) (sym (ap (take (length far.done + part.0)) far.split
      ∙ take-append-add far.done rest part.0)))),
)

-- a prefix of a prefix was taken
pub prefix_of_prefix : (now then : Option (List ℕ)) (rest piece others : List ℕ) (n : ℕ) → rest ≡ piece ++ others
    → n ≤ length piece → then ≡ added now (take n piece) → PrefixTaken now then rest
prefix_of_prefix now then rest piece others n same within took =
    (n, took ∙ ap (added now) (sym (ap (take n) same ∙ take-append-le n piece others within)))

-- a prefix of the next part is a prefix of what is left
pub part_of_part : (now then : Option (List ℕ)) (rest piece others : List ℕ) → rest ≡ piece ++ others
    → PrefixTaken now then piece → PrefixTaken now then rest
part_of_part now then rest piece others same part =
    let n : ℕ = min part.0 (length piece) in (
      n,
      part.1 ∙ ap (added now) (sym (take_min part.0 piece)
          ∙ (sym (take-append-le n piece others (omega arith)) ∙ ap (take n) (sym same))),
    )
