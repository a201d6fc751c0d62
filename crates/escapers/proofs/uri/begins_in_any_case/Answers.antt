use Rattle.std.proofs.Common.{◌≡◌, ℕ, ◌<◌, List, false, length, take, map, ap, ◌∙◌, IsTrue, ◌↔◌, arith, length-take}
use Rattle.std.specs.Char.{to_ascii_lowercase}
use Rattle.std.specs.List.{slice_range}
use Rattle.std.proofs.lemmas.Bool.{false≢true}
use Rattle.std.proofs.lemmas.List.{length-map}
use Rattle.escapers.proofs.Schemes.{begins_from_bytes}
use Rattle.escapers.proofs.uri.begins_in_any_case.Goals as goal

-- the first bytes of a slice
first_bytes : (bs : List ℕ) (n : ℕ) → slice_range bs 0 n ≡ take n bs
first_bytes bs n = grind arith

-- a text that is shorter begins otherwise
shorter : (prefix bs : List ℕ) → length bs < length prefix
    → IsTrue false ↔ (map to_ascii_lowercase (take (length prefix) bs) ≡ map to_ascii_lowercase prefix)
shorter prefix bs short = (
  λ never. absurd (false≢true never),
  λ same. absurd
      (omega (
        arith,
        ap length same,
        length-map prefix to_ascii_lowercase,
        length-map (take (length prefix) bs)
            to_ascii_lowercase,
        length-take (length prefix) bs,
      )),
)

pub returns-in-Some : goal.returns-in-Some
returns-in-Some c =
    let bytes : c.in-Some.bytes.now ≡ take (length c.args.prefix.now) c.args.text.now =
    c.in-Some.ensures.lookup.0.2 ∙ first_bytes c.as_bytes.result.now (length c.args.prefix.now)
    ∙ ap (take (length c.args.prefix.now)) c.as_bytes.ensures.value in
    begins_from_bytes c.args.prefix.now c.args.text.now c.eq_ignore_ascii_case.result c.requires c.utf8.text
    (rw (bytes, c.as_bytes-in-Some.ensures.value) at c.eq_ignore_ascii_case.ensures.test)

pub returns-in-None : goal.returns-in-None
returns-in-None c =
    begins_from_bytes c.args.prefix.now c.args.text.now false c.requires c.utf8.text
    (shorter c.args.prefix.now c.args.text.now
    (grind (arith, c.in-None.ensures.lookup.0, ap length c.as_bytes.ensures.value)))
