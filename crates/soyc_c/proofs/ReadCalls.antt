-- A call that is read from two lists of parts, and what stops that.
use Rattle.std.proofs.Common.{◌≡◌, List, Option, Some, None, refl, ap, ◌∙◌}
use Rattle.std.specs.Prelude.{option_map}
use Rattle.soy_io.specs.FileOf.{Files}
use Rattle.soy_top.specs.Answer.{answer}
use Rattle.soy_top.specs.Words.{Word}
use Rattle.soyc_c.specs.Call.{both, call_of}
use Rattle.soyc_c.specs.Reply.{answer_reply, call_reply}
use Rattle.soyc_c.specs.Stops.{StopsAt}
use Rattle.soyc_c.specs.declared.parts.Stop.{Stop}
use Rattle.soyc_c.specs.declared.parts.Stop.TheVariants.{Malformed, Memory}

both-none : {A B : Type 0} (a : Option A) (b : Option B) → b ≡ None → both a b ≡ None
both-none None b is = refl
both-none (Some x) b is = ap (λ o. option_map (λ y. (x, y)) o) is

-- two are there if each is, and what stops one of them stops both
both-some : {A B : Type 0} (a : Option A) (b : Option B) (x : A) (y : B) → a ≡ Some x → b ≡ Some y
    → both a b ≡ Some (x, y)
both-some a b x y first second = ap (λ o. both o b) first ∙ ap (λ o. both (Some x) o) second

first-stops : {A B : Type 0} (stop : Stop) (a : Option A) (b : Option B) → StopsAt stop a → StopsAt stop (both a b)
first-stops Malformed a b is = ap (λ o. both o b) is
first-stops Memory a b is = tt

second-stops : {A B : Type 0} (stop : Stop) (a : Option A) (b : Option B) → StopsAt stop b
    → StopsAt stop (both a b)
second-stops Malformed a b is = both-none a b is
second-stops Memory a b is = tt

mapped-stops : {A B : Type 0} (f : A → B) (stop : Stop) (a : Option A) → StopsAt stop a
    → StopsAt stop (option_map f a)
mapped-stops f Malformed a is = ap (option_map f) is
mapped-stops f Memory a is = tt

-- the call of words and files that are there, and what stops it
call-found : (w : Option (List Word)) (f : Option Files) (words : List Word) (files : Files)
    → w ≡ Some words → f ≡ Some files
    → option_map call_of (both w f) ≡ Some (record { words = words; files = files })
call-found w f words files read held = ap (option_map call_of) (both-some w f words files read held)

-- so the reply is the answer's
pub reply_found : (w : Option (List Word)) (f : Option Files) (words : List Word) (files : Files)
    → w ≡ Some words → f ≡ Some files
    → call_reply (option_map call_of (both w f)) ≡ answer_reply (answer files words)
reply_found w f words files read held = ap call_reply (call-found w f words files read held)

pub words_stop : (stop : Stop) (w : Option (List Word)) (f : Option Files) → StopsAt stop w
    → StopsAt stop (option_map call_of (both w f))
words_stop stop w f is = mapped-stops call_of stop (both w f) (first-stops stop w f is)

pub files_stop : (stop : Stop) (w : Option (List Word)) (f : Option Files) → StopsAt stop f
    → StopsAt stop (option_map call_of (both w f))
files_stop stop w f is = mapped-stops call_of stop (both w f) (second-stops stop w f is)
