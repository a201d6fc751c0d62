-- What is read, or the path to where nothing fits.
-- Results of parts are taken together from the first to the last, and the first failure counts; its path begins with
-- the step to the part. Of several ways to read the first that fits counts, and where none does the path is empty.
-- Example: where the item 2 under the key `a` fits nothing, the path is `a`, 2.
use Rattle.std.specs.Prelude.{List, [], ◌∷◌, Result, Ok, Err}
use Rattle.soy_base.specs.declared.path.PathStep.{PathStep}
use Rattle.soy_base.specs.Path.{Path}

-- what is read, taken further
abbrev pub onward : {A B : Type 0} → (A → B) → Result A Path → Result B Path
onward f (Ok a) = Ok (f a)
onward f (Err path) = Err path

-- what is read at a step from outside
abbrev pub below : {A : Type 0} → PathStep → Result A Path → Result A Path
below step (Ok a) = Ok a
below step (Err path) = Err (step ∷ path)

-- what is read first, and all that follows
abbrev pub headed : {A : Type 0} → Result A Path → Result (List A) Path → Result (List A) Path
headed (Ok a) rest = onward (λ as_. a ∷ as_) rest
headed (Err path) rest = Err path

abbrev pub all_read : {A : Type 0} → List (Result A Path) → Result (List A) Path
all_read [] = Ok []
all_read (r ∷ rs) = headed r (all_read rs)

-- the first of two that fits
abbrev pub either_read : {A : Type 0} → Result A Path → Result A Path → Result A Path
either_read (Ok a) other = Ok a
either_read (Err path) other = other
