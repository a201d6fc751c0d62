-- The rows of a catalogue: each is that of a formed message, and each message has one that says the same.
use Rattle.std.proofs.Common.{◌≡◌, ℕ, ◌+◌, Bool, true, false, List, [], ◌∷◌, ◌++◌, Option, Some, None, refl, sym}
use Rattle.std.proofs.Common.{ap, ◌∙◌, append_assoc, append-nil, bytes_eq, subst}
use Rattle.std.specs.Prelude.{Result, Ok, Err}
use Rattle.std.specs.List.{list_all}
use Rattle.std.proofs.lemmas.Slice.Eq.{bytes_eq-Decides}
use Rattle.soy_base.specs.declared.fault.Fault.{Fault}
use Rattle.soy_tree.specs.Formed.{AreFormed, is_formed_message, is_formed_tree}
use Rattle.soy_tree.specs.Nodes.{Message}
use Rattle.soy_tree.specs.Trees.{Tree}
use Rattle.msg_extract.specs.Catalogue.{all_listed, catalogue_of, find_listed, is_same_listed, listed, listed_after}
use Rattle.msg_extract.specs.Catalogue.{then_listed, trees_listed, with_listed}
use Rattle.msg_extract.specs.MessagesIn.{tree_messages}
use Rattle.msg_extract.specs.declared.catalogue.Listed.{Listed}
use Rattle.msg_extract.proofs.JoinedTests.{and_left, and_right}
use Rattle.msg_bundle.proofs.FormedMessages.{AllFormed, tree_formed}

abbrev pub IsRow : Listed → Type 0
IsRow row = (m : Message) × (is_formed_message m ≡ true) × (row ≡ listed m)

abbrev pub AreRows : List Listed → Type 0
AreRows [] = Unit {0}
AreRows (row ∷ rows) = IsRow row × AreRows rows

rows_joined : (rows more : List Listed) → AreRows rows → AreRows more → AreRows (rows ++ more)
rows_joined [] more h k = k
rows_joined (row ∷ rows) more h k = (h.0, rows_joined rows more h.1 k)

-- a row that is found is one of them
pub row_found : (id : List ℕ) (rows : List Listed) (row : Listed) → AreRows rows → find_listed id rows ≡ Some row
    → IsRow row
row_found id [] row h e = absurd (cc e)
row_found id (r ∷ rows) row h e = at (row_found id rows row h.1) (bytes_eq r.id id) refl
  where
    at : (find_listed id rows ≡ Some row → IsRow row) → (b : Bool) → bytes_eq r.id id ≡ b → IsRow row
    at more true k = subst IsRow (same (rw k at e)) h.0
      where
        same : (Some r) ≡ Some row → r ≡ row
        same q = cc q
    at more false k = more (rw k at e)

-- the row of a message, which says the same
abbrev pub HasRow : List Listed → Message → Type 0
HasRow rows m = (row : Listed) × (find_listed (listed m).id rows ≡ Some row) × (is_same_listed row (listed m) ≡ true)

abbrev pub HaveRows : List Listed → List Message → Type 0
HaveRows rows [] = Unit {0}
HaveRows rows (m ∷ ms) = HasRow rows m × HaveRows rows ms

abbrev Grows : List Listed → List Listed → Type 0
Grows done rows = (more : List Listed) × (rows ≡ done ++ more)

found_stays : (id : List ℕ) (done more : List Listed) (row : Listed) → find_listed id done ≡ Some row
    → find_listed id (done ++ more) ≡ Some row
found_stays id [] more row e = absurd (cc e)
found_stays id (r ∷ done) more row e = at (found_stays id done more row) (bytes_eq r.id id) refl
  where
    at : (find_listed id done ≡ Some row → find_listed id (done ++ more) ≡ Some row) → (b : Bool)
        → bytes_eq r.id id ≡ b → find_listed id (r ∷ (done ++ more)) ≡ Some row
    at later true k = rw k (rw k at e)
    at later false k = rw k (later (rw k at e))

id_same : (id : List ℕ) → bytes_eq id id ≡ true
id_same id = (bytes_eq-Decides id id).1 refl

found_last : (row : Listed) (done : List Listed) → find_listed row.id done ≡ None
    → find_listed row.id (done ++ row ∷ []) ≡ Some row
found_last row [] e = rw (id_same row.id) refl
found_last row (r ∷ done) e = at (found_last row done) (bytes_eq r.id row.id) refl
  where
    at : (find_listed row.id done ≡ None → find_listed row.id (done ++ row ∷ []) ≡ Some row) → (b : Bool)
        → bytes_eq r.id row.id ≡ b → find_listed row.id (r ∷ (done ++ row ∷ [])) ≡ Some row
    at later true k = absurd (cc (rw k at e))
    at later false k = rw k (later (rw k at e))

has_more : (done rows : List Listed) (m : Message) → Grows done rows → HasRow done m → HasRow rows m
has_more done rows m g h = (h.0, rw g.1 (found_stays (listed m).id done g.0 h.0 h.1), h.2)

-- what a call that lists messages makes of rows
record Lists (done rows : List Listed) (ms : List Message) : Type 0 where
  grows : Grows done rows
  has : HaveRows rows ms
  are : AreRows done → AllFormed ms → AreRows rows

have_more : (now rows : List Listed) (ms : List Message) → Grows now rows → HaveRows now ms → HaveRows rows ms
have_more now rows [] g h = tt
have_more now rows (m ∷ ms) g h = (has_more now rows m g h.0, have_more now rows ms g h.1)

one_listed : (done now : List Listed) (file : ℕ) (m : Message) → with_listed done file m ≡ Ok now
    → Lists done now (m ∷ [])
one_listed done now file m e = at (find_listed (listed m).id done) refl
  where
    new : now ≡ done ++ listed m ∷ [] → find_listed (listed m).id done ≡ None → Lists done now (m ∷ [])
    new k none = record {
      grows = (listed m ∷ [], k);
      has = (
        (
          listed m,
          rw k (found_last (listed m) done none),
          rw (id_same (listed m).meaning, id_same (listed m).text) refl,
        ),
        tt,
      );
      are = λ a f. rw k (rows_joined done (listed m ∷ []) a ((m, f.0, refl), tt));
    }

    old : (row : Listed) (b : Bool) → is_same_listed row (listed m) ≡ b → find_listed (listed m).id done ≡ Some row
        → listed_after done file m (Some row) ≡ Ok now → Lists done now (m ∷ [])
    old row true same found k =
        let is : done ≡ now = cc (rw same at k) in
        record {
          grows = ([], sym is ∙ sym (append-nil done));
          has = ((row, rw (sym is) found, same), tt);
          are = λ a f. rw (sym is) a;
        }
    old row false same found k = absurd (cc (rw same at k))

    at : (o : Option Listed) → find_listed (listed m).id done ≡ o → Lists done now (m ∷ [])
    at None none = new (cc (rw none at e)) none
    at (Some row) found = old row (is_same_listed row (listed m)) refl found (rw found at e)

then_grows : (done now rows : List Listed) → Grows done now → Grows now rows → Grows done rows
then_grows done now rows g h =
    (g.0 ++ h.0, h.1 ∙ (ap (λ t. t ++ h.0) g.1 ∙ append_assoc done g.0 h.0))

abbrev these : List Listed → Result (List Listed) Fault
these rows = Ok rows

none_listed : (done rows : List Listed) → these done ≡ these rows → Lists done rows []
none_listed done rows e =
    let is : done ≡ rows = cc e in
    record { grows = ([], sym is ∙ sym (append-nil done)); has = tt; are = λ a f. rw (sym is) a }

several_listed : (done rows : List Listed) (file : ℕ) (ms : List Message) → all_listed done file ms ≡ Ok rows
    → Lists done rows ms
several_listed done rows file [] e = none_listed done rows e
several_listed done rows file (m ∷ ms) e =
    at (λ now k. several_listed now rows file ms k) (with_listed done file m) refl e
  where
    at : ((now : List Listed) → all_listed now file ms ≡ Ok rows → Lists now rows ms)
        → (r : Result (List Listed) Fault) → with_listed done file m ≡ r
        → then_listed r (λ now. all_listed now file ms) ≡ Ok rows → Lists done rows (m ∷ ms)
    at more (Ok now) is k =
        let one = one_listed done now file m is in
        let rest = more now k in
        record {
          grows = then_grows done now rows one.grows rest.grows;
          has = (has_more now rows m rest.grows one.has.0, rest.has);
          are = λ a f. rest.are (one.are a (f.0, tt)) f.1;
        }
    at more (Err fault) is k = absurd (cc k)

-- ---- files

abbrev pub HaveRowsOf : List Listed → List Tree → Type 0
HaveRowsOf rows [] = Unit {0}
HaveRowsOf rows (tree ∷ trees) = HaveRows rows (tree_messages tree) × HaveRowsOf rows trees

record ListsTrees (done rows : List Listed) (trees : List Tree) : Type 0 where
  grows : Grows done rows
  has : HaveRowsOf rows trees
  are : AreRows done → list_all is_formed_tree trees ≡ true → AreRows rows

files_listed : (done rows : List Listed) (file : ℕ) (trees : List Tree) → trees_listed done file trees ≡ Ok rows
    → ListsTrees done rows trees
files_listed done rows file [] e =
    let none = none_listed done rows e in
    record { grows = none.grows; has = tt; are = λ a f. none.are a tt }
files_listed done rows file (tree ∷ trees) e =
    at (λ now k. files_listed now rows (file + 1) trees k) (all_listed done file (tree_messages tree)) refl e
  where
    at : ((now : List Listed) → trees_listed now (file + 1) trees ≡ Ok rows → ListsTrees now rows trees)
        → (r : Result (List Listed) Fault) → all_listed done file (tree_messages tree) ≡ r
        → then_listed r (λ now. trees_listed now (file + 1) trees) ≡ Ok rows → ListsTrees done rows (tree ∷ trees)
    at more (Ok now) is k =
        let one = several_listed done now file (tree_messages tree) is in
        let rest = more now k in
        record {
          grows = then_grows done now rows one.grows rest.grows;
          has = (have_more now rows (tree_messages tree) rest.grows one.has, rest.has);
          are = λ a f. rest.are
              (one.are a (tree_formed tree (and_left (is_formed_tree tree) (list_all is_formed_tree trees) f)))
              (and_right (is_formed_tree tree) (list_all is_formed_tree trees) f);
        }
    at more (Err fault) is k = absurd (cc k)

-- the messages of files have rows
pub catalogue_has : (trees : List Tree) (rows : List Listed) → catalogue_of trees ≡ Ok rows → HaveRowsOf rows trees
catalogue_has trees rows e = (files_listed [] rows 0 trees e).has

pub catalogue_are : (trees : List Tree) (rows : List Listed) → catalogue_of trees ≡ Ok rows → AreFormed trees
    → AreRows rows
catalogue_are trees rows e f = (files_listed [] rows 0 trees e).are tt f
