-- The data of a page: what is read of bytes at the types of parameters.
-- The JSON value of bytes is the written reading of `serde_json`, in which of two members of one name the value of the
-- last stays. Each parameter is read at its type in the order of declaration, as a field of a record; data that are no
-- object have no members. Bytes that are no JSON are refused with 27 and an empty path, and data in which a parameter
-- has no value of its type with 28 and the path to it.
-- Example: `{"a":[1,null]}` for `{@param a: list<int>}` is refused with 28 and the path `a`, 1.
use Rattle.std.specs.Prelude.{ℕ, List, [], ◌∷◌, Option, Some, None, Result, Ok, Err, if◌then◌else◌}
use Rattle.std.specs.Str.{is_utf8}
use Rattle.serde_json.specs.Data.{Data}
use Rattle.serde_json.specs.Read.{read}
use Rattle.soy_base.specs.declared.code.Code.{Code}
use Rattle.soy_base.specs.declared.code.Code.TheVariants as code
use Rattle.soy_tree.specs.Types.{Name}
use Rattle.soy_tree.specs.Values.{Value, RecordValue}
use Rattle.soy_tree.specs.ViewValues.{entries_of}
use Rattle.soy_tree.specs.Trees.{Param}
use Rattle.soy_rules.specs.Templates.{param_type}
use Rattle.soy_types.specs.Paths.{onward, all_read}
use Rattle.soy_base.specs.Path.{Path}
use Rattle.soy_types.specs.Read.{member_or_null, under_key, value_at}

abbrev pub param_results : List Param → Data → List (Result (Name × Value) Path)
param_results [] json = []
param_results (p ∷ ps) json =
    under_key p.name (value_at (param_type p) (member_or_null p.name json)) ∷ param_results ps json

-- the parameters' values, as a record
abbrev pub values_at : List Param → Data → Result Value Path
values_at ps json = onward (λ es. RecordValue (entries_of es)) (all_read (param_results ps json))

-- the JSON value of bytes
unfoldable pub json_of : List ℕ → Option Data
json_of bytes = if is_utf8 bytes then read bytes else None

abbrev pub refused : {A : Type 0} → Result A Path → Result A (Code × Path)
refused (Ok a) = Ok a
refused (Err path) = Err (code.DataType, path)

abbrev pub values_of_json : List Param → Option Data → Result Value (Code × Path)
values_of_json ps None = Err (code.NotJson, [])
values_of_json ps (Some json) = refused (values_at ps json)

-- the values of the parameters, or the code and the path
abbrev pub data_at : List Param → List ℕ → Result Value (Code × Path)
data_at ps bytes = values_of_json ps (json_of bytes)
