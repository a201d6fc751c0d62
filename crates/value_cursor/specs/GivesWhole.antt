-- A whole form is given to the beginning of a room, so many bytes, and what stands in the room behind them stays.
--
-- Of the form `ab` a room `123` becomes `ab3`, with a count of 2.
use Rattle.std.specs.Prelude.{◌≡◌, ℕ, ◌≤◌, List, Option, Some, option_map, encode_utf8_all, length, take, drop}

pub record GivesWhole (form : Option (List ℕ)) (room room_after : List ℕ) (count : ℕ) : Type 0 where
  pub within : count ≤ length room
  pub size : length room_after ≡ length room
  pub whole : option_map encode_utf8_all form ≡ Some (take count room_after)
  pub behind : drop count room_after ≡ drop count room
