-- Words that name clients in an order.
use Rattle.std.specs.Prelude.{◌≡◌, ℕ, ◌<◌, List, map}
use Rattle.std.specs.List.{All, join_with_byte}
use Rattle.std.specs.Fmt.{decimal}
use Rattle.ts_base.specs.Bytes.{Bytes}

-- clients have the numbers below this one
abbrev pub most_clients : ℕ
most_clients = 16

-- the byte between two numbers
abbrev pub comma : ℕ
comma = 44

-- The word is these numbers, each that of a client and in decimal, joined by commas. So no numbers
-- are the empty word.
pub record Spells (word : Bytes) (order : List ℕ) : Type 0 where
  pub below : All (λ (n : ℕ). n < most_clients) order
  pub is : word ≡ join_with_byte comma (map decimal order)
