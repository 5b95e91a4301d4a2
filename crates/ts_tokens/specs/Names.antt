-- Names and rules that are lent, as the code has them.
use Rattle.std.specs.Prelude.{◌↔◌, ◌≡◌, List, map, IsTrue}
use Rattle.std.specs.Borrow.{Bor}
use Rattle.std.specs.List.{Contains}
use Rattle.ts_base.specs.Bytes.{Bytes}
use Rattle.ts_core.specs.declared.rule.Grammar.{Grammar}
use Rattle.ts_rules.specs.Numbers.{NamesSome}

-- the lists have the same members
abbrev pub HaveSame : {X : Type 0} → List X → List X → Type 0
HaveSame {X = X} xs ys = (x : X) → Contains xs x ↔ Contains ys x

-- what is lent
abbrev pub lent : {X : Type 0} → List (Bor X) → List X
lent {X = X} = map (λ (x : Bor X). x.now)

-- these are the names of all rules that name a token
abbrev pub AreTokenNames : Grammar → List Bytes → Type 0
AreTokenNames g names = (name : Bytes) → Contains names name ↔ NamesSome g name
