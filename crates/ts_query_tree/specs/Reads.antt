-- What is read from which text, and what each refusal says.
use Rattle.std.specs.Prelude.{◌≡◌, ℕ, ◌+◌, ◌-◌, ◌<◌, ◌≤◌, List, [], ◌∷◌, ◌++◌, length, ⊤}
use Rattle.ts_base.specs.Bytes.{Bytes}
use Rattle.ts_query_tree.specs.declared.fault.TreeFault.{TreeFault}
use Rattle.ts_query_tree.specs.declared.fault.TreeFault.TheVariants as fault
use Rattle.ts_query_tree.specs.declared.level.Bracket.TheVariants.{Top}
use Rattle.ts_query_tree.specs.declared.sight.Sight.TheVariants.{Sees, Cut, Strange}
use Rattle.ts_query_tree.specs.declared.sign.Sign.{Sign}
use Rattle.ts_query_tree.specs.declared.sign.Sign.TheVariants as sign
use Rattle.ts_query_tree.specs.declared.state.Outcome.{Outcome}
use Rattle.ts_query_tree.specs.declared.state.Outcome.TheVariants as outcome
use Rattle.ts_query_tree.specs.declared.tree.Part.{Part as Value}
use Rattle.ts_query_tree.specs.Words.{gap_end}
use Rattle.ts_query_tree.specs.Signs.{sight}
use Rattle.ts_query_tree.specs.Trees.{Parts, spelling, AreFormed, values_of}

-- from place i on stand these signs, with blanks and comments before each, and then place j comes
abbrev pub Signs : Bytes → ℕ → List Sign → ℕ → Type 0
Signs w i [] j = i ≡ j
Signs w i (s ∷ ss) j = (k : ℕ) × (sight w (gap_end w i) ≡ Sees s k) × Signs w k ss j

-- a query: patterns, each an item
abbrev pub IsQueryTree : Parts → Type 0
IsQueryTree q = AreFormed Top q

-- the text spells the query, and nothing else
abbrev pub IsQueryText : Bytes → Parts → Type 0
IsQueryText w q =
    IsQueryTree q × (j : ℕ) × Signs w 0 (spelling q) j × (gap_end w j ≡ length w)

-- how many brackets are open behind a sign
abbrev pub nested : ℕ → Sign → ℕ
nested n sign.Open = n + 1
nested n sign.Close = n - 1
nested n sign.OpenChoice = n + 1
nested n sign.CloseChoice = n - 1
nested n sign.Anchor = n
nested n sign.Colon = n
nested n (sign.Mark mark) = n
nested n (sign.Name name) = n
nested n (sign.Text text) = n
nested n (sign.Capture name) = n
nested n (sign.Without name) = n
nested n (sign.Predicate name) = n

-- how many brackets may be open at once
abbrev pub most_open : ℕ
most_open = 200

-- where n brackets are open, no more than may be are open before and behind each of these signs
abbrev pub StayShallow : ℕ → List Sign → Type 0
StayShallow n [] = n ≤ most_open
StayShallow n (s ∷ ss) = (n ≤ most_open) × StayShallow (nested n s) ss

-- the text spells a query that is not too deep, which is this value
abbrev pub Reads : Bytes → List Value → Type 0
Reads w x =
    (q : Parts) × IsQueryText w q × StayShallow 0 (spelling q) × (x ≡ values_of q)

-- some query begins with these signs
abbrev pub Begins : List Sign → Type 0
Begins ss = (rest : List Sign) × (q : Parts) × IsQueryTree q × (spelling q ≡ ss ++ rest)

-- Behind the signs ss the text goes wrong at place i: nothing that a sign begins with stands
-- there, or a sign that cannot follow, or the text ends and is no query. Or at place i a sign
-- stands that can follow but lacks its name, and what is in the name's place is wrong.
pub data GoesWrong (w : Bytes) (ss : List Sign) (i : ℕ) : ℕ → Type 0 where
  strange : i < length w → sight w i ≡ Strange → GoesWrong w ss i i
  misplaced : (s : Sign) (j : ℕ) → sight w i ≡ Sees s j → (Begins (ss ++ s ∷ []) → ⊥)
      → GoesWrong w ss i i
  misplaced_cut : (s : Sign) (j : ℕ) → sight w i ≡ Cut s j → (Begins (ss ++ s ∷ []) → ⊥)
      → GoesWrong w ss i i
  nameless : (s : Sign) (j : ℕ) → sight w i ≡ Cut s j → Begins (ss ++ s ∷ [])
      → GoesWrong w ss i j
  ends : i ≡ length w → ((q : Parts) → IsQueryTree q → spelling q ≡ ss → ⊥) → GoesWrong w ss i i

-- the sign at place i can follow the signs ss, and opens one bracket too many
pub record OpensTooDeep (w : Bytes) (ss : List Sign) (i : ℕ) : Type 0 where
  pub bracket : Sign
  pub behind : ℕ
  pub there : sight w i ≡ Sees bracket behind
  pub begins : Begins (ss ++ bracket ∷ [])
  pub deep : StayShallow 0 (ss ++ bracket ∷ []) → ⊥

-- some query that is not too deep so far begins with the signs that lead to a place, and at the
-- next sign, or the end, it is so
pub record Stops (w : Bytes) (At : List Sign → ℕ → Type 0) : Type 0 where
  pub signs : List Sign
  pub behind : ℕ
  pub lead : Signs w 0 signs behind
  pub begins : Begins signs
  pub shallow : StayShallow 0 signs
  pub here : At signs (gap_end w behind)

-- the cause of each refusal; running out of memory has none
abbrev pub IsFault : Bytes → TreeFault → Type 0
IsFault w (fault.Syntax p) = Stops w (λ ss i. GoesWrong w ss i p)
IsFault w (fault.Deep p) = Stops w (λ ss i. OpensTooDeep w ss i × (i ≡ p))
IsFault w fault.Memory = ⊤

-- what a text is
abbrev pub IsOutcome : Bytes → Outcome → Type 0
IsOutcome w (outcome.Whole x) = Reads w x
IsOutcome w (outcome.Syntax p) = IsFault w (fault.Syntax p) × (p ≤ length w)
IsOutcome w (outcome.Deep p) = IsFault w (fault.Deep p) × (p ≤ length w)
