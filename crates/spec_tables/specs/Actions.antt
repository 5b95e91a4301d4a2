-- Which actions stay on a token after precedences and associativities.
use Rattle.std.specs.Prelude.{◌≡◌, ℕ, zero, suc, ◌<◌, ◌<ℤ◌, ◌⊎◌, List, ◌∷◌, slice_get, Option, Some, None, option_map, unwrap_or}
use lib.IntN.{ℤ, pos}
use Rattle.ts_core.specs.declared.flat.FlatGrammar.{FlatGrammar}
use Rattle.ts_core.specs.declared.flat.Step.{Step}
use Rattle.ts_core.specs.declared.flat.Prec.{Prec}
use Rattle.ts_core.specs.declared.flat.Prec.TheVariants as prec
use Rattle.ts_core.specs.declared.flat.Assoc.{Assoc}
use Rattle.ts_core.specs.declared.flat.Assoc.TheVariants as assoc
use Rattle.ts_core.specs.declared.flat.Entry.{Entry}
use Rattle.ts_core.specs.declared.flat.Entry.TheVariants as entry
use Rattle.spec_grammar.specs.Symbols.{production_at, start_symbol}
use Rattle.spec_tables.specs.Items.{Item, Line, IsToken, end_token, line_steps, start_item, IsBefore, IsComplete, CanBeginWith, Valid, advanced}

-- ---- the precedence of an item: that of the step before its dot

-- the step before the dot, if there is one
abbrev pub step_before : FlatGrammar → Line → ℕ → Option Step
step_before g line zero = None
step_before g line (suc dot) = slice_get (line_steps g line) dot

-- that step's precedence
abbrev pub item_prec : FlatGrammar → Item → Prec
item_prec g i = unwrap_or (option_map (λ step. step.prec) (step_before g i.line i.dot)) prec.Absent

-- that step's associativity
abbrev pub item_assoc : FlatGrammar → Item → Assoc
item_assoc g i =
    unwrap_or (option_map (λ step. step.assoc) (step_before g i.line i.dot)) assoc.Absent

-- the symbol of the rule or repetition of an item; the start item's is the start rule
abbrev pub rule_in : FlatGrammar → Line → ℕ
rule_in g None = start_symbol g
rule_in g (Some number) = unwrap_or (option_map (λ p. p.0) (production_at g number)) 0

-- ---- comparing

-- What stands for an item in an ordering of precedences: its name, or without a precedence its
-- rule. An item with a number has nothing there.
abbrev pub key_by : Prec → ℕ → Option Entry
key_by prec.Absent rule = Some (entry.Rule (record { 0 = rule }))
key_by (prec.Number value) rule = None
key_by (prec.Name name) rule = Some (entry.Name name)

-- the key of an item
abbrev pub key_of : FlatGrammar → Item → Option Entry
key_of g i = key_by (item_prec g i) (rule_in g i.line)

-- this place is the first of the ordering where the entry stands
pub record StandsAt (ordering : List Entry) (key : Entry) (place : ℕ) : Type 0 where
  pub at : slice_get ordering place ≡ Some key
  pub first : (earlier : ℕ) → earlier < place → slice_get ordering earlier ≡ Some key → ⊥

-- the ordering has the two keys at different places, the first of them earlier
abbrev pub Orders : List Entry → Entry → Entry → Type 0
Orders ordering a b = (m : ℕ) × (n : ℕ) × StandsAt ordering a m × StandsAt ordering b n × (m < n)

-- the ordering decides between the two
abbrev pub Decides : List Entry → Entry → Entry → Type 0
Decides ordering a b = Orders ordering a b ⊎ Orders ordering b a

-- the first ordering that decides between the two puts the first of them earlier
pub data FirstOrders : List (List Entry) → Entry → Entry → Type 0 where
  by_this : (ordering : List Entry) (more : List (List Entry)) (a b : Entry)
      → Orders ordering a b → FirstOrders (ordering ∷ more) a b
  by_a_later : (ordering : List Entry) (more : List (List Entry)) (a b : Entry)
      → (Decides ordering a b → ⊥) → FirstOrders more a b → FirstOrders (ordering ∷ more) a b

-- some ordering decides between the two
pub data SomeDecides : List (List Entry) → Entry → Entry → Type 0 where
  this_does : (ordering : List Entry) (more : List (List Entry)) (a b : Entry)
      → Decides ordering a b → SomeDecides (ordering ∷ more) a b
  a_later_does : (ordering : List Entry) (more : List (List Entry)) (a b : Entry)
      → SomeDecides more a b → SomeDecides (ordering ∷ more) a b

-- the number of a precedence, 0 where there is none; a name has no number
abbrev pub prec_number : Prec → Option ℤ
prec_number prec.Absent = Some (pos 0)
prec_number (prec.Number value) = Some value
prec_number (prec.Name name) = None

-- neither is named, and the first has the greater number
abbrev pub IsGreater : Option ℤ → Option ℤ → Type 0
IsGreater (Some a) (Some b) = b <ℤ a
IsGreater (Some a) None = ⊥
IsGreater None b = ⊥

-- both have keys between which the orderings decide
abbrev pub AreOrdered : FlatGrammar → Option Entry → Option Entry → Type 0
AreOrdered g (Some a) (Some b) = SomeDecides g.precedences a b
AreOrdered g (Some a) None = ⊥
AreOrdered g None b = ⊥

-- both have keys, and the orderings put the first of them earlier
abbrev pub IsEarlier : FlatGrammar → Option Entry → Option Entry → Type 0
IsEarlier g (Some a) (Some b) = FirstOrders g.precedences a b
IsEarlier g (Some a) None = ⊥
IsEarlier g None b = ⊥

-- the first item is higher: by the orderings, or else by the numbers
abbrev pub Higher : FlatGrammar → Item → Item → Type 0
Higher g i j =
    IsEarlier g (key_of g i) (key_of g j)
    ⊎ ((AreOrdered g (key_of g i) (key_of g j) → ⊥)
    × IsGreater (prec_number (item_prec g i)) (prec_number (item_prec g j)))

-- ---- reductions and shifts on a token

-- a complete item of the grammar with this token
pub record Reduces (g : FlatGrammar) (read : List ℕ) (token : ℕ) (i : Item) : Type 0 where
  pub number : ℕ
  pub valid : Valid g read i
  pub line : i.line ≡ Some number
  pub complete : IsComplete g i
  pub on : i.token ≡ token

-- an item with its dot past the start and a next symbol that can begin with the token
pub record ShiftItem (g : FlatGrammar) (read : List ℕ) (token : ℕ) (i : Item) : Type 0 where
  pub valid : Valid g read i
  pub past : 0 < i.dot
  pub step : Step
  pub before : IsBefore g i step
  pub begins : CanBeginWith g step.symbol.0 token

-- some item has its dot right before the token
pub record Shifts (g : FlatGrammar) (read : List ℕ) (token : ℕ) : Type 0 where
  pub is_token : IsToken g token
  pub item : Item
  pub valid : Valid g read item
  pub step : Step
  pub before : IsBefore g item step
  pub is : step.symbol.0 ≡ token

-- ---- which of them stay

-- no reduction on the token is higher than this one
abbrev pub IsTop : FlatGrammar → List ℕ → ℕ → Item → Type 0
IsTop g read token i = (j : Item) → Reduces g read token j → Higher g j i → ⊥

-- A reduction stays where no other is higher; if all would go, all stay.
pub record Remains (g : FlatGrammar) (read : List ℕ) (token : ℕ) (i : Item) : Type 0 where
  pub reduces : Reduces g read token i
  pub top : IsTop g read token i ⊎ ((j : Item) → Reduces g read token j → IsTop g read token j → ⊥)

-- some shift item is higher than some reduction that stays
abbrev pub SomeHigher : FlatGrammar → List ℕ → ℕ → Type 0
SomeHigher g read token =
    (i : Item) × (j : Item) × ShiftItem g read token i × Remains g read token j × Higher g i j

-- some shift item is lower than some reduction that stays
abbrev pub SomeLower : FlatGrammar → List ℕ → ℕ → Type 0
SomeLower g read token =
    (i : Item) × (j : Item) × ShiftItem g read token i × Remains g read token j × Higher g j i

-- every reduction that stays has this associativity
abbrev pub AllAre : FlatGrammar → List ℕ → ℕ → Assoc → Type 0
AllAre g read token side = (i : Item) → Remains g read token i → item_assoc g i ≡ side

-- there are a shift and a reduction
pub record AreBoth (g : FlatGrammar) (read : List ℕ) (token : ℕ) : Type 0 where
  pub shift : Shifts g read token
  pub reduction : Item
  pub stays : Remains g read token reduction

-- of both kinds the shift alone stays
pub record ShiftAlone (g : FlatGrammar) (read : List ℕ) (token : ℕ) : Type 0 where
  pub both : AreBoth g read token
  pub not_lower : SomeLower g read token → ⊥
  pub cause : SomeHigher g read token ⊎ AllAre g read token assoc.Right

-- of both kinds the reductions alone stay
pub record ReduceAlone (g : FlatGrammar) (read : List ℕ) (token : ℕ) : Type 0 where
  pub both : AreBoth g read token
  pub not_higher : SomeHigher g read token → ⊥
  pub cause : SomeLower g read token ⊎ AllAre g read token assoc.Left

-- ---- the actions

-- what a parser may do on a token
pub data Move : Type 0 where
  shift : Move
  -- by the production of this number
  reduce : ℕ → Move
  accept : Move

-- the move stays on the token, after these symbols
pub data Act (g : FlatGrammar) (read : List ℕ) (token : ℕ) : Move → Type 0 where
  may_shift : Shifts g read token → (ReduceAlone g read token → ⊥) → Act g read token shift
  may_reduce : (i : Item) (number : ℕ) → Remains g read token i → i.line ≡ Some number
      → (ShiftAlone g read token → ⊥) → Act g read token (reduce number)
  may_accept : token ≡ end_token → Valid g read (advanced start_item) → Act g read token accept
