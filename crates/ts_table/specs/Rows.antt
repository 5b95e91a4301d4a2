-- The rows of states.
use Rattle.std.specs.Prelude.{◌≡◌, ℕ, ◌<◌, ◌⊎◌, List, length, slice_get, Option, Some, MatchOption, IsTrue, ◌↔◌}
use Rattle.std.specs.Global.{Vec}
use Rattle.std.specs.List.{Contains}
use Rattle.ts_core.specs.declared.action.Action.{Action}
use Rattle.ts_core.specs.declared.action.Action.TheVariants.{Shift, Reduce, Accept}
use Rattle.ts_core.specs.declared.flat.FlatGrammar.{FlatGrammar}
use Rattle.ts_core.specs.declared.symbol.Symbol.{Symbol}
use Rattle.spec_grammar.specs.Symbols.{symbol_count, start_symbol}
use Rattle.spec_tables.specs.Items.{Item}
use Rattle.spec_tables.specs.Actions.{Act, shift, reduce, accept, Remains, ShiftItem, rule_in}
use Rattle.spec_tables.specs.Conflicts.{Conflicts, IsDeclared}
use Rattle.spec_tables.specs.Fit.{Fit}
use Rattle.ts_bits.specs.declared.set.BitSet.{BitSet}
use Rattle.ts_bits.specs.Members.{Has}
use Rattle.ts_items.specs.declared.part.Goto.{Goto}
use Rattle.ts_items.specs.declared.part.Items.{Items}
use Rattle.ts_items.specs.declared.part.Part.{Part}
use Rattle.ts_items.specs.declared.part.State.{State}
use Rattle.ts_items.specs.Collection.{IsReachedBy, IsGoto, StandsFor}
use Rattle.ts_items.specs.Sets.{HasAt}
use Rattle.ts_table.specs.declared.arrays.Arrays.{Arrays}
use Rattle.ts_table.specs.declared.arrays.RowPlaces.{RowPlaces}
use Rattle.ts_table.specs.declared.candidates.Candidate.{Candidate}
use Rattle.ts_table.specs.declared.cells.Cell.{Cell}
use Rattle.ts_table.specs.declared.marks.Marks.{Marks}
use Rattle.ts_table.specs.declared.refusals.Refusal.{Refusal}
use Rattle.ts_table.specs.declared.rows.Ready.{Ready}
use Rattle.ts_table.specs.declared.rows.Entry.{Entry}
use Rattle.ts_table.specs.Arrays.{no_state}
use Rattle.ts_table.specs.Candidates.{IsCompletePart, IsShiftPart, PicksFrom, ComesAfter}
use Rattle.ts_table.specs.Marks.{AreMarksOf}
use Rattle.ts_table.specs.Cells.{number_in}
use Rattle.ts_table.specs.Rules.{IsUndeclaredAt, ComesFirst, IsLesser}
use Rattle.ts_table.specs.Tables.{EachOnce}

-- for each symbol the state of the goto over it
pub record AreGotoNumbers (count : ℕ) (gotos : List Goto) (row : List ℕ) : Type 0 where
  pub size : length row ≡ count
  pub only : (x m : ℕ) → slice_get row x ≡ Some m
      → (m ≡ no_state) ⊎ Contains gotos (record { symbol = x; state = m })
  pub all : (e : Goto) → Contains gotos e → slice_get row e.symbol ≡ Some e.state

-- the part is that of the complete start item, before the end
abbrev pub IsAcceptPart : List BitSet → Part → Type 0
IsAcceptPart pool q = (q.line ≡ 0) × (q.dot ≡ 1) × HasAt pool q.tokens 0

-- one of the parts is such a part
abbrev pub HasAccept : List BitSet → List Part → Type 0
HasAccept pool parts = (q : Part) × Contains parts q × IsAcceptPart pool q

-- what is kept of a set of items is so
pub record IsReadySet (g : FlatGrammar) (items : Items) (set : Ready) : Type 0 where
  pub state : State
  pub at : slice_get items.states.items set.at ≡ Some state
  pub complete : (q : Part) → Contains set.complete.items q
      ↔ (Contains state.parts.items q × IsCompletePart g q)
  pub ends : (t : ℕ) → Has set.ends t ↔ ComesAfter items.tokens.keys set.complete.items t
  pub gotos : AreGotoNumbers (symbol_count g) state.gotos.items set.gotos.items
  pub accepts : IsTrue set.accepts ↔ HasAccept items.tokens.keys state.parts.items

-- the set does nothing on the token: it leads nowhere over it, no complete item stands before it,
-- and the text is not accepted
abbrev pub DoesNothingOn : Ready → ℕ → Type 0
DoesNothingOn set token = (slice_get set.gotos.items token ≡ Some no_state)
    × (Has set.ends token → ⊥)
    × (IsTrue set.accepts × (token ≡ 0) → ⊥)

-- the candidate is that of the reduction by this item
pub record IsReductionBy (g : FlatGrammar) (read : List ℕ) (token : ℕ) (c : Candidate) (i : Item)
    (number : ℕ) : Type 0 where
  pub remains : Remains g read token i
  pub line : i.line ≡ Some number
  pub stays : Act g read token (reduce number)
  pub number_is : number_in c.line ≡ number
  pub rule : c.weight.rule ≡ rule_in g i.line

-- this is what stays on a token after these symbols
pub record IsTokenCell (g : FlatGrammar) (items : Items) (n : ℕ) (read : List ℕ) (token : ℕ)
    (cell : Cell) : Type 0 where
  pub leads : (m : ℕ) → (cell.shift ≡ Some m) ↔ (IsGoto items n token m × Act g read token shift)
  pub reduction : (c : Candidate) → Contains cell.reductions.items c
      → (i : Item) × (number : ℕ) × IsReductionBy g read token c i number
  pub reductions : (i : Item) (number : ℕ) → Remains g read token i → i.line ≡ Some number
      → Act g read token (reduce number)
      → (c : Candidate) × Contains cell.reductions.items c × IsReductionBy g read token c i number
  pub shift_item : (c : Candidate) → Contains cell.shifts.items c
      → (i : Item) × ShiftItem g read token i × Act g read token shift
      × (c.weight.rule ≡ rule_in g i.line)
  pub shift_items : (r : Candidate) (i : Item) → Contains cell.reductions.items r
      → ShiftItem g read token i → Act g read token shift
      → (c : Candidate) × Contains cell.shifts.items c × (c.weight.rule ≡ rule_in g i.line)

-- the action does what stays, and a shift leads where the set does
pub data ActsAt (g : FlatGrammar) (items : Items) (n : ℕ) (read : List ℕ)
    (token : ℕ) : Action → Type 0 where
  shift_to : (m : ℕ) → Act g read token shift → IsGoto items n token m
      → ActsAt g items n read token (Shift m)
  reduce_by : (number : ℕ) → Act g read token (reduce number)
      → ActsAt g items n read token (Reduce number)
  accept_here : Act g read token accept → ActsAt g items n read token Accept

-- what there is on a token after these symbols
pub record IsEntryOn (g : FlatGrammar) (items : Items) (n : ℕ) (read : List ℕ) (token : ℕ)
    (e : Entry) : Type 0 where
  pub exact : (a : Action) → Contains e.actions.items a ↔ ActsAt g items n read token a
  pub refused : MatchOption e.refused (Conflicts g read token → IsDeclared g read token)
      (λ rules. IsUndeclaredAt g read token rules.items)

-- the list stands at the place
abbrev pub HoldsList : {X : Type 0} → List (Vec X) → ℕ → List X → Type 0
HoldsList {X} lists k xs = (v : Vec X) × (slice_get lists k ≡ Some v) × (v.items ≡ xs)

-- the list has the actions of the set on the token, each once
pub record IsListOn (g : FlatGrammar) (items : Items) (n token : ℕ)
    (list : List Action) : Type 0 where
  pub exact : (read : List ℕ) (a : Action) → IsReachedBy items read n
      → Contains list a ↔ ActsAt g items n read token a
  pub once : EachOnce list

-- the row has the places of the lists of so many tokens
pub record AreListPlaces (g : FlatGrammar) (items : Items) (n : ℕ) (lists : List (Vec Action))
    (count : ℕ) (row : List ℕ) : Type 0 where
  pub size : length row ≡ count
  pub each : (token c : ℕ) → slice_get row token ≡ Some c
      → (list : List Action) × HoldsList lists c list × IsListOn g items n token list

-- the cell of this set and this token comes before the other
abbrev pub IsCellBefore : ℕ → ℕ → ℕ → ℕ → Type 0
IsCellBefore k u n t = (k < n) ⊎ ((k ≡ n) × (u < t))

-- of the conflicts before a cell that are not declared this is the first, or there is none
abbrev pub IsLeastTo : FlatGrammar → Items → ℕ → ℕ → Option Refusal → Type 0
IsLeastTo g items n t least =
    MatchOption least
    ((k u : ℕ) (read : List ℕ) → IsCellBefore k u n t → IsReachedBy items read k
    → Conflicts g read u → IsDeclared g read u)
    (λ r. ((read : List ℕ) × IsUndeclaredAt g read r.token r.rules.items)
    × ((k u : ℕ) (read : List ℕ) (rules : List Symbol) → IsCellBefore k u n t
    → IsReachedBy items read k → IsUndeclaredAt g read u rules
    → ComesFirst r.token r.rules.items u rules))

-- the places are those of the rows of the set
pub record IsRowAt (g : FlatGrammar) (items : Items) (a : Arrays) (n : ℕ)
    (places : RowPlaces) : Type 0 where
  pub state : State
  pub at : slice_get items.states.items n ≡ Some state
  pub goto_row : List ℕ
  pub gotos_at : HoldsList a.gotos.keys places.gotos goto_row
  pub gotos : AreGotoNumbers (symbol_count g) state.gotos.items goto_row
  pub token_row : List ℕ
  pub actions_at : HoldsList a.actions.keys places.actions token_row
  pub actions : AreListPlaces g items n a.lists.keys (start_symbol g) token_row

-- there are the rows of so many states
pub record AreRowsTo (g : FlatGrammar) (items : Items) (a : Arrays) (count : ℕ) : Type 0 where
  pub size : length a.states.items ≡ count
  pub each : (n : ℕ) (places : RowPlaces) → slice_get a.states.items n ≡ Some places
      → IsRowAt g items a n places

-- the productions and the sets of items are those of the grammar
pub record IsSource (g : FlatGrammar) (m : Marks) (items : Items) : Type 0 where
  pub fit : Fit g
  pub marks : AreMarksOf g m
  pub sets : StandsFor g items

-- these are shift items of the set, and all of them where there are a shift and a reduction
pub record AreRivalItems (g : FlatGrammar) (items : Items) (state : State) (token : ℕ)
    (target : Option ℕ) (reductions found : List Candidate) : Type 0 where
  pub only : (c : Candidate) → Contains found c
      → PicksFrom g state.parts.items (IsShiftPart g items.firsts.items token) c
  pub all : (m : ℕ) (r c : Candidate) → target ≡ Some m → Contains reductions r
      → PicksFrom g state.parts.items (IsShiftPart g items.firsts.items token) c → Contains found c

-- the lesser of the old refusal and of a new one, if there is one
abbrev pub IsStillLeast : Option Refusal → ℕ → Option (Vec Symbol) → Option Refusal → Type 0
IsStillLeast old token refused new =
    MatchOption refused (new ≡ old)
    (λ rules. (r : Refusal) × (new ≡ Some r) × IsLesser old token rules.items r)
