-- What is ready on each of the two ways.
use Rattle.std.proofs.Common.{◌≡◌, ◌∙◌, sym, ap, refl, subst, ℕ, ◌<◌, Bool, List, length, Option, Some, None, get_or, slice_get}
use Rattle.std.proofs.lemmas.Option.{slice_get_read}
use Rattle.ts_core.specs.declared.flat.FlatGrammar.{FlatGrammar}
use Rattle.ts_core.specs.declared.symbol.Symbol.{Symbol}
use Rattle.ts_automata.specs.declared.automaton.Automaton.{Automaton}
use Rattle.ts_automata.specs.declared.tables.SetTables.{SetTables}
use Rattle.ts_automata.specs.declared.machine.Reader.{Reader}
use Rattle.ts_automata.specs.declared.machine.Reader.TheVariants.{Tables as ReaderTables, Nodes as ReaderNodes}
use Rattle.ts_automata.specs.Readers.{IsReader}
use Rattle.ts_lexer.specs.declared.ahead.LexTables.{LexTables}
use Rattle.ts_lexer.specs.declared.ahead.RowPair.{RowPair}
use Rattle.ts_lexer.specs.declared.view.View.{View}
use Rattle.ts_lexer.specs.declared.ways.LexNodes.{LexNodes}
use Rattle.ts_lexer.specs.declared.ways.Way.{Way}
use Rattle.ts_lexer.specs.declared.ways.Way.TheVariants.{Tables, Nodes}
use Rattle.ts_lexer.specs.Ahead.{HasPair, IsReady}
use Rattle.ts_lexer.specs.Views.{IsView}
use Rattle.ts_automata.specs.declared.walk.Walk.{Walk}
use Rattle.ts_automata.specs.Machine.{HasRead, state_count}
use Rattle.ts_automata.specs.Walks.{HasCome}
use Rattle.ts_base.specs.Bytes.{Bytes}
use Rattle.ts_lexer.specs.declared.scanned.Run.{Run}
use Rattle.ts_lexer.specs.declared.scanned.Read.{Read}
use Rattle.ts_lexer.specs.declared.scanned.Read.TheVariants.{Ended, Open}
use Rattle.ts_lexer.specs.Runs.{IsAll, IsRun, IsReadOn, IfOpen}
use Rattle.ts_lexer.specs.Ways.{AreTablesOf, AreNodesOf, IsWayOf, IsReadyOn, IsReadyFor, HasPairOn, HasRowsOn, HavePairsOn, IsSetOn, LeadsOn}

-- what was made of an automaton
pub tables_read : (a : Automaton) (r : Reader) (m : SetTables) → r ≡ ReaderTables m → IsReader a r → m.automaton ≡ a
tables_read a r m is h = subst (λ (x : Reader). IsReader a x) is h

pub nodes_read : (a : Automaton) (r : Reader) (b : Automaton) → r ≡ ReaderNodes b → IsReader a r → b ≡ a
nodes_read a r b is h = subst (λ (x : Reader). IsReader a x) is h

module _ (g : FlatGrammar) (valid : List Symbol) (way : Way) where
  module _ (v : View) (p : Option RowPair) (room : ℕ) where
    pub tables_ready : (t : LexTables) → way ≡ Tables t → IsReadyFor g valid way v p room → AreTablesOf g t × IsReady g valid t v p
    tables_ready t is ready = let r = subst (λ (w : Way). IsReadyFor g valid w v p room) is ready in (r.made, r.ready)

    pub nodes_ready : (n : LexNodes) → way ≡ Nodes n → IsReadyFor g valid way v p room → AreNodesOf g n room × IsView g valid v
    nodes_ready n is ready = let r = subst (λ (w : Way). IsReadyFor g valid w v p room) is ready in (r.made, r.ready)

    -- what is ready stays so while the room is the same
    pub here_ready : (now : ℕ) → now ≡ room → IsReadyFor g valid way v p room → IsReadyFor g valid way v p now
    here_ready now same ready = subst (λ (n : ℕ). IsReadyFor g valid way v p n) (sym same) ready

  -- what is made ready
  pub ready_tables : (t : LexTables) (v : View) (p : Option RowPair) → way ≡ Tables t → IsReady g valid t v p → IsReadyOn g valid way v p
  ready_tables t v p is h = subst (λ (w : Way). IsReadyOn g valid w v p) (sym is) h

  pub ready_nodes : (n : LexNodes) (v : View) (p : Option RowPair) → way ≡ Nodes n → IsView g valid v → IsReadyOn g valid way v p
  ready_nodes n v p is h = subst (λ (w : Way). IsReadyOn g valid w v p) (sym is) h

  pub pair_tables : (t : LexTables) (p : RowPair) → way ≡ Tables t → HasPairOn g valid way p → HasPair g valid t p
  pair_tables t p is h = subst (λ (w : Way). HasPairOn g valid w p) is h

  -- the rows of a list, by its number
  pub listed : (lists : List (List Symbol)) (pairs : List (Option RowPair)) (list : ℕ) (pair : Option RowPair) → list < length pairs → pair ≡ get_or pairs list pair
      → slice_get lists list ≡ Some valid → HavePairsOn g way lists pairs → (p : RowPair) → pair ≡ Some p → HasPairOn g valid way p
  listed lists pairs list pair lt is at have p e = have list valid p at (slice_get_read pairs (length pairs) list pair refl lt is ∙ ap (λ (o : Option RowPair). Some o) e)

-- the rows of a list, where there are any
pub rows_ready : (g : FlatGrammar) (valid : List Symbol) (way : Way) (room : ℕ) (pair : Option RowPair) → IsWayOf g way room → ((p : RowPair) → pair ≡ Some p → HasPairOn g valid way p) → HasRowsOn g valid way pair
rows_ready g valid (Tables t) room None made has = tt
rows_ready g valid (Tables t) room (Some p) made has = (made, has p refl)
rows_ready g valid (Nodes n) room pair made has = tt

pub rows_on : (g : FlatGrammar) (valid : List Symbol) (way : Way) (pair : Option RowPair) (t : LexTables) (p : RowPair) → way ≡ Tables t → pair ≡ Some p → HasRowsOn g valid way pair → AreTablesOf g t × HasPair g valid t p
rows_on g valid way pair t p is at rows = subst (λ (o : Option RowPair). HasRowsOn g valid (Tables t) o) at (subst (λ (w : Way). HasRowsOn g valid w pair) is rows)

pub way_tables : (g : FlatGrammar) (way : Way) (room : ℕ) (t : LexTables) → way ≡ Tables t → IsWayOf g way room → AreTablesOf g t
way_tables g way room t is h = subst (λ (w : Way). IsWayOf g w room) is h

pub way_nodes : (g : FlatGrammar) (way : Way) (room : ℕ) (n : LexNodes) → way ≡ Nodes n → IsWayOf g way room → AreNodesOf g n room
way_nodes g way room n is h = subst (λ (w : Way). IsWayOf g w room) is h

-- ---- reading, on the way on which it is

pub set_tables : (way : Way) (t : LexTables) → way ≡ Tables t → (set : ℕ) → IsSetOn way set → set < state_count t.machine
set_tables way t is set h = subst (λ (w : Way). IsSetOn w set) is h

pub on_tables : (way : Way) (t : LexTables) → way ≡ Tables t → (read : Read) → IfOpen read (λ (r : Run). r.state < state_count t.machine) → IfOpen read (λ (r : Run). IsSetOn way r.state)
on_tables way t is read h = subst (λ (w : Way). IfOpen read (λ (r : Run). IsSetOn w r.state)) (sym is) h

pub on_nodes : (way : Way) (n : LexNodes) → way ≡ Nodes n → (read : Read) → IfOpen read (λ (r : Run). IsSetOn way r.state)
on_nodes way n is read = subst (λ (w : Way). IfOpen read (λ (r : Run). IsSetOn w r.state)) (sym is) (by read)
  where
    by : (read : Read) → IfOpen read (λ (r : Run). IsSetOn (Nodes n) r.state)
    by (Ended s) = tt
    by (Open r) = tt

module _ (g : FlatGrammar) (valid : List Symbol) (first : Bool) (rest tail : Bytes) (way : Way) (walk : Walk) where
  pub run_tables : (t : LexTables) → way ≡ Tables t → (run : Run) → IsRun (LeadsOn way walk) g valid first rest tail run → IsRun (λ set w. HasRead t.machine w set) g valid first rest tail run
  run_tables t is run h = subst (λ (x : Way). IsRun (LeadsOn x walk) g valid first rest tail run) is h

  pub run_nodes : (n : LexNodes) → way ≡ Nodes n → (run : Run) → IsRun (LeadsOn way walk) g valid first rest tail run → IsRun (λ set w. HasCome n.automaton w walk) g valid first rest tail run
  run_nodes n is run h = subst (λ (x : Way). IsRun (LeadsOn x walk) g valid first rest tail run) is h

  pub read_tables : (t : LexTables) → way ≡ Tables t → (read : Read) → IsReadOn (λ set w. HasRead t.machine w set) g valid first rest tail read → IsReadOn (LeadsOn way walk) g valid first rest tail read
  read_tables t is read h = subst (λ (x : Way). IsReadOn (LeadsOn x walk) g valid first rest tail read) (sym is) h

  pub read_nodes : (n : LexNodes) → way ≡ Nodes n → (read : Read) → IsReadOn (λ set w. HasCome n.automaton w walk) g valid first rest tail read → IsReadOn (LeadsOn way walk) g valid first rest tail read
  read_nodes n is read h = subst (λ (x : Way). IsReadOn (LeadsOn x walk) g valid first rest tail read) (sym is) h

-- nothing has been read
pub leads_tables : (way : Way) (t : LexTables) → way ≡ Tables t → (walk : Walk) (set : ℕ) (w : List ℕ) → HasRead t.machine w set → LeadsOn way walk set w
leads_tables way t is walk set w h = subst (λ (x : Way). LeadsOn x walk set w) (sym is) h

pub leads_nodes : (way : Way) (n : LexNodes) → way ≡ Nodes n → (walk : Walk) (set : ℕ) (w : List ℕ) → HasCome n.automaton w walk → LeadsOn way walk set w
leads_nodes way n is walk set w h = subst (λ (x : Way). LeadsOn x walk set w) (sym is) h

pub first_tables : (way : Way) (t : LexTables) → way ≡ Tables t → (set : ℕ) → set < state_count t.machine → IsSetOn way set
first_tables way t is set h = subst (λ (w : Way). IsSetOn w set) (sym is) h

pub first_nodes : (way : Way) (n : LexNodes) → way ≡ Nodes n → (set : ℕ) → IsSetOn way set
first_nodes way n is set = subst (λ (w : Way). IsSetOn w set) (sym is) tt

-- what a reading that ended says, and one that is open
pub ended : (R : ℕ → List ℕ → Type 0) (g : FlatGrammar) (valid : List Symbol) (first : Bool) (rest tail : Bytes) (read : Read) (r : Run) → read ≡ Ended r → IsReadOn R g valid first rest tail read → IsAll g valid first rest r.progress r.size
ended R g valid first rest tail read r is h = subst (λ (x : Read). IsReadOn R g valid first rest tail x) is h

pub opened : (R : ℕ → List ℕ → Type 0) (g : FlatGrammar) (valid : List Symbol) (first : Bool) (rest tail : Bytes) (read : Read) (r : Run) → read ≡ Open r → IsReadOn R g valid first rest tail read → IsRun R g valid first rest tail r
opened R g valid first rest tail read r is h = subst (λ (x : Read). IsReadOn R g valid first rest tail x) is h

pub if_open : (P : Run → Type 0) (read : Read) (r : Run) → read ≡ Open r → IfOpen read P → P r
if_open P read r is h = subst (λ (x : Read). IfOpen x P) is h
