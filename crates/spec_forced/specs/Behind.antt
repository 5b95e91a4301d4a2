-- Elements that stand behind a repetition: where it has been made so far, a parser appends them
-- without a choice, whatever stands in it. So some may be appended to another repetition at once.
use Rattle.std.specs.Prelude.{◌≡◌, ℕ, suc, ◌+◌, ◌≤◌, false, List, [], ◌∷◌, ◌++◌, length, reverse, drop, Some}
use Rattle.ts_base.specs.Bytes.{Bytes}
use Rattle.ts_core.specs.declared.flat.FlatGrammar.{FlatGrammar}
use Rattle.ts_core.specs.declared.flat.Production.{Production}
use Rattle.ts_core.specs.declared.symbol.Symbol.{Symbol}
use Rattle.spec_grammar.specs.Symbols.{production_at}
use Rattle.spec_lexing.specs.Lexing.{token}
use Rattle.spec_tables.specs.Actions.{reduce}
use Rattle.spec_trees.specs.declared.tree.Tree.{Tree}
use Rattle.spec_trees.specs.declared.tree.Element.{Element}
use Rattle.spec_trees.specs.declared.tree.Stretch.{Stretch}
use Rattle.spec_trees.specs.Trees.{symbol_of, is_extra_node, all_spans}
use Rattle.spec_trees.specs.Made.{element, Form, of_rule, of_first, of_next, form_of, value_of, EndBy, BeginsFilled}
use Rattle.spec_runs.specs.Configurations.{stack_symbols, AreExtras}
use Rattle.spec_forced.specs.Forced.{IsOnlyMove, IsDecided, StandInTurn}

-- ---- one element

-- A repetition of this symbol has been made after the symbols read, and the rest of the text begins
-- where it ends. Then an element stands behind it: the production of this number appends it by a
-- reduction that is no choice. Its children stand after the repetition, and so do the extras above
-- them that are lifted, the last one first. On the token behind them all the reduction is the only
-- move. So many bytes cover what was examined for all of them, the token among them.
pub record StandsBehind (g : FlatGrammar) (symbol : ℕ) (read : List ℕ) (rest : Bytes)
    (number : ℕ) (children : List Tree) (extent : ℕ) : Type 0 where
  pub production : Production
  pub at : production_at g number ≡ Some (symbol, production)
  pub alternative : ℕ
  pub form : form_of g symbol number ≡ of_next alternative
  pub lifted : List Tree
  pub stand : StandInTurn g (symbol ∷ read) rest (children ++ reverse lifted)
  pub covers : EndBy extent 0 (children ++ reverse lifted)
  pub all_extras : AreExtras lifted
  pub ends : BeginsFilled (reverse children)
  pub count : suc (length (stack_symbols children)) ≡ length production.steps
  pub next : Symbol
  pub pad : ℕ
  pub size : ℕ
  pub ahead : ℕ
  pub seen : IsDecided g (stack_symbols (reverse children) ++ symbol ∷ read)
      (drop (all_spans children + all_spans lifted) rest) (token next pad size) ahead
  pub only : IsOnlyMove g (stack_symbols (reverse children) ++ symbol ∷ read) next.0 (reduce number)
  pub reach : all_spans children + all_spans lifted + ahead ≤ extent

-- the node fills a step, and has this symbol
abbrev pub IsOfSymbol : ℕ → Tree → Type 0
IsOfSymbol symbol t = (symbol_of t ≡ symbol) × (is_extra_node t ≡ false)

-- ---- elements one after another

-- an element that is not the first of its repetition: the number of the production that appends it,
-- its children, and how many bytes were examined for it, from its first byte on
pub record LaterElement : Type 0 where
  pub number : ℕ
  pub children : List Tree
  pub extent : ℕ

-- each of them stands behind the repetition that has those before it
abbrev pub StandBehindInTurn : FlatGrammar → ℕ → List ℕ → Bytes → List LaterElement → Type 0
StandBehindInTurn g symbol read rest [] = Unit {0}
StandBehindInTurn g symbol read rest (e ∷ es) =
    StandsBehind g symbol read rest e.number e.children e.extent
    × StandBehindInTurn g symbol read (drop (all_spans e.children) rest) es

-- the examined ranges of elements that stand one after another from a place on end by another
abbrev pub ElementsEndBy : ℕ → ℕ → List LaterElement → Type 0
ElementsEndBy end place [] = Unit {0}
ElementsEndBy end place (e ∷ es) =
    (place + e.extent ≤ end) × ElementsEndBy end (place + all_spans e.children) es

-- ---- the stretch that they become

-- the alternative of an element
abbrev pub alternative_of : Form → ℕ
alternative_of of_rule = 0
alternative_of (of_first alternative) = alternative
alternative_of (of_next alternative) = alternative

-- the elements of a repetition's node that they become
abbrev pub added_elements : FlatGrammar → ℕ → List LaterElement → List Element
added_elements g symbol [] = []
added_elements g symbol (e ∷ es) =
    element (alternative_of (form_of g symbol e.number)) (length e.children) (value_of g e.number)
    e.extent
    ∷ added_elements g symbol es

-- the children of all of them
abbrev pub added_children : List LaterElement → List Tree
added_children [] = []
added_children (e ∷ es) = e.children ++ added_children es

-- both together
abbrev pub added : FlatGrammar → ℕ → List LaterElement → Stretch
added g symbol es = record {
  elements = added_elements g symbol es;
  children = added_children es;
}
