-- The ranks of symbols, and what is known of them while they are counted up.
use Rattle.std.specs.Prelude.{◌≡◌, ℕ, suc, max, if◌then◌else◌, List, length, take, slice_get, Some, unwrap_or}
use Rattle.ts_core.specs.declared.flat.FlatGrammar.{FlatGrammar}
use Rattle.ts_core.specs.declared.flat.Production.{Production}
use Rattle.ts_core.specs.declared.flat.Step.{Step}
use Rattle.spec_grammar.specs.Symbols.{all_productions, symbol_count}
use Rattle.ts_table.specs.Ranks.{is_alone, greatest, unit_height, unit_rank}

-- the ranks of all symbols, by their numbers
pub record AreRanksOf (g : FlatGrammar) (ranks : List ℕ) : Type 0 where
  pub many : length ranks ≡ symbol_count g
  pub each : (symbol rank : ℕ) → slice_get ranks symbol ≡ Some rank → rank ≡ unit_rank g symbol

-- the ranks of all symbols, where no more than so many productions lead up one after another
pub record AreRanksUpTo (g : FlatGrammar) (bound : ℕ) (ranks : List ℕ) : Type 0 where
  pub many : length ranks ≡ symbol_count g
  pub each : (symbol rank : ℕ) → slice_get ranks symbol ≡ Some rank
      → rank ≡ unit_height (all_productions g) bound symbol

-- the rank of a symbol in a list, and 0 past its end
abbrev pub rank_in : List ℕ → ℕ → ℕ
rank_in ranks symbol = unwrap_or (slice_get ranks symbol) 0

-- how far a production leads up from a symbol, where its left side has a rank
abbrev pub led_up : (ℕ → ℕ) → ℕ → ℕ × Production → ℕ
led_up rank symbol p = if is_alone symbol p.1.steps then suc (rank p.0) else 0

-- for each symbol how far one of so many productions leads up from it at the most
pub record AreLedUp (g : FlatGrammar) (rank : ℕ → ℕ) (count : ℕ) (ranks : List ℕ) : Type 0 where
  pub many : length ranks ≡ symbol_count g
  pub each : (symbol found : ℕ) → slice_get ranks symbol ≡ Some found
      → found ≡ greatest (led_up rank symbol) (take count (all_productions g))

-- a symbol that these steps are alone has at least this rank now, and all else is as before
pub record Raises (steps : List Step) (rank : ℕ) (old new : List ℕ) : Type 0 where
  pub many : length new ≡ length old
  pub each : (symbol before : ℕ) → slice_get old symbol ≡ Some before
      → slice_get new symbol ≡ Some (max before (if is_alone symbol steps then rank else 0))
