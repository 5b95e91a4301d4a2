-- What is known while queries are read one by one. It serves private clauses and proofs alone.
use Rattle.std.specs.Prelude.{◌≡◌, ℕ, ◌<◌, ◌^◌, List, All, length, take, slice_get, Some}
use Rattle.ts_base.specs.Bytes.{Bytes}
use Rattle.ts_core.specs.declared.flat.FlatGrammar.{FlatGrammar}
use Rattle.ts_query_syntax.specs.Queries.{IsQuery}
use Rattle.ts_query_syntax.specs.declared.read_query.ReadQuery.{ReadQuery}
use Rattle.ts_loading.specs.Loads.{GrewByEach}

-- few patterns
abbrev pub HasFew : ReadQuery → Type 0
HasFew q = length q.patterns < 2 ^ 32

-- the first so many texts were read as these queries, and the list grew by their expressions
pub record AreLoadedAs (g : FlatGrammar) (called texts : List Bytes) (count : ℕ)
    (queries : List ReadQuery) (old new : List Bytes) : Type 0 where
  pub count_is : length queries ≡ count
  pub each : (k : ℕ) (text : Bytes) (query : ReadQuery) → slice_get texts k ≡ Some text
      → slice_get queries k ≡ Some query → IsQuery g called text query
  pub few : All HasFew queries
  pub grew : GrewByEach g called (take count texts) old new
