-- What the texts of queries come to, by a grammar and the names of a host's predicates.
use Rattle.std.specs.Prelude.{◌≡◌, ◌≢◌, ℕ, ◌<◌, List, [], ◌∷◌, length, take, slice_get, Some, None}
use Rattle.ts_base.specs.Bytes.{Bytes}
use Rattle.ts_core.specs.declared.flat.FlatGrammar.{FlatGrammar}
use Rattle.ts_query_tree.specs.declared.tree.Part.{Part}
use Rattle.ts_query_tree.specs.Reads.{Reads}
use Rattle.ts_query_names.specs.Checks.{checks, first_wrong}
use Rattle.ts_query_syntax.specs.Queries.{IsQuery, IsQueryFault, IsRegex, GrewByAll, GrewUpTo}
use Rattle.ts_query_syntax.specs.declared.fault.QueryFault.{QueryFault}
use Rattle.ts_query_syntax.specs.declared.fault.QueryFault.TheVariants as fault
use Rattle.ts_query_syntax.specs.declared.read_query.ReadQuery.{ReadQuery}
use Rattle.ts_loading.specs.declared.fault.LoadFault.{LoadFault}
use Rattle.ts_loading.specs.declared.fault.LoadFault.TheVariants as load

-- ---- queries

-- The queries of these texts, one for each.
pub record AreQueries (g : FlatGrammar) (called texts : List Bytes) (queries : List ReadQuery)
    : Type 0 where
  pub count : length queries ≡ length texts
  pub each : (number : ℕ) (text : Bytes) (query : ReadQuery) → slice_get texts number ≡ Some text
      → slice_get queries number ≡ Some query → IsQuery g called text query

-- No part of the text has a fault. Whether its expressions are built is not asked.
abbrev pub HasNoFault : FlatGrammar → List Bytes → Bytes → Type 0
HasNoFault g called w =
    (parts : List Part) × Reads w parts × (first_wrong (checks g called parts) ≡ None)

-- none of the texts has a fault
abbrev pub HaveNoFaults : FlatGrammar → List Bytes → List Bytes → Type 0
HaveNoFaults g called texts = (number : ℕ) (text : Bytes) → slice_get texts number ≡ Some text
    → HasNoFault g called text

-- ---- faults

-- A fault that a text decides: whether an expression is built is for others to say, and running out
-- of memory is no fault of a text.
pub record IsOfText (f : QueryFault) : Type 0 where
  pub no_memory : f ≢ fault.Memory
  pub no_regex : IsRegex f → ⊥

-- the first of the texts that has a fault is that of this number, and this is its fault
pub record IsFirstFault (g : FlatGrammar) (called texts : List Bytes) (number : ℕ) (f : QueryFault)
    : Type 0 where
  pub text : Bytes
  pub text_is : slice_get texts number ≡ Some text
  pub of_text : IsOfText f
  pub fault_is : IsQueryFault g called text f
  pub before : (k : ℕ) (other : Bytes) → k < number → slice_get texts k ≡ Some other
      → HasNoFault g called other

-- ---- expressions that are built

-- the list grew by the texts of all expressions in these queries, in their order
abbrev pub GrewByEach : FlatGrammar → List Bytes → List Bytes → List Bytes → List Bytes → Type 0
GrewByEach g called [] old new = new ≡ old
GrewByEach g called (w ∷ ws) old new =
    (mid : List Bytes) × GrewByAll g called w old mid × GrewByEach g called ws mid new

-- The expression at this place of the text of this number was refused. The texts before have no
-- fault; the list grew by all their expressions, and then by those of this text up to the one at
-- the place, which is the last one now.
pub record IsRegexAt (g : FlatGrammar) (called texts : List Bytes) (number at : ℕ)
    (old new : List Bytes) : Type 0 where
  pub text : Bytes
  pub text_is : slice_get texts number ≡ Some text
  pub before : (k : ℕ) (other : Bytes) → k < number → slice_get texts k ≡ Some other
      → HasNoFault g called other
  pub mid : List Bytes
  pub grew_before : GrewByEach g called (take number texts) old mid
  pub grew : GrewUpTo g called text at mid new

-- ---- why queries are not loaded

-- Why the text of this number is refused: it has the first fault; or an expression in it was
-- refused, and then the count of refusals rose.
pub data IsCause (g : FlatGrammar) (called texts : List Bytes) (rose : Type 0)
    (old new : List Bytes) (number : ℕ) : QueryFault → Type 0 where
  of_text : (f : QueryFault) → IsFirstFault g called texts number f
      → IsCause g called texts rose old new number f
  of_patterns : (at : ℕ) → rose → IsRegexAt g called texts number at old new
      → IsCause g called texts rose old new number (fault.Regex at)

-- the same of what is told; running out of memory has no cause
abbrev pub HasLoadCause : FlatGrammar → List Bytes → List Bytes → Type 0 → List Bytes → List Bytes
    → LoadFault → Type 0
HasLoadCause g called texts rose old new (load.Query number f) =
    IsCause g called texts rose old new number f
HasLoadCause g called texts rose old new load.Memory = Unit {0}

-- what is told where the query of this number has this fault
abbrev pub load_fault : ℕ → QueryFault → LoadFault
load_fault number (fault.Syntax at) = load.Query number (fault.Syntax at)
load_fault number (fault.Deep at) = load.Query number (fault.Deep at)
load_fault number (fault.UnknownNode at) = load.Query number (fault.UnknownNode at)
load_fault number (fault.UnknownField at) = load.Query number (fault.UnknownField at)
load_fault number (fault.UnknownCapture at) = load.Query number (fault.UnknownCapture at)
load_fault number (fault.UnknownPredicate at) = load.Query number (fault.UnknownPredicate at)
load_fault number (fault.NestedQuantifier at) = load.Query number (fault.NestedQuantifier at)
load_fault number (fault.Regex at) = load.Query number (fault.Regex at)
load_fault number fault.Memory = load.Memory
