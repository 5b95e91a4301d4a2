-- What a text is as a query of a grammar and a host, and why it is none.
use Rattle.std.specs.Prelude.{◌≡◌, ℕ, ◌+◌, List, [], ◌∷◌, ◌++◌, map, take, slice_get, Some, None, ◌⊎◌, ⊤}
use Rattle.ts_base.specs.Bytes.{Bytes}
use Rattle.ts_core.specs.declared.flat.FlatGrammar.{FlatGrammar}
use Rattle.ts_query_tree.specs.declared.fault.TreeFault.{TreeFault}
use Rattle.ts_query_tree.specs.declared.fault.TreeFault.TheVariants as tree
use Rattle.ts_query_names.specs.declared.flaw.Flaw.{Flaw}
use Rattle.ts_query_names.specs.declared.flaw.Flaw.TheVariants as flaw
use Rattle.ts_query_tree.specs.declared.tree.Written.{Written}
use Rattle.ts_query_tree.specs.declared.tree.Operand.{Operand}
use Rattle.ts_query_tree.specs.declared.tree.Part.{Part}
use Rattle.ts_query_tree.specs.Reads.{Reads, IsFault}
use Rattle.ts_query_names.specs.declared.asking.Asking.{Asking}
use Rattle.ts_query_syntax.specs.declared.fault.QueryFault.{QueryFault}
use Rattle.ts_query_syntax.specs.declared.fault.QueryFault.TheVariants as fault
use Rattle.ts_query_names.specs.Asking.{AskedForm, text, pair, one_of, found, host, asking_of, form_of_operands}
use Rattle.ts_query_names.specs.Checks.{checks, first_wrong, built, sources_of}
use Rattle.ts_query_names.specs.Kinds.{first_sights, kind_eq}
use Rattle.ts_query_names.specs.Mentions.{Mention, kind, field, capture, predicate, nested, KindName, mentioned_by, named_in, any_captures, kinds_named}
use Rattle.ts_query_syntax.specs.declared.read_query.Asked.{Asked}
use Rattle.ts_query_syntax.specs.declared.read_query.Asked.TheVariants as asked
use Rattle.ts_query_syntax.specs.declared.read_query.Predicate.{Predicate}
use Rattle.ts_query_syntax.specs.declared.read_query.Pattern.{Pattern}
use Rattle.ts_query_syntax.specs.declared.read_query.QueryKind.{QueryKind}
use Rattle.ts_query_syntax.specs.declared.read_query.ReadQuery.{ReadQuery}
use Rattle.regex.specs.declared.string.regex.Regex.{Regex}
use Rattle.std.specs.Str.{bytes_eq}
use Rattle.ts_query_names.specs.Numbers.{Names, capture_number}
use Rattle.ts_query_syntax.specs.Items.{pieces, items_of, is_closed}
use Rattle.ts_query_syntax.specs.Refusals.{IsBuiltFrom}

-- the most bytes of a query's text
abbrev pub most_query_bytes : ℕ
most_query_bytes = 65536

-- ---- predicates

-- the texts of what is written
abbrev pub written_texts : List Written → List Bytes
written_texts = map (λ (w : Written). w.text)

-- what a form asks: an expression is the one that was built of its text
abbrev pub AsksFor : Names → AskedForm → Asked → Type 0
AsksFor names (text first written) a = a ≡ asked.Text written.text
AsksFor names (pair first other) a = a ≡ asked.Capture (capture_number names other.text)
AsksFor names (one_of first all) a = a ≡ asked.OneOf (written_texts all)
AsksFor names (found first written) a =
    (search : Regex) × (a ≡ asked.Found search) × IsBuiltFrom written.text search
AsksFor names (host first place) a = a ≡ asked.Host place

-- the capture whose texts a form asks for
abbrev pub subject : AskedForm → Written
subject (text first written) = first
subject (pair first other) = first
subject (one_of first all) = first
subject (found first written) = first
subject (host first place) = first

-- a predicate as it is written, of a name that is known and operands of its form
pub record IsPredicate (hosts : List Bytes) (names : Names) (name : Written)
    (operands : List Operand) (p : Predicate) : Type 0 where
  pub asking : Asking
  pub form : AskedForm
  pub known : asking_of hosts name.text ≡ Some asking
  pub formed : form_of_operands asking.relation operands ≡ Some form
  pub capture : p.capture ≡ capture_number names (subject form).text
  pub asked : AsksFor names form p.asked
  pub negated : p.negated ≡ asking.negated
  pub some : p.some ≡ asking.some

-- the predicates that a pattern names, in order
abbrev pub ArePredicates : List Bytes → Names → List Mention → List Predicate → Type 0
ArePredicates hosts names [] ps = ps ≡ []
ArePredicates hosts names (kind name named ∷ rest) ps = ArePredicates hosts names rest ps
ArePredicates hosts names (field name ∷ rest) ps = ArePredicates hosts names rest ps
ArePredicates hosts names (capture name ∷ rest) ps = ArePredicates hosts names rest ps
ArePredicates hosts names (nested at ∷ rest) ps = ArePredicates hosts names rest ps
ArePredicates hosts names (predicate name operands ∷ rest) ps =
    (p : Predicate) × (more : List Predicate) × (ps ≡ p ∷ more)
    × IsPredicate hosts names name operands p × ArePredicates hosts names rest more

-- a list of predicates, with that of a mention behind them, where it is one
abbrev pub AddsPredicates : List Bytes → Names → Mention → List Predicate → List Predicate → Type 0
AddsPredicates hosts names m old new =
    (ps : List Predicate) × (new ≡ old ++ ps) × ArePredicates hosts names (m ∷ []) ps

-- ---- patterns

-- A pattern, of the part that it is written as. Its predicates are those that stand anywhere in it.
pub record IsPattern (hosts : List Bytes) (names : Names) (part : Part) (p : Pattern) : Type 0 where
  pub items : p.items ≡ items_of (pieces names part)
  pub closed : p.closed ≡ is_closed (pieces names part)
  pub predicates : ArePredicates hosts names (mentioned_by part) p.predicates

-- one pattern for each part
abbrev pub ArePatterns : List Bytes → Names → List Part → List Pattern → Type 0
ArePatterns hosts names [] ps = ps ≡ []
ArePatterns hosts names (part ∷ rest) ps =
    (p : Pattern) × (more : List Pattern) × (ps ≡ p ∷ more)
    × IsPattern hosts names part p × ArePatterns hosts names rest more

-- ---- queries

-- The names of a query by their numbers: its kinds and captures in the order of their first sight,
-- and the fields in the order of its grammar.
abbrev pub names_of : FlatGrammar → List Part → Names
names_of g parts = record {
  kinds = first_sights kind_eq (kinds_named (named_in parts));
  captures = first_sights bytes_eq (any_captures (named_in parts));
  fields = g.fields;
}

-- the name of a kind of a query, and whether it is named
abbrev pub kind_name : QueryKind → KindName
kind_name k = (k.name, k.named)

-- the query that parts are by their names, whether or not they have a fault
pub record IsNumbered (g : FlatGrammar) (hosts : List Bytes) (parts : List Part) (q : ReadQuery)
    : Type 0 where
  pub patterns : ArePatterns hosts (names_of g parts) parts q.patterns
  pub captures : q.captures ≡ (names_of g parts).captures
  pub kinds : map kind_name q.kinds ≡ (names_of g parts).kinds

-- the query that parts are, none of which has a fault
pub record IsQueryOf (g : FlatGrammar) (hosts : List Bytes) (parts : List Part) (q : ReadQuery)
    : Type 0 where
  pub right : first_wrong (checks g hosts parts) ≡ None
  pub patterns : ArePatterns hosts (names_of g parts) parts q.patterns
  pub captures : q.captures ≡ (names_of g parts).captures
  pub kinds : map kind_name q.kinds ≡ (names_of g parts).kinds

-- the query that a text is
pub record IsQuery (g : FlatGrammar) (hosts : List Bytes) (w : Bytes) (q : ReadQuery) : Type 0 where
  pub parts : List Part
  pub reads : Reads w parts
  pub is : IsQueryOf g hosts parts q

-- ---- faults

-- a fault of a text that is no query of any grammar
abbrev pub tree_fault : TreeFault → QueryFault
tree_fault (tree.Syntax at) = fault.Syntax at
tree_fault (tree.Deep at) = fault.Deep at
tree_fault tree.Memory = fault.Memory

-- the text is read as parts whose first fault is this one
abbrev pub IsFirst : FlatGrammar → List Bytes → Bytes → Flaw → Type 0
IsFirst g hosts w f =
    (parts : List Part) × Reads w parts × (first_wrong (checks g hosts parts) ≡ Some f)

-- an expression that is built stands in the string at this place
abbrev pub IsBuiltAt : FlatGrammar → List Bytes → Bytes → ℕ → Type 0
IsBuiltAt g hosts w at =
    (parts : List Part) × (n : ℕ) × (written : Written) × Reads w parts
    × (slice_get (built (checks g hosts parts)) n ≡ Some written) × (written.at ≡ at)

-- The cause of each refusal. That an expression is refused is for the patterns to say, and running
-- out of memory has no cause.
abbrev pub IsQueryFault : FlatGrammar → List Bytes → Bytes → QueryFault → Type 0
IsQueryFault g hosts w (fault.Syntax at) = IsFault w (tree.Syntax at)
IsQueryFault g hosts w (fault.Deep at) = IsFault w (tree.Deep at)
IsQueryFault g hosts w (fault.UnknownNode at) = IsFirst g hosts w (flaw.UnknownNode at)
IsQueryFault g hosts w (fault.UnknownField at) = IsFirst g hosts w (flaw.UnknownField at)
IsQueryFault g hosts w (fault.UnknownCapture at) = IsFirst g hosts w (flaw.UnknownCapture at)
IsQueryFault g hosts w (fault.UnknownPredicate at) =
    IsFirst g hosts w (flaw.UnknownPredicate at)
IsQueryFault g hosts w (fault.NestedQuantifier at) =
    IsFirst g hosts w (flaw.NestedQuantifier at)
IsQueryFault g hosts w (fault.Regex at) = IsBuiltAt g hosts w at
IsQueryFault g hosts w fault.Memory = ⊤

-- the fault is that an expression was refused
abbrev pub IsRegex : QueryFault → Type 0
IsRegex f = (at : ℕ) × (f ≡ fault.Regex at)

-- ---- expressions that are built

-- the texts of the expressions that are built of parts
abbrev pub built_sources : FlatGrammar → List Bytes → List Part → List Bytes
built_sources g hosts parts = sources_of (built (checks g hosts parts))

-- The list grew by the texts of all expressions that are built, in their order.
abbrev pub GrewByAll : FlatGrammar → List Bytes → Bytes → List Bytes → List Bytes → Type 0
GrewByAll g hosts w old new =
    (parts : List Part) × Reads w parts × (new ≡ old ++ built_sources g hosts parts)

-- It grew by some first ones.
abbrev pub GrewBySome : FlatGrammar → List Bytes → Bytes → List Bytes → List Bytes → Type 0
GrewBySome g hosts w old new =
    (new ≡ old) ⊎ ((parts : List Part) × (n : ℕ) × Reads w parts
    × (new ≡ old ++ take n (built_sources g hosts parts)))

-- It grew by the first ones up to that of the string at this place, which is the last one now.
abbrev pub GrewUpTo : FlatGrammar → List Bytes → Bytes → ℕ → List Bytes → List Bytes → Type 0
GrewUpTo g hosts w at old new =
    (parts : List Part) × (n : ℕ) × (written : Written) × Reads w parts
    × (slice_get (built (checks g hosts parts)) n ≡ Some written) × (written.at ≡ at)
    × (new ≡ old ++ take (n + 1) (built_sources g hosts parts))

-- By how much the list of texts grew with a fault: by all expressions before it. Where the text is
-- no query of any grammar none is built.
abbrev pub GrewWith : FlatGrammar → List Bytes → Bytes → List Bytes → List Bytes → QueryFault
    → Type 0
GrewWith g hosts w old new (fault.Syntax at) = new ≡ old
GrewWith g hosts w old new (fault.Deep at) = new ≡ old
GrewWith g hosts w old new (fault.UnknownNode at) = GrewByAll g hosts w old new
GrewWith g hosts w old new (fault.UnknownField at) = GrewByAll g hosts w old new
GrewWith g hosts w old new (fault.UnknownCapture at) = GrewByAll g hosts w old new
GrewWith g hosts w old new (fault.UnknownPredicate at) = GrewByAll g hosts w old new
GrewWith g hosts w old new (fault.NestedQuantifier at) = GrewByAll g hosts w old new
GrewWith g hosts w old new (fault.Regex at) = GrewUpTo g hosts w at old new
GrewWith g hosts w old new fault.Memory = GrewBySome g hosts w old new
