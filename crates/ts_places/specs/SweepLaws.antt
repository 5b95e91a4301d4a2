-- The laws of other crates that the proofs of all reductions of a place rest on.
use Rattle.std.specs.Prelude.{◌≡◌, ℕ, ◌+◌, ◌<◌, ◌≤◌, suc, List, [], Some}
use Rattle.ts_core.specs.declared.flat.FlatGrammar.{FlatGrammar}
use Rattle.ts_core.specs.declared.flat.Production.{Production}
use Rattle.spec_grammar.specs.Symbols.{production_at}
use Rattle.spec_tables.specs.Actions.{Act, reduce}
use Rattle.spec_tables.specs.Fit.{Fit}
use Rattle.spec_graph.specs.declared.graph.Head.{Head}
use Rattle.spec_graph.specs.declared.graph.Link.{Link}
use Rattle.spec_graph.specs.States.{AreStates, AreRanks}
use Rattle.spec_graph.specs.Laying.{Parsing}
use Rattle.spec_graph.specs.Grounded.{IsGrounded}
use Rattle.spec_graph.specs.Keys.{Key, IsNextKey}
use Rattle.spec_graph.specs.Links.{IsGraph, IsWholeTo, HasNoneDue, AreDone, HasGrown, AreAdded}

-- For proofs alone: laws of keys at one place, and that nothing is reduced to an empty rule behind
-- a symbol.
pub record KeyLaws : Type 0 where
  pub on : (P : Parsing) → Fit P.grammar → AreStates P.grammar P.goto → IsGrounded P
      → (rank : ℕ → ℕ) (most : ℕ) → AreRanks P.grammar rank most
      → (heads : List Head) (links : List Link) (heads' : List Head) (links' : List Link)
      (k m : Key) → IsGraph P heads links
      → IsWholeTo P rank heads links k → AreDone P rank heads links heads' links' k
      → HasGrown P heads links heads' links' → AreAdded P rank heads heads' links' m
      → IsNextKey most k m → k.look ≡ m.look → IsWholeTo P rank heads' links' m
  pub ranks : (P : Parsing) → Fit P.grammar → AreStates P.grammar P.goto → IsGrounded P
      → (rank : ℕ → ℕ) (most : ℕ) → AreRanks P.grammar rank most
      → (heads : List Head) (links : List Link) → IsGraph P heads links
      → (n look begins r : ℕ) → IsWholeTo P rank heads links
      (record { look = look; begins = begins; rank = n + r })
      → ((i : ℕ) → r < i → i ≤ n + r → HasNoneDue P rank heads links
      (record { look = look; begins = begins; rank = i }))
      → IsWholeTo P rank heads links (record { look = look; begins = begins; rank = r })
  pub starts : (P : Parsing) → Fit P.grammar → AreStates P.grammar P.goto → IsGrounded P
      → (rank : ℕ → ℕ) (most : ℕ) → AreRanks P.grammar rank most
      → (heads : List Head) (links : List Link) → IsGraph P heads links
      → (n look begins : ℕ) → IsWholeTo P rank heads links
      (record { look = look; begins = n + begins; rank = most })
      → ((b i : ℕ) → begins < b → b ≤ n + begins → i ≤ most → HasNoneDue P rank heads links
      (record { look = look; begins = b; rank = i }))
      → IsWholeTo P rank heads links (record { look = look; begins = begins; rank = most })
  pub rank : (most look begins rank : ℕ) → IsNextKey most
      (record { look = look; begins = begins; rank = suc rank })
      (record { look = look; begins = begins; rank = rank })
  pub start : (most look begins : ℕ) → IsNextKey most
      (record { look = look; begins = suc begins; rank = 0 })
      (record { look = look; begins = begins; rank = most })
  pub nothing : (g : FlatGrammar) → Fit g → (read : List ℕ) (token number left : ℕ)
      (p : Production) → Act g read token (reduce number)
      → production_at g number ≡ Some (left, p) → p.steps ≡ [] → read ≡ []
