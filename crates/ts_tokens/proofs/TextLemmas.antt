-- The characters of a text, and the words of the one token of a grammar.
use Rattle.std.proofs.Common.{◌≡◌, sym, ap, subst, refl, ℕ, zero, suc, List, [], ◌∷◌, map, length, slice_get, Some, ◌↔◌, arith}
use Rattle.std.specs.List.{Contains}
use Rattle.std.proofs.lemmas.Option.{slice_get_within}
use Rattle.spec_lexing.specs.Words.{Regular, Word}
use Rattle.ts_automata.specs.declared.automaton.Automaton.{Automaton}
use Rattle.ts_automata.specs.declared.node.Node.TheVariants.{End}
use Rattle.ts_automata.specs.declared.walk.Walk.{Walk}
use Rattle.ts_automata.specs.Parts.{IsPart}
use Rattle.ts_automata.specs.Reads.{LeadsOver}
use Rattle.ts_automata.specs.Walks.{HasCome, walk_nodes}
use Rattle.ts_tokens.specs.Keywords.{IsWordAutomaton, HasEnd}

pub map_same : (xs : List ℕ) → map (λ (x : ℕ). x) xs ≡ xs
map_same [] = refl
map_same (x ∷ xs) = ap (λ (ys : List ℕ). x ∷ ys) (map_same xs)

-- the one entry of a list as long as a list of one
entry_of : {X : Type 0} (entries : List ℕ) (x : X) → length entries ≡ length (x ∷ []) → (e : ℕ) × (entries ≡ e ∷ [])
entry_of [] x same = absurd (omega arith)
entry_of (e ∷ []) x same = (e, refl)
entry_of (e ∷ d ∷ more) x same = absurd (omega arith)

only : (e x : ℕ) → Contains (e ∷ []) x → x ≡ e
only e x (zero, lt, is) = sym is
only e x (suc k, lt, is) = absurd (omega arith)

-- a text is a word exactly where a word ends at one of the nodes to which it leads
pub word_ends : (p : Regular) (a : Automaton) (walk : Walk) (w members : List ℕ) → IsWordAutomaton p a → HasCome a w walk → members ≡ walk_nodes walk → HasEnd a.nodes.items members ↔ Word p w
word_ends p a walk w members made come same = (forward, backward)
  where
    one : (e : ℕ) × (a.entries.items ≡ e ∷ [])
    one = entry_of a.entries.items p made.count

    part : IsPart a.nodes.items (λ (t : ℕ). slice_get a.owners.items t ≡ Some 0) p one.0
    part = made.part 0 one.0 p (ap (λ (xs : List ℕ). slice_get xs 0) one.1) refl

    forward : HasEnd a.nodes.items members → Word p w
    forward h =
        let led = ((come h.node).0 (subst (λ (xs : List ℕ). Contains xs h.node) same h.member)).0 in
        let is : led.0 ≡ one.0 = only one.0 led.0 (subst (λ (xs : List ℕ). Contains xs led.0) one.1 led.1) in
        part.ends w h.node (subst (λ (e : ℕ). LeadsOver a.nodes.items e w h.node) is led.2) h.ends

    backward : Word p w → HasEnd a.nodes.items members
    backward word =
        let end = part.word w word in
        let entry : Contains a.entries.items one.0 = subst (λ (xs : List ℕ). Contains xs one.0) (sym one.1) (0, omega arith, refl) in
        record {
          node = end.0;
          member = subst (λ (xs : List ℕ). Contains xs end.0) (sym same) ((come end.0).1 ((one.0, entry, end.1), slice_get_within a.nodes.items end.0 End end.2));
          ends = end.2;
        }
