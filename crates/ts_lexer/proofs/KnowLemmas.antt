-- What the nodes of a set say of the characters that led to them.
use Rattle.std.proofs.Common.{◌≡◌, ◌∙◌, sym, ap, refl, subst, ℕ, zero, suc, ◌<◌, Bool, true, false, List, [], ◌∷◌, length, slice_get, Option, Some, None, ◌↔◌, arith}
use Rattle.std.specs.List.{Contains}
use Rattle.std.proofs.lemmas.Option.{slice_get_within, slice_get-get_or, get_or_from_slice_get}
use Rattle.ts_core.specs.declared.flat.FlatGrammar.{FlatGrammar}
use Rattle.ts_core.specs.declared.symbol.Symbol.{Symbol}
use Rattle.spec_lexing.specs.Words.{Regular}
use Rattle.ts_automata.specs.declared.automaton.Automaton.{Automaton}
use Rattle.ts_automata.specs.declared.tables.SetTables.{SetTables}
use Rattle.ts_automata.specs.declared.walk.Walk.{Walk}
use Rattle.ts_automata.specs.After.{LeadsToNode}
use Rattle.ts_automata.specs.Walks.{HasCome, walk_nodes}
use Rattle.ts_automata.specs.Sets.{sets_of}
use Rattle.ts_automata.specs.Parts.{IsPart}
use Rattle.ts_automata.specs.Automata.{parts_of, IsAutomaton}
use Rattle.ts_automata.specs.Machine.{HasRead}
use Rattle.ts_lexer.specs.declared.verdict.Verdict.{Verdict}
use Rattle.ts_lexer.specs.Ahead.{AreVerdicts}
use Rattle.ts_lexer.specs.Judged.{IsPick, JudgesNodes, Knows, PartWord, PartFront, EndsIn, LivesIn}

find : {X : Type 0} (xs : List X) (k : ℕ) → k < length xs → (x : X) × (slice_get xs k ≡ Some x)
find [] k lt = absurd (omega arith)
find (x ∷ xs) zero lt = (x, refl)
find (x ∷ xs) (suc k) lt = find xs k (omega arith)

-- the members of a set are the nodes to which the characters lead, of those that there are
module _ (g : FlatGrammar) (a : Automaton) (is : IsAutomaton g a) (w : List ℕ) (members : List ℕ) (comes : (t : ℕ) → Contains members t → LeadsToNode a.nodes.items a.entries.items w t)
    (held : (t : ℕ) → LeadsToNode a.nodes.items a.entries.items w t → t < length a.nodes.items → Contains members t) where
  -- a node of the set belongs to a part that can begin so
  record From (t : ℕ) : Type 0 where
    part : ℕ
    expression : Regular
    there : slice_get (parts_of g) part ≡ Some expression
    entry : ℕ
    of_part : IsPart a.nodes.items (λ t. slice_get a.owners.items t ≡ Some part) expression entry
    leads : Rattle.ts_automata.specs.Reads.LeadsOver a.nodes.items entry w t

  from : (t : ℕ) → Contains members t → From t
  from t h =
      let c = comes t h in
      let k = c.1.0 in
      let entry_at : slice_get a.entries.items k ≡ Some c.0 = slice_get-get_or a.entries.items k c.0 c.1.1 ∙ ap (λ (x : ℕ). Some x) c.1.2 in
      let count = is.count in
      let lt = c.1.1 in
      let p = find (parts_of g) k (omega arith) in
      record { part = k; expression = p.0; there = p.1; entry = c.0; of_part = is.part k c.0 p.0 entry_at p.1; leads = c.2 }

  -- where a part leads, the set has the node
  into : (k : ℕ) (p : Regular) → slice_get (parts_of g) k ≡ Some p → (e : ℕ) × (slice_get a.entries.items k ≡ Some e) × IsPart a.nodes.items (λ t. slice_get a.owners.items t ≡ Some k) p e
  into k p there =
      let lt = slice_get_within (parts_of g) k p there in
      let count = is.count in
      let e = find a.entries.items k (omega arith) in
      (e.0, e.1, is.part k e.0 p e.1 there)

  has : (e k t j : ℕ) → slice_get a.entries.items k ≡ Some e → Rattle.ts_automata.specs.Reads.LeadsOver a.nodes.items e w t → slice_get a.owners.items t ≡ Some j → Contains members t
  has e k t j entry leads owner =
      let owned = is.owned in
      let lt = slice_get_within a.owners.items t j owner in
      held t (e, (k, slice_get_within a.entries.items k e entry, get_or_from_slice_get a.entries.items k e e entry), leads) (omega arith)

  owner_is : (t k j : ℕ) → slice_get a.owners.items t ≡ Some k → slice_get a.owners.items t ≡ Some j → j ≡ k
  owner_is t k j a b = let e : Some j ≡ Some k = sym b ∙ a in cc

  ends_same : (k : ℕ) → EndsIn a.nodes.items a.owners.items members k ↔ PartWord g w k
  ends_same k = (
    (λ x.
        let f = from x.node x.there in
        let same = owner_is x.node k f.part x.owner (f.of_part.own w x.node f.leads) in
        record { expression = f.expression; at = ap (λ (i : ℕ). slice_get (parts_of g) i) (sym same) ∙ f.there; word = f.of_part.ends w x.node f.leads x.end }),
    (λ x.
        let i = into k x.expression x.at in
        let t = i.2.word w x.word in
        record { node = t.0; there = has i.0 k t.0 k i.1 t.1 (i.2.own w t.0 t.1); owner = i.2.own w t.0 t.1; end = t.2 }),
  )

  lives_same : (k : ℕ) → LivesIn a.owners.items members k ↔ PartFront g w k
  lives_same k = (
    (λ x.
        let f = from x.node x.there in
        let same = owner_is x.node k f.part x.owner (f.of_part.own w x.node f.leads) in
        record { expression = f.expression; at = ap (λ (i : ℕ). slice_get (parts_of g) i) (sym same) ∙ f.there; front = f.of_part.leads w x.node f.leads }),
    (λ x.
        let i = into k x.expression x.at in
        let t = i.2.front w x.front in
        record { node = t.0; there = has i.0 k t.0 k i.1 t.1 (i.2.own w t.0 t.1); owner = i.2.own w t.0 t.1 }),
  )

  pub members_know : (valid : List Symbol) (first : Bool) (v : Verdict) → JudgesNodes g valid first a members v → Knows g valid first w v
  members_know valid first v j = record {
    plain = same_pick false v.plain j.plain;
    keyword = same_pick true v.keyword j.keyword;
    word = ((λ x. let y = j.word.0 x in (y.0, y.1, (ends_same y.0).0 y.2)), (λ y. j.word.1 (y.0, y.1, (ends_same y.0).1 y.2)));
    separator = ((λ x. let y = j.separator.0 x in (y.0, y.1, (ends_same y.0).0 y.2)), (λ y. j.separator.1 (y.0, y.1, (ends_same y.0).1 y.2)));
    lives = ((λ x. let y = j.lives.0 x in (y.0, y.1, (lives_same y.0).0 y.2)), (λ y. j.lives.1 (y.0, y.1, (lives_same y.0).1 y.2)));
  }
    where
      same_pick : (keyword : Bool) (pick : Option Symbol) → IsPick g valid first keyword (EndsIn a.nodes.items a.owners.items members) pick → IsPick g valid first keyword (PartWord g w) pick
      same_pick keyword None h = λ k s t o e. h k s t o ((ends_same k).1 e)
      same_pick keyword (Some s) h = record {
        part = h.part;
        token = h.token;
        offered = h.offered;
        ends = (ends_same h.part).0 h.ends;
        best = λ k s t o e. h.best k s t o ((ends_same k).1 e);
      }

-- what a machine's set says, once it has been reached
pub knows : (g : FlatGrammar) (m : SetTables) → IsAutomaton g m.automaton → (w : List ℕ) (n : ℕ) → HasRead m w n → (members : List ℕ) → slice_get (sets_of m.sets.keys) n ≡ Some members
    → (valid : List Symbol) (first : Bool) (v : Verdict) → JudgesNodes g valid first m.automaton members v → Knows g valid first w v
knows g m is w n read members at = members_know g m.automaton is w members
    (λ t h. (read.holds t).0 (subst (λ (l : List ℕ). Contains l t) (sym same) h))
    (λ t c lt. subst (λ (l : List ℕ). Contains l t) same ((read.holds t).1 c))
  where
    same : read.set ≡ members
    same = let e : Some read.set ≡ Some members = sym read.at ∙ at in cc

-- the nodes of a set that has been reached are at the end of just the parts that have the
-- characters
ends_read : (g : FlatGrammar) (m : SetTables) → IsAutomaton g m.automaton → (w : List ℕ) (n : ℕ) → (read : HasRead m w n)
    → (k : ℕ) → EndsIn m.automaton.nodes.items m.automaton.owners.items read.set k ↔ PartWord g w k
ends_read g m is w n read k = ends_same g m.automaton is w read.set (λ t h. (read.holds t).0 h) (λ t c lt. (read.holds t).1 c) k

-- characters that lead to the same set are words of the same parts
pub same_words : (g : FlatGrammar) (m : SetTables) → IsAutomaton g m.automaton → (u w : List ℕ) (n : ℕ) → HasRead m u n → HasRead m w n → (k : ℕ) → PartWord g u k → PartWord g w k
same_words g m is u w n a b k x =
    let e : Some a.set ≡ Some b.set = sym a.at ∙ b.at in
    let same : a.set ≡ b.set = cc in
    (ends_read g m is w n b k).0 (subst (λ (l : List ℕ). EndsIn m.automaton.nodes.items m.automaton.owners.items l k) same ((ends_read g m is u n a k).1 x))

-- what the nodes of a walk say, where it has come
pub walk_knows : (g : FlatGrammar) (a : Automaton) → IsAutomaton g a → (w : List ℕ) (walk : Walk) → HasCome a w walk → (members : List ℕ) → members ≡ walk_nodes walk
    → (valid : List Symbol) (first : Bool) (v : Verdict) → JudgesNodes g valid first a members v → Knows g valid first w v
walk_knows g a is w walk come members same = members_know g a is w members
    (λ t h. ((come t).0 (subst (λ (l : List ℕ). Contains l t) same h)).0)
    (λ t c lt. subst (λ (l : List ℕ). Contains l t) (sym same) ((come t).1 (c, lt)))

-- what a row says of a set, once it has been reached
pub row_knows : (g : FlatGrammar) (valid : List Symbol) (first : Bool) (m : SetTables) → IsAutomaton g m.automaton → (row : List Verdict) → AreVerdicts g valid first m row
    → (w : List ℕ) (n : ℕ) (v : Verdict) → HasRead m w n → slice_get row n ≡ Some v → Knows g valid first w v
row_knows g valid first m is row rows w n v read at = knows g m is w n read read.set read.at valid first v (rows.each n v at read.set read.at)
