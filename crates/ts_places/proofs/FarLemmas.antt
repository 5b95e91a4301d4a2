-- Nothing is laid on a head behind a place before a key whose token stands no later.
use Rattle.std.proofs.Common.{◌≡◌, sym, refl, subst, ℕ, ◌<◌, ◌≤◌, ⊎_elim, List, [], ◌∷◌, ◌++◌, length, reverse, arith}
use Rattle.std.proofs.lemmas.List.{length-reverse}
use Rattle.ts_base.specs.Bytes.{Bytes}
use Rattle.ts_core.specs.declared.flat.Production.{Production}
use Rattle.ts_core.specs.declared.symbol.Symbol.{Symbol}
use Rattle.spec_lexing.specs.Lexing.{token}
use Rattle.spec_tables.specs.Actions.{Act, shift}
use Rattle.spec_trees.specs.declared.tree.Tree.{Tree}
use Rattle.spec_graph.specs.Laying.{Parsing, SeesAt, PassesAt, Taken, some, nothing, Lays, flat, stood, shifted, passed, made, CanMakeNode}
use Rattle.spec_graph.specs.Grounded.{IsGrounded}
use Rattle.spec_graph.specs.Keys.{Key, Earlier, LaysBefore, flat_before, stood_before, shifted_before, passed_before, made_before}
use Rattle.ts_table.specs.declared.view.ParseTable.{ParseTable}
use Rattle.ts_table.specs.Tables.{IsTable}
use Rattle.ts_reductions.specs.Sound.{Base, parsing_from}
use Rattle.ts_places.specs.ShiftLaws.{LeafLaws}
use Rattle.ts_places.proofs.SeenLemmas.{found_token}
use Rattle.ts_places.proofs.ActionLemmas.{extra_token}

pub no_middle : {X : Type 0} (above : List X) (x : X) (below : List X) → [] ≡ above ++ x ∷ below → ⊥
no_middle [] x below e = cc
no_middle (y ∷ above) x below e = cc

-- what nothing is laid on
pub before_none : (P : Parsing) (rank : ℕ → ℕ) (k : Key) (read : List ℕ) (from : ℕ) (w : List Tree) (place : ℕ) (now : List ℕ) → LaysBefore P rank k read from w place now → w ≡ [] → (from ≡ place) × (read ≡ now)
before_none P rank k read from _ _ _ (flat_before _ _) e = (refl, refl)
before_none P rank k read from _ _ _ (stood_before _ _ w place now u above below l is at share) e = absurd (let h : u ∷ w ≡ [] = e in cc)
before_none P rank k read from _ _ _ (shifted_before _ _ w place now s pad size l late lt sees act) e = absurd (no_middle [] _ w (sym e))
before_none P rank k read from _ _ _ (passed_before _ _ w place now s pad size l late lt passes) e = absurd (no_middle [] _ w (sym e))
before_none P rank k read from _ _ _ (made_before _ _ w place now ks end over xs look number left p l inner outer all late taken folds count deep earlier) e = absurd (no_middle [] _ w (sym e))

module _ (laws : LeafLaws) (t : ParseTable) (table : IsTable t) (text : Bytes) (base : Base) (ground : IsGrounded (parsing_from t text base)) where
  abbrev P : Parsing
  P = parsing_from t text base

  shift_bytes : (read : List ℕ) (place : ℕ) (s : Symbol) (pad size : ℕ) → SeesAt P read place (token s pad size) → Act t.grammar read s.0 shift → 0 < size
  shift_bytes read place s pad size sees act =
      (found_token t.grammar sees.0 _ s pad size sees.2).1 ((laws.shifts t.grammar read s.0 act).0).0

  pass_bytes : (read : List ℕ) (place : ℕ) (s : Symbol) (pad size : ℕ) → PassesAt P read place s pad size → 0 < size
  pass_bytes read place s pad size passes =
      (found_token t.grammar passes.sees.0 _ s pad size passes.sees.2).1 ((extra_token t.grammar s table.fit passes.extra).0)

  -- what is laid behind the start of the text, where the stack ends or past it, has bytes
  record Goes (from place count : ℕ) : Type 0 where
    on : from ≤ place
    past : 0 < count → from < place

  goes : (read : List ℕ) (from : ℕ) (w : List Tree) (place : ℕ) (now : List ℕ) → P.place ≤ from → 0 < from → Lays P read from w place now → Goes from place (length w)
  goes read from _ _ _ past low (flat _ _) = record { on = omega arith; past = λ h. absurd (omega (arith, h)) }
  goes read from _ _ _ past low (stood _ _ w place now u above below l is at share) =
      let g = (goes read from w place now past low l).on in
      let h = laws.low P ground above below u is in
      absurd (omega (arith, g, h, at, past))
  goes read from _ _ _ past low (shifted _ _ w place now s pad size l late sees act) =
      let g = (goes read from w place now past low l).on in
      let z = shift_bytes now place s pad size sees act in
      record { on = omega (arith, g, z); past = λ h. omega (arith, g, z) }
  goes read from _ _ _ past low (passed _ _ w place now s pad size l late passes) =
      let g = (goes read from w place now past low l).on in
      let z = pass_bytes now place s pad size passes in
      record { on = omega (arith, g, z); past = λ h. omega (arith, g, z) }
  goes read from _ _ _ past low (made _ _ w place now ks end over xs look number left p l inner outer all late taken folds count deep) =
      let g = (goes read from w place now past low l).on in
      let k = goes now place (reverse ks) end over (omega (arith, past, g)) (omega (arith, low, g)) inner in
      let lt : place < end = k.past (by taken) in
      record { on = omega (arith, g, lt); past = λ h. omega (arith, g, lt) }
    where
      by : Taken ks w read from → 0 < length (reverse ks)
      by (some lt begins ends) = let n = length-reverse ks in omega (arith, n, lt)
      by (nothing none gone empty zero) = absurd (omega (arith, low, zero))

  -- a node that begins there is made at a later place
  pub node_behind : (read : List ℕ) (from : ℕ) → P.place ≤ from → 0 < from → (ks : List Tree) (end : ℕ) (over : List ℕ) (xs : List Tree) (look : ℕ) (below : List Tree) (start : List ℕ) → Lays P read from (reverse ks) end over → Lays P over end xs look over → Taken ks below start from → from < look
  node_behind read from past low ks end over xs look below start inner outer taken =
      let k = (goes read from (reverse ks) end over past low inner).past (by taken) in
      let o = (goes over end xs look over (omega (arith, past, k)) (omega (arith, low, k)) outer).on in
      omega (arith, k, o)
    where
      by : Taken ks below start from → 0 < length (reverse ks)
      by (some lt begins ends) = let n = length-reverse ks in omega (arith, n, lt)
      by (nothing none gone empty zero) = absurd (omega (arith, low, zero))

  module _ (rank : ℕ → ℕ) (k : Key) (read : List ℕ) (from : ℕ) (low : 0 < from) (past : P.place ≤ from) (late : k.look ≤ from) where
    nothing_late : (all : List Tree) (place : ℕ) (now : List ℕ) (u : Tree) → LaysBefore P rank k read from all place now → all ≡ u ∷ [] → ⊥
    nothing_late _ _ _ u (flat_before _ _) e = absurd (let h : [] ≡ u ∷ [] = e in cc)
    nothing_late _ _ _ u (stood_before _ _ w place now v above below l is at share) e =
        let none : w ≡ [] = cc in
        let same = before_none P rank k read from w place now l none in
        let h = laws.low P ground above below v is in
        let e = same.0 in
        omega (arith, h, e, at, past)
    nothing_late _ _ _ u (shifted_before _ _ w place now s pad size l after lt sees act) e =
        let none : w ≡ [] = cc in
        let same = (before_none P rank k read from w place now l none).0 in
        omega (arith, same, lt, late)
    nothing_late _ _ _ u (passed_before _ _ w place now s pad size l after lt passes) e =
        let none : w ≡ [] = cc in
        let same = (before_none P rank k read from w place now l none).0 in
        omega (arith, same, lt, late)
    nothing_late _ _ _ u (made_before _ _ w place now ks end over xs look number left p l inner outer all after taken folds count deep earlier) e =
        let none : w ≡ [] = cc in
        let same = (before_none P rank k read from w place now l none).0 in
        let lt = node_behind now place (omega (arith, past, same)) (omega (arith, low, same)) ks end over xs look w read inner outer (subst (λ (n : ℕ). Taken ks w read n) same taken) in
        ⊎_elim (λ less. omega (arith, lt, less, late, same)) (λ equal. let f = equal.0 in omega (arith, lt, f, late, same)) earlier

    pub none_before : (u : Tree) (place : ℕ) (now : List ℕ) → LaysBefore P rank k read from (u ∷ []) place now → ⊥
    none_before u place now l = nothing_late (u ∷ []) place now u l refl

    pub no_node_before : (ks : List Tree) (end : ℕ) (over : List ℕ) (xs : List Tree) (look number left : ℕ) (p : Production) → CanMakeNode P read from ks end over xs look number left p → Earlier (record { look = look; begins = from; rank = rank left }) k → ⊥
    no_node_before ks end over xs look number left p c earlier =
        let lt = node_behind read from past low ks end over xs look [] read c.inner c.outer c.taken in
        ⊎_elim (λ less. omega (arith, lt, less, late)) (λ equal. let f = equal.0 in omega (arith, lt, f, late)) earlier
