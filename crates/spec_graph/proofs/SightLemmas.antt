-- What is seen after some symbols, and after others on which fewer moves stay.
use Rattle.std.proofs.Common.{◌≡◌, ◌∙◌, sym, ap, refl, subst, ℕ, zero, suc, ◌<◌, ◌⊎◌, inl, inr, ⊎_elim, true, List, [], ◌∷◌, ◌++◌, length, reverse, drop, get_or, Option, Some, arith}
use Rattle.std.specs.List.{Contains}
use Rattle.ts_core.specs.declared.flat.Production.{Production}
use Rattle.ts_core.specs.declared.symbol.Symbol.{Symbol}
use Rattle.spec_grammar.specs.Symbols.{production_at}
use Rattle.spec_lexing.specs.Lexing.{Found, token}
use Rattle.spec_tables.specs.Fit.{Fit}
use Rattle.spec_trees.specs.Made.{step_symbols}
use Rattle.spec_runs.specs.Configurations.{HasMove, AreValidTokens}
use Rattle.spec_runs.specs.Moves.{StandsBefore}
use Rattle.spec_runs.proofs.SightLemmas.{same_found, same_valid}
use Rattle.spec_graph.specs.States.{Goto, LeadsTo, at_first, by_goto, ShareState, AreStates}
use Rattle.spec_graph.specs.Laying.{Parsing, SeesAt, GoesOn, PassesAt, ReducesAt}
use Rattle.spec_graph.specs.Laws.{GraphLaws}

-- what is known of all that is parsed
pub record Facts (P : Parsing) : Type 0 where
  pub laws : GraphLaws
  pub fit : Fit P.grammar
  pub states : AreStates P.grammar P.goto

-- ---- members of a list of symbols

same_symbol : (a b : Symbol) → (a ≡ b) ⊎ (a ≡ b → ⊥)
same_symbol a b = by (nat_same a.0 b.0)
  where
    nat_same : (m n : ℕ) → (m ≡ n) ⊎ (m ≡ n → ⊥)
    nat_same zero zero = inl refl
    nat_same zero (suc n) = inr (λ e. omega (arith, e))
    nat_same (suc m) zero = inr (λ e. omega (arith, e))
    nat_same (suc m) (suc n) = ⊎_elim (λ e. inl (ap suc e)) (λ other. inr (λ e. other (omega (arith, e)))) (nat_same m n)

    by : (a.0 ≡ b.0) ⊎ (a.0 ≡ b.0 → ⊥) → (a ≡ b) ⊎ (a ≡ b → ⊥)
    by (inl e) = inl (ap {B = Symbol} (λ (n : ℕ). record { 0 = n }) e)
    by (inr other) = inr (λ e. other (ap (λ (s : Symbol). s.0) e))

is_in : (ss : List Symbol) (s : Symbol) → Contains ss s ⊎ (Contains ss s → ⊥)
is_in [] s = inr (λ w. let h = w.1 in omega (arith, h))
is_in (x ∷ xs) s = by (same_symbol x s) (is_in xs s)
  where
    later : (Contains xs s → ⊥) → (x ≡ s → ⊥) → (k : ℕ) → k < length (x ∷ xs) → get_or (x ∷ xs) k s ≡ s → ⊥
    later none other zero low is = other is
    later none other (suc k) low is = none (k, (let h : suc k < suc (length xs) = low in omega (arith, h)), is)

    by : (x ≡ s) ⊎ (x ≡ s → ⊥) → Contains xs s ⊎ (Contains xs s → ⊥) → Contains (x ∷ xs) s ⊎ (Contains (x ∷ xs) s → ⊥)
    by (inl e) more = inl (0, omega arith, e)
    by (inr other) (inl w) = inl (suc w.0, (let h = w.1 in omega (arith, h)), w.2)
    by (inr other) (inr none) = inr (λ w. later none other w.0 w.1 w.2)

-- ---- states

pub lead_once : (goto : Goto) (read : List ℕ) (m n : ℕ) → LeadsTo goto read m → LeadsTo goto read n → m ≡ n
lead_once goto _ _ n at_first b = first [] n b refl
  where
    first : (read : List ℕ) (n : ℕ) → LeadsTo goto read n → read ≡ [] → 0 ≡ n
    first _ _ at_first e = refl
    first _ _ (by_goto read state symbol next l g) e = absurd (let h : symbol ∷ read ≡ [] = e in cc)
lead_once goto _ _ n (by_goto read state symbol next l g) b = later (symbol ∷ read) n b refl (λ k. lead_once goto read state k l)
  where
    later : (all : List ℕ) (n : ℕ) → LeadsTo goto all n → all ≡ symbol ∷ read → ((k : ℕ) → LeadsTo goto read k → state ≡ k) → next ≡ n
    later _ _ at_first e same = absurd (let h : [] ≡ symbol ∷ read = e in cc)
    later _ _ (by_goto rest other x to k h) e same =
        let tail : rest ≡ read = (let u : x ∷ rest ≡ symbol ∷ read = e in cc) in
        let head : x ≡ symbol = (let u : x ∷ rest ≡ symbol ∷ read = e in cc) in
        let one : state ≡ other = same other (subst (λ (r : List ℕ). LeadsTo goto r other) tail k) in
        let there : goto state symbol ≡ Some to = subst (λ (y : ℕ). goto state y ≡ Some to) head (subst (λ (s : ℕ). goto s x ≡ Some to) (sym one) h) in
        let both : Some next ≡ Some to = sym g ∙ there in cc

pub lead_from : (goto : Goto) (read : List ℕ) (symbol m n : ℕ) → LeadsTo goto read n → LeadsTo goto (symbol ∷ read) m → goto n symbol ≡ Some m
lead_from goto read symbol m n l k = by (symbol ∷ read) m k refl
  where
    by : (all : List ℕ) (m : ℕ) → LeadsTo goto all m → all ≡ symbol ∷ read → goto n symbol ≡ Some m
    by _ _ at_first e = absurd (let h : [] ≡ symbol ∷ read = e in cc)
    by _ _ (by_goto rest other x to k h) e =
        let tail : rest ≡ read = (let u : x ∷ rest ≡ symbol ∷ read = e in cc) in
        let head : x ≡ symbol = (let u : x ∷ rest ≡ symbol ∷ read = e in cc) in
        let one : other ≡ n = lead_once goto read other n (subst (λ (r : List ℕ). LeadsTo goto r other) tail k) l in
        subst (λ (y : ℕ). goto n y ≡ Some to) head (subst (λ (s : ℕ). goto s x ≡ Some to) one h)

pub share_back : (goto : Goto) (read other : List ℕ) → ShareState goto read other → ShareState goto other read
share_back goto read other s = (s.0, s.2, s.1)

-- two lists of one state that go on with one symbol share the next state
pub share_on : (goto : Goto) (read other : List ℕ) (symbol m : ℕ) → ShareState goto read other → LeadsTo goto (symbol ∷ read) m → ShareState goto (symbol ∷ read) (symbol ∷ other)
share_on goto read other symbol m s l = (m, l, by_goto other s.0 symbol m s.2 (lead_from goto read symbol m s.0 s.1 l))

-- ---- one sight

pub same_token : (s t : Symbol) (p q n m : ℕ) → token s p n ≡ token t q m → (s ≡ t) × (p ≡ q) × (n ≡ m)
same_token s t p q n m e = ((let h : s ≡ t = cc in h), (let h : p ≡ q = cc in h), (let h : n ≡ m = cc in h))

append_cancel : (xs a b : List ℕ) → xs ++ a ≡ xs ++ b → a ≡ b
append_cancel [] a b e = e
append_cancel (x ∷ xs) a b e = append_cancel xs a b (let h : x ∷ (xs ++ a) ≡ x ∷ (xs ++ b) = e in let t : xs ++ a ≡ xs ++ b = cc in t)

-- all that has a move after the second symbols has one after the first
abbrev pub IsNarrower : Parsing → List ℕ → List ℕ → Type 0
IsNarrower P read other = (t : ℕ) → HasMove P.grammar other t → (HasMove P.grammar read t → ⊥) → ⊥

module _ (P : Parsing) (facts : Facts P) where
  pub sees_one : (read : List ℕ) (place : ℕ) (f h : Found) → SeesAt P read place f → SeesAt P read place h → f ≡ h
  sees_one read place f h a b =
      facts.laws.one_answer P.grammar b.0 (drop place P.text) f h
      (same_found P.grammar a.0 b.0 (same_valid P.grammar read a.0 b.0 a.1 b.1) true (drop place P.text) f a.2) b.2

  pub clash : (read : List ℕ) (place : ℕ) (s : Symbol) (pad size : ℕ) → GoesOn P read place → PassesAt P read place s pad size → ⊥
  clash read place s pad size g p =
      let e = same_token g.symbol s g.pad pad g.size size (sees_one read place (token g.symbol g.pad g.size) (token s pad size) g.sees p.sees) in
      p.none (subst (λ (t : Symbol). HasMove P.grammar read t.0) e.0 g.moves)

  -- a reduction stands after symbols after which an item stands before its rule
  pub stands_before : (read : List ℕ) (place number left : ℕ) (p : Production) (earlier : List ℕ) → ReducesAt P read place number left p earlier → StandsBefore P.grammar earlier left
  stands_before read place number left p earlier r =
      let w = facts.laws.runs.reduces P.grammar read r.symbol.0 number r.stays in
      let e : ◌≡◌ {A = Option (ℕ × Production)} (Some (w.left, w.production)) (Some (left, p)) = sym w.at ∙ r.at in
      let both : ◌≡◌ {A = ℕ × Production} (w.left, w.production) (left, p) = cc in
      let same_left : w.left ≡ left = ap (λ (q : ℕ × Production). q.0) both in
      let same : w.production ≡ p = ap (λ (q : ℕ × Production). q.1) both in
      let read_is : read ≡ reverse (step_symbols p) ++ w.earlier = w.read_is ∙ ap (λ (q : Production). reverse (step_symbols q) ++ w.earlier) same in
      let rest : w.earlier ≡ earlier = append_cancel (reverse (step_symbols p)) w.earlier earlier (sym read_is ∙ r.read_is) in
      subst (λ (l : ℕ). StandsBefore P.grammar earlier l) same_left (subst (λ (e : List ℕ). StandsBefore P.grammar e w.left) rest w.before)

  -- after a reduction by a production no more tokens have moves
  narrows_by : (number left : ℕ) (p : Production) (earlier : List ℕ) → production_at P.grammar number ≡ Some (left, p) → IsNarrower P (reverse (step_symbols p) ++ earlier) (left ∷ earlier)
  narrows_by number left p earlier at t move none =
      facts.laws.some_move P.grammar (reverse (step_symbols p) ++ earlier) t _
      (facts.laws.no_new_tokens P.grammar facts.fit number left t p earlier at move) none

  -- after a reduction no more tokens have moves
  pub narrows : (read : List ℕ) (place number left : ℕ) (p : Production) (earlier : List ℕ) → ReducesAt P read place number left p earlier → IsNarrower P read (left ∷ earlier)
  narrows read place number left p earlier r t move none =
      facts.laws.some_move P.grammar (reverse (step_symbols p) ++ earlier) t _
      (facts.laws.no_new_tokens P.grammar facts.fit number left t p earlier r.at move)
      (λ m. none (subst (λ (l : List ℕ). HasMove P.grammar l t) (sym r.read_is) m))

  module _ (read other : List ℕ) (narrower : IsNarrower P read other) where
    fewer : (valid then : List Symbol) → AreValidTokens P.grammar read valid → AreValidTokens P.grammar other then → (t : Symbol) → Contains then t → Contains valid t
    fewer valid then before now t w = ⊎_elim (λ h. h) (λ none. absurd (⊎_elim (λ move. lost none move) (λ extra. none ((before t).1 (inr extra))) ((now t).0 w))) (is_in valid t)
      where
        lost : (Contains valid t → ⊥) → HasMove P.grammar other t.0 → ⊥
        lost none move = narrower t.0 move (λ m. none ((before t).1 (inl m)))

    -- an extra that is passed is passed too where fewer moves stay
    pub passes_still : (n : ℕ) → LeadsTo P.goto other n → (place : ℕ) (s : Symbol) (pad size : ℕ) → PassesAt P read place s pad size → PassesAt P other place s pad size
    passes_still n l place s pad size p =
        let v = facts.states.valid other n l in
        record {
          sees = (
            v.0,
            v.1,
            facts.laws.fewer_tokens P.grammar p.sees.0 v.0 (drop place P.text) s pad size (fewer p.sees.0 v.0 p.sees.1 v.1) ((v.1 s).1 (inr p.extra)) p.sees.2,
          );
          extra = p.extra;
          none = λ m. narrower s.0 m p.none;
        }

    -- a token is seen too where fewer moves stay, if one of these does on it
    sees_still : (n : ℕ) → LeadsTo P.goto other n → (place : ℕ) (s : Symbol) (pad size : ℕ) → HasMove P.grammar other s.0 → SeesAt P read place (token s pad size) → SeesAt P other place (token s pad size)
    sees_still n l place s pad size move sees =
        let v = facts.states.valid other n l in (
          v.0,
          v.1,
          facts.laws.fewer_tokens P.grammar sees.0 v.0 (drop place P.text) s pad size (fewer sees.0 v.0 sees.1 v.1) ((v.1 s).1 (inl move)) sees.2,
        )

  -- ---- lists of symbols that lead to one state

  module _ (read other : List ℕ) (share : ShareState P.goto read other) where
    pub move_shared : (t : ℕ) → HasMove P.grammar read t → HasMove P.grammar other t
    move_shared t m = (m.0, facts.states.acts read other t m.0 share m.1)

    move_back : (t : ℕ) → HasMove P.grammar other t → HasMove P.grammar read t
    move_back t m = (m.0, facts.states.acts other read t m.0 (share_back P.goto read other share) m.1)

    pub sees_shared : (place : ℕ) (f : Found) → SeesAt P read place f → SeesAt P other place f
    sees_shared place f a = (
      a.0,
      (λ s. ((λ h. ⊎_elim (λ m. inl (move_shared s.0 m)) (λ e. inr e) ((a.1 s).0 h)), (λ h. (a.1 s).1 (⊎_elim (λ m. inl (move_back s.0 m)) (λ e. inr e) h)))),
      a.2,
    )

    pub passes_shared : (place : ℕ) (s : Symbol) (pad size : ℕ) → PassesAt P read place s pad size → PassesAt P other place s pad size
    passes_shared place s pad size p = record {
      sees = sees_shared place (token s pad size) p.sees;
      extra = p.extra;
      none = λ m. p.none (move_back s.0 m);
    }

  -- ---- behind a reduction

  -- a token that was seen before it, if some move stays on it there
  pub sees_again : (number left : ℕ) (p : Production) (earlier : List ℕ) → production_at P.grammar number ≡ Some (left, p) → (read now : List ℕ) (place pad size : ℕ) (s : Symbol) → ShareState P.goto read (reverse (step_symbols p) ++ earlier)
      → ShareState P.goto (left ∷ earlier) now → HasMove P.grammar now s.0 → SeesAt P read place (token s pad size) → SeesAt P now place (token s pad size)
  sees_again number left p earlier at read now place pad size s before behind move sees =
      let above = sees_shared read (reverse (step_symbols p) ++ earlier) before place (token s pad size) sees in
      let stays = move_back (left ∷ earlier) now behind s.0 move in
      let over = sees_still (reverse (step_symbols p) ++ earlier) (left ∷ earlier) (narrows_by number left p earlier at) behind.0 behind.1 place s pad size stays above in
      sees_shared (left ∷ earlier) now behind place (token s pad size) over
