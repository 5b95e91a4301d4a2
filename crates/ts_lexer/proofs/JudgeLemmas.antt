-- What one node more says.
use Rattle.std.proofs.Common.{◌≡◌, ◌∙◌, sym, ap, refl, subst, ℕ, suc, ◌-◌, ◌^◌, ◌<◌, ◌⊎◌, inl, inr, ⊎_elim, ◌&&◌, ◌||◌, Bool, true, false, List, [], ◌∷◌, ◌++◌, length, slice_get, Option, Some, None, ◌↔◌, IsTrue, arith}
use Rattle.std.specs.List.{Contains}
use Rattle.std.proofs.lemmas.List.Elements.{Contains-append_left, Contains-push, Contains-push_cases}
use Rattle.std.proofs.lemmas.Option.{slice_get_within}
use Rattle.ts_core.specs.declared.flat.FlatGrammar.{FlatGrammar}
use Rattle.ts_core.specs.declared.flat.TokenDef.{TokenDef}
use Rattle.ts_core.specs.declared.symbol.Symbol.{Symbol}
use Rattle.ts_automata.specs.declared.node.Node.{Node}
use Rattle.ts_automata.specs.Reads.{IsEnd}
use Rattle.ts_lexer.specs.declared.verdict.Verdict.{Verdict}
use Rattle.ts_lexer.specs.Rules.{kind_of, Over, IsBetter}
use Rattle.ts_lexer.specs.declared.view.Role.{Role}
use Rattle.ts_lexer.specs.Views.{MayTake, IsRole}
use Rattle.ts_lexer.specs.Judged.{IsTokenPart, Offered, IsPicked, IsPick, JudgesParts, Wanted, IsWordPart, IsSeparatorPart, EndsIn, LivesIn}
use Rattle.ts_lexer.proofs.OverLemmas.{over_self, over_decides, over_then}

symbol_same : (s t : Symbol) → s.0 ≡ t.0 → s ≡ t
symbol_same s t e = ap {B = Symbol} (λ (n : ℕ). record { 0 = n }) e

-- a part is one token
one_token : (g : FlatGrammar) (part : ℕ) (s t : Symbol) (a b : TokenDef) → IsTokenPart g part s a → IsTokenPart g part t b → (s ≡ t) × (a ≡ b)
one_token g part s t a b x y =
    let e : Some a ≡ Some b = sym x.at ∙ y.at in
    let f : a ≡ b = cc in
    (symbol_same s t (x.number ∙ sym y.number), f)

-- what `picked` says
pub record Picks (g : FlatGrammar) (old : Option Symbol) (offered : Bool) (part : ℕ) (result : Option Symbol) : Type 0 where
  pub out : offered ≡ false → result ≡ old
  pub first : offered ≡ true → old ≡ None → part < 2 ^ 16 - 1 → (s : Symbol) × (result ≡ Some s) × (s.0 ≡ suc part)
  pub more : (j : ℕ) (s t : Symbol) (a b : TokenDef) → offered ≡ true → old ≡ Some s → IsTokenPart g j s a → IsTokenPart g part t b
      → (u : Symbol) × (result ≡ Some u) × IsBetter (kind_of a) s (kind_of b) t u

module _ (g : FlatGrammar) (valid : List Symbol) (first keyword : Bool) (E F : ℕ → Type 0) (part : ℕ) (ends : Type 0)
    (keeps : (k : ℕ) → E k → F k) (only : (k : ℕ) → F k → E k ⊎ ((k ≡ part) × ends)) (adds : ends → F part) where
  -- the part is not taken
  pick_same : (pick : Option Symbol) → (MayTake g valid first keyword part → ends → ⊥) → IsPick g valid first keyword E pick → IsPick g valid first keyword F pick
  pick_same None lacks h = λ k s t o f. ⊎_elim (λ e. h k s t o e) (λ w. lacks (s, t, subst (λ (j : ℕ). Offered g valid first keyword j s t) w.0 o) w.1) (only k f)
  pick_same (Some p) lacks h = record {
    part = h.part;
    token = h.token;
    offered = h.offered;
    ends = keeps h.part h.ends;
    best = λ k s t o f. ⊎_elim (λ e. h.best k s t o e) (λ w. absurd (lacks (s, t, subst (λ (j : ℕ). Offered g valid first keyword j s t) w.0 o) w.1)) (only k f);
  }

  module _ (s : Symbol) (t : TokenDef) (offered : Offered g valid first keyword part s t) (end : ends) where
    -- it is taken before itself
    itself : (k : ℕ) (u : Symbol) (other : TokenDef) → Offered g valid first keyword k u other → k ≡ part → Over (kind_of t) s (kind_of other) u
    itself k u other o e =
        let same = one_token g part s u t other offered.is_token (subst (λ (j : ℕ). IsTokenPart g j u other) e o.is_token) in
        subst (λ (x : Symbol). Over (kind_of t) s (kind_of other) x) same.0 (subst (λ (x : TokenDef). Over (kind_of t) s (kind_of x) s) same.1 (over_self (kind_of t) s))

    pick_first : (u : Symbol) → u.0 ≡ suc part → IsPick g valid first keyword E None → IsPick g valid first keyword F (Some u)
    pick_first u is h =
        let e = symbol_same s u (offered.is_token.number ∙ sym is) in
        subst (λ (x : Symbol). IsPicked g valid first keyword F x) e (record {
          part = part;
          token = t;
          offered = offered;
          ends = adds end;
          best = λ k v other o f. ⊎_elim (λ x. absurd (h k v other o x)) (λ w. itself k v other o w.0) (only k f);
        })

    pick_more : (p u : Symbol) → (x : IsPicked g valid first keyword E p) → IsBetter (kind_of x.token) p (kind_of t) s u → IsPick g valid first keyword F (Some u)
    pick_more p u x better = by (over_decides (kind_of x.token) (kind_of t) p s)
      where
        by : Over (kind_of x.token) p (kind_of t) s ⊎ ((Over (kind_of x.token) p (kind_of t) s → ⊥) × Over (kind_of t) s (kind_of x.token) p) → IsPicked g valid first keyword F u
        by (inl over) = subst (λ (y : Symbol). IsPicked g valid first keyword F y) (sym (better.kept over)) (record {
          part = x.part;
          token = x.token;
          offered = x.offered;
          ends = keeps x.part x.ends;
          best = λ k v other o f. ⊎_elim (λ e. x.best k v other o e)
              (λ w. over_then (kind_of x.token) (kind_of t) (kind_of other) p s v over (itself k v other o w.0)) (only k f);
        })
        by (inr (lacks, under)) = subst (λ (y : Symbol). IsPicked g valid first keyword F y) (sym (better.changed lacks)) (record {
          part = part;
          token = t;
          offered = offered;
          ends = adds end;
          best = λ k v other o f. ⊎_elim (λ e. over_then (kind_of t) (kind_of x.token) (kind_of other) s p v under (x.best k v other o e))
              (λ w. itself k v other o w.0) (only k f);
        })

  pub pick_next : (old result : Option Symbol) (may end : Bool) → IsTrue may ↔ MayTake g valid first keyword part → IsTrue end ↔ ends → length g.tokens < 2 ^ 16 - 1
      → Picks g old (may && end) part result → IsPick g valid first keyword E old → IsPick g valid first keyword F result
  pick_next old result false end m e few p h = subst (λ (x : Option Symbol). IsPick g valid first keyword F x) (sym (p.out refl)) (pick_same old (λ w _. false_is (m.1 w)) h)
    where
      false_is : IsTrue false → ⊥
      false_is x = cc
  pick_next old result true false m e few p h = subst (λ (x : Option Symbol). IsPick g valid first keyword F x) (sym (p.out refl)) (pick_same old (λ _ w. false_is (e.1 w)) h)
    where
      false_is : IsTrue false → ⊥
      false_is x = cc
  pick_next None result true true m e few p h =
      let o = m.0 refl in
      let within : part < 2 ^ 16 - 1 = (let w = slice_get_within g.tokens part o.1 o.2.is_token.at in omega arith) in
      let r = p.first refl refl within in
      subst (λ (x : Option Symbol). IsPick g valid first keyword F x) (sym r.1) (pick_first o.0 o.1 o.2 (e.0 refl) r.0 r.2 h)
  pick_next (Some s) result true true m e few p h =
      let o = m.0 refl in
      let r = p.more h.part s o.0 h.token o.1 refl refl h.offered.is_token o.2.is_token in
      subst (λ (x : Option Symbol). IsPick g valid first keyword F x) (sym r.1) (pick_more o.0 o.1 o.2 (e.0 refl) s r.0 h r.2)

-- a part more of one kind
pub some_more : (P E F : ℕ → Type 0) (part : ℕ) (ends : Type 0) → ((k : ℕ) → E k → F k) → ((k : ℕ) → F k → E k ⊎ ((k ≡ part) × ends)) → (ends → F part)
    → (old is end : Bool) → IsTrue is ↔ P part → IsTrue end ↔ ends → IsTrue old ↔ ((k : ℕ) × P k × E k) → IsTrue (old || (is && end)) ↔ ((k : ℕ) × P k × F k)
some_more P E F part ends keeps only adds true is end p e o = ((λ _. let w = o.0 refl in (w.0, w.1, keeps w.0 w.2)), (λ _. refl))
some_more P E F part ends keeps only adds false true true p e o = ((λ _. (part, p.0 refl, adds (e.0 refl))), (λ _. refl))
some_more P E F part ends keeps only adds false false end p e o = (
  (λ x. absurd (let y : false ≡ true = x in cc)),
  (λ w. ⊎_elim (λ x. o.1 (w.0, w.1, x)) (λ x. p.1 (subst P x.0 w.1)) (only w.0 w.2)),
)
some_more P E F part ends keeps only adds false true false p e o = (
  (λ x. absurd (let y : false ≡ true = x in cc)),
  (λ w. ⊎_elim (λ x. o.1 (w.0, w.1, x)) (λ x. e.1 x.1) (only w.0 w.2)),
)

-- ---- the nodes that were seen

module _ (T : List Node) (owners seen : List ℕ) (node part : ℕ) (owner : slice_get owners node ≡ Some part) where
  pub ends_keep : (k : ℕ) → EndsIn T owners seen k → EndsIn T owners (seen ++ node ∷ []) k
  ends_keep k x = record { node = x.node; there = Contains-append_left seen (node ∷ []) x.node x.there; owner = x.owner; end = x.end }

  pub ends_only : (k : ℕ) → EndsIn T owners (seen ++ node ∷ []) k → EndsIn T owners seen k ⊎ ((k ≡ part) × IsEnd T node)
  ends_only k x = ⊎_elim (λ old. inl (record { node = x.node; there = old; owner = x.owner; end = x.end }))
      (λ e.
      let f : Some k ≡ Some part = sym x.owner ∙ ap (λ (n : ℕ). slice_get owners n) (sym e) ∙ owner in
      let same : k ≡ part = cc in
      inr (same, subst (λ (n : ℕ). IsEnd T n) (sym e) x.end))
      (Contains-push_cases seen node x.node x.there)

  pub ends_add : IsEnd T node → EndsIn T owners (seen ++ node ∷ []) part
  ends_add e = record { node = node; there = Contains-push seen node; owner = owner; end = e }

  pub lives_keep : (k : ℕ) → LivesIn owners seen k → LivesIn owners (seen ++ node ∷ []) k
  lives_keep k x = record { node = x.node; there = Contains-append_left seen (node ∷ []) x.node x.there; owner = x.owner }

  pub lives_only : (k : ℕ) → LivesIn owners (seen ++ node ∷ []) k → LivesIn owners seen k ⊎ ((k ≡ part) × Unit {0})
  lives_only k x = ⊎_elim (λ old. inl (record { node = x.node; there = old; owner = x.owner }))
      (λ e.
      let f : Some k ≡ Some part = sym x.owner ∙ ap (λ (n : ℕ). slice_get owners n) (sym e) ∙ owner in
      let same : k ≡ part = cc in
      inr (same, tt))
      (Contains-push_cases seen node x.node x.there)

  pub lives_add : Unit {0} → LivesIn owners (seen ++ node ∷ []) part
  lives_add _ = record { node = node; there = Contains-push seen node; owner = owner }

-- as above, where every part of the kind counts
pub any_more : (P E F : ℕ → Type 0) (part : ℕ) → ((k : ℕ) → E k → F k) → ((k : ℕ) → F k → E k ⊎ ((k ≡ part) × Unit {0})) → (Unit {0} → F part)
    → (old is : Bool) → IsTrue is ↔ P part → IsTrue old ↔ ((k : ℕ) × P k × E k) → IsTrue (old || is) ↔ ((k : ℕ) × P k × F k)
any_more P E F part keeps only adds true is p o = ((λ _. let w = o.0 refl in (w.0, w.1, keeps w.0 w.2)), (λ _. refl))
any_more P E F part keeps only adds false true p o = ((λ _. (part, p.0 refl, adds tt)), (λ _. refl))
any_more P E F part keeps only adds false false p o = (
  (λ x. absurd (let y : false ≡ true = x in cc)),
  (λ w. ⊎_elim (λ x. o.1 (w.0, w.1, x)) (λ x. p.1 (subst P x.0 w.1)) (only w.0 w.2)),
)

-- what is known with one part's node more
pub judges_more : (g : FlatGrammar) (valid : List Symbol) (first : Bool) (T : List Node) (owners seen : List ℕ) (node part : ℕ) (ends : Bool) (role : Role) (old : Verdict) (plain keyword : Option Symbol)
    → length g.tokens < 2 ^ 16 - 1 → IsRole g valid first part role → slice_get owners node ≡ Some part → IsTrue ends ↔ IsEnd T node
    → Picks g old.plain (role.plain && ends) part plain → Picks g old.keyword (role.keyword && ends) part keyword
    → JudgesParts g valid first (EndsIn T owners seen) (LivesIn owners seen) old
    → JudgesParts g valid first (EndsIn T owners (seen ++ node ∷ [])) (LivesIn owners (seen ++ node ∷ [])) (record {
      plain = plain;
      keyword = keyword;
      word = old.word || (role.word && ends);
      separator = old.separator || (role.separator && ends);
      lives = old.lives || role.wanted;
    })
judges_more g valid first T owners seen node part ends role old plain keyword few is owner end picks picks_keyword h = record {
  plain = pick_next g valid first false (EndsIn T owners seen) (EndsIn T owners (seen ++ node ∷ [])) part (IsEnd T node) keep only add old.plain plain role.plain ends is.plain end few picks h.plain;
  keyword = pick_next g valid first true (EndsIn T owners seen) (EndsIn T owners (seen ++ node ∷ [])) part (IsEnd T node) keep only add old.keyword keyword role.keyword ends is.keyword end few picks_keyword h.keyword;
  word = some_more (IsWordPart g) (EndsIn T owners seen) (EndsIn T owners (seen ++ node ∷ [])) part (IsEnd T node) keep only add old.word role.word ends is.word end h.word;
  separator = some_more (IsSeparatorPart g) (EndsIn T owners seen) (EndsIn T owners (seen ++ node ∷ [])) part (IsEnd T node) keep only add old.separator role.separator ends is.separator end h.separator;
  lives = any_more (Wanted g valid) (LivesIn owners seen) (LivesIn owners (seen ++ node ∷ [])) part (lives_keep T owners seen node part owner) (lives_only T owners seen node part owner)
      (lives_add T owners seen node part owner) old.lives role.wanted is.wanted h.lives;
}
  where
    keep : (k : ℕ) → EndsIn T owners seen k → EndsIn T owners (seen ++ node ∷ []) k
    keep = ends_keep T owners seen node part owner

    only : (k : ℕ) → EndsIn T owners (seen ++ node ∷ []) k → EndsIn T owners seen k ⊎ ((k ≡ part) × IsEnd T node)
    only = ends_only T owners seen node part owner

    add : IsEnd T node → EndsIn T owners (seen ++ node ∷ []) part
    add = ends_add T owners seen node part owner

-- a node without a part says nothing
pub judges_same : (g : FlatGrammar) (valid : List Symbol) (first : Bool) (T : List Node) (owners seen : List ℕ) (node : ℕ) (old : Verdict)
    → slice_get owners node ≡ None → JudgesParts g valid first (EndsIn T owners seen) (LivesIn owners seen) old
    → JudgesParts g valid first (EndsIn T owners (seen ++ node ∷ [])) (LivesIn owners (seen ++ node ∷ [])) old
judges_same g valid first T owners seen node old none h = record {
  plain = same_pick false old.plain h.plain;
  keyword = same_pick true old.keyword h.keyword;
  word = ((λ x. let w = h.word.0 x in (w.0, w.1, keep w.0 w.2)), (λ w. h.word.1 (w.0, w.1, back w.0 w.2)));
  separator = ((λ x. let w = h.separator.0 x in (w.0, w.1, keep w.0 w.2)), (λ w. h.separator.1 (w.0, w.1, back w.0 w.2)));
  lives = ((λ x. let w = h.lives.0 x in (w.0, w.1, live w.0 w.2)), (λ w. h.lives.1 (w.0, w.1, dead w.0 w.2)));
}
  where
    no_owner : (k n : ℕ) → node ≡ n → slice_get owners n ≡ Some k → ⊥
    no_owner k n e at = let f : None ≡ Some k = sym none ∙ ap (λ (i : ℕ). slice_get owners i) e ∙ at in cc

    keep : (k : ℕ) → EndsIn T owners seen k → EndsIn T owners (seen ++ node ∷ []) k
    keep k x = record { node = x.node; there = Contains-append_left seen (node ∷ []) x.node x.there; owner = x.owner; end = x.end }

    back : (k : ℕ) → EndsIn T owners (seen ++ node ∷ []) k → EndsIn T owners seen k
    back k x = ⊎_elim (λ old. record { node = x.node; there = old; owner = x.owner; end = x.end }) (λ e. absurd (no_owner k x.node e x.owner)) (Contains-push_cases seen node x.node x.there)

    live : (k : ℕ) → LivesIn owners seen k → LivesIn owners (seen ++ node ∷ []) k
    live k x = record { node = x.node; there = Contains-append_left seen (node ∷ []) x.node x.there; owner = x.owner }

    dead : (k : ℕ) → LivesIn owners (seen ++ node ∷ []) k → LivesIn owners seen k
    dead k x = ⊎_elim (λ old. record { node = x.node; there = old; owner = x.owner }) (λ e. absurd (no_owner k x.node e x.owner)) (Contains-push_cases seen node x.node x.there)

    same_pick : (keyword : Bool) (pick : Option Symbol) → IsPick g valid first keyword (EndsIn T owners seen) pick → IsPick g valid first keyword (EndsIn T owners (seen ++ node ∷ [])) pick
    same_pick keyword None x = λ k s t o e. x k s t o (back k e)
    same_pick keyword (Some p) x = record { part = x.part; token = x.token; offered = x.offered; ends = keep x.part x.ends; best = λ k s t o e. x.best k s t o (back k e) }

-- nothing is known of no nodes
pub judges_none : (g : FlatGrammar) (valid : List Symbol) (first : Bool) (T : List Node) (owners : List ℕ)
    → JudgesParts g valid first (EndsIn T owners []) (LivesIn owners []) (record { plain = None; keyword = None; word = false; separator = false; lives = false })
judges_none g valid first T owners = record {
  plain = λ k s t o e. none e.node e.there;
  keyword = λ k s t o e. none e.node e.there;
  word = ((λ x. absurd (let y : false ≡ true = x in cc)), (λ w. absurd (none w.2.node w.2.there)));
  separator = ((λ x. absurd (let y : false ≡ true = x in cc)), (λ w. absurd (none w.2.node w.2.there)));
  lives = ((λ x. absurd (let y : false ≡ true = x in cc)), (λ w. absurd (none w.2.node w.2.there)));
}
  where
    none : (n : ℕ) → Contains [] n → ⊥
    none n h = let lt = h.1 in omega arith

-- the better of two is named by the symbols that were meant
pub picked_more : (g : FlatGrammar) (j k : ℕ) (s old t new r : Symbol) (a b : TokenDef) → Some old ≡ Some s → new.0 ≡ suc k → IsTokenPart g j s a → IsTokenPart g k t b
    → (IsTokenPart g j old a → IsTokenPart g k new b → IsBetter (kind_of a) old (kind_of b) new r) → (u : Symbol) × (Some r ≡ Some u) × IsBetter (kind_of a) s (kind_of b) t u
picked_more g j k s old t new r a b is number x y better =
    let e : old ≡ s = cc in
    let f : new ≡ t = symbol_same new t (number ∙ sym y.number) in
    let h = better (subst (λ (z : Symbol). IsTokenPart g j z a) (sym e) x) (subst (λ (z : Symbol). IsTokenPart g k z b) (sym f) y) in
    (r, refl, subst (λ (z : Symbol). IsBetter (kind_of a) z (kind_of b) t r) e (subst (λ (z : Symbol). IsBetter (kind_of a) old (kind_of b) z r) f h))

pub few_parts : (g : FlatGrammar) (k : ℕ) (t : Symbol) (b : TokenDef) → length g.tokens < 2 ^ 16 - 1 → IsTokenPart g k t b → k < 2 ^ 16 - 1
few_parts g k t b few y = let w = slice_get_within g.tokens k b y.at in omega arith
