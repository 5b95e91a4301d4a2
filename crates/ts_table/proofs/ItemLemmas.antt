-- What the numbered sets say of the items that are valid after a list of symbols.
use Rattle.std.proofs.Common.{◌≡◌, ◌∙◌, sym, ap, refl, subst, ℕ, zero, suc, ◌+◌, ◌<◌, ◌≤◌, ◌⊎◌, inl, inr, ⊎_elim, List, [], ◌∷◌, ◌++◌, length, map, slice_get, Option, Some, None, arith, All}
use Rattle.std.specs.Prelude.{unwrap_or, option_map}
use Rattle.std.specs.List.{Contains}
use Rattle.std.proofs.lemmas.List.{length-map}
use Rattle.std.proofs.lemmas.Option.{slice_get-map, slice_get_within, get_or_from_slice_get}
use Rattle.ts_core.specs.declared.flat.FlatGrammar.{FlatGrammar}
use Rattle.ts_core.specs.declared.flat.FlatRule.{FlatRule}
use Rattle.ts_core.specs.declared.flat.Production.{Production}
use Rattle.ts_core.specs.declared.flat.Step.{Step}
use Rattle.spec_grammar.specs.Symbols.{production_at, productions_from, start_symbol}
use Rattle.spec_tables.specs.Fit.{Fit, IsFitProduction, IsFitStep}
use Rattle.spec_tables.specs.Items.{Line, Item, IsToken, CanBeginWith, itself, by_first, MayStandBehind, Valid, begun, asked, advanced_past, advanced, start_item, line_steps}
use Rattle.spec_tables.specs.Actions.{Shifts}
use Rattle.ts_items.specs.declared.part.Goto.{Goto}
use Rattle.ts_items.specs.declared.part.State.{State}
use Rattle.ts_items.specs.declared.part.Items.{Items}
use Rattle.ts_items.specs.Productions.{symbols_of_steps, right_of}
use Rattle.ts_items.specs.Parts.{line_of, In}
use Rattle.ts_items.specs.Closing.{SameItems}
use Rattle.ts_items.specs.Collection.{IsReachedBy, here, step, IsGoto, StandsFor}
use Rattle.ts_table.specs.Tables.{StandsBefore}
use Rattle.ts_table.proofs.ListLemmas.{three, one_at, at_of}

-- ---- lines

pub line_some : (k n : ℕ) → line_of k ≡ Some n → k ≡ suc n
line_some zero n e = absurd (let f : ◌≡◌ {A = Option ℕ} None (Some n) = e in cc)
line_some (suc k) n e = let f : ◌≡◌ {A = Option ℕ} (Some k) (Some n) = e in let h : k ≡ n = cc in ap suc h

pub line_none : (k : ℕ) → line_of k ≡ None → k ≡ 0
line_none zero e = refl
line_none (suc k) e = absurd (let f : ◌≡◌ {A = Option ℕ} (Some k) None = e in cc)

pub line_number : (k : ℕ) → 0 < k → (n : ℕ) × (line_of k ≡ Some n)
line_number zero h = absurd (omega (arith, h))
line_number (suc n) h = (n, refl)

-- ---- what stands at a dot

pub dot_of : (g : FlatGrammar) (line : Line) (dot : ℕ) (s : Step) → slice_get (line_steps g line) dot ≡ Some s → slice_get (right_of g line) dot ≡ Some s.symbol.0
dot_of g line dot s h = slice_get-map (λ (s : Step). s.symbol.0) (line_steps g line) dot ∙ ap (option_map (λ (s : Step). s.symbol.0)) h

pub step_at : (steps : List Step) (k x : ℕ) → slice_get (symbols_of_steps steps) k ≡ Some x → (s : Step) × (slice_get steps k ≡ Some s) × (s.symbol.0 ≡ x)
step_at steps k x h = by (slice_get steps k) refl (sym (slice_get-map (λ (s : Step). s.symbol.0) steps k) ∙ h)
  where
    by : (o : Option Step) → slice_get steps k ≡ o → option_map (λ (s : Step). s.symbol.0) o ≡ Some x → (s : Step) × (slice_get steps k ≡ Some s) × (s.symbol.0 ≡ x)
    by None e h = absurd (let z : ◌≡◌ {A = Option ℕ} None (Some x) = h in cc)
    by (Some s) e h = (s, e, (let z : Some s.symbol.0 ≡ Some x = h in cc))

pub right_length : (g : FlatGrammar) (line : Line) → length (right_of g line) ≡ length (line_steps g line)
right_length g line = length-map (line_steps g line) (λ (s : Step). s.symbol.0)

-- ---- tokens

begins_token : (g : FlatGrammar) (s t : ℕ) → CanBeginWith g s t → IsToken g t
begins_token g _ _ (itself token is) = is
begins_token g _ _ (by_first symbol number token st is first rest) = begins_token g st.symbol.0 token rest

pub valid_token : (g : FlatGrammar) (read : List ℕ) (i : Item) → Valid g read i → i.token ≤ length g.tokens
valid_token g _ _ begun = omega arith
valid_token g read _ (asked _ i j v e) = by (valid_token g read i v) (slice_get (line_steps g i.line) (suc i.dot)) e.follows
  where
    by : i.token ≤ length g.tokens → (o : Option Step) → MayStandBehind g o i.token j.token → j.token ≤ length g.tokens
    by le None f = omega (arith, le, f)
    by le (Some s) f = (begins_token g s.symbol.0 j.token f).1
valid_token g _ _ (advanced_past read i s v b) = valid_token g read i v

-- ---- the end stands before no dot

pub all_at : {X : Type 0} (P : X → Type 0) (xs : List X) (k : ℕ) (x : X) → All P xs → slice_get xs k ≡ Some x → P x
all_at P xs k x all at = subst P (get_or_from_slice_get xs k x x at) (all k x (slice_get_within xs k x at))

pub record FromRule (first : ℕ) (rules : List FlatRule) (y : ℕ) (d : Production) : Type 0 where
  pub number : ℕ
  pub rule : FlatRule
  pub at : slice_get rules number ≡ Some rule
  pub left : y ≡ first + number
  pub place : ℕ
  pub there : slice_get rule.productions place ≡ Some d

of_first : (first n y : ℕ) (ds : List Production) (d : Production) → slice_get {X = ℕ × Production} (map (λ (p : Production). (first, p)) ds) n ≡ Some (y, d) → (y ≡ first) × (slice_get ds n ≡ Some d)
of_first first n y ds d h = by (slice_get ds n) refl (let f : Production → ℕ × Production = λ p. (first, p) in sym (slice_get-map f ds n) ∙ h)
  where
    by : (o : Option Production) → slice_get ds n ≡ o → option_map {U = ℕ × Production} (λ (p : Production). (first, p)) o ≡ Some (y, d) → (y ≡ first) × (slice_get ds n ≡ Some d)
    by None e h = absurd (let x : ◌≡◌ {A = Option (ℕ × Production)} None (Some (y, d)) = h in cc)
    by (Some c) e h = (
      sym (ap (λ (o : Option (ℕ × Production)). (unwrap_or o (y, d)).0) h),
      e ∙ ap Some (ap (λ (o : Option (ℕ × Production)). (unwrap_or o (y, d)).1) h),
    )

append_at : {X : Type 0} (xs ys : List X) (n : ℕ) (x : X) → slice_get (xs ++ ys) n ≡ Some x → (slice_get xs n ≡ Some x) ⊎ ((m : ℕ) × (slice_get ys m ≡ Some x))
append_at [] ys n x h = inr (n, h)
append_at (z ∷ xs) ys zero x h = inl h
append_at (z ∷ xs) ys (suc n) x h = append_at xs ys n x h

pub from_at : (first : ℕ) (rules : List FlatRule) (n y : ℕ) (d : Production) → slice_get {X = ℕ × Production} (productions_from first rules) n ≡ Some (y, d) → FromRule first rules y d
from_at first [] n y d h = absurd (let w = slice_get_within [] n (y, d) h in omega (arith, w))
from_at first (r ∷ rs) n y d h = ⊎_elim
    (λ w. let e = of_first first n y r.productions d w in record { number = 0; rule = r; at = refl; left = (let a = e.0 in omega (arith, a)); place = n; there = e.1 })
    (λ w. let f = from_at (suc first) rs w.0 y d w.1 in record { number = suc f.number; rule = f.rule; at = f.at; left = (let a = f.left in omega (arith, a)); place = f.place; there = f.there })
    (append_at (map (λ (p : Production). (first, p)) r.productions) (productions_from (suc first) rs) n (y, d) h)

no_end : (g : FlatGrammar) (line : Line) (dot : ℕ) (s : Step) → Fit g → slice_get (line_steps g line) dot ≡ Some s → 0 < s.symbol.0
no_end g None zero s fit b = let e : Some (start_symbol g) ≡ Some s.symbol.0 = ap (option_map (λ (s : Step). s.symbol.0)) b in let f : start_symbol g ≡ s.symbol.0 = cc in omega (arith, f)
no_end g None (suc dot) s fit b = absurd (let w = slice_get_within [] dot s b in omega (arith, w))
no_end g (Some number) dot s fit b = by (production_at g number) refl b
  where
    by : (o : Option (ℕ × Production)) → production_at g number ≡ o → slice_get (unwrap_or (option_map (λ (p : ℕ × Production). p.1.steps) o) []) dot ≡ Some s → 0 < s.symbol.0
    by None e h = absurd (let w = slice_get_within [] dot s h in omega (arith, w))
    by (Some (y, d)) e h =
        let f = from_at (start_symbol g) g.rules number y d e in
        let good : IsFitProduction g d = all_at (IsFitProduction g) f.rule.productions f.place d (fit.rules f.number f.rule f.at).productions f.there in
        (all_at (IsFitStep g) d.steps dot s good.steps h).not_end

pub end_before : (g : FlatGrammar) (read : List ℕ) → Fit g → StandsBefore g read 0 → ⊥
end_before g read fit (i, s, v, b, e) = let lt = no_end g i.line i.dot s fit b in omega (arith, lt, e)

-- ---- the step before

pub last_step : (g : FlatGrammar) (read : List ℕ) (x : ℕ) (i : Item) → Valid g (x ∷ read) i → StandsBefore g read x
last_step g read x _ (asked _ i j v e) = last_step g read x i v
last_step g read _ _ (advanced_past _ i s v b) = (i, s, v, b, refl)

-- ---- the numbered sets

module _ (g : FlatGrammar) (items : Items) (stands : StandsFor g items) where
  pub valid_of : (n : ℕ) (s : State) (read : List ℕ) → slice_get items.states.items n ≡ Some s → IsReachedBy items read n → SameItems (In items.tokens.keys s.parts.items) (Valid g read)
  valid_of n s read at reach i = (
    (λ h. (stands.valid read n reach i).0 (s, at, h)),
    (λ v. let w = (stands.valid read n reach i).1 v in subst (λ (r : State). In items.tokens.keys r.parts.items i) (one_at items.states.items n w.0 s w.1 at) w.2),
  )

  pub first_there : 0 < length items.states.items
  first_there = let w = (stands.valid [] 0 here start_item).1 begun in let lt = slice_get_within items.states.items 0 w.0 w.1 in omega (arith, lt)

  pub goto_within : (n x m : ℕ) → IsGoto items n x m → m < length items.states.items
  goto_within n x m w = (stands.inside n w.0 (record { symbol = x; state = m }) w.1 w.2).1

  pub reached_within : (read : List ℕ) (n : ℕ) → IsReachedBy items read n → n < length items.states.items
  reached_within _ _ here = first_there
  reached_within _ _ (step read n x m r w) = goto_within n x m w

  pub goto_once : (n x m k : ℕ) → IsGoto items n x m → IsGoto items n x k → m ≡ k
  goto_once n x m k v w =
      let s = v.0 in
      let same : w.0 ≡ s = one_at items.states.items n w.0 s w.1 v.1 in
      let hw = subst (λ (r : State). Contains r.gotos.items (record { symbol = x; state = k })) same w.2 in
      let a = at_of s.gotos.items (record { symbol = x; state = m }) v.2 in
      let b = at_of s.gotos.items (record { symbol = x; state = k }) hw in
      let rise = (stands.laid_out n s v.1).rise in
      ⊎_elim (λ lt. absurd (let f = rise v.2.0 hw.0 (record { symbol = x; state = m }) (record { symbol = x; state = k }) lt a b in omega (arith, f)))
      (λ o. ⊎_elim
      (λ e. ap (λ (t : Goto). t.state) (one_at s.gotos.items v.2.0 (record { symbol = x; state = m }) (record { symbol = x; state = k }) a (subst (λ (j : ℕ). slice_get s.gotos.items j ≡ Some (record { symbol = x; state = k })) (sym e) b)))
      (λ lt. absurd (let f = rise hw.0 v.2.0 (record { symbol = x; state = k }) (record { symbol = x; state = m }) lt b a in omega (arith, f))) o)
      (three v.2.0 hw.0)

  record LastGoto (read : List ℕ) (x m : ℕ) : Type 0 where
    from : ℕ
    leads : IsReachedBy items read from
    over : IsGoto items from x m

  last_goto : (read : List ℕ) (x m : ℕ) → IsReachedBy items (x ∷ read) m → LastGoto read x m
  last_goto read _ _ (step _ n x m r w) = record { from = n; leads = r; over = w }

  nothing_read : (n : ℕ) → IsReachedBy items [] n → n ≡ 0
  nothing_read _ here = refl

  pub reached_once : (read : List ℕ) (m n : ℕ) → IsReachedBy items read m → IsReachedBy items read n → m ≡ n
  reached_once [] m n a b = nothing_read m a ∙ sym (nothing_read n b)
  reached_once (x ∷ read) m n a b =
      let v = last_goto read x m a in
      let w = last_goto read x n b in
      goto_once v.from x m n v.over (subst (λ (f : ℕ). IsGoto items f x n) (reached_once read w.from v.from w.leads v.leads) w.over)

  pub some_valid : (read : List ℕ) (n : ℕ) → IsReachedBy items read n → (i : Item) × Valid g read i
  some_valid read n reach =
      let w = stands.reached n (reached_within read n reach) in
      (w.1, (stands.valid read n reach w.1).0 ((stands.valid w.0 n w.2 w.1).1 w.3))

  pub goto_before : (read : List ℕ) (n x m : ℕ) → IsReachedBy items read n → IsGoto items n x m → StandsBefore g read x
  goto_before read n x m reach over = let w = some_valid (x ∷ read) m (step read n x m reach over) in last_step g read x w.0 w.1

  pub before_goto : (read : List ℕ) (n x : ℕ) → IsReachedBy items read n → StandsBefore g read x → (m : ℕ) × IsGoto items n x m
  before_goto read n x reach (i, s, v, b, e) =
      let w = stands.complete (s.symbol.0 ∷ read) (advanced i) (advanced_past read i s v b) in
      let l = last_goto read s.symbol.0 w.0 w.1 in
      (w.0, subst (λ (y : ℕ). IsGoto items n y w.0) e (subst (λ (f : ℕ). IsGoto items f s.symbol.0 w.0) (reached_once read l.from n l.leads reach) l.over))

  pub goto_shifts : (read : List ℕ) (n t m : ℕ) → Fit g → t ≤ length g.tokens → IsReachedBy items read n → IsGoto items n t m → Shifts g read t
  goto_shifts read n t m fit few reach over =
      let w = goto_before read n t m reach over in
      record { is_token = (positive t w, few); item = w.0; valid = w.2; step = w.1; before = w.3; is = w.4 }
    where
      positive : (u : ℕ) → StandsBefore g read u → 0 < u
      positive zero h = absurd (end_before g read fit h)
      positive (suc u) h = omega arith

  pub shifts_goto : (read : List ℕ) (n t : ℕ) → IsReachedBy items read n → Shifts g read t → (m : ℕ) × IsGoto items n t m
  shifts_goto read n t reach s = before_goto read n t reach (s.item, s.step, s.valid, s.before, s.is)
