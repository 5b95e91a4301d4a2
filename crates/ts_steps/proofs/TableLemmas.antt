-- The states of a table: symbols that lead to them, their items and their valid tokens.
use Rattle.std.proofs.Common.{◌≡◌, ◌∙◌, sym, ap, refl, subst, ℕ, zero, suc, ◌+◌, ◌<◌, ◌≤◌, ◌⊎◌, inl, inr, ⊎_elim, Bool, true, false, nat_eq, List, [], ◌∷◌, ◌++◌, length, length-append, get_or, slice_get, Option, Some, None, arith}
use Rattle.std.specs.List.{Contains}
use Rattle.std.proofs.lemmas.Bool.{eq-eqb, eqb-true}
use Rattle.std.proofs.lemmas.Option.{slice_get_within, slice_get-get_or}
use Rattle.ts_base.proofs.PlaceLemmas.{push_cases}
use Rattle.ts_core.specs.declared.action.Action.{Action}
use Rattle.ts_core.specs.declared.action.Action.TheVariants.{Shift, Reduce, Accept}
use Rattle.ts_core.specs.declared.flat.FlatGrammar.{FlatGrammar}
use Rattle.ts_core.specs.declared.flat.Step.{Step}
use Rattle.ts_core.specs.declared.symbol.Symbol.{Symbol}
use Rattle.spec_grammar.specs.Symbols.{is_among, is_extra}
use Rattle.spec_tables.specs.Actions.{Move, shift, reduce, accept, Act, may_shift, may_reduce, may_accept}
use Rattle.spec_tables.specs.Items.{Item, IsToken, CanBeginWith, itself, by_first, MayStandBehind, Valid, begun, asked, advanced_past, line_steps}
use Rattle.spec_tables.specs.Fit.{Fit}
use Rattle.spec_forced.specs.Forced.{IsOnlyMove}
use Rattle.spec_runs.specs.Configurations.{HasMove, AreValidTokens}
use Rattle.spec_forced.specs.Sound.{States, IsStateAfter}
use Rattle.ts_table.specs.declared.view.ParseTable.{ParseTable}
use Rattle.ts_table.specs.Tables.{IsTable, IsStateOf, at_first, by_goto, goto_of, actions_of, ActsBy, shifts, reduces, accepts}
use Rattle.ts_lexer.specs.States.{AreValid, IsValidToken, acts, extra}
use Rattle.ts_steps.specs.MoveLaws.{Laws}
use Rattle.ts_steps.specs.Heads.{AreStatesOf}

-- ---- names of states

-- lists for the first so many states
record Named (t : ParseTable) (n : ℕ) : Type 0 where
  states : States
  count : length states ≡ n
  each : (state : ℕ) (way : List ℕ) → slice_get states state ≡ Some way → IsStateOf t way state

named : (t : ParseTable) → IsTable t → (n : ℕ) → n ≤ length t.rows → Named t n
named t table zero le = record { states = []; count = refl; each = λ state way e. absurd (let f = slice_get_within [] state way e in omega arith) }
named t table (suc n) le =
    let before = named t table n (omega (arith, le)) in
    let r = table.reached n (omega (arith, le)) in
    record {
      states = before.states ++ r.0 ∷ [];
      count = omega (arith, before.count, length-append before.states (r.0 ∷ []));
      each = λ state way e.
          ⊎_elim (λ w. before.each state way w.1)
          (λ w. subst (λ (l : List ℕ). IsStateOf t l state) w.1 (subst (λ (k : ℕ). IsStateOf t r.0 k) (sym (w.0 ∙ before.count)) r.1))
          (push_cases before.states r.0 state way e);
    }

pub names : (t : ParseTable) → IsTable t → (states : States) × AreStatesOf t states
names t table = let n = named t table (length t.rows) (omega arith) in (n.states, record { count = n.count; each = n.each })

pub state_after : (t : ParseTable) (states : States) (read : List ℕ) (state : ℕ) → IsTable t → AreStatesOf t states → IsStateOf t read state → IsStateAfter t.grammar states state read
state_after t states read state table are st =
    let low : state < length states = let i = table.inside read state st in let c = are.count in omega arith in
    let at : slice_get states state ≡ Some (get_or states state []) = slice_get-get_or states state [] low in
    record {
      way = get_or states state [];
      at = at;
      same = table.same (get_or states state []) read state (are.each state (get_or states state []) at) st;
    }

-- a state that is led to over a symbol is led to from the state before it
pub came : (t : ParseTable) (x : ℕ) (read more : List ℕ) (n : ℕ) → IsStateOf t more n → more ≡ x ∷ read → (m : ℕ) × IsStateOf t read m × (goto_of t m x ≡ Some n)
came t x read _ _ at_first e = absurd (let h : [] ≡ x ∷ read = e in cc)
came t x read _ n (by_goto r m y _ st go) e =
    let a : y ≡ x = cc in
    let b : r ≡ read = cc in
    (m, subst (λ (l : List ℕ). IsStateOf t l m) b st, subst (λ (k : ℕ). goto_of t m k ≡ Some n) a go)

-- ---- tokens of moves

begins_token : (g : FlatGrammar) (s t : ℕ) → CanBeginWith g s t → IsToken g t
begins_token g _ _ (itself token is) = is
begins_token g _ _ (by_first symbol number token st is first rest) = begins_token g st.symbol.0 token rest

valid_token : (g : FlatGrammar) (read : List ℕ) (i : Item) → Valid g read i → i.token ≤ length g.tokens
valid_token g _ _ begun = omega arith
valid_token g read _ (asked _ i j v e) = by (valid_token g read i v) (slice_get (line_steps g i.line) (suc i.dot)) e.follows
  where
    by : i.token ≤ length g.tokens → (o : Option Step) → MayStandBehind g o i.token j.token → j.token ≤ length g.tokens
    by le None f = omega (arith, le, f)
    by le (Some s) f = (begins_token g s.symbol.0 j.token f).1
valid_token g _ _ (advanced_past read i s v b) = valid_token g read i v

act_token : (g : FlatGrammar) (read : List ℕ) (token : ℕ) (move : Move) → Act g read token move → token ≤ length g.tokens
act_token g read token _ (may_shift s free) = s.is_token.1
act_token g read token _ (may_reduce i number r e free) = omega (arith, r.reduces.on, valid_token g read i r.reduces.valid)
act_token g read token _ (may_accept e v) = omega (arith, e)

-- ---- actions

pub move_of : (t : ParseTable) (read : List ℕ) (token : ℕ) (a : Action) → ActsBy t read token a → HasMove t.grammar read token
move_of t read token _ (shifts next act state) = (shift, act)
move_of t read token _ (reduces number act) = (reduce number, act)
move_of t read token _ (accepts act) = (accept, act)

-- a shift that stays is one of the table's actions
shift_acts : (laws : Laws) (t : ParseTable) (read : List ℕ) (n token : ℕ) → IsTable t → IsStateOf t read n → Act t.grammar read token shift → (next : ℕ) × ActsBy t read token (Shift next)
shift_acts laws t read n token table st act =
    let s = (laws.shifts t.grammar read token act).1 in
    let m = (table.gotos read n token st).1 s in
    (m.0, shifts m.0 act (by_goto read n token m.0 st m.1))

has_action : (laws : Laws) (t : ParseTable) (read : List ℕ) (n token : ℕ) (move : Move) → IsTable t → IsStateOf t read n → Act t.grammar read token move → (a : Action) × ActsBy t read token a
has_action laws t read n token shift table st act = let s = shift_acts laws t read n token table st act in (Shift s.0, s.1)
has_action laws t read n token (reduce number) table st act = (Reduce number, reduces number act)
has_action laws t read n token accept table st act = (Accept, accepts act)

-- ---- extras

among_there : (ss : List Symbol) (s : Symbol) → Contains ss s → is_among s.0 ss ≡ true
among_there ss s w = go ss w.0 w.1 w.2
  where
    by : (x : Symbol) (xs : List Symbol) (b : Bool) → nat_eq x.0 s.0 ≡ b → (b ≡ false → is_among s.0 xs ≡ true) → is_among s.0 (x ∷ xs) ≡ true
    by x xs true e h = rw e refl
    by x xs false e h = rw e (h refl)

    go : (xs : List Symbol) (k : ℕ) → k < length xs → get_or xs k s ≡ s → is_among s.0 xs ≡ true
    go [] k lt is = absurd (omega arith)
    go (x ∷ xs) zero lt is = by x xs (nat_eq x.0 s.0) refl (λ no. absurd (let e : nat_eq x.0 s.0 ≡ true = eq-eqb x.0 s.0 (ap (λ (y : Symbol). y.0) is) in let f : nat_eq x.0 s.0 ≡ false = no in cc))
    go (x ∷ xs) (suc k) lt is = by x xs (nat_eq x.0 s.0) refl (λ no. go xs k (omega arith) is)

among_back : (ss : List Symbol) (s : Symbol) → is_among s.0 ss ≡ true → Contains ss s
among_back [] s e = absurd (let h : false ≡ true = e in cc)
among_back (x ∷ xs) s e = by (nat_eq x.0 s.0) refl (among_back xs s)
  where
    by : (b : Bool) → nat_eq x.0 s.0 ≡ b → (is_among s.0 xs ≡ true → Contains xs s) → Contains (x ∷ xs) s
    by true h deeper = (0, (omega arith), (let q : x.0 ≡ s.0 = eqb-true x.0 s.0 h in ap {B = Symbol} (λ (n : ℕ). record { 0 = n }) q))
    by false h deeper = let r = deeper (let f : is_among s.0 (x ∷ xs) ≡ is_among s.0 xs = rw h refl in sym f ∙ e) in (suc r.0, (let lt : r.0 < length xs = r.1 in omega arith), r.2)

-- an extra is a token
pub extra_token : (g : FlatGrammar) (s : Symbol) → Fit g → is_extra g s.0 ≡ true → IsToken g s.0
extra_token g s fit e =
    let w = among_back g.extras s e in
    subst (λ (x : Symbol). (0 < x.0) × (x.0 ≤ length g.tokens)) w.2 (fit.extras.1 w.0 s w.1)

-- ---- the only move

-- the move that an action does
abbrev pub move_by : Action → Move
move_by (Shift next) = shift
move_by (Reduce number) = reduce number
move_by Accept = accept

stays_by : (t : ParseTable) (read : List ℕ) (token : ℕ) (a : Action) → ActsBy t read token a → Act t.grammar read token (move_by a)
stays_by t read token _ (shifts next act state) = act
stays_by t read token _ (reduces number act) = act
stays_by t read token _ (accepts act) = act

-- the state after a shift
shift_by : (t : ParseTable) (read : List ℕ) (token next : ℕ) (a : Action) → a ≡ Shift next → ActsBy t read token a → IsStateOf t (token ∷ read) next
shift_by t read token next _ e (shifts m act state) = let h : Shift m ≡ Shift next = e in subst (λ (n : ℕ). IsStateOf t (token ∷ read) n) (let q : m ≡ next = cc in q) state
shift_by t read token next _ e (reduces number act) = absurd (let h : Reduce number ≡ Shift next = e in cc)
shift_by t read token next _ e (accepts act) = absurd (let h : Accept ≡ Shift next = e in cc)

pub shift_of : (t : ParseTable) (read : List ℕ) (token next : ℕ) → ActsBy t read token (Shift next) → IsStateOf t (token ∷ read) next
shift_of t read token next a = shift_by t read token next (Shift next) refl a

-- each move that stays is that of one of the actions
action_of : (laws : Laws) (t : ParseTable) (read : List ℕ) (n token : ℕ) (move : Move) → IsTable t → IsStateOf t read n → Act t.grammar read token move → (a : Action) × Contains (actions_of t n token) a × (move_by a ≡ move)
action_of laws t read n token shift table st act =
    let s = shift_acts laws t read n token table st act in
    (Shift s.0, (table.actions read n token (Shift s.0) st).1 s.1, refl)
action_of laws t read n token (reduce number) table st act = (Reduce number, (table.actions read n token (Reduce number) st).1 (reduces number act), refl)
action_of laws t read n token accept table st act = (Accept, (table.actions read n token Accept st).1 (accepts act), refl)

in_one : (xs : List Action) (a b : Action) → xs ≡ b ∷ [] → Contains xs a → a ≡ b
in_one xs a b is w = by xs is w.0 w.1 w.2
  where
    by : (xs : List Action) → xs ≡ b ∷ [] → (k : ℕ) → k < length xs → get_or xs k a ≡ a → a ≡ b
    by [] e k lt at = absurd (omega (arith, lt))
    by (x ∷ xs) e zero lt at = let q : x ≡ b = cc in sym at ∙ q
    by (x ∷ xs) e (suc k) lt at = absurd (let q : xs ≡ [] = cc in let n : length xs ≡ 0 = ap (λ (l : List Action). length l) q in omega (arith, lt, n))

pub one_acts : (t : ParseTable) (read : List ℕ) (n token : ℕ) (a : Action) → IsTable t → IsStateOf t read n → actions_of t n token ≡ a ∷ [] → ActsBy t read token a
one_acts t read n token a table st is =
    (table.actions read n token a st).0 (subst (λ (l : List Action). Contains l a) (sym is) (0, (omega arith), refl))

pub one_move : (laws : Laws) (t : ParseTable) (read : List ℕ) (n token : ℕ) (a : Action) → IsTable t → IsStateOf t read n → actions_of t n token ≡ a ∷ [] → IsOnlyMove t.grammar read token (move_by a)
one_move laws t read n token a table st is = record {
  stays = stays_by t read token a (one_acts t read n token a table st is);
  only = λ other act.
      let w = action_of laws t read n token other table st act in
      sym w.2 ∙ ap move_by (in_one (actions_of t n token) w.0 a is w.1);
}

-- what tells moves apart
abbrev code_by : Move → ℕ
code_by shift = 0
code_by (reduce number) = number + 2
code_by accept = 1

-- actions of one move are one
one_action : (t : ParseTable) (read : List ℕ) (token : ℕ) (a b : Action) → IsTable t → ActsBy t read token a → ActsBy t read token b → move_by a ≡ move_by b → a ≡ b
one_action t read token _ _ table (shifts m act st) (shifts n other so) e = ap (λ (k : ℕ). Shift k) (table.one (token ∷ read) m n st so)
one_action t read token _ _ table (shifts m act st) (reduces n other) e = absurd (let h : 0 ≡ n + 2 = ap code_by e in omega (arith, h))
one_action t read token _ _ table (shifts m act st) (accepts other) e = absurd (let h : 0 ≡ 1 = ap code_by e in omega (arith, h))
one_action t read token _ _ table (reduces m act) (shifts n other so) e = absurd (let h : m + 2 ≡ 0 = ap code_by e in omega (arith, h))
one_action t read token _ _ table (reduces m act) (reduces n other) e = let h : m + 2 ≡ n + 2 = ap code_by e in let q : m ≡ n = omega (arith, h) in ap (λ (k : ℕ). Reduce k) q
one_action t read token _ _ table (reduces m act) (accepts other) e = absurd (let h : m + 2 ≡ 1 = ap code_by e in omega (arith, h))
one_action t read token _ _ table (accepts act) (shifts n other so) e = absurd (let h : 1 ≡ 0 = ap code_by e in omega (arith, h))
one_action t read token _ _ table (accepts act) (reduces n other) e = absurd (let h : 1 ≡ n + 2 = ap code_by e in omega (arith, h))
one_action t read token _ _ table (accepts act) (accepts other) e = refl

-- where the table has several actions two moves stay
pub two_moves : (t : ParseTable) (read : List ℕ) (n token : ℕ) → IsTable t → IsStateOf t read n → 1 < length (actions_of t n token)
    → (first : Move) × (second : Move) × Act t.grammar read token first × Act t.grammar read token second × (first ≡ second → ⊥)
two_moves t read n token table st many = by (actions_of t n token) refl many
  where
    by : (xs : List Action) → actions_of t n token ≡ xs → 1 < length xs → (first : Move) × (second : Move) × Act t.grammar read token first × Act t.grammar read token second × (first ≡ second → ⊥)
    by [] e lt = absurd (omega (arith, lt))
    by (a ∷ []) e lt = absurd (omega (arith, lt))
    by (a ∷ (b ∷ xs)) e lt =
        let p : ActsBy t read token a = (table.actions read n token a st).0 (subst (λ (l : List Action). Contains l a) (sym e) (0, (omega arith), refl)) in
        let q : ActsBy t read token b = (table.actions read n token b st).0 (subst (λ (l : List Action). Contains l b) (sym e) (1, (omega arith), refl)) in (
          move_by a,
          move_by b,
          stays_by t read token a p,
          stays_by t read token b q,
          (λ same.
              let one : a ≡ b = one_action t read token a b table p q same in
              let places = table.once n token 0 1 a (ap (λ (l : List Action). slice_get l 0) e) (ap (λ (l : List Action). slice_get l 1) e ∙ ap Some (sym one)) in
              omega (arith, places)),
        )

pub no_move : (laws : Laws) (t : ParseTable) (read : List ℕ) (n token : ℕ) → IsTable t → IsStateOf t read n → actions_of t n token ≡ [] → HasMove t.grammar read token → ⊥
no_move laws t read n token table st is m =
    let w = action_of laws t read n token m.0 table st m.1 in
    let k : length (actions_of t n token) ≡ 0 = ap (λ (l : List Action). length l) is in
    absurd (let lt = w.1.1 in omega (arith, lt, k))

-- ---- valid tokens

pub valid_tokens : (laws : Laws) (t : ParseTable) (read : List ℕ) (n : ℕ) (valid : List Symbol) → IsTable t → IsStateOf t read n → AreValid t n valid → AreValidTokens t.grammar read valid
valid_tokens laws t read n valid table st are s = ((λ w. forth ((are s).0 w)), (λ h. (are s).1 (back h)))
  where
    forth : IsValidToken t n s → HasMove t.grammar read s.0 ⊎ (is_extra t.grammar s.0 ≡ true)
    forth (acts low has) = inl (move_of t read s.0 has.0 ((table.actions read n s.0 has.0 st).0 has.1))
    forth (extra w) = inr (among_there t.grammar.extras s w)

    back : HasMove t.grammar read s.0 ⊎ (is_extra t.grammar s.0 ≡ true) → IsValidToken t n s
    back (inl m) =
        let a = has_action laws t read n s.0 m.0 table st m.1 in
        acts (act_token t.grammar read s.0 m.0 m.1) (a.0, (table.actions read n s.0 a.0 st).1 a.1)
    back (inr e) = extra (among_back t.grammar.extras s e)

-- where the table has an action some move stays
pub some_move : (t : ParseTable) (read : List ℕ) (n token : ℕ) → IsTable t → IsStateOf t read n → 0 < length (actions_of t n token) → HasMove t.grammar read token
some_move t read n token table st some = by (actions_of t n token) refl some
  where
    by : (xs : List Action) → actions_of t n token ≡ xs → 0 < length xs → HasMove t.grammar read token
    by [] e lt = absurd (omega (arith, lt))
    by (a ∷ xs) e lt = move_of t read token a ((table.actions read n token a st).0 (subst (λ (l : List Action). Contains l a) (sym e) (0, (omega arith), refl)))
