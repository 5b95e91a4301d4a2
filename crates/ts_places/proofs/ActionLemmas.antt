-- The actions of a state, and the moves that stay on a token.
use Rattle.std.proofs.Common.{◌≡◌, ◌∙◌, sym, ap, refl, subst, ℕ, suc, ◌+◌, ◌<◌, ◌≤◌, ⊎_elim, take, Bool, true, false, nat_eq, List, [], ◌∷◌, length, get_or, arith}
use Rattle.std.specs.List.{Contains}
use Rattle.std.proofs.lemmas.Bool.{eqb-true}
use Rattle.std.proofs.lemmas.List.{take_all}
use Rattle.std.proofs.lemmas.List.Elements.{Contains-push_cases}
use Rattle.ts_core.specs.declared.action.Action.{Action}
use Rattle.ts_core.specs.declared.action.Action.TheVariants.{Shift, Reduce, Accept}
use Rattle.ts_core.specs.declared.flat.FlatGrammar.{FlatGrammar}
use Rattle.ts_core.specs.declared.symbol.Symbol.{Symbol}
use Rattle.spec_grammar.specs.Symbols.{is_among, is_extra}
use Rattle.spec_tables.specs.Actions.{Move, shift, reduce, accept, Act}
use Rattle.spec_tables.specs.Items.{IsToken}
use Rattle.spec_tables.specs.Fit.{Fit}
use Rattle.spec_runs.specs.Configurations.{HasMove}
use Rattle.spec_graph.specs.States.{LeadsTo}
use Rattle.spec_graph.specs.States as states
use Rattle.ts_table.specs.declared.view.ParseTable.{ParseTable}
use Rattle.ts_table.specs.Tables.{IsTable, IsStateOf, at_first, by_goto, goto_of, actions_of, ActsBy, shifts, reduces, accepts}
use Rattle.ts_places.specs.ShiftLaws.{LeafLaws}
use Rattle.ts_places.proofs.SmallLemmas.{none_contained, one_taken}

pub state_leads : (t : ParseTable) (read : List ℕ) (n : ℕ) → IsStateOf t read n → LeadsTo (goto_of t) read n
state_leads t _ _ at_first = states.at_first
state_leads t _ _ (by_goto read state symbol next s e) = states.by_goto read state symbol next (state_leads t read state s) e

-- ---- shifts

record IsShift (t : ParseTable) (read : List ℕ) (token next : ℕ) : Type 0 where
  act : Act t.grammar read token shift
  leads : IsStateOf t (token ∷ read) next

shift_by : (t : ParseTable) (read : List ℕ) (token next : ℕ) (a : Action) → a ≡ Shift next → ActsBy t read token a → IsShift t read token next
shift_by t read token next _ e (shifts m act st) = let h : Shift m ≡ Shift next = e in record { act = act; leads = subst (λ (n : ℕ). IsStateOf t (token ∷ read) n) (let q : m ≡ next = cc in q) st }
shift_by t read token next _ e (reduces number act) = absurd (let h : Reduce number ≡ Shift next = e in cc)
shift_by t read token next _ e (accepts act) = absurd (let h : Accept ≡ Shift next = e in cc)

module _ (t : ParseTable) (table : IsTable t) (read : List ℕ) (n token : ℕ) (st : IsStateOf t read n) where
  -- a shift that a state has stays, and leads to its state
  pub shift_stays : (next : ℕ) → Contains (actions_of t n token) (Shift next) → Act t.grammar read token shift
  shift_stays next there = (shift_by t read token next (Shift next) refl ((table.actions read n token (Shift next) st).0 there)).act

  pub shift_leads : (next : ℕ) → Contains (actions_of t n token) (Shift next) → LeadsTo (goto_of t) (token ∷ read) next
  shift_leads next there = state_leads t (token ∷ read) next (shift_by t read token next (Shift next) refl ((table.actions read n token (Shift next) st).0 there)).leads

  -- a shift that stays is one of the actions
  pub shift_acts : LeafLaws → Act t.grammar read token shift → (next : ℕ) × Contains (actions_of t n token) (Shift next)
  shift_acts laws act =
      let s = (laws.shifts t.grammar read token act).1 in
      let m = (table.gotos read n token st).1 s in
      (m.0, (table.actions read n token (Shift m.0) st).1 (shifts m.0 act (by_goto read n token m.0 st m.1)))

  -- ---- no action, and some action

  move_of : (a : Action) → ActsBy t read token a → HasMove t.grammar read token
  move_of _ (shifts next act state) = (shift, act)
  move_of _ (reduces number act) = (reduce number, act)
  move_of _ (accepts act) = (accept, act)

  action_of : LeafLaws → (move : Move) → Act t.grammar read token move → (a : Action) × Contains (actions_of t n token) a
  action_of laws shift act = let s = shift_acts laws act in (Shift s.0, s.1)
  action_of laws (reduce number) act = (Reduce number, (table.actions read n token (Reduce number) st).1 (reduces number act))
  action_of laws accept act = (Accept, (table.actions read n token Accept st).1 (accepts act))

  pub no_move : LeafLaws → actions_of t n token ≡ [] → HasMove t.grammar read token → ⊥
  no_move laws is m =
      let w = action_of laws m.0 m.1 in
      let k : length (actions_of t n token) ≡ 0 = ap (λ (l : List Action). length l) is in
      let low = w.1.1 in
      omega (arith, low, k)

  pub some_move : 0 < length (actions_of t n token) → HasMove t.grammar read token
  some_move some = by (actions_of t n token) refl some
    where
      by : (xs : List Action) → actions_of t n token ≡ xs → 0 < length xs → HasMove t.grammar read token
      by [] e lt = absurd (omega (arith, lt))
      by (a ∷ xs) e lt = move_of a ((table.actions read n token a st).0 (subst (λ (l : List Action). Contains l a) (sym e) (0, (omega arith), refl)))

-- ---- extras

among_back : (ss : List Symbol) (s : Symbol) → is_among s.0 ss ≡ true → Contains ss s
among_back [] s e = absurd (let h : false ≡ true = e in cc)
among_back (x ∷ xs) s e = by (nat_eq x.0 s.0) refl (among_back xs s)
  where
    by : (b : Bool) → nat_eq x.0 s.0 ≡ b → (is_among s.0 xs ≡ true → Contains xs s) → Contains (x ∷ xs) s
    by true h deeper = (0, (omega arith), (let q : x.0 ≡ s.0 = eqb-true x.0 s.0 h in ap {B = Symbol} (λ (n : ℕ). record { 0 = n }) q))
    by false h deeper = let r = deeper (let f : is_among s.0 (x ∷ xs) ≡ is_among s.0 xs = rw h refl in sym f ∙ e) in (suc r.0, (let lt : r.0 < length xs = r.1 in omega arith), r.2)

-- an extra is a token
pub extra_token : (g : FlatGrammar) (s : Symbol) → Fit g → is_extra g s.0 ≡ true → IsToken g s.0
extra_token g s fit e =
    let w = among_back g.extras s e in
    subst (λ (x : Symbol). (0 < x.0) × (x.0 ≤ length g.tokens)) w.2 (fit.extras.1 w.0 s w.1)

-- ---- no shift among actions

abbrev pub HasNoShift : List Action → Type 0
HasNoShift actions = (state : ℕ) → Contains actions (Shift state) → ⊥

pub no_shift_none : (actions : List Action) → HasNoShift (take 0 actions)
no_shift_none actions state h = none_contained (Shift state) h

pub no_shift_more : (actions : List Action) (i : ℕ) (x : Action) → i < length actions → x ≡ get_or actions i x → ((state : ℕ) → x ≡ Shift state → ⊥) → HasNoShift (take i actions) → HasNoShift (take (i + 1) actions)
no_shift_more actions i x low is other before state h =
    ⊎_elim (λ w. before state w) (λ e. other state e) (Contains-push_cases (take i actions) x (Shift state) (subst (λ (l : List Action). Contains l (Shift state)) (sym (one_taken actions i x low is)) h))

pub no_shift_all : (actions : List Action) (i : ℕ) → length actions ≤ i → HasNoShift (take i actions) → HasNoShift actions
no_shift_all actions i many before = subst HasNoShift (take_all i actions many) before

pub reduce_is_no_shift : (x : Action) (number state : ℕ) → x ≡ Reduce number → x ≡ Shift state → ⊥
reduce_is_no_shift x number state a b = let e : Reduce number ≡ Shift state = sym a ∙ b in cc

pub accept_is_no_shift : (x : Action) (state : ℕ) → x ≡ Accept → x ≡ Shift state → ⊥
accept_is_no_shift x state a b = let e : Accept ≡ Shift state = sym a ∙ b in cc
