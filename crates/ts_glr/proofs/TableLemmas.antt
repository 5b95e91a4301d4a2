-- The actions of a table are the moves that stay, and its extras are tokens.
use Rattle.std.proofs.Common.{◌≡◌, ◌∙◌, sym, ap, refl, subst, ℕ, suc, ◌<◌, ◌≤◌, Bool, true, false, nat_eq, List, [], ◌∷◌, length, arith}
use Rattle.std.specs.List.{Contains}
use Rattle.std.proofs.lemmas.Bool.{eqb-true}
use Rattle.ts_core.specs.declared.action.Action.{Action}
use Rattle.ts_core.specs.declared.action.Action.TheVariants.{Shift, Reduce, Accept}
use Rattle.ts_core.specs.declared.flat.FlatGrammar.{FlatGrammar}
use Rattle.ts_core.specs.declared.symbol.Symbol.{Symbol}
use Rattle.spec_grammar.specs.Symbols.{is_among, is_extra}
use Rattle.spec_tables.specs.Actions.{Move, shift, reduce, accept, Act}
use Rattle.spec_tables.specs.Fit.{Fit}
use Rattle.spec_tables.specs.Items.{IsToken}
use Rattle.ts_table.specs.declared.view.ParseTable.{ParseTable}
use Rattle.ts_table.specs.Tables.{IsTable, IsStateOf, by_goto, ActsBy, shifts, reduces, accepts}
use Rattle.ts_steps.specs.MoveLaws.{Laws}

-- ---- actions

pub by_shift : (t : ParseTable) (read : List ℕ) (token next : ℕ) (a : Action) → a ≡ Shift next → ActsBy t read token a → Act t.grammar read token shift × IsStateOf t (token ∷ read) next
by_shift t read token next _ e (shifts m act state) = let h : Shift m ≡ Shift next = e in (act, subst (λ (n : ℕ). IsStateOf t (token ∷ read) n) (let q : m ≡ next = cc in q) state)
by_shift t read token next _ e (reduces number act) = absurd (let h : Reduce number ≡ Shift next = e in cc)
by_shift t read token next _ e (accepts act) = absurd (let h : Accept ≡ Shift next = e in cc)

pub by_reduce : (t : ParseTable) (read : List ℕ) (token number : ℕ) (a : Action) → a ≡ Reduce number → ActsBy t read token a → Act t.grammar read token (reduce number)
by_reduce t read token number _ e (shifts m act state) = absurd (let h : Shift m ≡ Reduce number = e in cc)
by_reduce t read token number _ e (reduces n act) = let h : Reduce n ≡ Reduce number = e in subst (λ (k : ℕ). Act t.grammar read token (reduce k)) (let q : n ≡ number = cc in q) act
by_reduce t read token number _ e (accepts act) = absurd (let h : Accept ≡ Reduce number = e in cc)

pub by_accept : (t : ParseTable) (read : List ℕ) (token : ℕ) (a : Action) → a ≡ Accept → ActsBy t read token a → Act t.grammar read token accept
by_accept t read token _ e (shifts m act state) = absurd (let h : Shift m ≡ Accept = e in cc)
by_accept t read token _ e (reduces n act) = absurd (let h : Reduce n ≡ Accept = e in cc)
by_accept t read token _ e (accepts act) = act

-- a shift that stays is one of the table's actions
pub shift_acts : (laws : Laws) (t : ParseTable) (read : List ℕ) (n token : ℕ) → IsTable t → IsStateOf t read n → Act t.grammar read token shift → (next : ℕ) × ActsBy t read token (Shift next)
shift_acts laws t read n token table st act =
    let s = (laws.shifts t.grammar read token act).1 in
    let m = (table.gotos read n token st).1 s in
    (m.0, shifts m.0 act (by_goto read n token m.0 st m.1))

pub has_action : (laws : Laws) (t : ParseTable) (read : List ℕ) (n token : ℕ) (move : Move) → IsTable t → IsStateOf t read n → Act t.grammar read token move → (a : Action) × ActsBy t read token a
has_action laws t read n token shift table st act = let s = shift_acts laws t read n token table st act in (Shift s.0, s.1)
has_action laws t read n token (reduce number) table st act = (Reduce number, reduces number act)
has_action laws t read n token accept table st act = (Accept, accepts act)

-- ---- extras

among_back : (ss : List Symbol) (s : Symbol) → is_among s.0 ss ≡ true → Contains ss s
among_back [] s e = absurd (let h : false ≡ true = e in cc)
among_back (x ∷ xs) s e = by (nat_eq x.0 s.0) refl (among_back xs s)
  where
    by : (b : Bool) → nat_eq x.0 s.0 ≡ b → (is_among s.0 xs ≡ true → Contains xs s) → Contains (x ∷ xs) s
    by true h deeper = (0, (omega arith), (let q : x.0 ≡ s.0 = eqb-true x.0 s.0 h in ap {B = Symbol} (λ (n : ℕ). record { 0 = n }) q))
    by false h deeper = let r = deeper (let f : is_among s.0 (x ∷ xs) ≡ is_among s.0 xs = rw h refl in sym f ∙ e) in (suc r.0, (let lt : r.0 < length xs = r.1 in omega arith), r.2)

-- an extra is a token
pub extra_token : (g : FlatGrammar) (s : Symbol) → Fit g → is_extra g s.0 ≡ true → IsToken g s.0
extra_token g s fit e =
    let w = among_back g.extras s e in
    subst (λ (x : Symbol). (0 < x.0) × (x.0 ≤ length g.tokens)) w.2 (fit.extras.1 w.0 s w.1)
