-- The states of a table are those of its grammar.
use Rattle.std.proofs.Common.{◌≡◌, ◌∙◌, sym, ap, refl, subst, ℕ, suc, List, [], ◌∷◌, slice_get, Some, None, arith}
use Rattle.ts_core.specs.declared.flat.Step.{Step}
use Rattle.ts_core.specs.declared.flat.FlatGrammar.{FlatGrammar}
use Rattle.spec_tables.specs.Items.{Line, Item, line_steps, start_item, Valid, begun, asked, advanced_past}
use Rattle.spec_graph.specs.States.{Goto, LeadsTo, at_first, by_goto, ShareState, AreStates}
use Rattle.ts_table.specs.declared.view.ParseTable.{ParseTable}
use Rattle.ts_table.specs.Tables.{goto_of, IsTable, IsStateOf}
use Rattle.ts_table.specs.Tables as tables
use Rattle.ts_crossing.specs.Laws.{EnterLaws}

pub leads_state : (t : ParseTable) (read : List ℕ) (n : ℕ) → LeadsTo (goto_of t) read n → IsStateOf t read n
leads_state t _ _ at_first = tables.at_first
leads_state t _ _ (by_goto read state symbol next s e) = tables.by_goto read state symbol next (leads_state t read state s) e

pub state_leads : (t : ParseTable) (read : List ℕ) (n : ℕ) → IsStateOf t read n → LeadsTo (goto_of t) read n
state_leads t _ _ tables.at_first = at_first
state_leads t _ _ (tables.by_goto read state symbol next s e) = by_goto read state symbol next (state_leads t read state s) e

-- ---- one state

pub lead_once : (goto : Goto) (read : List ℕ) (m n : ℕ) → LeadsTo goto read m → LeadsTo goto read n → m ≡ n
lead_once goto _ _ n at_first b = first [] n b refl
  where
    first : (read : List ℕ) (n : ℕ) → LeadsTo goto read n → read ≡ [] → 0 ≡ n
    first _ _ at_first e = refl
    first _ _ (by_goto read state symbol next l g) e = absurd (let h : symbol ∷ read ≡ [] = e in cc)
lead_once goto _ _ n (by_goto read state symbol next l g) b = later (symbol ∷ read) n b refl (λ k. lead_once goto read state k l)
  where
    later : (all : List ℕ) (n : ℕ) → LeadsTo goto all n → all ≡ symbol ∷ read → ((k : ℕ) → LeadsTo goto read k → state ≡ k) → next ≡ n
    later _ _ at_first e same = absurd (let h : [] ≡ symbol ∷ read = e in cc)
    later _ _ (by_goto rest other x to k h) e same =
        let tail : rest ≡ read = (let u : x ∷ rest ≡ symbol ∷ read = e in cc) in
        let head : x ≡ symbol = (let u : x ∷ rest ≡ symbol ∷ read = e in cc) in
        let one : state ≡ other = same other (subst (λ (r : List ℕ). LeadsTo goto r other) tail k) in
        let there : goto state symbol ≡ Some to = subst (λ (y : ℕ). goto state y ≡ Some to) head (subst (λ (s : ℕ). goto s x ≡ Some to) (sym one) h) in
        let both : Some next ≡ Some to = sym g ∙ there in cc

pub lead_from : (goto : Goto) (read : List ℕ) (symbol m n : ℕ) → LeadsTo goto read n → LeadsTo goto (symbol ∷ read) m → goto n symbol ≡ Some m
lead_from goto read symbol m n l k = by (symbol ∷ read) m k refl
  where
    by : (all : List ℕ) (m : ℕ) → LeadsTo goto all m → all ≡ symbol ∷ read → goto n symbol ≡ Some m
    by _ _ at_first e = absurd (let h : [] ≡ symbol ∷ read = e in cc)
    by _ _ (by_goto rest other x to k h) e =
        let tail : rest ≡ read = (let u : x ∷ rest ≡ symbol ∷ read = e in cc) in
        let head : x ≡ symbol = (let u : x ∷ rest ≡ symbol ∷ read = e in cc) in
        let one : other ≡ n = lead_once goto read other n (subst (λ (r : List ℕ). LeadsTo goto r other) tail k) l in
        subst (λ (y : ℕ). goto n y ≡ Some to) head (subst (λ (s : ℕ). goto s x ≡ Some to) one h)

-- ---- what is valid after which symbols

-- the start item stands before all that is read alone
start_alone : (g : FlatGrammar) (read : List ℕ) (i : Item) → Valid g read i → i.line ≡ None → i.dot ≡ 0 → read ≡ []
start_alone g _ _ begun line dot = refl
start_alone g _ _ (asked read i j v a) line dot = absurd (let h : ◌≡◌ {A = Line} None (Some a.number) = sym line ∙ a.line in cc)
start_alone g _ _ (advanced_past read i step v before) line dot = absurd (let h : suc i.dot ≡ 0 = dot in omega (arith, h))

-- the step just before the dot is this symbol
record IsBehind (g : FlatGrammar) (i : Item) (symbol : ℕ) : Type 0 where
  pub step : Step
  pub place : ℕ
  pub dot : i.dot ≡ suc place
  pub at : slice_get (line_steps g i.line) place ≡ Some step
  pub is : step.symbol.0 ≡ symbol

-- some item has its dot behind the symbol that was read last
some_behind : (g : FlatGrammar) (read : List ℕ) (i : Item) → Valid g read i → (symbol : ℕ) (rest : List ℕ) → read ≡ symbol ∷ rest → (j : Item) × Valid g read j × IsBehind g j symbol
some_behind g _ _ begun symbol rest e = absurd (let h : [] ≡ symbol ∷ rest = e in cc)
some_behind g _ _ (asked read i j v a) symbol rest e = some_behind g read i v symbol rest e
some_behind g _ _ (advanced_past read i step v before) symbol rest e = (
  record i { dot = suc i.dot },
  advanced_past read i step v before,
  record {
    step = step;
    place = i.dot;
    dot = refl;
    at = before;
    is = let h : step.symbol.0 ∷ read ≡ symbol ∷ rest = e in cc;
  },
)

-- and each dot stands behind that symbol, or at the beginning
behind_last : (g : FlatGrammar) (read : List ℕ) (i : Item) → Valid g read i → (symbol last : ℕ) (rest : List ℕ) → read ≡ last ∷ rest → IsBehind g i symbol → symbol ≡ last
behind_last g _ _ begun symbol last rest e b = absurd (let h : [] ≡ last ∷ rest = e in cc)
behind_last g _ _ (asked read i j v a) symbol last rest e b = absurd (let h = b.dot in let z = a.begins in omega (arith, h, z))
behind_last g _ _ (advanced_past read i step v before) symbol last rest e b =
    let place : b.place ≡ i.dot = (let h : suc i.dot ≡ suc b.place = b.dot in omega (arith, h)) in
    let there : slice_get (line_steps g i.line) i.dot ≡ Some b.step = subst (λ (n : ℕ). slice_get (line_steps g i.line) n ≡ Some b.step) place b.at in
    let both : Some b.step ≡ Some step = sym there ∙ before in
    let same : b.step ≡ step = cc in
    let first : step.symbol.0 ≡ last = (let h : step.symbol.0 ∷ read ≡ last ∷ rest = e in cc) in
    sym b.is ∙ ap (λ (s : Step). s.symbol.0) same ∙ first

module _ (laws : EnterLaws) (t : ParseTable) (table : IsTable t) where
  begins : (read : List ℕ) → LeadsTo (goto_of t) read 0 → read ≡ []
  begins read l =
      let same = table.same [] read 0 tables.at_first (leads_state t read 0 l) in
      start_alone t.grammar read start_item ((same start_item).0 begun) refl refl

  enters : (read other : List ℕ) (x y : ℕ) → ShareState (goto_of t) (x ∷ read) (y ∷ other) → x ≡ y
  enters read other x y s =
      let first = leads_state t (x ∷ read) s.0 s.1 in
      let some = table.filled (x ∷ read) s.0 first in
      let j = some_behind t.grammar (x ∷ read) some.0 some.1 x read refl in
      let same = table.same (x ∷ read) (y ∷ other) s.0 first (leads_state t (y ∷ other) s.0 s.2) in
      behind_last t.grammar (y ∷ other) j.0 ((same j.0).0 j.1) x y other refl j.2

  pub table_states : AreStates t.grammar (goto_of t)
  table_states = record {
    acts = λ read other token move s a. laws.moves t.grammar read other token move (table.same read other s.0 (leads_state t read s.0 s.1) (leads_state t other s.0 s.2)) a;
    begins = begins;
    enters = enters;
    valid = λ read n l. let v = laws.tokens t n in (v.0, laws.known t read n v.0 table (leads_state t read n l) v.1);
    leads = λ read n symbol l stands. (table.gotos read n symbol (leads_state t read n l)).1 stands;
  }
