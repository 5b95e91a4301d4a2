-- When a reduction over nothing stays.
use Rattle.std.proofs.Common.{◌≡◌, ◌∙◌, sym, ap, refl, subst, ℕ, ◌+◌, ◌<◌, ◌≤◌, ⊎_elim, Bool, true, false, take, List, [], ◌∷◌, ◌==◌, length, length-drop, drop, get_or, Option, Some, arith}
use Rattle.std.specs.List.{Contains}
use Rattle.std.proofs.lemmas.Bool.{eqb-true}
use Rattle.std.proofs.lemmas.List.{take_all}
use Rattle.std.proofs.lemmas.List.Elements.{Contains-push_cases}
use Rattle.ts_base.specs.Bytes.{Bytes}
use Rattle.ts_core.specs.declared.action.Action.{Action}
use Rattle.ts_core.specs.declared.action.Action.TheVariants.{Reduce}
use Rattle.ts_core.specs.declared.flat.Production.{Production}
use Rattle.ts_core.specs.declared.flat.Step.{Step}
use Rattle.ts_core.specs.declared.symbol.Symbol.{Symbol}
use Rattle.spec_grammar.specs.Symbols.{is_extra}
use Rattle.spec_lexing.specs.Lexing.{Found, token, absent, Lex}
use Rattle.spec_lexing.specs.Seen.{Seen}
use Rattle.spec_runs.specs.Configurations.{HasMove, AreValidTokens}
use Rattle.spec_graph.specs.Laying.{Parsing, SeesAt, PassesAt}
use Rattle.ts_table.specs.declared.view.ParseTable.{ParseTable}
use Rattle.ts_table.specs.Tables.{IsTable, at_first, actions_of}
use Rattle.ts_lexer.specs.Answers.{SaysFound, extent_of, IsLexedAt}
use Rattle.ts_lexer.specs.declared.lexed.Lexed.{Lexed}
use Rattle.ts_lexer.specs.declared.lexed.Lexed.TheVariants.{Token, Absent}
use Rattle.ts_reductions.specs.declared.setting.Wanted.{Wanted}
use Rattle.ts_reductions.specs.Lines.{HasProduction, IsWanted}
use Rattle.ts_reductions.specs.Sound.{parsing_of}
use Rattle.ts_reductions.proofs.AskLemmas.{reduces_stay}
use Rattle.ts_places.specs.Laws.{MoveLaws}
use Rattle.ts_places.specs.ShiftLaws.{LookLaws, LeafLaws}
use Rattle.ts_places.specs.Nothing.{HasProductions, IsOverNothing, SomeIsOverNothing, ComesToNothing, nothing_here, nothing_behind, IsTokenThere, SeesAtFirst}
use Rattle.ts_places.proofs.SmallLemmas.{none_contained, one_taken}
use Rattle.ts_places.proofs.SeenLemmas.{found_token, seen_within}
use Rattle.ts_places.proofs.SightLemmas.{no_absent, same_token}
use Rattle.ts_places.proofs.ActionLemmas.{no_move, some_move, extra_token}
use Rattle.spec_graph.specs.States as states

no_steps : (steps : List Step) → length steps ≡ 0 → steps ≡ []
no_steps [] e = refl
no_steps (s ∷ steps) e = absurd (omega (arith, e))

-- ---- one action

module _ (t : ParseTable) (action : Action) (number left : ℕ) (p : Production) (is : action ≡ Reduce number) (at : HasProduction t number left p) (w : Wanted) (wanted : IsWanted t left p w) where
  pub over_nothing : w.steps ≡ 0 → IsOverNothing t action
  over_nothing none = record {
    number = number;
    is = is;
    left = left;
    production = p;
    at = at;
    none = no_steps p.steps (sym wanted.steps ∙ none);
  }

  pub no_steps_wanted : IsOverNothing t action → w.steps ≡ 0
  no_steps_wanted o = wanted.steps ∙ ap (λ (x : Production). length x.steps) same ∙ ap (λ (steps : List Step). length steps) o.none
    where
      same_number : number ≡ o.number
      same_number = let e : Reduce number ≡ Reduce o.number = sym is ∙ o.is in cc

      same : p ≡ o.production
      same =
          let f : ◌≡◌ {A = Option (ℕ × Production)} (Some (left, p)) (Some (o.left, o.production)) = sym at ∙ subst (λ (n : ℕ). HasProduction t n o.left o.production) (sym same_number) o.at in
          let both : ◌≡◌ {A = ℕ × Production} (left, p) (o.left, o.production) = cc in
          ap (λ (x : ℕ × Production). x.1) both

-- the actions where nothing was read have their productions
pub first_productions : MoveLaws → (t : ParseTable) → IsTable t → (symbol : ℕ) (action : Action) → Contains (actions_of t 0 symbol) action → HasProductions t action
first_productions laws t table symbol action there number e =
    let r = laws.reduces t.grammar [] symbol number (reduces_stay t table [] 0 symbol number states.at_first (subst (λ (a : Action). Contains (actions_of t 0 symbol) a) e there)) in
    (r.left, r.production, r.at)

-- ---- one after another

-- none of the first so many is one
abbrev pub HasNone : {X : Type 0} → (X → Type 0) → List X → Type 0
HasNone {X = X} P xs = (x : X) → Contains xs x → P x → ⊥

pub none_first : {X : Type 0} (P : X → Type 0) → HasNone P []
none_first P x there h = none_contained x there

pub none_more : {X : Type 0} (P : X → Type 0) (xs : List X) (i : ℕ) (x : X) → i < length xs → x ≡ get_or xs i x → (P x → ⊥) → HasNone P (take i xs) → HasNone P (take (i + 1) xs)
none_more {X = X} P xs i x low is none before y there h =
    ⊎_elim (λ w. before y w h) (λ e. none (subst P (sym e) h)) (Contains-push_cases (take i xs) x y (subst (λ (l : List X). Contains l y) (sym (one_taken xs i x low is)) there))

pub none_all : {X : Type 0} (P : X → Type 0) (xs : List X) (i : ℕ) → length xs ≤ i → HasNone P (take i xs) → HasNone P xs
none_all {X = X} P xs i many before = subst (λ (l : List X). HasNone P l) (take_all i xs many) before

-- ---- what is seen where nothing was read but extras

module _ (laws : LookLaws) (t : ParseTable) (table : IsTable t) (text : Bytes) where
  abbrev P : Parsing
  P = parsing_of t text

  pub first_low : 0 < length t.rows
  first_low = table.some

  sees_by : (place : ℕ) → place ≤ length text → (lexed : Lexed) (valid : List Symbol) (found : Found) → AreValidTokens t.grammar [] valid → Lex t.grammar valid (drop place text) found
      → SaysFound place lexed found → Seen t.grammar valid (drop place text) (extent_of lexed) → SeesAtFirst t text place lexed
  sees_by place low (Token s pad size extent) valid found are lex says seen =
      let l : Lex t.grammar valid (drop place text) (token s pad size) = subst (λ (f : Found). Lex t.grammar valid (drop place text) f) says lex in
      let past = laws.token_seen t.grammar valid (drop place text) s pad size extent l seen in
      let inside = seen_within laws t.grammar valid true (drop place text) extent seen in
      record {
        sees = (valid, are, l);
        within = omega (arith, past, inside, length-drop place text, low);
        some = (found_token t.grammar valid (drop place text) s pad size l).1;
      }
  sees_by place low (Absent stop extent) valid found are lex says seen = (says.0, (valid, are, subst (λ (f : Found). Lex t.grammar valid (drop place text) f) says.2 lex))

  pub sees_first : (place : ℕ) → place ≤ length text → (lexed : Lexed) → IsLexedAt t 0 text place lexed → SeesAtFirst t text place lexed
  sees_first place low lexed l = sees_by place low lexed l.valid l.answer.found (laws.known t [] 0 l.valid table at_first l.are_valid) l.answer.lex l.answer.says l.answer.seen

  one_sight : (place : ℕ) (f h : Found) → SeesAt P [] place f → SeesAt P [] place h → f ≡ h
  one_sight place f h a b =
      laws.one_answer t.grammar b.0 (drop place text) f h
      (laws.same_tokens t.grammar a.0 b.0 (drop place text) f (λ s. ((λ w. (b.1 s).1 ((a.1 s).0 w)), (λ w. (a.1 s).1 ((b.1 s).0 w)))) a.2) b.2

  some_actions : (symbol : ℕ) → SomeIsOverNothing t (actions_of t 0 symbol) → 0 < length (actions_of t 0 symbol)
  some_actions symbol a = let low = a.1.1 in omega (arith, low)

  -- where no token is seen
  pub absent_none : (place far : ℕ) → SeesAt P [] place (absent far) → ComesToNothing t text place → ⊥
  absent_none place far sees (nothing_here _ s pad size x a) = no_absent s pad size far (one_sight place (token s pad size) (absent far) x sees)
  absent_none place far sees (nothing_behind _ s pad size x more) = no_absent s pad size far (one_sight place (token s pad size) (absent far) x.sees sees)

  module _ (place : ℕ) (symbol : Symbol) (pad size : ℕ) (there : IsTokenThere t text place symbol pad size) where
    -- where the token has an action
    pub token_tells : 0 < length (actions_of t 0 symbol.0) → ComesToNothing t text place → SomeIsOverNothing t (actions_of t 0 symbol.0)
    token_tells some (nothing_here _ s p n x a) =
        subst (λ (u : Symbol). SomeIsOverNothing t (actions_of t 0 u.0)) (same_token s symbol p pad n size (one_sight place (token s p n) (token symbol pad size) x there.sees)) a
    token_tells some (nothing_behind _ s p n x more) =
        absurd (x.none (subst (λ (u : Symbol). HasMove t.grammar [] u.0) (sym (same_token s symbol p pad n size (one_sight place (token s p n) (token symbol pad size) x.sees there.sees))) (some_move t table [] 0 symbol.0 at_first some)))

    pub token_asks : SomeIsOverNothing t (actions_of t 0 symbol.0) → ComesToNothing t text place
    token_asks a = nothing_here place symbol pad size there.sees a

    module _ (leaf : LeafLaws) (none : actions_of t 0 symbol.0 ≡ []) where
      no_moves : HasMove t.grammar [] symbol.0 → ⊥
      no_moves = no_move t table [] 0 symbol.0 at_first leaf none

      extra_there : is_extra t.grammar symbol.0 ≡ true
      extra_there = ⊎_elim (λ m. absurd (no_moves m)) (λ e. e) ((there.sees.1 symbol).0 (found_token t.grammar there.sees.0 (drop place text) symbol pad size there.sees.2).0)

      passes_there : PassesAt P [] place symbol pad size
      passes_there = record { sees = there.sees; extra = extra_there; none = no_moves }

      -- where it has none, it is an extra with bytes
      pub extra_bytes : 0 < size
      extra_bytes = there.some (extra_token t.grammar symbol table.fit extra_there).0

      pub passed_on : ComesToNothing t text place → ComesToNothing t text (place + (pad + size))
      passed_on (nothing_here _ s p n x a) =
          absurd (no_moves (some_move t table [] 0 symbol.0 at_first (some_actions symbol.0 (subst (λ (u : Symbol). SomeIsOverNothing t (actions_of t 0 u.0)) (same_token s symbol p pad n size (one_sight place (token s p n) (token symbol pad size) x there.sees)) a))))
      passed_on (nothing_behind _ s p n x more) =
          let e : token s p n ≡ token symbol pad size = one_sight place (token s p n) (token symbol pad size) x.sees there.sees in
          subst (λ (k : ℕ). ComesToNothing t text k) (let q : p ≡ pad = cc in let r : n ≡ size = cc in omega (arith, q, r)) more

      pub passed_back : ComesToNothing t text (place + (pad + size)) → ComesToNothing t text place
      passed_back more = nothing_behind place symbol pad size passes_there more

  -- ---- by the answer

  module _ (place : ℕ) (lexed : Lexed) (sees : SeesAtFirst t text place lexed) where
    pub token_by : (symbol : Symbol) (pad size extent : ℕ) → lexed ≡ Token symbol pad size extent → IsTokenThere t text place symbol pad size
    token_by symbol pad size extent is = subst (λ (x : Lexed). SeesAtFirst t text place x) is sees

    pub absent_by : (stop extent : ℕ) → lexed ≡ Absent stop extent → ComesToNothing t text place → ⊥
    absent_by stop extent is c = let a : SeesAtFirst t text place (Absent stop extent) = subst (λ (x : Lexed). SeesAtFirst t text place x) is sees in absent_none place a.0 a.1 c

-- ---- whether there are actions

pub has_actions : (xs : List Action) (b : Bool) → b ≡ false → b ≡ (length xs == 0) → 0 < length xs
has_actions [] b e w = absurd (let h : b ≡ true = w in let k : b ≡ false = e in cc)
has_actions (x ∷ xs) b e w = omega arith

pub has_no_actions : (xs : List Action) (b : Bool) → b ≡ true → b ≡ (length xs == 0) → xs ≡ []
has_no_actions [] b e w = refl
has_no_actions (x ∷ xs) b e w = absurd (let z = eqb-true (length (x ∷ xs)) 0 (sym w ∙ e) in omega (arith, z))
