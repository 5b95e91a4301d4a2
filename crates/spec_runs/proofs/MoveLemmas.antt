-- Where valid items come from, and so where moves stand.
use Rattle.std.proofs.Common.{◌≡◌, ◌∙◌, sym, ap, refl, subst, ℕ, suc, ◌+◌, ◌<◌, ◌⊎◌, inl, inr, ⊎_elim, List, [], ◌∷◌, ◌++◌, length, map, take, reverse, slice_get, Option, Some, None, unwrap_or, option_map, arith}
use Rattle.std.proofs.lemmas.List.{take_more, take_all, reverse-append, length-map}
use Rattle.std.proofs.lemmas.Option.{slice_get-map, slice_get_within, get_or_from_slice_get}
use Rattle.ts_core.specs.declared.flat.FlatGrammar.{FlatGrammar}
use Rattle.ts_core.specs.declared.flat.Production.{Production}
use Rattle.ts_core.specs.declared.flat.Step.{Step}
use Rattle.ts_core.specs.declared.symbol.Symbol.{Symbol}
use Rattle.spec_grammar.specs.Symbols.{start_symbol, production_at}
use Rattle.spec_tables.specs.Items.{Item, Line, line_steps, start_item, end_token, IsToken, IsBefore, IsComplete, AsksFor, advanced, Valid, begun, asked, advanced_past}
use Rattle.spec_tables.specs.Actions.{shift, reduce, accept, Act, may_shift, may_reduce, may_accept}
use Rattle.spec_tables.specs.Fit.{Fit, IsUsed, rule_symbol}
use Rattle.spec_trees.specs.Made.{step_symbols}
use Rattle.spec_runs.specs.Moves.{StandsBefore, EndsWithProduction}
use Rattle.spec_runs.proofs.RuleLemmas.{from_rule, has, empty_starts}

abbrev name_of : Step → ℕ
name_of step = step.symbol.0

-- the symbols of an item's steps before the dot
abbrev read_by : FlatGrammar → Item → List ℕ
read_by g i = take i.dot (map name_of (line_steps g i.line))

take_next : (xs : List ℕ) (n x : ℕ) → slice_get xs n ≡ Some x → reverse (take (suc n) xs) ≡ x ∷ reverse (take n xs)
take_next xs n x h =
    ap (λ (m : ℕ). reverse (take m xs)) (let e : suc n ≡ n + 1 = omega arith in e)
    ∙ ap reverse (take_more xs n x (slice_get_within xs n x h) ∙ ap (λ (y : ℕ). take n xs ++ y ∷ []) (get_or_from_slice_get xs n x x h)) ∙ reverse-append (take n xs) (x ∷ [])

abbrev at_dot : Item → ℕ → Item
at_dot i dot = record { line = i.line; dot = dot; token = i.token }

-- what was read before the item began, where it is valid with its dot at the start
pub record Began (g : FlatGrammar) (read : List ℕ) (i : Item) : Type 0 where
  pub earlier : List ℕ
  pub is : read ≡ reverse (read_by g i) ++ earlier
  pub valid : Valid g earlier (at_dot i 0)

pub began : (g : FlatGrammar) (read : List ℕ) (i : Item) → Valid g read i → Began g read i
began g _ _ begun = record { earlier = []; is = refl; valid = begun }
began g read _ (asked _ i j v a) = record {
  earlier = read;
  is = rw a.begins refl;
  valid = subst (λ (d : ℕ). Valid g read (at_dot j d)) a.begins (asked read i j v a);
}
began g _ _ (advanced_past read i step v b) =
    let h = began g read i v in
    let next : slice_get (map name_of (line_steps g i.line)) i.dot ≡ Some step.symbol.0 = slice_get-map name_of (line_steps g i.line) i.dot ∙ ap (option_map name_of) b in
    record {
      earlier = h.earlier;
      is = ap (λ (rest : List ℕ). step.symbol.0 ∷ rest) h.is
          ∙ sym (ap (λ (front : List ℕ). front ++ h.earlier) (take_next (map name_of (line_steps g i.line)) i.dot step.symbol.0 next));
      valid = h.valid;
    }

-- an item with its dot at the start is the start item, or begins a production of a symbol before which a dot stands
pub record Asking (g : FlatGrammar) (read : List ℕ) (j : Item) : Type 0 where
  pub from : Item
  pub valid : Valid g read from
  pub asks : AsksFor g from j

origin : (g : FlatGrammar) (read : List ℕ) (j : Item) → Valid g read j → j.dot ≡ 0 → ((j ≡ start_item) × (read ≡ [])) ⊎ Asking g read j
origin g _ _ begun none = inl (refl, refl)
origin g read _ (asked _ i j v a) none = inr (record { from = i; valid = v; asks = a })
origin g _ _ (advanced_past read i step v b) none = absurd (let e : suc i.dot ≡ 0 = none in omega arith)

-- the start item with its dot at the start is valid only where nothing was read
at_start : (g : FlatGrammar) (read : List ℕ) (j : Item) → Valid g read j → j.dot ≡ 0 → j.line ≡ None → read ≡ []
at_start g read j v none line = ⊎_elim (λ w. w.1)
    (λ a. absurd (let e : Some a.asks.number ≡ None = sym a.asks.line ∙ line in cc))
    (origin g read j v none)

-- an item of a production that begins stands for a symbol before which a dot stands
pub asked_before : (g : FlatGrammar) (read : List ℕ) (j : Item) (number : ℕ) → Valid g read j → j.dot ≡ 0 → j.line ≡ Some number → (left : ℕ) × (p : Production) × (production_at g number ≡ Some (left, p)) × StandsBefore g read left
asked_before g read j number v none line = ⊎_elim
    (λ w. absurd (let e : None ≡ Some number = sym (ap (λ (i : Item). i.line) w.0) ∙ line in cc))
    (λ a.
    let e : Some a.asks.number ≡ Some number = sym a.asks.line ∙ line in
    let same : a.asks.number ≡ number = cc in (
      a.asks.step.symbol.0,
      a.asks.production.0,
      subst (λ (n : ℕ). production_at g n ≡ Some (a.asks.step.symbol.0, a.asks.production.0)) same a.asks.production.1,
      (a.from, a.asks.step, a.valid, a.asks.before, refl),
    ))
    (origin g read j v none)

-- ---- reductions

steps_of : (g : FlatGrammar) (number left : ℕ) (p : Production) → production_at g number ≡ Some (left, p) → line_steps g (Some number) ≡ p.steps
steps_of g number left p at = ap (λ (o : Option (ℕ × Production)). unwrap_or (option_map (λ (q : ℕ × Production). q.1.steps) o) []) at

complete_read : (g : FlatGrammar) (i : Item) (number left : ℕ) (p : Production) → i.line ≡ Some number → IsComplete g i → production_at g number ≡ Some (left, p) → read_by g i ≡ step_symbols p
complete_read g i number left p line complete at =
    let steps : line_steps g i.line ≡ p.steps = ap (line_steps g) line ∙ steps_of g number left p at in
    take_all i.dot (map name_of (line_steps g i.line)) (omega (arith, complete, length-map (line_steps g i.line) name_of))
    ∙ ap (map name_of) steps

pub reduce_ends : (g : FlatGrammar) (read : List ℕ) (token number : ℕ) → Act g read token (reduce number) → EndsWithProduction g read number
reduce_ends g read token number (may_reduce i _ stays line alone) =
    let r = stays.reduces in
    let b = began g read i r.valid in
    let a = asked_before g b.earlier (at_dot i 0) number b.valid refl line in
    record {
      left = a.0;
      production = a.1;
      at = a.2;
      earlier = b.earlier;
      read_is = b.is ∙ ap (λ (l : List ℕ). reverse l ++ b.earlier) (complete_read g i number a.0 a.1 line r.complete a.2);
      before = a.3;
    }

-- the step of the start item before its dot
start_step : (g : FlatGrammar) (i : Item) (step : Step) → i.line ≡ None → IsBefore g i step → i.dot ≡ 0
start_step g i step line before = first (line_steps g i.line) (ap (λ (l : Line). length (line_steps g l)) line) (slice_get_within (line_steps g i.line) i.dot step before)
  where
    first : (steps : List Step) → length steps ≡ 1 → i.dot < length steps → i.dot ≡ 0
    first steps e h = omega (arith, e, h)

-- a step before a dot that is no start item's is a step of some production
used_by : (g : FlatGrammar) (i : Item) (step : Step) (number : ℕ) → i.line ≡ Some number → IsBefore g i step → IsUsed g step.symbol
used_by g i step number line before = by (production_at g number) refl (subst (λ (l : Line). slice_get (line_steps g l) i.dot ≡ Some step) line before)
  where
    by : (o : Option (ℕ × Production)) → production_at g number ≡ o → slice_get (unwrap_or (option_map (λ (q : ℕ × Production). q.1.steps) o) []) i.dot ≡ Some step → IsUsed g step.symbol
    by None e h = absurd (let w = slice_get_within [] i.dot step h in omega (arith, w))
    by (Some q) e h =
        let f = from_rule (start_symbol g) g.rules number q.0 q.1 e in
        (f.rule, q.1, step, has g.rules f.number f.rule f.at, has f.rule.productions f.place q.1 f.there, has q.1.steps i.dot step h, refl)

symbol_is : (s : Symbol) (n : ℕ) → s.0 ≡ n → s ≡ record { 0 = n }
symbol_is s n e = ap {B = Symbol} (λ (m : ℕ). record { 0 = m }) e

-- an item before the start symbol, which no step names, is the start item
before_start : (g : FlatGrammar) (read : List ℕ) → (IsUsed g (rule_symbol g 0) → ⊥) → StandsBefore g read (start_symbol g) → read ≡ []
before_start g read unused (i, step, v, before, is) = by i.line refl
  where
    by : (l : Line) → i.line ≡ l → read ≡ []
    by None e = at_start g read i v (start_step g i step e before) e
    by (Some number) e = absurd (unused (subst (λ (s : Symbol). IsUsed g s) (symbol_is step.symbol (suc (length g.tokens + 0)) (is ∙ omega arith)) (used_by g i step number e before)))

same_left : (a b : ℕ) (p q : Production) → ◌≡◌ {A = Option (ℕ × Production)} (Some (a, p)) (Some (b, q)) → (a ≡ b) × (p ≡ q)
same_left a b p q e =
    let both : ◌≡◌ {A = ℕ × Production} (a, p) (b, q) = cc in (ap (λ (x : ℕ × Production). x.0) both, ap (λ (x : ℕ × Production). x.1) both)

-- an empty production is reduced only where nothing was read
pub empty_reduce : (g : FlatGrammar) → Fit g → (read : List ℕ) (token number left : ℕ) (p : Production) → Act g read token (reduce number) → production_at g number ≡ Some (left, p) → p.steps ≡ [] → read ≡ []
empty_reduce g fit read token number left p act at none =
    let r = reduce_ends g read token number act in
    let e : ◌≡◌ {A = Option (ℕ × Production)} (Some (r.left, r.production)) (Some (left, p)) = sym r.at ∙ at in
    let same = same_left r.left left r.production p e in
    let start = empty_starts g fit number left p at none in
    let names : step_symbols r.production ≡ [] = ap (λ (q : Production). map name_of q.steps) same.1 ∙ ap (map name_of) none in
    let earlier : r.earlier ≡ [] = before_start g r.earlier start.1 (subst (λ (l : ℕ). StandsBefore g r.earlier l) (same.0 ∙ start.0) r.before) in
    r.read_is ∙ ap (λ (l : List ℕ). reverse l ++ r.earlier) names ∙ earlier

-- ---- shifts and acceptance

pub shift_before : (g : FlatGrammar) (read : List ℕ) (token : ℕ) → Act g read token shift → IsToken g token × StandsBefore g read token
shift_before g read token (may_shift s alone) = (s.is_token, (s.item, s.step, s.valid, s.before, s.is))

pub accept_ends : (g : FlatGrammar) (read : List ℕ) (token : ℕ) → Act g read token accept → (token ≡ end_token) × (read ≡ start_symbol g ∷ [])
accept_ends g read token (may_accept is v) =
    let b = began g read (advanced start_item) v in
    let none : b.earlier ≡ [] = at_start g b.earlier start_item b.valid refl refl in
    (is, b.is ∙ ap (λ (l : List ℕ). start_symbol g ∷ l) none)
