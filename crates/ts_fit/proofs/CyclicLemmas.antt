-- Which rules lead to which, and when a rule derives itself alone.
use Rattle.std.proofs.Common.{◌≡◌, ◌∙◌, sym, ap, refl, subst, ℕ, ◌+◌, ◌<◌, ◌≤◌, inl, inr, ⊎_elim, Bool, IsTrue, List, [], ◌∷◌, ◌++◌, length, take, get_or, slice_get, Option, Some, None, arith, ◌↔◌}
use Rattle.std.specs.List.{Contains}
use Rattle.std.proofs.lemmas.List.{take_more, take_all}
use Rattle.std.proofs.lemmas.List.Elements.{Contains-append_left, Contains-push, Contains-push_cases}
use Rattle.std.proofs.lemmas.Option.{slice_get_within}
use Rattle.ts_core.specs.declared.flat.FlatGrammar.{FlatGrammar}
use Rattle.ts_core.specs.declared.flat.FlatRule.{FlatRule}
use Rattle.ts_core.specs.declared.flat.Production.{Production}
use Rattle.ts_core.specs.declared.flat.Step.{Step}
use Rattle.ts_core.specs.declared.symbol.Symbol.{Symbol}
use Rattle.spec_tables.specs.Fit.{Alone, Derives, IsCyclic, at_once, rule_symbol, through}
use Rattle.ts_fit.specs.Searches.{Adds, IsLed, IsRuleAt, LeadsAlone, LeadsTo, Least, given, asked}
use Rattle.ts_fit.proofs.GrowLemmas.{adds_both, adds_none, adds_same}
use Rattle.ts_fit.proofs.ListLemmas.{some_at}

pub place_of : (f : FlatGrammar) (j k : ℕ) → rule_symbol f j ≡ rule_symbol f k → j ≡ k
place_of f j k e = let n = ap (λ (s : Symbol). s.0) e in omega arith

pub one_rule : (f : FlatGrammar) (j k : ℕ) (r o : FlatRule) → slice_get f.rules j ≡ Some r → slice_get f.rules k ≡ Some o → j ≡ k → r ≡ o
one_rule f j k r o a b e = let s : Some r ≡ Some o = sym a ∙ ap (slice_get f.rules) e ∙ b in cc

-- ---- where a production leads

pub led_alone : (f : FlatGrammar) (p : Production) (step : Step) (place : Option ℕ) → p.steps ≡ step ∷ [] → IsRuleAt f step.symbol place → IsLed f p place
led_alone f p step None one none = λ place h. (
    let e : step ∷ [] ≡ h.0 ∷ [] = sym one ∙ h.2 in
    let same : step ≡ h.0 = cc in
    none h.1 (place, h.3, ap (λ (s : Step). s.symbol) same ∙ h.4)
    )
led_alone f p step (Some place) one at = (step, at.0, one, at.1, at.2)

one_led : (f : FlatGrammar) (p : Production) (j k : ℕ) → LeadsTo f p j → LeadsTo f p k → j ≡ k
one_led f p j k a b =
    let e : a.0 ∷ [] ≡ b.0 ∷ [] = sym a.2 ∙ b.2 in
    let same : a.0 ≡ b.0 = cc in
    place_of f j k (sym a.4 ∙ ap (λ (s : Step). s.symbol) same ∙ b.4)

pub adds_led : (f : FlatGrammar) (p : Production) (place : ℕ) (old new : List ℕ) → LeadsTo f p place → Adds (λ at. at ≡ place) old new → Adds (LeadsTo f p) old new
adds_led f p place old new leads adds = adds_same (λ at. at ≡ place) (LeadsTo f p) old new adds
    (λ i h. subst (LeadsTo f p) (sym h) leads)
    (λ i h. one_led f p i place h leads)

pub adds_not_led : (f : FlatGrammar) (p : Production) (old : List ℕ) → IsLed f p None → Adds (LeadsTo f p) old old
adds_not_led f p old none = adds_none (LeadsTo f p) old none

-- ---- where a rule leads

-- one of the productions leads there
abbrev pub LedBy : FlatGrammar → List Production → ℕ → Type 0
LedBy f ps to = (p : Production) × Contains ps p × LeadsTo f p to

pub led_more : (f : FlatGrammar) (ps : List Production) (k : ℕ) (d : Production) (old mid new : List ℕ) → k < length ps → Adds (LedBy f (take k ps)) old mid → Adds (LeadsTo f (get_or ps k d)) mid new
    → Adds (LedBy f (take (k + 1) ps)) old new
led_more f ps k d old mid new below before one =
    let p = get_or ps k d in
    rw (take_more ps k d below) (adds_both (LedBy f (take k ps)) (LeadsTo f p) (LedBy f (take k ps ++ p ∷ [])) old mid new before one
    (λ i h. (h.0, Contains-append_left (take k ps) (p ∷ []) h.0 h.1, h.2))
    (λ i h. (p, Contains-push (take k ps) p, h))
    (λ i h. ⊎_elim (λ w. inl (h.0, w, h.2)) (λ e. inr (subst (λ (q : Production). LeadsTo f q i) (sym e) h.2)) (Contains-push_cases (take k ps) p h.0 h.1)))

-- where a rule leads, one of its productions leads
pub led_by : (f : FlatGrammar) (from to : ℕ) (r : FlatRule) → slice_get f.rules from ≡ Some r → LeadsAlone f from to → LedBy f r.productions to
led_by f from to r at h =
    let a = h.0 in
    let w = a.has_rule in
    let same = one_rule f w.0 from a.rule r w.1 at (sym (place_of f from w.0 w.2)) in
    let there = some_at f.rules to h.1 in
    (a.production, subst (λ (o : FlatRule). Contains o.productions a.production) same a.has_production, (a.step, there.0, a.is_alone, there.1, a.leads))

pub led_all : (f : FlatGrammar) (from k : ℕ) (r : FlatRule) (ps : List Production) (old new : List ℕ) → slice_get f.rules from ≡ Some r → ps ≡ r.productions → length ps ≤ k → Adds (LedBy f (take k ps)) old new
    → Adds (LeadsAlone f from) old new
led_all f from k r ps old new at is past adds =
    adds_same (LedBy f r.productions) (LeadsAlone f from) old new (subst (λ (l : List Production). Adds (LedBy f l) old new) (take_all k ps past ∙ is) adds) to (λ i h. led_by f from i r at h)
  where
    to : (i : ℕ) → LedBy f r.productions i → LeadsAlone f from i
    to i h = (record { rule = r; has_rule = (from, at, refl); production = h.0; has_production = h.1; step = h.2.0; is_alone = h.2.2; leads = h.2.4 }, slice_get_within f.rules i h.2.1 h.2.3)

pub leads_nowhere : (f : FlatGrammar) (from : ℕ) (old : List ℕ) → length f.rules ≤ from → Adds (LeadsAlone f from) old old
leads_nowhere f from old past = adds_none (LeadsAlone f from) old (λ i h.
    let w = h.0.has_rule in
    let e = place_of f from w.0 w.2 in
    let lt = slice_get_within f.rules w.0 h.0.rule w.1 in
    omega arith)

-- ---- deriving

then_alone : (f : FlatGrammar) (a b c : Symbol) → Derives f a b → Alone f b c → Derives f a c
then_alone f a b c (at_once _ _ h) last = through a b c h (at_once b c last)
then_alone f a b c (through _ m _ h rest) last = through a m c h (then_alone f m b c rest last)

sound : (f : FlatGrammar) (start : ℕ) (kernel : List ℕ) → ((i : ℕ) → Contains kernel i → LeadsAlone f start i) → (i : ℕ) → Least (LeadsAlone f) kernel i → Derives f (rule_symbol f start) (rule_symbol f i)
sound f start kernel all i (given _ h) = at_once (rule_symbol f start) (rule_symbol f i) (all i h).0
sound f start kernel all i (asked j _ h e) = then_alone f (rule_symbol f start) (rule_symbol f j) (rule_symbol f i) (sound f start kernel all j h) e.0

pub first_rule : (f : FlatGrammar) (a b : Symbol) → Derives f a b → (k : ℕ) × (k < length f.rules) × (a ≡ rule_symbol f k)
first_rule f a b (at_once _ _ h) = let w = h.has_rule in (w.0, slice_get_within f.rules w.0 h.rule w.1, w.2)
first_rule f a b (through _ _ _ h rest) = let w = h.has_rule in (w.0, slice_get_within f.rules w.0 h.rule w.1, w.2)

complete : (f : FlatGrammar) (kernel : List ℕ) (a c : ℕ) (s t : Symbol) → s ≡ rule_symbol f a → t ≡ rule_symbol f c → c < length f.rules → ((i : ℕ) → LeadsAlone f a i → Least (LeadsAlone f) kernel i)
    → Derives f s t → Least (LeadsAlone f) kernel c
complete f kernel a c s t from to below reach (at_once _ _ h) =
    reach c (subst (λ (z : Symbol). Alone f (rule_symbol f a) z) to (subst (λ (z : Symbol). Alone f z t) from h), below)
complete f kernel a c s t from to below reach (through _ m _ h rest) =
    let w = first_rule f m t rest in
    let there = reach w.0 (subst (λ (z : Symbol). Alone f (rule_symbol f a) z) w.2 (subst (λ (z : Symbol). Alone f z m) from h), w.1) in
    complete f kernel w.0 c m t w.2 to below (λ i e. asked w.0 i there e) rest

pub cyclic_within : (f : FlatGrammar) (k : ℕ) → IsCyclic f k → k < length f.rules
cyclic_within f k h = let w = first_rule f (rule_symbol f k) (rule_symbol f k) h in let e = place_of f k w.0 w.2 in let lt = w.1 in omega arith

pub leads_back_is : (f : FlatGrammar) (start : ℕ) (kernel found : List ℕ) (b : Bool) → Adds (LeadsAlone f start) [] kernel → ((i : ℕ) → Contains found i ↔ Least (LeadsAlone f) kernel i) → IsTrue b ↔ Contains found start → IsTrue b ↔ IsCyclic f start
leads_back_is f start kernel found b adds least test = (
  λ t. sound f start kernel all start ((least start).0 (test.0 t)),
  λ h. test.1 ((least start).1 (complete f kernel start start (rule_symbol f start) (rule_symbol f start) refl refl (cyclic_within f start h) (λ i e. given i (adds.added i e)) h)),
)
  where
    all : (i : ℕ) → Contains kernel i → LeadsAlone f start i
    all i h = adds.only i (subst (λ (l : List ℕ). Contains l i) adds.is h)

pub one_item : {X : Type 0} (xs : List X) (x : X) → length xs ≡ 1 → x ≡ get_or xs 0 x → xs ≡ x ∷ []
one_item [] x len is = absurd (omega arith)
one_item (y ∷ []) x len is = let e : x ≡ y = is in ap (λ z. z ∷ []) (sym e)
one_item (y ∷ z ∷ xs) x len is = absurd (omega arith)
